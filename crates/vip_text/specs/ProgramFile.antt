-- The file of the machine of any program at a boundary: 6,195 bytes. Its first 4,147 lie as those of a game's state do, but for the first six.
--
--     bytes 0 to 4       56 49 50 53 02, which are "VIPS" and the number of the format
--     byte 5             1 where the boot latch is set + 2 where the display is on + 4 where interrupts are enabled + 8 where the processor idles
--     bytes 6 to 4146    the cycle, the registers, the latched key and RAM, as in the file of a game's state
--     bytes 4147 to 6194 the ROM
--
-- This is this project's profile.
use Rattle.std.specs.Prelude.{◌≡◌, ℕ, ◌/◌, ◌%◌, ◌==◌, ◌<◌, ◌≤◌, Bool, List, [], ◌∷◌, length, take, drop, slice_index, Result, Ok, Err}
use Rattle.vip_byte.specs.Number.{most_cycles}
use Rattle.machine.specs.Board.{Machine}
use Rattle.vip_text.specs.StateFile.{file_size, shown}
use Rattle.vip_text.specs.declared.fault.StateFault.{StateFault}
use Rattle.vip_text.specs.declared.fault.StateFault.TheVariants.{BadLength, BadHead, BadEdition, BadCycle, BadMachine}

-- ---- the machine of a file

abbrev pub program_size : ℕ
program_size = 6195

abbrev pub program_head : List ℕ
program_head = 0x56 ∷ 0x49 ∷ 0x50 ∷ 0x53 ∷ 0x02 ∷ []

-- the part that lies as the file of a game's state
abbrev pub part : List ℕ → List ℕ
part f = take file_size f

abbrev pub rom_in : List ℕ → List ℕ
rom_in f = drop file_size f

-- the binary digit of this weight of byte 5
abbrev pub switch : ℕ → List ℕ → Bool
switch weight f = slice_index f 5 / weight % 2 == 1

-- as of a game's state, but for the switches
abbrev pub machine_in : List ℕ → Machine
machine_in f =
    let b = shown (part f) in
    record b { regs = record b.regs { ie = switch 4 f; idle = switch 8 f }; latch = switch 1 f; on = switch 2 f }

-- ---- which files are accepted

-- each flag is a binary digit, and there is such a key
pub record IsProgramMachine (f : List ℕ) : Type 0 where
  pub switches : slice_index f 5 < 16
  pub flags : slice_index (part f) 49 ≤ 3
  pub key : (machine_in f).key < 16

pub record IsProgram (f : List ℕ) : Type 0 where
  pub size : length f ≡ program_size
  pub begins : take 5 f ≡ program_head
  pub cycle : (machine_in f).cycle ≤ most_cycles
  pub machine : IsProgramMachine f

-- the first fault that a file has, or none; it has no edition
abbrev pub JudgesProgram : List ℕ → Result (Unit {0}) StateFault → Type 0
JudgesProgram f (Ok done) = IsProgram f
JudgesProgram f (Err BadLength) = length f ≡ program_size → ⊥
JudgesProgram f (Err BadHead) = (length f ≡ program_size) × (take 5 f ≡ program_head → ⊥)
JudgesProgram f (Err BadEdition) = ⊥
JudgesProgram f (Err BadCycle) = (length f ≡ program_size) × (take 5 f ≡ program_head) × (most_cycles < (machine_in f).cycle)
JudgesProgram f (Err BadMachine) =
    (length f ≡ program_size) × (take 5 f ≡ program_head) × ((machine_in f).cycle ≤ most_cycles) × (IsProgramMachine f → ⊥)
