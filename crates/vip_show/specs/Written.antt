-- The bytes of the file of a machine state, in their order.
use Rattle.std.specs.Prelude.{◌≡◌, ◌≤◌, ℕ, zero, suc, ◌+◌, ◌*◌, Bool, if◌then◌else◌, List, [], ◌∷◌, ◌++◌}
use Rattle.std.specs.Int.{w64, to_be_bytes}
use Rattle.machine.specs.Bank.{Bank, get}
use Rattle.machine.specs.Board.{Machine}
use Rattle.chip8_lang.specs.declared.view.Edition.{Edition}
use Rattle.machine.specs.Bit.{bit}
use Rattle.machine.specs.Keys.{Event}
use Rattle.machine.specs.Ranges.{FitsMachine, FitsRom}
use Rattle.vip_byte.specs.Number.{most_cycles}
use Rattle.vip_cpu.specs.declared.cpu.Phase.TheVariants.{Boundary}
use Rattle.vip_program.specs.Program.{resumed}
use Rattle.vip_text.specs.ProgramFile.{IsProgram, program_head}
use Rattle.vip_text.specs.StateFile.{head, edition_byte}
use Rattle.vip_video.specs.Chip.{nothing_before}

-- R(0) up to before R(n)
abbrev pub register_bytes : Bank → ℕ → List ℕ
register_bytes r zero = []
register_bytes r (suc n) = register_bytes r n ++ (get r n).hi ∷ (get r n).lo ∷ []

-- from the cycle up to before RAM
abbrev pub middle_of : Machine → List ℕ
middle_of b =
    to_be_bytes w64 b.cycle
    ++ register_bytes b.regs.r 16
    ++ b.regs.d ∷ b.regs.t ∷ (16 * b.regs.x + b.regs.p) ∷ (b.regs.df + 2 * bit b.regs.q) ∷ b.key ∷ []

-- all but RAM, and the whole file
unfoldable pub head_of : Edition → Machine → List ℕ
head_of e b = head ++ edition_byte e ∷ [] ++ middle_of b

unfoldable pub file_of : Edition → Machine → List ℕ
file_of e b = head_of e b ++ b.ram

-- ---- of the machine of any program

-- so much where this holds
abbrev pub if_on : Bool → ℕ → ℕ
if_on on weight = if on then weight else 0

abbrev pub switches_of : Machine → ℕ
switches_of b = if_on b.latch 1 + (if_on b.on 2 + (if_on b.regs.ie 4 + if_on b.regs.idle 8))

-- all but RAM and the ROM, all but the ROM, and the whole file in two pieces
unfoldable pub program_head_of : Machine → List ℕ
program_head_of b = program_head ++ switches_of b ∷ [] ++ middle_of b

unfoldable pub program_part_of : Machine → List ℕ
program_part_of b = program_head_of b ++ b.ram

abbrev pub program_pieces_of : List ℕ → Machine → List (List ℕ)
program_pieces_of rom b = program_part_of b ∷ rom ∷ []

abbrev pub program_file_of : List ℕ → Machine → List ℕ
program_file_of rom b = program_part_of b ++ rom

-- the file of a machine that fits is accepted, and what goes on from it goes on in that machine, with that ROM
abbrev pub ProgramGoesOn : List ℕ → Machine → Type 0
ProgramGoesOn rom b =
    FitsMachine b → FitsRom rom → b.cycle ≤ most_cycles
    → IsProgram (program_file_of rom b)
    × ((script : List Event) → resumed (program_file_of rom b) script
    ≡ record { machine = b; phase = Boundary; pictures = nothing_before b.cycle; rom = rom; script = script })
