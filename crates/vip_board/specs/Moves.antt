-- How a move is named, what it makes of the board, and what an answer says.
use Rattle.std.specs.Prelude.{◌≡◌, ◌<◌, ◌≤◌, ℕ, zero, suc, ◌+◌, ◌&&◌, not, Bool, List, [], ◌∷◌, ◌++◌, Option, Some, None}
use Rattle.machine.specs.Instruction.{Regs, at, after_dma}
use Rattle.machine.specs.Board.{Machine, Case, case_of, length_of, dma_byte, move}
use Rattle.machine.specs.Board.Case.{Dma as DmaCase, Interrupt as InterruptCase, Idle as IdleCase, Instruction as InstructionCase}
use Rattle.vip_memory.specs.Contents.{Contents}
use Rattle.vip_video.specs.Chip.{Pictures, scanned}
use Rattle.vip_video.specs.Quiet.{IsQuiet}
use Rattle.vip_board.specs.Seen.{Seen, contents_of, held_by}
use Rattle.vip_board.specs.declared.board.Move.{Move}
use Rattle.vip_board.specs.declared.board.Move.TheVariants.{Dma, Interrupt, Idle, Instruction}
use Rattle.vip_board.specs.declared.board.Moved.{Moved}
use Rattle.vip_board.specs.declared.board.Moved.TheVariants.{Done, End}

-- the next move is an instruction
abbrev pub StartsInstruction : Machine → Type 0
StartsInstruction b = case_of b ≡ InstructionCase

-- the name of a move; an instruction has the address of its opcode
abbrev pub name_in : Case → Machine → Move
name_in DmaCase b = Dma
name_in InterruptCase b = Interrupt
name_in IdleCase b = Idle
name_in InstructionCase b = Instruction (at b.regs b.regs.p)

abbrev pub name_of : Machine → Move
name_of b = name_in (case_of b) b

-- the byte that a move puts on the bus
abbrev pub bus_byte_in : Case → List ℕ → Machine → Option ℕ
bus_byte_in DmaCase rom b = Some (dma_byte rom b)
bus_byte_in _ rom b = None

-- the pictures after so many cycles with one switch, from cycle t on, the first of them with a byte
abbrev pub scanned_over : ℕ → ℕ → Bool → Option ℕ → Pictures → Pictures
scanned_over zero t on byte p = p
scanned_over (suc n) t on byte p = scanned_over n (t + 1) on None (scanned t on byte p)

-- the pictures after a move of machine b: all its cycles have the switch that b has
unfoldable pub pictures_after : List ℕ → Machine → Pictures → Pictures
pictures_after rom b p = scanned_over (length_of rom b) b.cycle b.on (bus_byte_in (case_of b) rom b) p

-- the board after its next move
abbrev pub moved : Seen → Seen
moved s =
    record s { machine = move s.rom (held_by s) s.machine; pictures = pictures_after s.rom s.machine s.pictures }

-- after so many moves
abbrev pub moved_by : ℕ → Seen → Seen
moved_by zero s = s
moved_by (suc n) s = moved (moved_by n s)

-- The processor idles and no signal can wake it, since the display is off: only an instruction turns it on.
abbrev pub sleeps : Machine → Bool
sleeps b = b.regs.idle && not b.on

-- From board s on to v no picture was finished, the processor sleeps as before, and at v no instruction comes next.
pub record IsAside (s v : Seen) : Type 0 where
  pub apart : StartsInstruction v.machine → ⊥
  pub count : v.pictures.count ≡ s.pictures.count
  pub asleep : sleeps v.machine ≡ sleeps s.machine

-- so it is behind each of so many moves but the last
abbrev pub Aside : ℕ → Seen → Type 0
Aside n s = (k : ℕ) → 0 < k → k < n → IsAside s (moved_by k s)

-- From board s on to v no picture was finished, the processor sleeps as before, and at v no instruction comes next that is a stop: which are, the
-- registers and memory say.
pub record Passes (Stands : Regs → Contents → Type 0) (s v : Seen) : Type 0 where
  pub count : v.pictures.count ≡ s.pictures.count
  pub asleep : sleeps v.machine ≡ sleeps s.machine
  pub apart : StartsInstruction v.machine → Stands v.machine.regs (contents_of v) → ⊥

-- the processor's part of so many DMA cycles, and the bytes that they put on the bus
abbrev pub dma_regs : ℕ → Regs → Regs
dma_regs zero r = r
dma_regs (suc n) r = after_dma (dma_regs n r)

abbrev pub taken_by : ℕ → Seen → Seen
taken_by n s = record s { machine = record s.machine { regs = dma_regs n s.machine.regs } }

abbrev pub dma_bytes : ℕ → Seen → List ℕ
dma_bytes zero s = []
dma_bytes (suc n) s = dma_bytes n s ++ dma_byte s.rom (taken_by n s).machine ∷ []

-- so many cycles later
abbrev pub later : Seen → ℕ → Seen
later s n = record s { machine = record s.machine { cycle = s.machine.cycle + n } }

-- From board s to v an instruction of n cycles is made, but for their count: it is the next move also where cycles before it aren't counted yet, if
-- the video chip has nothing to do in its cycles but count.
pub record Works (n : ℕ) (s v : Seen) : Type 0 where
  pub moved : (p : ℕ) → ((k : ℕ) → k < n → IsQuiet s.machine.on s.machine.on s.pictures.shown (s.machine.cycle + p + k)) → later v (p + n) ≡ moved (later s p)
  pub cycle : v.machine.cycle ≡ s.machine.cycle
  pub on : v.machine.on ≡ s.machine.on
  pub awake : v.machine.regs.idle ≡ s.machine.regs.idle
  pub phase : v.phase ≡ s.phase
  pub pictures : v.pictures ≡ s.pictures

-- From an entry on so many moves are made, behind none of which but the last one the board has to be looked at. The last one ends at or
-- before cycle `limit`.
pub record Made (limit : ℕ) (Stands : Regs → Contents → Type 0) (entry v : Seen) (n : ℕ) : Type 0 where
  pub moves : v ≡ moved_by n entry
  pub passes : (k : ℕ) → 0 < k → k < n → Passes Stands entry (moved_by k entry)
  pub within : 0 < n → v.machine.cycle ≤ limit

-- The same of instructions with so many cycles, at most `most`, which aren't counted yet.
pub record Worked (most : ℕ) (Stands : Regs → Contents → Type 0) (entry v : Seen) (n passed : ℕ) : Type 0 where
  pub made : Made (entry.machine.cycle + most) Stands entry (later v passed) n
  pub each : n ≤ passed
  pub few : passed ≤ most
  pub cycle : v.machine.cycle ≡ entry.machine.cycle
  pub on : v.machine.on ≡ entry.machine.on
  pub pictures : v.pictures ≡ entry.pictures

abbrev pub IfDone : Moved → (Move → Type 0) → Type 0
IfDone (Done m) P = P m
IfDone End P = Unit {0}
