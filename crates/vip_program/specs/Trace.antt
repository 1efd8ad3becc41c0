-- The run of a program up to a limit, and what is written of it: a line for each instruction and each interrupt, one for each stretch of idle
-- cycles, and one for the DMA cycles of each raster line. Before the line of an instruction stand the lines of the labels at its opcode, and at its end the
-- source's line that gave it, where it is told.
use Rattle.std.specs.Prelude.{◌≡◌, ◌≤◌, ℕ, ◌+◌, ◌-◌, ◌/◌, ◌%◌, ◌==◌, if◌then◌else◌, Bool, true, false, min, List, [], ◌∷◌, ◌++◌, length, flat_map, Result, Ok, Err}
use Rattle.asm_core.specs.Origins.{Origins}
use Rattle.machine.specs.Board.{Machine, Case, case_of}
use Rattle.machine.specs.Board.Case.{Dma, Idle}
use Rattle.machine.specs.Instruction.{at}
use Rattle.machine.specs.Keys.{Keys}
use Rattle.machine.specs.Run.{after_moves, states, run_to}
use Rattle.machine.specs.Signals.{line_cycles}
use Rattle.vip_board.specs.Moves.{moved_by}
pub use Rattle.vip_board.specs.Moves.{sleeps}
use Rattle.vip_board.specs.Seen.{Seen, held_by}
use Rattle.vip_outside.specs.Sink.{SinkMeaning}
use Rattle.vip_outside.specs.Pieces.{PutsAll, FailsWithin}
use Rattle.vip_outside.specs.declared.sink.Failed.{Failed}
use Rattle.vip_program.specs.Lines.{end_behind, line_of, labels_before}
use Rattle.vip_program.specs.declared.trace.ProgramEnd.{ProgramEnd}
use Rattle.vip_program.specs.declared.trace.ProgramEnd.TheVariants as end

-- ---- the run

-- the states of a run up to the first that sleeps
unfoldable pub up_to_sleep : List Machine → List Machine
up_to_sleep [] = []
up_to_sleep (b ∷ bs) = if sleeps b then b ∷ [] else b ∷ up_to_sleep bs

-- ---- its lines

-- two moves, one behind the other, share a line: idle cycles, and DMA cycles of one raster line
abbrev pub share_in : Case → Case → Machine → Machine → Bool
share_in Idle Idle b c = true
share_in Dma Dma b c = c.cycle / line_cycles == b.cycle / line_cycles
share_in _ _ b c = false

abbrev pub share : Machine → Machine → Bool
share b c = share_in (case_of b) (case_of c) b c

-- moves in stretches of those that share a line, with one move more before them
abbrev pub put_before : Machine → List (List Machine) → List (List Machine)
put_before b [] = (b ∷ []) ∷ []
put_before b ([] ∷ others) = (b ∷ []) ∷ others
put_before b ((c ∷ cs) ∷ others) = if share b c then (b ∷ c ∷ cs) ∷ others else (b ∷ []) ∷ (c ∷ cs) ∷ others

unfoldable pub stretches : List Machine → List (List Machine)
stretches [] = []
stretches (b ∷ bs) = put_before b (stretches bs)

module _ (rom : List ℕ) (held : ℕ → Keys) where
  -- how many moves the run from a machine on has up to a limit: one fewer than states
  unfoldable pub moves_to : Machine → ℕ → ℕ
  moves_to b limit = length (up_to_sleep (run_to rom held b limit)) - 1

  -- the line of a stretch, behind those of the labels at its instruction
  abbrev pub labelled : Origins → List Machine → List (List ℕ)
  labelled origins [] = []
  labelled origins (b ∷ bs) = labels_before origins b ++ (line_of rom held (b ∷ bs) ++ end_behind origins rom b) ∷ []

  -- the lines of so many moves from a machine on
  unfoldable pub lines : Origins → Machine → ℕ → List (List ℕ)
  lines origins b moves = flat_map (labelled origins) (stretches (states rom held b moves))

-- those that the board has made when so many have been asked for, or the run has ended
abbrev pub moves_ahead : Seen → ℕ → ℕ → ℕ
moves_ahead s limit count = min count (moves_to s.rom (held_by s) s.machine limit)

abbrev pub lines_of : Origins → Seen → ℕ → List (List ℕ)
lines_of origins s moves = lines s.rom (held_by s) origins s.machine moves

-- ---- how it ends

-- the address of the IDL, behind which R(P) stands
abbrev pub idle_address : Machine → ℕ
idle_address b = (at b.regs b.regs.p + 65535) % 65536

abbrev pub end_at : Machine → ProgramEnd
end_at b = if sleeps b then end.Idle (idle_address b) else end.AtLimit

-- ---- what the calls answer

-- all lines went out, and the board has made these moves
pub record Traces (origins : Origins) (count limit : ℕ) (old new : Seen) (out out' : SinkMeaning) (made : ℕ) : Type 0 where
  pub puts : PutsAll (lines_of origins old (moves_ahead old limit count)) out out'
  pub all : made ≡ moves_ahead old limit count
  pub moved : new ≡ moved_by made old

-- a line failed, and the board has made the moves up to the end of that line
pub record TraceFails (origins : Origins) (count limit : ℕ) (old new : Seen) (out out' : SinkMeaning) : Type 0 where
  pub fails : FailsWithin (lines_of origins old (moves_ahead old limit count)) out out'
  pub made : ℕ
  pub few : made ≤ moves_ahead old limit count
  pub moved : new ≡ moved_by made old

abbrev pub TraceAnswers : Origins → ℕ → ℕ → Seen → Seen → SinkMeaning → SinkMeaning → Result ℕ Failed → Type 0
TraceAnswers origins count limit old new out out' (Ok made) = Traces origins count limit old new out out' made
TraceAnswers origins count limit old new out out' (Err e) = TraceFails origins count limit old new out out'

-- the machine at the end of a run
abbrev pub last_machine : Seen → ℕ → Machine
last_machine s limit = after_moves s.rom (held_by s) s.machine (moves_to s.rom (held_by s) s.machine limit)

-- the pieces went out whole, and the run ended there
pub record ShowsProgram (pieces : List (List ℕ)) (limit : ℕ) (old : Seen) (out out' : SinkMeaning) (end : ProgramEnd) : Type 0 where
  pub puts : PutsAll pieces out out'
  pub ending : end ≡ end_at (last_machine old limit)

abbrev pub ShowAnswers : List (List ℕ) → ℕ → Seen → SinkMeaning → SinkMeaning → Result ProgramEnd Failed → Type 0
ShowAnswers pieces limit old out out' (Ok end) = ShowsProgram pieces limit old out out' end
ShowAnswers pieces limit old out out' (Err e) = FailsWithin pieces out out'

-- the lines of a whole run
abbrev pub program_trace : Origins → Seen → ℕ → List (List ℕ)
program_trace origins s limit = lines_of origins s (moves_to s.rom (held_by s) s.machine limit)
