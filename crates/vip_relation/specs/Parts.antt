-- What the parts of a call make of a run.
use Rattle.std.specs.Prelude.{◌≡◌, ℕ, ◌+◌, ◌<◌, ◌≤◌, false, [], length, Option, None, Some}
use Rattle.chip8_lang.specs.Events.{is_stop}
use Rattle.machine.specs.Instruction.{Regs}
use Rattle.vip_board.specs.Moves.{moved, moved_by, name_of, StartsInstruction}
use Rattle.vip_board.specs.Seen.{contents_of}
use Rattle.vip_memory.specs.Contents.{Contents}
use Rattle.vip_board.specs.declared.board.Move.{Move}
use Rattle.vip_relation.specs.Follows.{Follows}
use Rattle.vip_relation.specs.State.{VipState, interpreter, events_left, events_waiting}
use Rattle.vip_relation.specs.Meets.{IsSame, MeetsNext, HasStopped}
use Rattle.vip_relation.specs.declared.run.Met.{Met}

-- the first event that waits at the present state is met, if there is one, and the board stays
pub record MeetsFirst (old new : VipState) (answer : Met) : Type 0 where
  pub next : (limit : ℕ) → old.board.machine.cycle ≤ limit → MeetsNext limit old new (events_left old limit) answer
  pub same : IsSame old new
  pub waiting : length (events_waiting old) ≡ length (events_waiting new) + 1
  pub board : new.board ≡ old.board
  pub moves : new.moves ≡ old.moves

abbrev pub MeetsHere : VipState → VipState → Option Met → Type 0
MeetsHere old new None = (events_waiting old ≡ []) × (new ≡ old)
MeetsHere old new (Some met) = MeetsFirst old new met

-- all events that wait at the present state are met, and the board stays
pub record MeetsAll (old new : VipState) : Type 0 where
  pub edition : new.edition ≡ old.edition
  pub start : new.start ≡ old.start
  pub board : new.board ≡ old.board
  pub moves : new.moves ≡ old.moves
  pub met : events_waiting new ≡ []

-- the board made its next move, to a state whose events wait
pub record Steps (old new : VipState) (name : Move) : Type 0 where
  pub state : new ≡ record old { moves = old.moves + 1; board = moved old.board }
  pub move : name ≡ name_of old.board.machine
  pub later : old.board.machine.cycle < new.board.machine.cycle
  pub goes_on : HasStopped new → ⊥

-- the board made moves, behind none of which an event waits
pub record Passes (limit : ℕ) (old new : VipState) : Type 0 where
  pub state : new ≡ record old { moves = new.moves; board = new.board }
  pub script : new.board.script ≡ old.board.script
  pub moves : old.moves ≤ new.moves
  pub later : old.board.machine.cycle ≤ new.board.machine.cycle
  pub within : old.board.machine.cycle ≤ limit → new.board.machine.cycle ≤ limit
  pub met : events_waiting new ≡ []
  pub runs : is_stop (interpreter new) new.board.machine ≡ false

-- The board made so many moves. Behind none of them but the last it is at a stop point, and no instruction comes next at which moves are to end:
-- which are, the registers and memory say.
pub record Makes (Stands : Regs → Contents → Type 0) (old new : VipState) (n : ℕ) : Type 0 where
  pub moves : new.moves ≡ old.moves + n
  pub board : new.board ≡ moved_by n old.board
  pub goes_on : (k : ℕ) → 0 < k → k < n → is_stop (interpreter old) (moved_by k old.board).machine ≡ false
  pub apart :
      (k : ℕ) → 0 < k → k < n → let s = moved_by k old.board in StartsInstruction s.machine → Stands s.machine.regs (contents_of s) → ⊥

-- the board made such moves, and one more within the limit
pub record Runs (limit : ℕ) (old new : VipState) : Type 0 where
  pub middle : VipState
  pub passes : Passes limit old middle
  pub follows : Follows middle
  pub name : Move
  pub steps : Steps middle new name
  pub within : new.board.machine.cycle ≤ limit
