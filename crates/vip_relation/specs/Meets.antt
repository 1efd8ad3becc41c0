-- What the calls answer, and what they make of a run.
use Rattle.std.specs.Prelude.{◌≡◌, ℕ, ◌+◌, ◌<◌, ◌≤◌, ◌⊎◌, true, false, List, [], ◌∷◌, length, max, Some, Result, Ok, Err}
use Rattle.machine.specs.Board.{Machine, length_of}
use Rattle.machine.specs.Keys.{Event as KeyEvent}
use Rattle.machine.specs.Pictures.{window_end, picture_of}
use Rattle.chip8_lang.specs.declared.view.Edition.{Edition}
use Rattle.chip8_lang.specs.declared.view.StopRecord.{StopRecord}
use Rattle.chip8_lang.specs.Events.{Event, is_stop}
use Rattle.chip8_lang.specs.Events.Event.{Picture, Dispatch, Stopped}
use Rattle.chip8_lang.specs.State.{memory_size}
use Rattle.chip8_lang.specs.View.{view_at}
use Rattle.machine.specs.Instruction.{Regs}
use Rattle.vip_board.specs.Moves.{moved, moved_by, name_of, StartsInstruction}
use Rattle.vip_board.specs.Seen.{contents_of}
use Rattle.vip_memory.specs.Contents.{Contents}
use Rattle.vip_board.specs.declared.board.Move.{Move}
use Rattle.vip_text.specs.StateFile.{IsAccepted, Judges}
use Rattle.vip_relation.specs.State.{VipState, begun, interpreter, events_to, events_left, events_waiting, run_of, moves_by, screen_bytes, started, state_after}
use Rattle.vip_relation.specs.State.Start.{Saved}
use Rattle.vip_relation.specs.Stops.{stop_record}
use Rattle.vip_relation.specs.declared.run.Met.{Met}
use Rattle.vip_relation.specs.declared.run.Met.TheVariants.{Picture as PictureMet, Dispatch as DispatchMet, Stopped as StoppedMet, End}
use Rattle.vip_relation.specs.declared.start.ResumeFault.{ResumeFault}
use Rattle.vip_relation.specs.declared.start.ResumeFault.TheVariants.{State, NoMemory as NoMemoryLeft}
use Rattle.vip_relation.specs.declared.start.StartFault.{StartFault}
use Rattle.vip_relation.specs.declared.start.StartFault.TheVariants.{GameTooLarge, NoMemory}

-- ---- the start

-- A game is too large exactly where it doesn't fit into game memory.
abbrev pub StartAnswers : Edition → List ℕ → List KeyEvent → Result VipState StartFault → Type 0
StartAnswers e game script (Ok v) = (length game ≤ memory_size e) × (v ≡ started e game script)
StartAnswers e game script (Err (GameTooLarge n)) = (memory_size e < length game) × (n ≡ length game)
StartAnswers e game script (Err NoMemory) = length game ≤ memory_size e

-- A file that isn't accepted is refused for its first fault.
abbrev pub ResumeAnswers : List ℕ → List KeyEvent → Result VipState ResumeFault → Type 0
ResumeAnswers f script (Ok v) = IsAccepted v.edition f × (v ≡ begun v.edition (Saved f) script)
ResumeAnswers f script (Err (State fault)) = Judges f (Err fault)
ResumeAnswers f script (Err NoMemoryLeft) = (e : Edition) × IsAccepted e f

-- a stop point was met, where the board stays
pub record HasStopped (v : VipState) : Type 0 where
  pub stop : is_stop (interpreter v) v.board.machine ≡ true
  pub met : events_waiting v ≡ []

-- ---- one event

-- the same start of the same edition under the same script
pub record IsSame (old new : VipState) : Type 0 where
  pub edition : new.edition ≡ old.edition
  pub start : new.start ≡ old.start
  pub script : new.board.script ≡ old.board.script

-- one event more is met, and these are left up to the limit
pub record MeetsOne (limit : ℕ) (old new : VipState) (others : List Event) : Type 0 where
  pub same : IsSame old new
  pub met : new.met ≡ old.met + 1
  pub left : events_left new limit ≡ others
  pub within : new.board.machine.cycle ≤ limit

-- what is told of the last dispatch point stays
pub record TellsSame (old new : VipState) : Type 0 where
  pub last : new.last ≡ old.last
  pub shown : new.shown ≡ old.shown

-- the picture of frame m is finished, in the first state at or after the end of its window, and is the last that the video chip finished
pub record MeetsPicture (limit : ℕ) (old new : VipState) (m : ℕ) (left : List Event) : Type 0 where
  pub one : MeetsOne limit old new left
  pub told : TellsSame old new
  pub ended : window_end m ≤ new.board.machine.cycle
  pub first : (k : ℕ) → k < new.moves → (state_after new k).cycle < window_end m
  pub picture : new.board.pictures.finished ≡ Some (picture_of (interpreter old).rom (run_of old limit) m)
  pub goes_on : HasStopped new → ⊥

-- the board is at dispatch point b, which is told of from now on
pub record MeetsDispatch (limit : ℕ) (old new : VipState) (b : Machine) (left : List Event) : Type 0 where
  pub one : MeetsOne limit old new left
  pub machine : new.board.machine ≡ b
  pub last : new.last ≡ Some (view_at old.edition b)
  pub shown : new.shown ≡ screen_bytes old.edition b
  pub goes_on : HasStopped new → ⊥

-- the board is at stop point b, and stays there
pub record MeetsStop (limit : ℕ) (old new : VipState) (b : Machine) (left : List Event) (answer : StopRecord) : Type 0 where
  pub one : MeetsOne limit old new left
  pub told : TellsSame old new
  pub machine : new.board.machine ≡ b
  pub stop : answer ≡ stop_record old.last b
  pub stopped : HasStopped new

-- no event is left up to the limit, and all moves that end by then are made
pub record Ends (limit : ℕ) (old new : VipState) : Type 0 where
  pub same : IsSame old new
  pub told : TellsSame old new
  pub met : new.met ≡ old.met
  pub moves : new.moves ≡ max old.moves (moves_by old limit)
  pub goes_on : HasStopped new → ⊥

-- what an answer says, by the events that were left
abbrev pub MeetsNext : ℕ → VipState → VipState → List Event → Met → Type 0
MeetsNext limit old new [] End = Ends limit old new
MeetsNext limit old new (Picture m ∷ left) PictureMet = MeetsPicture limit old new m left
MeetsNext limit old new (Dispatch b ∷ left) DispatchMet = MeetsDispatch limit old new b left
MeetsNext limit old new (Stopped b ∷ left) (StoppedMet stop) = MeetsStop limit old new b left stop
MeetsNext limit old new _ _ = ⊥

-- after a stop it is answered again
pub record StopsAgain (old new : VipState) (met : Met) : Type 0 where
  pub same : new ≡ old
  pub stop : met ≡ StoppedMet (stop_record old.last old.board.machine)

-- ---- one move

-- there is no move to be made: the board is at a stop point, or the move would end after the limit
abbrev pub Rests : ℕ → VipState → Type 0
Rests limit v =
    (is_stop (interpreter v) v.board.machine ≡ true) ⊎ (limit < v.board.machine.cycle + length_of v.board.rom v.board.machine)

-- the board made its next move, and every event up to its cycle is met
pub record MovesOn (old new : VipState) (name : Move) : Type 0 where
  pub edition : new.edition ≡ old.edition
  pub start : new.start ≡ old.start
  pub moves : new.moves ≡ old.moves + 1
  pub board : new.board ≡ moved old.board
  pub move : name ≡ name_of old.board.machine
  pub met : new.met ≡ length (events_to new new.board.machine.cycle)

-- ---- some moves

-- The board made so many moves, the last of which ends by the limit, and every event up to its cycle is met. Behind none of the others it is at a stop
-- point, and no instruction comes next at which moves are to end: which are, the registers and memory say.
pub record MovesBy (limit : ℕ) (Stands : Regs → Contents → Type 0) (old new : VipState) (n : ℕ) : Type 0 where
  pub edition : new.edition ≡ old.edition
  pub start : new.start ≡ old.start
  pub moves : new.moves ≡ old.moves + n
  pub board : new.board ≡ moved_by n old.board
  pub goes_on : (k : ℕ) → 0 < k → k < n → is_stop (interpreter old) (moved_by k old.board).machine ≡ false
  pub apart :
      (k : ℕ) → 0 < k → k < n → let s = moved_by k old.board in StartsInstruction s.machine → Stands s.machine.regs (contents_of s) → ⊥
  pub within : new.board.machine.cycle ≤ limit
  pub met : new.met ≡ length (events_to new new.board.machine.cycle)
