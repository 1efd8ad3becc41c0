-- What the parts of a command make of a machine that runs a game.
use Rattle.std.specs.Prelude.{◌≡◌, ℕ, ◌≤◌, Bool, true, false, List, [], ◌∷◌, Option, Some, None}
use Rattle.machine.specs.Board.{Machine}
use Rattle.chip8_lang.specs.View.{view_at}
use Rattle.vip_relation.specs.State.{VipState, events_waiting}
use Rattle.vip_relation.specs.Meets.{IsSame}
use Rattle.vip_words.specs.declared.debug_commands.Seeking.{Seeking}
use Rattle.vip_debug.specs.Answers.{begun, moves_until, Place, place_of, points_ahead, sought}

-- what is told is the present state
abbrev pub TellsPresent : VipState → Type 0
TellsPresent v = v.last ≡ Some (view_at v.edition v.board.machine)

-- the dispatch points that aren't met yet
abbrev pub points_left : VipState → ℕ → List Machine
points_left v limit = points_ahead (begun v) limit (place_of v)

-- the board is at the first of them, and no event waits behind it
pub record Passes (limit : ℕ) (old new : VipState) : Type 0 where
  pub same : IsSame old new
  pub first : points_left old limit ≡ new.board.machine ∷ points_left new limit
  pub met : events_waiting new ≡ []
  pub told : TellsPresent new
  pub within : new.board.machine.cycle ≤ limit

-- there is none, and the board is at the end of the run
pub record PassesNone (limit : ℕ) (old new : VipState) : Type 0 where
  pub same : IsSame old new
  pub none : points_left old limit ≡ []
  pub made : new.moves ≡ moves_until (begun old) limit
  pub met : events_waiting new ≡ []
  pub within : new.board.machine.cycle ≤ limit

abbrev pub PassAnswers : ℕ → VipState → VipState → Bool → Type 0
PassAnswers limit old new true = Passes limit old new
PassAnswers limit old new false = PassesNone limit old new

-- the board came to a dispatch point that was looked for, or to the end of the run where there is none
pub record ComesTo (limit : ℕ) (old new : VipState) (b : Machine) : Type 0 where
  pub same : IsSame old new
  pub machine : new.board.machine ≡ b
  pub met : events_waiting new ≡ []
  pub told : TellsPresent new
  pub within : new.board.machine.cycle ≤ limit

pub record ComesToEnd (limit : ℕ) (old new : VipState) : Type 0 where
  pub same : IsSame old new
  pub made : new.moves ≡ moves_until (begun old) limit
  pub met : events_waiting new ≡ []
  pub within : new.board.machine.cycle ≤ limit

abbrev pub FindAnswers : ℕ → VipState → VipState → Option Machine → Bool → Type 0
FindAnswers limit old new (Some b) true = ComesTo limit old new b
FindAnswers limit old new None false = ComesToEnd limit old new
FindAnswers limit old new found answer = ⊥

-- the board came to a place within the limit
pub record Makes (limit : ℕ) (old new : VipState) (p : Place) : Type 0 where
  pub same : IsSame old new
  pub place : place_of new ≡ p
  pub within : new.board.machine.cycle ≤ limit

-- the board is where a command that looks for a dispatch point comes to, which is told of where the command is completed
pub record Arrives (limit : ℕ) (seeking : Seeking) (old new : VipState) (answer : Bool) : Type 0 where
  pub makes : Makes limit old new (sought (begun old) limit seeking (place_of old)).place
  pub completed : answer ≡ (sought (begun old) limit seeking (place_of old)).completed
  pub told : answer ≡ true → TellsPresent new
