-- What commands write behind a dispatch point of a run, and what they write of the run that begins with a file of its machine.
use Rattle.std.specs.Prelude.{◌≡◌, ◌≤◌, ◌<◌, ℕ, true, List}
use Rattle.machine.specs.Keys.{Event as KeyEvent, held_at}
use Rattle.chip8_lang.specs.declared.view.Edition.{Edition}
use Rattle.chip8_lang.specs.Events.{is_dispatch}
use Rattle.chip8_image.specs.Interpreters.{interpreter_of}
use Rattle.vip_relation.specs.Follows.{Fits}
use Rattle.vip_relation.specs.State.{Start, VipState, begun, machine_of, state_after}
use Rattle.vip_relation.specs.State.Start.{Saved}
use Rattle.vip_words.specs.Spoken.{Spoken}
use Rattle.vip_words.specs.declared.debug_commands.Command.TheVariants.{Runs}
use Rattle.vip_words.specs.declared.debug_commands.Running.TheVariants.{To}
use Rattle.vip_debug.specs.declared.looks.Looks.{Looks}
use Rattle.vip_debug.specs.Answers.{at_start, moves_until, place_after, place_with, stop_by, written}

-- from the cycle behind this one on the same keys are held down
abbrev pub HoldSame : ℕ → List KeyEvent → List KeyEvent → Type 0
HoldSame cycle script script' = (t : ℕ) → cycle < t → (k : ℕ) → held_at script t k ≡ held_at script' t k

-- Behind `to` a cycle commands write of run v what they write of run u from its start on, and leave both boards at the same machine; where that is a
-- stop point, the stop is the same.
pub record AnswersAs (looks : Looks) (v u : VipState) (limit cycle : ℕ) (commands : List Spoken) : Type 0 where
  pub pieces : written looks v limit commands (place_with v limit (Runs (To cycle)) (at_start v)) ≡ written looks u limit commands (at_start u)
  pub machine :
      state_after v (place_after v limit commands (place_with v limit (Runs (To cycle)) (at_start v))).moves
      ≡ state_after u (place_after u limit commands (at_start u)).moves
  pub stop :
      stop_by v (place_after v limit commands (place_with v limit (Runs (To cycle)) (at_start v))).moves
      ≡ stop_by u (place_after u limit commands (at_start u)).moves

-- A run comes to a dispatch point by a cycle, and another begins with a file of the machine there, under a script that holds the same keys down from there
-- on.
abbrev pub GoesOnBehind : Type 0
GoesOnBehind =
    (e : Edition) (s : Start)
    → Fits e s
    → (script script' : List KeyEvent) (cycle limit : ℕ)
    → (machine_of s).cycle ≤ cycle
    → cycle ≤ limit
    → is_dispatch (interpreter_of e) (state_after (begun e s script) (moves_until (begun e s script) cycle)) ≡ true
    → (file : List ℕ)
    → machine_of (Saved file) ≡ state_after (begun e s script) (moves_until (begun e s script) cycle)
    → HoldSame (machine_of (Saved file)).cycle script script'
    → (looks : Looks)
    → (commands : List Spoken)
    → AnswersAs looks (begun e s script) (begun e (Saved file) script') limit cycle commands
