-- A run keeps to its frames, by the laws of every state of the interpreter's ROM.
use Rattle.std.proofs.Common.{ℕ, suc, List, subst}
use Rattle.machine.specs.Board.{Machine, start}
use Rattle.machine.specs.Keys.{Event as KeyEvent}
use Rattle.chip8_lang.specs.declared.view.Edition.{Edition}
use Rattle.rom_law.specs.Runs.{record_after, state_after}
use Rattle.rom_rows.specs.Rom.{vip}
use Rattle.rom_run.specs.Laws.{ChangesSoon, EveryInterrupt, EveryState, NoneMissing, Undisturbed, WaitsSoon, WritesSoon}
use Rattle.rom_run.specs.Running.{Running}
use Rattle.rom_run.specs.States.{Beginning, StateKnown, MayStart, Unstopped}
use Rattle.rom_run.specs.States.Beginning.{AtReset, AtStart}
use Rattle.rom_run.specs.States.StateKnown.{InBoot, Runs}
use Rattle.rom_run.proofs.Starts.{dispatch_starts}
use Rattle.rom_run.proofs.States.{its_place}
use Rattle.rom_board.specs.Frames.{ChangesBetween, KeepsFrames}
use Rattle.rom_board.specs.Laws.{EveryFrame, EveryFrameBehind}
use Rattle.rom_board.specs.Program.{program}
use Rattle.rom_board.proofs.Speaking.{is_program, not_reset}

module _ (states : EveryState) (undisturbed : Undisturbed) (waits : WaitsSoon) (writes : WritesSoon) (changes : ChangesSoon) where
  module _ (e : Edition) (script : List KeyEvent) (b : Machine) (may : MayStart e b) where
    runs : (i : ℕ) → Unstopped (vip e) script b (suc i) → Running e script (state_after (vip e) script b i) (record_after (vip e) script b i)
    runs i u = go (states e script b (AtStart b may) i u)
      where
        go : StateKnown e script b i → Running e script (state_after (vip e) script b i) (record_after (vip e) script b i)
        go (InBoot game is few boots) = absurd (not_reset e b game may is)
        go (Runs r) = r

    changes_between : ChangesBetween (vip e) script b
    changes_between =
        record {
          shows = λ i u there. undisturbed e script (state_after (vip e) script b i) (record_after (vip e) script b i) (runs i u)
              (its_place (state_after (vip e) script b i).cycle there);
          waits = λ i u enabled idle. waits e script (state_after (vip e) script b i) (record_after (vip e) script b i) (runs i u) enabled idle;
          writes = λ i u w. writes e script (state_after (vip e) script b i) (record_after (vip e) script b i) (runs i u) w;
          changes = λ j i l u same at. changes e script b may j i l u same at;
        }

  module _ (interrupts : EveryInterrupt) (none : NoneMissing) where
    keeps_frames : (e : Edition) (script : List KeyEvent) (first : Machine) → Beginning e first → KeepsFrames (program e) script first
    keeps_frames e script first begins =
        subst (λ x. KeepsFrames x script first) (is_program e)
        (record {
          there = λ i u. interrupts e script first begins i u;
          none_missing = λ i m u from to. none e script first begins i u m from to;
          between = λ i u d. changes_between e script (state_after (vip e) script first i) (dispatch_starts e script first begins i u d);
        })

    pub every_frame : EveryFrame
    every_frame e game fits bytes script = keeps_frames e script (start game) (AtReset game fits bytes)

    pub every_frame_behind : EveryFrameBehind
    every_frame_behind e b may script = keeps_frames e script b (AtStart b may)
