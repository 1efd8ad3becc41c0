-- A run that begins, from any start, is fresh; and the screen that it tells of.
use Rattle.std.proofs.Common.{◌≡◌, ℕ, List, refl, sym, ap, ◌∙◌, subst}
use Rattle.std.specs.Prelude.{None, replicate}
use Rattle.machine.specs.Keys.{Event as KeyEvent}
use Rattle.chip8_lang.specs.declared.view.Edition.{Edition}
use Rattle.vip_relation.specs.Meets.{HasStopped}
use Rattle.vip_relation.specs.State.{Start, VipState, begun, first_screen, first_view, machine_of, screen_bytes, screen_size}
use Rattle.vip_relation.specs.State.Start.{Reset, Saved}
use Rattle.vip_show.specs.Answers.{IsFresh}

pub fresh-begun : (v : VipState) (e : Edition) (s : Start) (script : List KeyEvent) → v ≡ begun e s script → (HasStopped v → ⊥) → IsFresh v
fresh-begun v e s script is runs =
    subst IsFresh (sym is)
    (record { met = refl; last = refl; screen = refl; stands = λ file saved. refl; runs = λ stopped. runs (subst HasStopped (sym is) stopped) })

-- that of the board, where the start is a dispatch point
pub first-shown : (v : VipState) → IsFresh v → (v.last ≡ None → ⊥) → (bytes : List ℕ) → bytes ≡ screen_bytes v.edition v.board.machine → bytes ≡ v.shown
first-shown v fresh some bytes is = by_start v.start refl
  where
    by_start : (s : Start) → v.start ≡ s → bytes ≡ v.shown
    by_start (Reset game) at = absurd (some (fresh.last ∙ ap (first_view v.edition) at))
    by_start (Saved file) at =
        is ∙ ap (screen_bytes v.edition) (fresh.stands file at ∙ ap machine_of at) ∙ sym (fresh.screen ∙ ap (first_screen v.edition) at)

-- and a dark one, where none is told of
pub first-dark : (v : VipState) → IsFresh v → v.last ≡ None → (bytes : List ℕ) → bytes ≡ replicate (screen_size v.edition) 0 → bytes ≡ v.shown
first-dark v fresh none bytes is = by_start v.start refl (sym fresh.last ∙ none)
  where
    by_start : (s : Start) → v.start ≡ s → first_view v.edition v.start ≡ None → bytes ≡ v.shown
    by_start (Reset game) at first = is ∙ sym (fresh.screen ∙ ap (first_screen v.edition) at)
    by_start (Saved file) at first = let bad = sym (ap (first_view v.edition) at) ∙ first in cc
