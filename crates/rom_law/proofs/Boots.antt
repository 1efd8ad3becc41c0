-- Boot is run by computing, one move after the other.
use Rattle.std.proofs.Common.{◌≡◌, ℕ, zero, suc, ◌<◌, refl, ap, subst, arith, Bool, true, false, not, ◌&&◌}
use Rattle.std.proofs.lemmas.Bool.{and_parts}
use Rattle.machine.specs.Board.{Machine, move}
use Rattle.machine.specs.Keys.{Keys}
use Rattle.machine.specs.Run.{after_moves}
use Rattle.chip8_lang.specs.Places.{Interpreter}
use Rattle.chip8_lang.specs.Events.{is_dispatch, is_stop}

not_set : (t : Bool) → not t ≡ true → t ≡ false
not_set true h = cc
not_set false h = refl

module _ (i : Interpreter) (held : ℕ → Keys) where
  -- no event at a state and at those that follow it, so many in all
  abbrev pub is_quiet : ℕ → Machine → Bool
  is_quiet zero b = true
  is_quiet (suc n) b = (not (is_dispatch i b) && not (is_stop i b)) && is_quiet n (move i.rom held b)

  move_first : (n : ℕ) (b : Machine) → after_moves i.rom held (move i.rom held b) n ≡ move i.rom held (after_moves i.rom held b n)
  move_first zero b = refl
  move_first (suc n) b = ap (move i.rom held) (move_first n b)

  abbrev pub Quiet : Machine → Type 0
  Quiet b = (is_dispatch i b ≡ false) × (is_stop i b ≡ false)

  pub quiet_moves : (n : ℕ) (b : Machine) → is_quiet n b ≡ true → (m : ℕ) → m < n → Quiet (after_moves i.rom held b m)
  quiet_moves zero b h m l = absurd (omega arith)
  quiet_moves (suc n) b h zero l =
      let p = and_parts _ _ (and_parts (not (is_dispatch i b) && not (is_stop i b)) (is_quiet n (move i.rom held b)) h).0 in
      (not_set _ p.0, not_set _ p.1)
  quiet_moves (suc n) b h (suc m) l =
      subst Quiet (move_first m b) (quiet_moves n (move i.rom held b)
      (and_parts (not (is_dispatch i b) && not (is_stop i b)) (is_quiet n (move i.rom held b)) h).1 m (omega arith))
