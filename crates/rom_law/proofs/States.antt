-- What is kept by each move of a run up to its stop holds of each of its states, with the record of the moves since the last dispatch point.
use Rattle.std.proofs.Common.{◌≡◌, ℕ, zero, suc, ◌+◌, ◌<◌, refl, sym, ◌∙◌, subst, arith, Bool, true, false, if◌then◌else◌, List}
use Rattle.machine.specs.Board.{Machine, move}
use Rattle.machine.specs.Keys.{held_at}
use Rattle.machine.specs.Keys.{Event as KeyEvent}
use Rattle.chip8_lang.specs.Events.{is_dispatch, is_stop}
use Rattle.rom_law.specs.Program.{Program}
use Rattle.rom_law.specs.Rows.{Since, dispatched}
use Rattle.rom_law.specs.Runs.{state_at, state_after, record_after, carried, Moves}
use Rattle.rom_law.specs.Runs.Moves.{Still, Arrived, Halted}

chosen : {t : Bool} (a b : Since) → t ≡ true → (if t then a else b) ≡ a
chosen a b e = rw e refl

passed : {t : Bool} (a b : Since) → t ≡ false → (if t then a else b) ≡ b
passed a b e = rw e refl

module _
    (x : Program) (script : List KeyEvent) (Running : Machine → Since → Type 0)
    (moves : (b : Machine) (h : Since) → Running b h
    → Moves x script Running (carried x.interpreter.rom (held_at script) b h) (move x.interpreter.rom (held_at script) b))
    (first : Machine) where
  abbrev at : ℕ → Machine
  at n = state_after x script first n

  abbrev since : ℕ → Since
  since n = record_after x script first n

  -- it holds there, with that record
  abbrev Holds : ℕ → Type 0
  Holds n = Running (at n) (since n)

  abbrev Unstopped : ℕ → Type 0
  Unstopped n = (j : ℕ) → j < n → is_stop x.interpreter (at j) ≡ false

  -- at a dispatch point the record begins anew
  pub since_dispatch : (n : ℕ) → is_dispatch x.interpreter (at (suc n)) ≡ true → since (suc n) ≡ dispatched (at (suc n)).cycle (state_at x (at (suc n)))
  unfolding record_after
  since_dispatch n d = chosen _ _ d

  pub since_still : (n : ℕ) → is_dispatch x.interpreter (at (suc n)) ≡ false → since (suc n) ≡ carried x.interpreter.rom (held_at script) (at n) (since n)
  unfolding record_after
  since_still n d = passed _ _ d

  pub holds_next : (n : ℕ) → Holds n → is_stop x.interpreter (at (suc n)) ≡ false → Holds (suc n)
  holds_next n r runs = go (moves (at n) (since n) r)
    where
      stops : true ≡ false → ⊥
      stops e = cc

      go : Moves x script Running (carried x.interpreter.rom (held_at script) (at n) (since n)) (at (suc n)) → Holds (suc n)
      go (Still d z r') = subst (Running (at (suc n))) (sym (since_still n d)) r'
      go (Arrived d z i st due r') = subst (Running (at (suc n))) (sym (since_dispatch n d)) r'
      go (Halted z i stop st cycle) = absurd (stops (sym z ∙ runs))

  pub holds_behind : (m : ℕ) → Holds m → (r : ℕ) → Unstopped (suc (m + r)) → Holds (m + r)
  holds_behind m h zero u = subst Holds same h
    where
      same : m ≡ m + 0
      same = omega arith
  holds_behind m h (suc r) u = subst Holds more (holds_next (m + r) (holds_behind m h r (λ j l. u j (omega (arith, l)))) (u (suc (m + r)) (omega arith)))
    where
      more : suc (m + r) ≡ m + suc r
      more = omega arith

  -- from a dispatch point on
  pub holds_after : Running first (dispatched first.cycle (state_at x first)) → (n : ℕ) → Unstopped (suc n) → Holds n
  unfolding record_after
  holds_after r zero u = r
  holds_after r (suc n) u = holds_next n (holds_after r n (λ j l. u j (omega (arith, l)))) (u (suc n) (omega arith))
