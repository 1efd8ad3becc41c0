-- The ticks between two cycles, by arithmetic.
use Rattle.std.proofs.Common.{◌≡◌, ℕ, ◌+◌, ◌-◌, ◌/◌, ◌<◌, ◌≤◌, ◌⊎◌, inl, inr, refl, sym, ◌∙◌, arith, true, false}
use Rattle.std.specs.Prelude.{nat_lt, ◌&&◌}
use Rattle.std.proofs.lemmas.Bool.Decides.{nat_tests}
use Rattle.std.proofs.lemmas.Bool.{cases_lt, lt-ltb, and_parts}
use Rattle.machine.specs.Pictures.{interrupt_at}
use Rattle.machine.proofs.Counts.{count_from}
use Rattle.chip8_lang.specs.Between.{ticks_between}

-- the interrupts that have come by the cycle before e, less those by cycle a
abbrev pub ticks_passed : ℕ → ℕ → ℕ
ticks_passed a e = (e - 1 + 2576) / 3668 - (a + 2576) / 3668

pub ticks_counted : (a e : ℕ) → ticks_between a e ≡ ticks_passed a e
unfolding ticks_between
ticks_counted a e =
    count_from (λ m. nat_lt a (interrupt_at m) && nat_lt (interrupt_at m) e) ((a + 2576) / 3668) ((e - 1 + 2576) / 3668) passes fails e 0
    (omega arith) ∙ omega arith
  where
    passes : (m : ℕ) → (nat_lt a (interrupt_at m) && nat_lt (interrupt_at m) e) ≡ true → ((a + 2576) / 3668 ≤ m) × (m < (e - 1 + 2576) / 3668)
    passes m h =
        let both = and_parts (nat_lt a (interrupt_at m)) (nat_lt (interrupt_at m) e) h in
        let behind : a < interrupt_at m = grind (arith, nat_tests, both.0) in
        let before : interrupt_at m < e = grind (arith, nat_tests, both.1) in
        (omega (arith, behind), omega (arith, before))

    fails : (m : ℕ) → (nat_lt a (interrupt_at m) && nat_lt (interrupt_at m) e) ≡ false → (m < (a + 2576) / 3668) ⊎ ((e - 1 + 2576) / 3668 ≤ m)
    fails m h = go (cases_lt a (interrupt_at m)) (cases_lt (interrupt_at m) e)
      where
        both : a < interrupt_at m → interrupt_at m < e → (nat_lt a (interrupt_at m) && nat_lt (interrupt_at m) e) ≡ true
        both l k = rw (lt-ltb a (interrupt_at m) l, lt-ltb (interrupt_at m) e k) refl

        apart : true ≡ false → ⊥
        apart same = cc

        go : (a < interrupt_at m) ⊎ (interrupt_at m ≤ a) → (interrupt_at m < e) ⊎ (e ≤ interrupt_at m) → (m < (a + 2576) / 3668) ⊎ ((e - 1 + 2576) / 3668 ≤ m)
        go (inl l) (inl k) = absurd (apart (sym (both l k) ∙ h))
        go (inl l) (inr k) = inr (omega (arith, k))
        go (inr l) k = inl (omega (arith, l))
