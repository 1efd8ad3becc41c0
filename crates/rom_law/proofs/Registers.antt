-- What ticks leave of the registers.
use Rattle.std.proofs.Common.{◌≡◌, ℕ, ◌+◌, ◌<◌, ◌≤◌, refl, sym, arith, Bool, true, false, zero, suc, le_refl, ◌⊎◌, inl, inr, true≢false}
use Rattle.std.proofs.lemmas.Bool.{cases_eq, cases_lt}
use Rattle.machine.specs.Bank.{Word, value, Bank, get, put}
use Rattle.rom_law.specs.Later.{later_bank}

-- ---- registers that ticks leave, but for R1, which main code doesn't use; and those of them but R2

abbrev pub is_kept : ℕ → Bool
is_kept zero = false
is_kept (suc zero) = false
is_kept (suc (suc zero)) = true
is_kept (suc (suc (suc zero))) = true
is_kept (suc (suc (suc (suc zero)))) = true
is_kept (suc (suc (suc (suc (suc zero))))) = true
is_kept (suc (suc (suc (suc (suc (suc zero)))))) = true
is_kept (suc (suc (suc (suc (suc (suc (suc zero))))))) = true
is_kept (suc (suc (suc (suc (suc (suc (suc (suc zero)))))))) = false
is_kept (suc (suc (suc (suc (suc (suc (suc (suc (suc zero))))))))) = false
is_kept (suc (suc (suc (suc (suc (suc (suc (suc (suc (suc zero)))))))))) = true
is_kept (suc (suc (suc (suc (suc (suc (suc (suc (suc (suc (suc zero))))))))))) = true
is_kept (suc (suc (suc (suc (suc (suc (suc (suc (suc (suc (suc (suc zero)))))))))))) = true
is_kept (suc (suc (suc (suc (suc (suc (suc (suc (suc (suc (suc (suc (suc zero))))))))))))) = true
is_kept (suc (suc (suc (suc (suc (suc (suc (suc (suc (suc (suc (suc (suc (suc zero)))))))))))))) = true
is_kept (suc (suc (suc (suc (suc (suc (suc (suc (suc (suc (suc (suc (suc (suc (suc n))))))))))))))) = false

abbrev pub is_plain : ℕ → Bool
is_plain zero = false
is_plain (suc zero) = false
is_plain (suc (suc zero)) = false
is_plain (suc (suc (suc zero))) = true
is_plain (suc (suc (suc (suc zero)))) = true
is_plain (suc (suc (suc (suc (suc zero))))) = true
is_plain (suc (suc (suc (suc (suc (suc zero)))))) = true
is_plain (suc (suc (suc (suc (suc (suc (suc zero))))))) = true
is_plain (suc (suc (suc (suc (suc (suc (suc (suc zero)))))))) = false
is_plain (suc (suc (suc (suc (suc (suc (suc (suc (suc zero))))))))) = false
is_plain (suc (suc (suc (suc (suc (suc (suc (suc (suc (suc zero)))))))))) = true
is_plain (suc (suc (suc (suc (suc (suc (suc (suc (suc (suc (suc zero))))))))))) = true
is_plain (suc (suc (suc (suc (suc (suc (suc (suc (suc (suc (suc (suc zero)))))))))))) = true
is_plain (suc (suc (suc (suc (suc (suc (suc (suc (suc (suc (suc (suc (suc zero))))))))))))) = true
is_plain (suc (suc (suc (suc (suc (suc (suc (suc (suc (suc (suc (suc (suc (suc zero)))))))))))))) = true
is_plain (suc (suc (suc (suc (suc (suc (suc (suc (suc (suc (suc (suc (suc (suc (suc n))))))))))))))) = false

false≢true : {X : Type 0} → false ≡ true → X
false≢true e = absurd (true≢false (sym e))

pub kept_of_plain : (k : ℕ) → is_plain k ≡ true → is_kept k ≡ true
kept_of_plain zero e = false≢true e
kept_of_plain (suc zero) e = false≢true e
kept_of_plain (suc (suc zero)) e = false≢true e
kept_of_plain (suc (suc (suc zero))) e = refl
kept_of_plain (suc (suc (suc (suc zero)))) e = refl
kept_of_plain (suc (suc (suc (suc (suc zero))))) e = refl
kept_of_plain (suc (suc (suc (suc (suc (suc zero)))))) e = refl
kept_of_plain (suc (suc (suc (suc (suc (suc (suc zero))))))) e = refl
kept_of_plain (suc (suc (suc (suc (suc (suc (suc (suc zero)))))))) e = false≢true e
kept_of_plain (suc (suc (suc (suc (suc (suc (suc (suc (suc zero))))))))) e = false≢true e
kept_of_plain (suc (suc (suc (suc (suc (suc (suc (suc (suc (suc zero)))))))))) e = refl
kept_of_plain (suc (suc (suc (suc (suc (suc (suc (suc (suc (suc (suc zero))))))))))) e = refl
kept_of_plain (suc (suc (suc (suc (suc (suc (suc (suc (suc (suc (suc (suc zero)))))))))))) e = refl
kept_of_plain (suc (suc (suc (suc (suc (suc (suc (suc (suc (suc (suc (suc (suc zero))))))))))))) e = refl
kept_of_plain (suc (suc (suc (suc (suc (suc (suc (suc (suc (suc (suc (suc (suc (suc zero)))))))))))))) e = refl
kept_of_plain (suc (suc (suc (suc (suc (suc (suc (suc (suc (suc (suc (suc (suc (suc (suc n))))))))))))))) e = false≢true e

pub get-later : (k n : ℕ) (v w : Word) (r : Bank) → is_kept k ≡ true → get (later_bank n v w r) k ≡ get r k
get-later zero n v w r e = false≢true e
get-later (suc zero) n v w r e = refl
get-later (suc (suc zero)) n v w r e = refl
get-later (suc (suc (suc zero))) n v w r e = refl
get-later (suc (suc (suc (suc zero)))) n v w r e = refl
get-later (suc (suc (suc (suc (suc zero))))) n v w r e = refl
get-later (suc (suc (suc (suc (suc (suc zero)))))) n v w r e = refl
get-later (suc (suc (suc (suc (suc (suc (suc zero))))))) n v w r e = refl
get-later (suc (suc (suc (suc (suc (suc (suc (suc zero)))))))) n v w r e = false≢true e
get-later (suc (suc (suc (suc (suc (suc (suc (suc (suc zero))))))))) n v w r e = false≢true e
get-later (suc (suc (suc (suc (suc (suc (suc (suc (suc (suc zero)))))))))) n v w r e = refl
get-later (suc (suc (suc (suc (suc (suc (suc (suc (suc (suc (suc zero))))))))))) n v w r e = refl
get-later (suc (suc (suc (suc (suc (suc (suc (suc (suc (suc (suc (suc zero)))))))))))) n v w r e = refl
get-later (suc (suc (suc (suc (suc (suc (suc (suc (suc (suc (suc (suc (suc zero))))))))))))) n v w r e = refl
get-later (suc (suc (suc (suc (suc (suc (suc (suc (suc (suc (suc (suc (suc (suc zero)))))))))))))) n v w r e = refl
get-later (suc (suc (suc (suc (suc (suc (suc (suc (suc (suc (suc (suc (suc (suc (suc m))))))))))))))) n v w r e = false≢true e

pub put-later : (k n : ℕ) (v w : Word) (r : Bank) (y : Word) → is_kept k ≡ true → put (later_bank n v w r) k y ≡ later_bank n v w (put r k y)
put-later zero n v w r y e = false≢true e
put-later (suc zero) n v w r y e = refl
put-later (suc (suc zero)) n v w r y e = refl
put-later (suc (suc (suc zero))) n v w r y e = refl
put-later (suc (suc (suc (suc zero)))) n v w r y e = refl
put-later (suc (suc (suc (suc (suc zero))))) n v w r y e = refl
put-later (suc (suc (suc (suc (suc (suc zero)))))) n v w r y e = refl
put-later (suc (suc (suc (suc (suc (suc (suc zero))))))) n v w r y e = refl
put-later (suc (suc (suc (suc (suc (suc (suc (suc zero)))))))) n v w r y e = false≢true e
put-later (suc (suc (suc (suc (suc (suc (suc (suc (suc zero))))))))) n v w r y e = false≢true e
put-later (suc (suc (suc (suc (suc (suc (suc (suc (suc (suc zero)))))))))) n v w r y e = refl
put-later (suc (suc (suc (suc (suc (suc (suc (suc (suc (suc (suc zero))))))))))) n v w r y e = refl
put-later (suc (suc (suc (suc (suc (suc (suc (suc (suc (suc (suc (suc zero)))))))))))) n v w r y e = refl
put-later (suc (suc (suc (suc (suc (suc (suc (suc (suc (suc (suc (suc (suc zero))))))))))))) n v w r y e = refl
put-later (suc (suc (suc (suc (suc (suc (suc (suc (suc (suc (suc (suc (suc (suc zero)))))))))))))) n v w r y e = refl
put-later (suc (suc (suc (suc (suc (suc (suc (suc (suc (suc (suc (suc (suc (suc (suc m))))))))))))))) n v w r y e = false≢true e

pub put-r2 : (k : ℕ) (r : Bank) (y : Word) → is_plain k ≡ true → (put r k y).r2 ≡ r.r2
put-r2 zero r y e = false≢true e
put-r2 (suc zero) r y e = refl
put-r2 (suc (suc zero)) r y e = false≢true e
put-r2 (suc (suc (suc zero))) r y e = refl
put-r2 (suc (suc (suc (suc zero)))) r y e = refl
put-r2 (suc (suc (suc (suc (suc zero))))) r y e = refl
put-r2 (suc (suc (suc (suc (suc (suc zero)))))) r y e = refl
put-r2 (suc (suc (suc (suc (suc (suc (suc zero))))))) r y e = refl
put-r2 (suc (suc (suc (suc (suc (suc (suc (suc zero)))))))) r y e = false≢true e
put-r2 (suc (suc (suc (suc (suc (suc (suc (suc (suc zero))))))))) r y e = false≢true e
put-r2 (suc (suc (suc (suc (suc (suc (suc (suc (suc (suc zero)))))))))) r y e = refl
put-r2 (suc (suc (suc (suc (suc (suc (suc (suc (suc (suc (suc zero))))))))))) r y e = refl
put-r2 (suc (suc (suc (suc (suc (suc (suc (suc (suc (suc (suc (suc zero)))))))))))) r y e = refl
put-r2 (suc (suc (suc (suc (suc (suc (suc (suc (suc (suc (suc (suc (suc zero))))))))))))) r y e = refl
put-r2 (suc (suc (suc (suc (suc (suc (suc (suc (suc (suc (suc (suc (suc (suc zero)))))))))))))) r y e = refl
put-r2 (suc (suc (suc (suc (suc (suc (suc (suc (suc (suc (suc (suc (suc (suc (suc m))))))))))))))) r y e = false≢true e

pub put-r8 : (k : ℕ) (r : Bank) (y : Word) → is_kept k ≡ true → (put r k y).r8 ≡ r.r8
put-r8 zero r y e = false≢true e
put-r8 (suc zero) r y e = refl
put-r8 (suc (suc zero)) r y e = refl
put-r8 (suc (suc (suc zero))) r y e = refl
put-r8 (suc (suc (suc (suc zero)))) r y e = refl
put-r8 (suc (suc (suc (suc (suc zero))))) r y e = refl
put-r8 (suc (suc (suc (suc (suc (suc zero)))))) r y e = refl
put-r8 (suc (suc (suc (suc (suc (suc (suc zero))))))) r y e = refl
put-r8 (suc (suc (suc (suc (suc (suc (suc (suc zero)))))))) r y e = false≢true e
put-r8 (suc (suc (suc (suc (suc (suc (suc (suc (suc zero))))))))) r y e = false≢true e
put-r8 (suc (suc (suc (suc (suc (suc (suc (suc (suc (suc zero)))))))))) r y e = refl
put-r8 (suc (suc (suc (suc (suc (suc (suc (suc (suc (suc (suc zero))))))))))) r y e = refl
put-r8 (suc (suc (suc (suc (suc (suc (suc (suc (suc (suc (suc (suc zero)))))))))))) r y e = refl
put-r8 (suc (suc (suc (suc (suc (suc (suc (suc (suc (suc (suc (suc (suc zero))))))))))))) r y e = refl
put-r8 (suc (suc (suc (suc (suc (suc (suc (suc (suc (suc (suc (suc (suc (suc zero)))))))))))))) r y e = refl
put-r8 (suc (suc (suc (suc (suc (suc (suc (suc (suc (suc (suc (suc (suc (suc (suc m))))))))))))))) r y e = false≢true e

pub put-r1 : (k : ℕ) (r : Bank) (y : Word) → is_kept k ≡ true → (put r k y).r1 ≡ r.r1
put-r1 (suc zero) r y e = false≢true e
put-r1 (suc (suc (suc (suc (suc (suc (suc (suc (suc (suc (suc (suc (suc (suc (suc m))))))))))))))) r y e = refl
put-r1 _ r y e = refl

-- what is asked of R2, where the register is R2
abbrev pub of_r2 : ℕ → Type 0 → Type 0
of_r2 zero X = Unit {0}
of_r2 (suc zero) X = Unit {0}
of_r2 (suc (suc zero)) X = X
of_r2 (suc (suc (suc zero))) X = Unit {0}
of_r2 (suc (suc (suc (suc zero)))) X = Unit {0}
of_r2 (suc (suc (suc (suc (suc zero))))) X = Unit {0}
of_r2 (suc (suc (suc (suc (suc (suc zero)))))) X = Unit {0}
of_r2 (suc (suc (suc (suc (suc (suc (suc zero))))))) X = Unit {0}
of_r2 (suc (suc (suc (suc (suc (suc (suc (suc zero)))))))) X = Unit {0}
of_r2 (suc (suc (suc (suc (suc (suc (suc (suc (suc zero))))))))) X = Unit {0}
of_r2 (suc (suc (suc (suc (suc (suc (suc (suc (suc (suc zero)))))))))) X = Unit {0}
of_r2 (suc (suc (suc (suc (suc (suc (suc (suc (suc (suc (suc zero))))))))))) X = Unit {0}
of_r2 (suc (suc (suc (suc (suc (suc (suc (suc (suc (suc (suc (suc zero)))))))))))) X = Unit {0}
of_r2 (suc (suc (suc (suc (suc (suc (suc (suc (suc (suc (suc (suc (suc zero))))))))))))) X = Unit {0}
of_r2 (suc (suc (suc (suc (suc (suc (suc (suc (suc (suc (suc (suc (suc (suc zero)))))))))))))) X = Unit {0}
of_r2 (suc (suc (suc (suc (suc (suc (suc (suc (suc (suc (suc (suc (suc (suc (suc n))))))))))))))) X = Unit {0}

pub r2_grows : (k : ℕ) (r : Bank) (y : Word) → is_kept k ≡ true → of_r2 k (value r.r2 ≤ value y) → value r.r2 ≤ value (put r k y).r2
r2_grows zero r y e h = false≢true e
r2_grows (suc zero) r y e h = le_refl (value r.r2)
r2_grows (suc (suc zero)) r y e h = h
r2_grows (suc (suc (suc zero))) r y e h = le_refl (value r.r2)
r2_grows (suc (suc (suc (suc zero)))) r y e h = le_refl (value r.r2)
r2_grows (suc (suc (suc (suc (suc zero))))) r y e h = le_refl (value r.r2)
r2_grows (suc (suc (suc (suc (suc (suc zero)))))) r y e h = le_refl (value r.r2)
r2_grows (suc (suc (suc (suc (suc (suc (suc zero))))))) r y e h = le_refl (value r.r2)
r2_grows (suc (suc (suc (suc (suc (suc (suc (suc zero)))))))) r y e h = false≢true e
r2_grows (suc (suc (suc (suc (suc (suc (suc (suc (suc zero))))))))) r y e h = false≢true e
r2_grows (suc (suc (suc (suc (suc (suc (suc (suc (suc (suc zero)))))))))) r y e h = le_refl (value r.r2)
r2_grows (suc (suc (suc (suc (suc (suc (suc (suc (suc (suc (suc zero))))))))))) r y e h = le_refl (value r.r2)
r2_grows (suc (suc (suc (suc (suc (suc (suc (suc (suc (suc (suc (suc zero)))))))))))) r y e h = le_refl (value r.r2)
r2_grows (suc (suc (suc (suc (suc (suc (suc (suc (suc (suc (suc (suc (suc zero))))))))))))) r y e h = le_refl (value r.r2)
r2_grows (suc (suc (suc (suc (suc (suc (suc (suc (suc (suc (suc (suc (suc (suc zero)))))))))))))) r y e h = le_refl (value r.r2)
r2_grows (suc (suc (suc (suc (suc (suc (suc (suc (suc (suc (suc (suc (suc (suc (suc m))))))))))))))) r y e h = false≢true e

falls_2 : (low m n a : ℕ) → m ≤ n + 1 → (low ≤ a → n < a) → (low ≤ a → m < a) ⊎ (a ≡ m)
falls_2 low m n a h l = go (cases_lt m a) (cases_lt a low) (cases_eq a m)
  where
    go : (m < a) ⊎ (a ≤ m) → (a < low) ⊎ (low ≤ a) → (a ≡ m) ⊎ (a ≡ m → ⊥) → (low ≤ a → m < a) ⊎ (a ≡ m)
    go (inl x) y z = inl (λ k. x)
    go (inr x) (inl y) z = inl (λ k. absurd (omega arith))
    go (inr x) (inr y) (inl z) = inr z
    go (inr x) (inr y) (inr z) = absurd (z (omega (arith, l y)))

-- after a push: what lies above R2 lay above it before, or was written
pub r2_falls : (low k : ℕ) (r : Bank) (y : Word) (a : ℕ) → is_kept k ≡ true → of_r2 k (value r.r2 ≤ value y + 1)
    → (low ≤ a → value (put r k y).r2 < a) → (low ≤ a → value r.r2 < a) ⊎ (a ≡ value (get r k))
r2_falls low zero r y a e h l = false≢true e
r2_falls low (suc zero) r y a e h l = inl l
r2_falls low (suc (suc zero)) r y a e h l = falls_2 low (value r.r2) (value y) a h l
r2_falls low (suc (suc (suc zero))) r y a e h l = inl l
r2_falls low (suc (suc (suc (suc zero)))) r y a e h l = inl l
r2_falls low (suc (suc (suc (suc (suc zero))))) r y a e h l = inl l
r2_falls low (suc (suc (suc (suc (suc (suc zero)))))) r y a e h l = inl l
r2_falls low (suc (suc (suc (suc (suc (suc (suc zero))))))) r y a e h l = inl l
r2_falls low (suc (suc (suc (suc (suc (suc (suc (suc zero)))))))) r y a e h l = false≢true e
r2_falls low (suc (suc (suc (suc (suc (suc (suc (suc (suc zero))))))))) r y a e h l = false≢true e
r2_falls low (suc (suc (suc (suc (suc (suc (suc (suc (suc (suc zero)))))))))) r y a e h l = inl l
r2_falls low (suc (suc (suc (suc (suc (suc (suc (suc (suc (suc (suc zero))))))))))) r y a e h l = inl l
r2_falls low (suc (suc (suc (suc (suc (suc (suc (suc (suc (suc (suc (suc zero)))))))))))) r y a e h l = inl l
r2_falls low (suc (suc (suc (suc (suc (suc (suc (suc (suc (suc (suc (suc (suc zero))))))))))))) r y a e h l = inl l
r2_falls low (suc (suc (suc (suc (suc (suc (suc (suc (suc (suc (suc (suc (suc (suc zero)))))))))))))) r y a e h l = inl l
r2_falls low (suc (suc (suc (suc (suc (suc (suc (suc (suc (suc (suc (suc (suc (suc (suc m))))))))))))))) r y a e h l = false≢true e

-- a register that was put is there
pub get_put : (k : ℕ) (r : Bank) (w : Word) → get (put r k w) k ≡ w
get_put zero r w = refl
get_put (suc zero) r w = refl
get_put (suc (suc zero)) r w = refl
get_put (suc (suc (suc zero))) r w = refl
get_put (suc (suc (suc (suc zero)))) r w = refl
get_put (suc (suc (suc (suc (suc zero))))) r w = refl
get_put (suc (suc (suc (suc (suc (suc zero)))))) r w = refl
get_put (suc (suc (suc (suc (suc (suc (suc zero))))))) r w = refl
get_put (suc (suc (suc (suc (suc (suc (suc (suc zero)))))))) r w = refl
get_put (suc (suc (suc (suc (suc (suc (suc (suc (suc zero))))))))) r w = refl
get_put (suc (suc (suc (suc (suc (suc (suc (suc (suc (suc zero)))))))))) r w = refl
get_put (suc (suc (suc (suc (suc (suc (suc (suc (suc (suc (suc zero))))))))))) r w = refl
get_put (suc (suc (suc (suc (suc (suc (suc (suc (suc (suc (suc (suc zero)))))))))))) r w = refl
get_put (suc (suc (suc (suc (suc (suc (suc (suc (suc (suc (suc (suc (suc zero))))))))))))) r w = refl
get_put (suc (suc (suc (suc (suc (suc (suc (suc (suc (suc (suc (suc (suc (suc zero)))))))))))))) r w = refl
get_put (suc (suc (suc (suc (suc (suc (suc (suc (suc (suc (suc (suc (suc (suc (suc k))))))))))))))) r w = refl
