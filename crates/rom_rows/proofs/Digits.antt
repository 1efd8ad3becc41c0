-- A fact on each of the sixteen digits.
use Rattle.std.proofs.Common.{ℕ, zero, suc, ◌<◌, arith}

module _ (P : ℕ → Type 0) (p0 : P 0) (p1 : P 1) (p2 : P 2) (p3 : P 3) (p4 : P 4) (p5 : P 5) (p6 : P 6) (p7 : P 7) (p8 : P 8) (p9 : P 9) (p10 : P 10) (p11 : P 11) (p12 : P 12) (p13 : P 13) (p14 : P 14) (p15 : P 15) where
  pub by_digit : (d : ℕ) → d < 16 → P d
  by_digit zero l = p0
  by_digit (suc zero) l = p1
  by_digit (suc (suc zero)) l = p2
  by_digit (suc (suc (suc zero))) l = p3
  by_digit (suc (suc (suc (suc zero)))) l = p4
  by_digit (suc (suc (suc (suc (suc zero))))) l = p5
  by_digit (suc (suc (suc (suc (suc (suc zero)))))) l = p6
  by_digit (suc (suc (suc (suc (suc (suc (suc zero))))))) l = p7
  by_digit (suc (suc (suc (suc (suc (suc (suc (suc zero)))))))) l = p8
  by_digit (suc (suc (suc (suc (suc (suc (suc (suc (suc zero))))))))) l = p9
  by_digit (suc (suc (suc (suc (suc (suc (suc (suc (suc (suc zero)))))))))) l = p10
  by_digit (suc (suc (suc (suc (suc (suc (suc (suc (suc (suc (suc zero))))))))))) l = p11
  by_digit (suc (suc (suc (suc (suc (suc (suc (suc (suc (suc (suc (suc zero)))))))))))) l = p12
  by_digit (suc (suc (suc (suc (suc (suc (suc (suc (suc (suc (suc (suc (suc zero))))))))))))) l = p13
  by_digit (suc (suc (suc (suc (suc (suc (suc (suc (suc (suc (suc (suc (suc (suc zero)))))))))))))) l = p14
  by_digit (suc (suc (suc (suc (suc (suc (suc (suc (suc (suc (suc (suc (suc (suc (suc zero))))))))))))))) l = p15
  by_digit (suc (suc (suc (suc (suc (suc (suc (suc (suc (suc (suc (suc (suc (suc (suc (suc n)))))))))))))))) l = absurd (omega (arith, l))
