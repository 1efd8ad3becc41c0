use Rattle.std.proofs.Common.{ℕ, eqb, arith, ap, sym}
use Rattle.std.proofs.lemmas.List.Sums.{position_or_len_is}
use Rattle.vip_byte.proofs.line.line_len.Goals as goal

pub returns-then-byte-eq10-clause-end : goal.returns-then-byte-eq10-clause-end
returns-then-byte-eq10-clause-end c =
    sym (position_or_len_is (λ (byte : ℕ). eqb byte 10) c.args.text.now c.loop-place.place 0 (omega arith) c.loop-place.invariant
    (λ within. ap (λ (byte : ℕ). eqb byte 10) c.if-byte-eq10.true))

pub returns-clause-end : goal.returns-clause-end
returns-clause-end c =
    sym (position_or_len_is (λ (byte : ℕ). eqb byte 10) c.args.text.now _ 0 (omega arith) (λ k lt. c.loop-place.invariant k (omega arith))
    (λ within. absurd (omega arith)))
