use Rattle.std.proofs.Common.{arith, sym, ◌∙◌}
use Rattle.std.proofs.lemmas.List.Sums.{position_or_len_is}
use Rattle.vip_byte.specs.Text.{is_blank}
use Rattle.vip_byte.proofs.line.word_len.Goals as goal

pub returns-then-is_blank-clause-end : goal.returns-then-is_blank-clause-end
returns-then-is_blank-clause-end c =
    sym (position_or_len_is is_blank c.args.line.now c.loop-place.place 0 (omega arith) c.loop-place.invariant
    (λ within. sym c.is_blank.ensures ∙ c.if-is_blank.true))

pub returns-clause-end : goal.returns-clause-end
returns-clause-end c =
    sym (position_or_len_is is_blank c.args.line.now _ 0 (omega arith) (λ k lt. c.loop-place.invariant k (omega arith)) (λ within. absurd (omega arith)))
