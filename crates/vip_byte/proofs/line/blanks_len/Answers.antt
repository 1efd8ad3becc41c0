use Rattle.std.proofs.Common.{arith, sym, ◌∙◌}
use Rattle.vip_byte.specs.Text.{is_blank}
use Rattle.vip_byte.proofs.TextLemmas.{prefix_len_is}
use Rattle.vip_byte.proofs.line.blanks_len.Goals as goal

pub returns-then-not-is_blank-clause-end : goal.returns-then-not-is_blank-clause-end
returns-then-not-is_blank-clause-end c =
    prefix_len_is is_blank c.args.line.now c.loop-place.place (omega arith) c.loop-place.invariant
    (λ within. sym c.is_blank.ensures ∙ c.if-not-is_blank.true)

pub returns-clause-end : goal.returns-clause-end
returns-clause-end c =
    prefix_len_is is_blank c.args.line.now _ (omega arith) (λ k lt. c.loop-place.invariant k (omega arith)) (λ within. absurd (omega arith))
