use Rattle.std.proofs.Common.{arith, sym}
use Rattle.std.proofs.lemmas.List.Sums.{prefix_len_is}
use Rattle.vip_byte.specs.Text.{is_blank}
use Rattle.asm_lex.proofs.cuts.leading_blanks.Goals as goal

pub returns-then-not-is_blank-clause-count : goal.returns-then-not-is_blank-clause-count
returns-then-not-is_blank-clause-count c =
    sym (prefix_len_is is_blank c.args.text.now c.loop-place.place 0 (omega arith) c.loop-place.invariant (λ below. grind arith))

pub returns-clause-count : goal.returns-clause-count
returns-clause-count c =
    sym (prefix_len_is is_blank c.args.text.now _ 0 (omega arith) (λ k below. c.loop-place.invariant k (omega arith)) (λ below. absurd (omega arith)))
