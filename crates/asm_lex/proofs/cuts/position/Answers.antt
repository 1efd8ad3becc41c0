use Rattle.std.proofs.Common.{arith, sym}
use Rattle.std.proofs.lemmas.List.Sums.{position_or_len_is}
use Rattle.asm_lex.specs.Cuts.{stops}
use Rattle.asm_lex.proofs.cuts.position.Goals as goal

pub returns-then-stops-clause-place : goal.returns-then-stops-clause-place
returns-then-stops-clause-place c =
    sym (position_or_len_is (stops c.args.stop) c.args.text.now c.loop-place.place 0 (omega arith) c.loop-place.invariant (λ below. cc))

pub returns-clause-place : goal.returns-clause-place
returns-clause-place c =
    sym (position_or_len_is (stops c.args.stop) c.args.text.now _ 0 (omega arith) (λ k below. c.loop-place.invariant k (omega arith))
    (λ below. absurd (omega arith)))
