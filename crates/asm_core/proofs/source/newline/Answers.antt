use Rattle.std.proofs.Common.{arith, sym}
use Rattle.std.proofs.lemmas.List.Sums.{position_or_len_is}
use Rattle.std.proofs.lemmas.Bool.{eq-eqb}
use Rattle.asm_core.specs.Cuts.{is_newline}
use Rattle.asm_core.proofs.source.newline.Goals as goal

pub returns-then-byte-eq10-clause-place : goal.returns-then-byte-eq10-clause-place
returns-then-byte-eq10-clause-place c =
    sym (position_or_len_is is_newline c.args.text.now c.loop-place.place 0 (omega arith) c.loop-place.invariant (λ below. eq-eqb _ 10 c.if-byte-eq10.true))

pub returns-clause-place : goal.returns-clause-place
returns-clause-place c =
    sym (position_or_len_is is_newline c.args.text.now _ 0 (omega arith) (λ k below. c.loop-place.invariant k (omega arith)) (λ below. absurd (omega arith)))
