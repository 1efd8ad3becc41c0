use Rattle.std.proofs.Common.{arith, sym}
use Rattle.std.proofs.lemmas.List.Sums.{position_or_len_is}
use Rattle.asm_lex.specs.Bytes.{is_semicolon}
use Rattle.asm_listing.proofs.comments.code_end.Goals as goal

pub returns-then-is_semicolon-clause-place : goal.returns-then-is_semicolon-clause-place
returns-then-is_semicolon-clause-place c =
    sym (position_or_len_is is_semicolon c.args.line.now c.loop-place.place 0 (omega arith) c.loop-place.invariant (λ below. cc))

pub returns-clause-place : goal.returns-clause-place
returns-clause-place c =
    sym (position_or_len_is is_semicolon c.args.line.now _ 0 (omega arith) (λ k below. c.loop-place.invariant k (omega arith))
    (λ below. absurd (omega arith)))
