use Rattle.std.proofs.Common.{arith}
use Rattle.std.proofs.lemmas.List.{take_rest}
use Rattle.asm_lex.specs.Expressions.{is_sign}
use Rattle.asm_lex.proofs.Splits.{slice_split_whole, slice_split_cut, signed_whole, signed_cut}
use Rattle.asm_lex.proofs.expression.first_term.Goals as goal

pub returns-then-end-sum-clause-terms : goal.returns-then-end-sum-clause-terms
returns-then-end-sum-clause-terms c = slice_split_whole is_sign c.args.sum.now (omega arith)

pub returns-then-end-sum-clause-signed : goal.returns-then-end-sum-clause-signed
returns-then-end-sum-clause-signed c = λ sign. signed_whole sign c.args.sum.now (omega arith)

pub returns-else-end-sum-clause-terms : goal.returns-else-end-sum-clause-terms
returns-else-end-sum-clause-terms c = rw (take_rest c.args.sum.now, c.position-end.ensures.place) (slice_split_cut is_sign c.args.sum.now (omega arith))

pub returns-else-end-sum-clause-signed : goal.returns-else-end-sum-clause-signed
returns-else-end-sum-clause-signed c = λ sign. rw (take_rest c.args.sum.now, c.position-end.ensures.place) (signed_cut sign c.args.sum.now (omega arith))
