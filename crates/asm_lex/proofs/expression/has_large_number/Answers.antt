use Rattle.std.proofs.Common.{sym, ap}
use Rattle.std.specs.List.{list_any}
use Rattle.asm_lex.specs.Expressions.{has_large_number, is_large, terms_of}
use Rattle.asm_lex.proofs.expression.has_large_number.Goals as goal

pub loop-rest-init : goal.loop-rest-init
unfolding has_large_number
loop-rest-init c = ap (λ sum. list_any (is_large c.args.isa) (terms_of sum)) (sym c.without_prefix.ensures.value)
