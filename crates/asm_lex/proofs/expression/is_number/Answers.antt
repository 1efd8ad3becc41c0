use Rattle.std.proofs.Common.{◌∙◌, sym, ap}
use Rattle.std.specs.List.{list_all}
use Rattle.asm_lex.specs.Expressions.{terms_of}
use Rattle.asm_lex.specs.Names.{value_in}
use Rattle.asm_lex.proofs.NumberTerms.{is_number_term, number_by_terms}
use Rattle.asm_lex.proofs.expression.is_number.Goals as goal

pub loop-rest-init : goal.loop-rest-init
loop-rest-init c =
    number_by_terms c.args.isa (value_in c.args.names.now) c.args.text.now
    ∙ ap (λ sum. list_all (is_number_term c.args.isa (value_in c.args.names.now)) (terms_of sum)) (sym c.without_prefix.ensures.value)
