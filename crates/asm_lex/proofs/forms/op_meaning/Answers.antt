use Rattle.std.proofs.Common.{ap, ◌∙◌}
use Rattle.std.specs.Prelude.{map}
use Rattle.asm_lex.specs.Names.{value_in}
use Rattle.asm_lex.specs.Spans.{text_at}
use Rattle.asm_lex.specs.Forms.{first_given, same_meaning, op_meaning}
use Rattle.asm_lex.proofs.forms.op_meaning.Goals as goal

pub returns : goal.returns
unfolding op_meaning
returns c =
    c.first_meaning.ensures
    ∙ ap (first_given (same_meaning (value_in c.args.names.now) c.args.named (map (text_at c.args.line.now) c.args.operands.now))) c.forms.ensures
