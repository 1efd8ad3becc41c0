use Rattle.std.proofs.Common.{ap, ◌∙◌}
use Rattle.std.specs.Prelude.{map}
use Rattle.std.specs.List.{list_any}
use Rattle.asm_lex.specs.Names.{value_in}
use Rattle.asm_lex.specs.Spans.{text_at}
use Rattle.asm_lex.specs.Culprits.{begin_form}
use Rattle.asm_lex.proofs.culprit.begin_words.Goals as goal

pub returns : goal.returns
returns c =
    c.begin_one_of.ensures
    ∙ ap (list_any (begin_form (value_in c.args.names.now) c.args.named (map (text_at c.args.line.now) c.args.operands.now))) c.forms.ensures
