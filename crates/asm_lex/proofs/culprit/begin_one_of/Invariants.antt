use Rattle.std.proofs.Common.{◌≡◌, drop}
use Rattle.std.specs.Prelude.{map}
use Rattle.std.specs.List.{list_any}
use Rattle.asm_lex.specs.Names.{value_in}
use Rattle.asm_lex.specs.Spans.{text_at}
use Rattle.asm_lex.specs.Culprits.{begin_form}
use Rattle.asm_lex.proofs.culprit.begin_one_of.Given as goal

-- the operands may begin those of a form exactly where they may of one that is left
abbrev pub invariant-loop-form : goal.invariant-loop-form
invariant-loop-form l =
    list_any (begin_form (value_in l.names) l.named (map (text_at l.line) l.operands)) (drop l.form-index l.forms)
    ≡ list_any (begin_form (value_in l.names) l.named (map (text_at l.line) l.operands)) l.forms
