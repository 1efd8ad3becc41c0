use Rattle.std.proofs.Common.{◌≡◌, drop}
use Rattle.std.specs.Prelude.{map}
use Rattle.asm_lex.specs.Names.{value_in}
use Rattle.asm_lex.specs.Spans.{text_at}
use Rattle.asm_lex.specs.Forms.{first_given, same_meaning}
use Rattle.asm_lex.proofs.forms.first_meaning.Given as goal

-- the operands mean what they do in the forms that are left
abbrev pub invariant-loop-form : goal.invariant-loop-form
invariant-loop-form l =
    first_given (same_meaning (value_in l.names) l.named (map (text_at l.line) l.operands)) (drop l.form-index l.forms)
    ≡ first_given (same_meaning (value_in l.names) l.named (map (text_at l.line) l.operands)) l.forms
