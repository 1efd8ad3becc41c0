use Rattle.std.proofs.Common.{◌≡◌, drop}
use Rattle.std.specs.List.{list_any}
use Rattle.asm_lex.specs.Names.{value_in}
use Rattle.asm_lex.specs.Operands.{takes_at}
use Rattle.asm_lex.proofs.operand.some_takes.Given as goal

-- a form takes the text exactly where one that is left does
abbrev pub invariant-loop-form : goal.invariant-loop-form
invariant-loop-form l =
    list_any (takes_at (value_in l.names) l.named l.k l.text) (drop l.form-index l.forms)
    ≡ list_any (takes_at (value_in l.names) l.named l.k l.text) l.forms
