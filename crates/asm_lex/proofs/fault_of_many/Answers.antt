use Rattle.std.proofs.Common.{sym, ◌∙◌}
use Rattle.asm_lex.specs.Parts.{operands_in}
use Rattle.asm_lex.proofs.Many.{too_many}
use Rattle.asm_lex.proofs.Statements.{word_meaning-unknown, word_meaning-wrong}
use Rattle.asm_lex.proofs.fault_of_many.Goals as goal

pub returns-in-Some : goal.returns-in-Some
returns-in-Some c = λ names has_label text short many there. word_meaning-wrong c.args.isa names has_label
    (operands_in text) c.args.word.now c.in-Some.field-0 there
    (sym c.entry_of.ensures ∙ c.in-Some.is) (too_many c.args.isa names c.in-Some.field-0 has_label text short many)

pub returns-in-None : goal.returns-in-None
returns-in-None c =
    λ names has_label text short many there. word_meaning-unknown c.args.isa names has_label (operands_in text) c.args.word.now there
    (sym c.entry_of.ensures ∙ c.in-None.is)
