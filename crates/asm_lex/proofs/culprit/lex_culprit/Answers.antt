use Rattle.std.proofs.Common.{sym, ◌∙◌}
use Rattle.asm_lex.proofs.Statements.{short_line}
use Rattle.asm_lex.proofs.culprit.lex_culprit.Goals as goal

pub code_culprit-requires : goal.code_culprit-requires
code_culprit-requires c = short_line c.args.line.now (sym c.has_bad_bytes.ensures ∙ c.if-has_bad_bytes.false)
