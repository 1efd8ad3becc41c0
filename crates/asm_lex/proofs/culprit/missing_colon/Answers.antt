use Rattle.std.proofs.Common.{sym, ◌∙◌}
use Rattle.asm_lex.proofs.Statements.{short_line}
use Rattle.asm_lex.proofs.culprit.missing_colon.Goals as goal

pub colon_in-requires : goal.colon_in-requires
colon_in-requires c = short_line c.args.line.now (sym c.has_bad_bytes.ensures ∙ c.if-has_bad_bytes.false)
