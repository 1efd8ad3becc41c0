use Rattle.std.proofs.Common.{◌∙◌, ap, length}
use Rattle.std.specs.Prelude.{◌==◌}
use Rattle.asm_lex.specs.Bytes.{is_allowed}
use Rattle.asm_lex.proofs.Splits.{all-position}
use Rattle.asm_lex.proofs.text.are_allowed.Goals as goal

pub returns : goal.returns
returns c = ap (λ n. n == length c.args.line.now) c.position.ensures.place ∙ all-position is_allowed c.args.line.now
