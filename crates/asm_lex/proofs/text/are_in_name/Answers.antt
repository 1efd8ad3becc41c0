use Rattle.std.proofs.Common.{◌∙◌, ap, length}
use Rattle.std.specs.Prelude.{◌==◌}
use Rattle.asm_lex.specs.Bytes.{is_in_name}
use Rattle.asm_lex.proofs.Splits.{all-position}
use Rattle.asm_lex.proofs.text.are_in_name.Goals as goal

pub returns : goal.returns
returns c = ap (λ n. n == length c.args.text.now) c.position.ensures.place ∙ all-position is_in_name c.args.text.now
