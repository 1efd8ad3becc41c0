use Rattle.asm_lex.proofs.Splits.{part_of_part}
use Rattle.asm_lex.proofs.spans.part.Goals as goal

pub returns-clause-text : goal.returns-clause-text
returns-clause-text c = λ line. part_of_part line c.args.span.from c.args.span.to c.args.skip c.args.keep c.requires
