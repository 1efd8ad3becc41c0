use Rattle.std.proofs.lemmas.List.Elements.{All-get_or}
use Rattle.asm_lex.specs.Spans.{IsWithin}
use Rattle.asm_listing.specs.Told.{no_span}
use Rattle.asm_listing.proofs.report_text.span_at.Goals as goal

pub returns-clause-within : goal.returns-clause-within
returns-clause-within c = All-get_or (IsWithin c.args.line.now) c.args.spans.now c.args.k no_span c.requires.inside c.requires.within
