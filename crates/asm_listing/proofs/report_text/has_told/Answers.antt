use Rattle.std.proofs.Common.{◌∙◌}
use Rattle.asm_core.specs.Told.{told}
use Rattle.asm_listing.proofs.Listings.{any-each}
use Rattle.asm_listing.proofs.report_text.has_told.Goals as goal

pub returns : goal.returns
returns c = λ isa source are. c.is_any_told.ensures ∙ any-each (told isa source) c.args.found.now _ are.count are.each
