use Rattle.std.proofs.Common.{◌∙◌, ap, length, sym}
use Rattle.asm_core.specs.Origins.{shown_texts}
use Rattle.asm_core.specs.Sources.{source_lines}
use Rattle.asm_core.proofs.Placing.{made-origins}
use Rattle.asm_core.proofs.origins.Origins.of.Goals as goal

pub returns-clause-origins : goal.returns-clause-origins
returns-clause-origins c = λ isa is.
    made-origins isa (source_lines c.args.text.now) c.args.made is (ap length (sym c.into_parts-names.ensures.cells) ∙ c.into_parts-names.ensures.count) _ _ _
    (c.in_ok-labels.ensures isa is) c.into_parts-names.ensures.cells (ap shown_texts c.new-texts.ensures.items)
