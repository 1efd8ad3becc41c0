use Rattle.std.proofs.Common.{◌∙◌, ap, length, sym}
use Rattle.asm_core.specs.Sources.{source_lines}
use Rattle.asm_core.proofs.Placing.{made-told}
use Rattle.asm_core.proofs.origins.Origins.told.Goals as goal

pub returns-clause-origins : goal.returns-clause-origins
returns-clause-origins c = λ isa is.
    made-told isa (source_lines c.args.text.now) c.args.made is (ap length (sym c.into_parts-names.ensures.cells) ∙ c.into_parts-names.ensures.count) _ _ _
    (c.in_ok-labels.ensures isa is) c.into_parts-names.ensures.cells c.in_ok-texts.ensures
