use Rattle.std.proofs.Common.{◌∙◌, sym}
use Rattle.chip8_image.specs.declared.map.TheConstants.{AREAS}
use Rattle.chip8_image.proofs.Search.{passed, met}
use Rattle.chip8_image.proofs.part.Goals as goal

pub loop-area-preserved : goal.loop-area-preserved
loop-area-preserved c =
    passed AREAS c.loop-area.area-index c.args.address _ c.loop-area-test.true (sym c.holds.ensures ∙ c.if-holds.false) ∙ c.loop-area.invariant

pub returns-then-holds : goal.returns-then-holds
returns-then-holds c =
    met AREAS c.loop-area.area-index c.args.address _ c.loop-area-test.true (sym c.holds.ensures ∙ c.if-holds.true) ∙ c.loop-area.invariant
