use Rattle.std.proofs.Common.{◌∙◌}
use Rattle.chip8_lang.specs.Editions.{rows_of}
use Rattle.vip_text.specs.Screens.{screen_lines}
use Rattle.vip_relation.proofs.Sizes.{screen-told}
use Rattle.vip_show.specs.Run.{pixels_told}
use Rattle.vip_show.proofs.Digesting.{adds-told}
use Rattle.vip_show.proofs.Screens.{some-viewed}
use Rattle.vip_show.proofs.digests.add_screen.Goals as goal

pub returns-in-Some : goal.returns-in-Some
returns-in-Some c = λ message holds.
    let last = some-viewed _ _ c.in-Some.ensures in
    adds-told (λ view. screen_lines (pixels_told c.args.run.now) (rows_of c.args.run.now.edition)) _ last.view _ message c.update.new.self last.is
    (c.as_slice.ensures.value ∙ c.screen_text.ensures ∙ screen-told screen_lines c.args.run.now.edition _ _ c.requires.bytes c.requires.size)
    (c.update.ensures message holds)
