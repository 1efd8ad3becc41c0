use Rattle.std.proofs.Common.{◌∙◌}
use Rattle.chip8_lang.specs.Editions.{rows_of}
use Rattle.vip_text.specs.Screens.{screen_lines}
use Rattle.vip_show.specs.Run.{pixels_told}
use Rattle.vip_show.proofs.EventsShown.{piece-put}
use Rattle.vip_show.proofs.Screens.{some-viewed}
use Rattle.vip_relation.proofs.Sizes.{whole, few, screen-told}
use Rattle.vip_show.proofs.pieces.put_screen.Goals as goal

pub screen_text-requires-clause-whole : goal.screen_text-requires-clause-whole
screen_text-requires-clause-whole g c = whole _ _ c.requires.size

pub screen_text-requires-clause-few : goal.screen_text-requires-clause-few
screen_text-requires-clause-few g c = few _ _ c.requires.size

pub returns : goal.returns
returns g c =
    let last = some-viewed _ _ c.in-Some.ensures in
    piece-put (λ view. screen_lines (pixels_told c.args.run.now) (rows_of c.args.run.now.edition)) _ last.view _ _ _ _ last.is
    (c.as_slice.ensures.value ∙ c.screen_text.ensures ∙ screen-told screen_lines c.args.run.now.edition _ _ c.requires.bytes c.requires.size)
    c.put.ensures.answer
