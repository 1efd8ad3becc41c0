use Rattle.vip_relation.proofs.Sizes.{few}
use Rattle.vip_show.proofs.Screens.{lit-told, some-viewed}
use Rattle.vip_show.proofs.summary.lit.Goals as goal

pub lit_pixels-requires : goal.lit_pixels-requires
lit_pixels-requires c = few _ _ c.requires.size

pub returns : goal.returns
returns c =
    let last = some-viewed _ _ c.in-Some.ensures in
    lit-told c.args.run.now last.view _ _ last.is c.requires.bytes c.requires.size c.lit_pixels.ensures
