use Rattle.std.proofs.Common.{◌≡◌, true, false, subst, sym}
use Rattle.vip_tools.specs.Code.{known_of, marked}
use Rattle.vip_tools.specs.declared.code.Marks.{Marks}
use Rattle.vip_words.specs.declared.request.Code.TheVariants.{Source}
use Rattle.vip_tools.proofs.CodeLemmas.{made-marks}
use Rattle.vip_tools.proofs.code.Marks.of.Goals as goal

pub returns-then-told : goal.returns-then-told
returns-then-told c =
    let marks : Marks = record { names = c.in_ok-names.names; origins = c.in_ok-names.origins } in
    subst (λ told. marked marks ≡ known_of c.args.isa (Source c.args.text.now told)) (sym c.if-told.true)
    (made-marks c.args.isa c.args.text.now c.args.made c.requires marks c.in_ok-names.ensures.names true
    (c.in_ok-names.ensures.origins c.args.isa c.requires))

pub returns : goal.returns
returns c =
    let marks : Marks = record { names = c.in_ok-names-2.names; origins = c.in_ok-names-2.origins } in
    subst (λ told. marked marks ≡ known_of c.args.isa (Source c.args.text.now told)) (sym c.if-told.false)
    (made-marks c.args.isa c.args.text.now c.args.made c.requires marks c.in_ok-names-2.ensures.names false (c.in_ok-names-2.ensures.origins c.args.isa c.requires))
