use Rattle.std.proofs.Common.{◌≡◌, ◌%◌, ◌∙◌, ap, refl, slice_index}
use Rattle.vip_debug.proofs.Clear.{no_byte, paged_byte}
use Rattle.vip_debug.proofs.code.read_clear.Goals as goal

pub returns-in-Some : goal.returns-in-Some
returns-in-Some c =
    let place : c.from.result ≡ c.args.address % 256 = c.from.ensures in
    ap (slice_index c.in-Some.page.now) place ∙ ap (λ page. slice_index page (c.args.address % 256)) c.in-Some.ensures.bytes
    ∙ paged_byte c.args.memory.now c.args.address c.ranges.address.fits (c.in-Some.ensures.there.0 refl)

pub returns-in-None : goal.returns-in-None
returns-in-None c = no_byte c.args.memory.now c.args.address c.ranges.address.fits (λ there. let e = c.in-None.ensures.there.1 there in cc)
