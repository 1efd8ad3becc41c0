use Rattle.std.proofs.Common.{◌-◌, ◌++◌, ap, ◌∙◌}
use Rattle.asm_listing.specs.Listing.{digits_of}
use Rattle.asm_listing.specs.Raw.{bytes_from}
use Rattle.vip_byte.specs.HexText.{hex2}
use Rattle.asm_listing.proofs.Listings.{digits-none, digits-more}
use Rattle.asm_listing.proofs.source_listing.append_digits.Goals as goal

pub loop-address-init : goal.loop-address-init
loop-address-init c = digits-none c.args.made.now c.args.list.now.items c.args.from

pub loop-address-preserved : goal.loop-address-preserved
loop-address-preserved c =
    c.in_ok-append.ensures
    ∙ ap (λ t. t ++ c.hex2.result) c.loop-address.invariant
    ∙ ap (λ digits. (c.args.list.now.items ++ digits_of (bytes_from c.args.made.now c.args.from (c.loop-address.address - c.args.from))) ++ digits)
    (c.hex2.ensures ∙ ap hex2 c.byte_at.ensures)
    ∙ digits-more c.args.made.now c.args.list.now.items c.args.from c.loop-address.address c.loop-address.auto.address
