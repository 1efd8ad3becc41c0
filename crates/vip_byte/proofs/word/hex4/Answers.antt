use Rattle.std.proofs.Common.{◌≡◌, ◌*◌, ◌/◌, ◌%◌, length, refl, sym, ap, ◌∙◌, arith}
use Rattle.hex.specs.Hex.{encode_with}
use Rattle.vip_byte.proofs.DigitLemmas.{written-raised}
use Rattle.vip_byte.proofs.word.hex4.Goals as goal

pub returns : goal.returns
unfolding encode_with
returns c =
    let sizes = c.encode_to_slice.ensures.fits.1 (ap (λ bytes. 2 * length bytes) (sym c.to_be_bytes.ensures)) in
    let high : c.args.value / 256 % 256 ≡ c.args.value / 256 = omega (arith, c.ranges.value) in
    c.make_ascii_uppercase.ensures.after
    ∙ written-raised c.encode_to_slice.result c.to_be_bytes.result _ sizes c.encode_to_slice.ensures.written
    ∙ rw (c.to_be_bytes.ensures, high) refl
