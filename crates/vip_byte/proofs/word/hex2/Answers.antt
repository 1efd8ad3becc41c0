use Rattle.std.proofs.Common.{[], ◌∷◌, refl, ◌∙◌}
use Rattle.hex.specs.Hex.{encode_with}
use Rattle.vip_byte.proofs.DigitLemmas.{written-raised}
use Rattle.vip_byte.proofs.word.hex2.Goals as goal

pub returns : goal.returns
unfolding encode_with
returns c =
    let sizes = c.encode_to_slice.ensures.fits.1 refl in
    c.make_ascii_uppercase.ensures.after ∙ written-raised c.encode_to_slice.result (c.args.value ∷ []) _ sizes c.encode_to_slice.ensures.written
