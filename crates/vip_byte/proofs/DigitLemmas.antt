-- The digits that `hex` writes, raised to upper case.
use Rattle.std.proofs.Common.{◌≡◌, ℕ, ◌/◌, ◌%◌, List, [], ◌∷◌, map, slice_index, Result, Ok, Err, refl, sym, ap, ◌∙◌}
use Rattle.std.proofs.Math.ListN.{get_or-map}
use Rattle.std.specs.Prelude.{IsOk, OnOk}
use Rattle.std.specs.Char.{to_ascii_uppercase}
use Rattle.hex.specs.Hex.{encode_lower, encode_upper, encode_with, lower_digits, upper_digits}

-- the digit at a place
raised : (n : ℕ) → to_ascii_uppercase (slice_index lower_digits n) ≡ slice_index upper_digits n
raised n = sym (get_or-map to_ascii_uppercase lower_digits n 0)

-- the digits of bytes
encode_lower-raised : (bytes : List ℕ) → map to_ascii_uppercase (encode_lower bytes) ≡ encode_upper bytes
unfolding encode_with
encode_lower-raised [] = refl
encode_lower-raised (byte ∷ bytes) = rw (raised (byte / 16), raised (byte % 16), encode_lower-raised bytes) refl

-- those that a call wrote
pub written-raised : {T E : Type 0} (r : Result T E) (bytes digits : List ℕ) → IsOk r → OnOk r (digits ≡ encode_lower bytes)
    → map to_ascii_uppercase digits ≡ encode_upper bytes
written-raised (Ok x) bytes digits ok written = ap (map to_ascii_uppercase) written ∙ encode_lower-raised bytes
written-raised (Err e) bytes digits ok written = absurd (cc)
