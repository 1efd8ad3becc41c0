-- The bytes of a span of addresses, address by address.
use Rattle.std.proofs.Common.{◌≡◌, ◌∙◌, ap, arith, ◌+◌, ◌-◌, ◌≤◌, ℕ, [], ◌∷◌, ◌++◌, map}
use Rattle.std.proofs.lemmas.List.{map-append}
use Rattle.std.specs.Prelude.{unwrap_or}
use Rattle.std.specs.List.{range_with_len}
use Rattle.asm_core.specs.Made.{Made, made_byte}
use Rattle.asm_listing.specs.Raw.{bytes_from}
use Rattle.asm_listing.proofs.Ranges.{range_push}

-- one byte more
pub bytes_push : (made : Made) (low address : ℕ) → low ≤ address
    → bytes_from made low (address + 1 - low) ≡ bytes_from made low (address - low) ++ unwrap_or (made_byte made address) 0x00 ∷ []
unfolding bytes_from
bytes_push made low address within =
    let f : ℕ → ℕ = λ a. unwrap_or (made_byte made a) 0x00 in
    let count : address + 1 - low ≡ (address - low) + 1 = omega (arith, within) in
    let last : low + (address - low) ≡ address = omega (arith, within) in
    ap (bytes_from made low) count
    ∙ ap (map f) (range_push (address - low) low)
    ∙ map-append f (range_with_len low (address - low)) ((low + (address - low)) ∷ [])
    ∙ ap (λ a. bytes_from made low (address - low) ++ f a ∷ []) last
