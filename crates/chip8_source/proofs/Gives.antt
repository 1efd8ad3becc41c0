-- A source that assembles to a ROM, by two passes over its lines: the bytes of its lines are the ROM's, and the ROM's others are 0.
use Rattle.std.proofs.Common.{◌≡◌, ℕ, zero, suc, ◌+◌, ◌-◌, ◌≤◌, refl, sym, ◌∙◌, ap, arith, inl, inr, Bool, true, false, cond, ◌&&◌, ◌||◌, ◌==◌, nat_le, List, [], ◌∷◌, length, map, Option, Some, None, is_some, option_map, slice_get, unwrap_or, Ok}
use Rattle.std.proofs.lemmas.Bool.{and_parts, or_cases, eqb-true, leb-true, both_ways}
use Rattle.asm_lex.specs.declared.shape.Isa.TheVariants.{Cdp1802}
use Rattle.asm_lex.specs.Bytes.{spells, is_reserved, is_name, has_long_name}
use Rattle.asm_lex.specs.Names.{names_register, is_number}
use Rattle.asm_lex.specs.Expressions.{sum_in, number_in, written_value, is_here, is_expression, has_large_number, term_value, sum_of, value_of}
use Rattle.asm_lex.specs.Lines.{parsed, has_bad_bytes, has_bad_name, entry_meaning, word_meaning, parsed_code}
use Rattle.asm_lex.specs.Parts.{without_leading_blanks, without_trailing_blanks, operands_in}
use Rattle.asm_lex.specs.Words.{directive_of, opcodes, mnemonic_at, opcode_named, coded, register_given, mnemonic_entry, entry_of, meaning_of, size_at}
use Rattle.asm_core.specs.Encoding.{collected, values_of, instruction}
use Rattle.asm_core.specs.Layout.{placed, judged, laid_parts, encoded_parts}
use Rattle.asm_core.specs.Names.{operand_value}
use Rattle.asm_core.specs.declared.table.Cell.{Cell}
use Rattle.asm_core.specs.Sources.{cell_before, source_lines}
use Rattle.asm_core.proofs.OnePass.{Read, read, Stretches, SoFar, covers, stretches_of, all_lines}
use Rattle.chip8_source.specs.Compared.{Compares, AgreesBelow, Differs, source_bytes, rom_bytes, counted_assembled, counted_image}

-- where no stretch is, the bytes from this address on are 0
abbrev pub is_zero_outside : Stretches → ℕ → List ℕ → Bool
is_zero_outside stretches at [] = true
is_zero_outside stretches at (b ∷ bytes) = ((b == 0) || covers stretches at) && is_zero_outside stretches (at + 1) bytes

zero_at : (stretches : Stretches) (at : ℕ) (bytes : List ℕ) (k b : ℕ)
    → is_zero_outside stretches at bytes ≡ true → slice_get bytes k ≡ Some b → covers stretches (at + k) ≡ false → b ≡ 0
zero_at stretches at [] k b e there outside = absurd (cc)
zero_at stretches at (x ∷ bytes) zero b e there outside =
    let here : at + zero ≡ at = omega arith in
    let same : x ≡ b = cc in
    elim (or_cases (x == 0) (covers stretches at) (and_parts _ _ e).0) [
      | inl nought ↦ sym same ∙ eqb-true x 0 nought
      | inr inside ↦ absurd (both_ways (covers stretches at) (ap (covers stretches) (sym here) ∙ outside) inside)
    ]
zero_at stretches at (x ∷ bytes) (suc k) b e there outside =
    let here : (at + 1) + k ≡ at + suc k = omega arith in
    zero_at stretches (at + 1) bytes k b (and_parts _ _ e).1 there (ap (covers stretches) here ∙ outside)

in_rom : (image : List ℕ) (a b : ℕ) → rom_bytes image a ≡ Some b → (0x8000 ≤ a) × (slice_get image (a - 0x8000) ≡ Some b)
in_rom image a b e =
    elim (nat_le 0x8000 a) as
    (λ t. nat_le 0x8000 a ≡ t → cond t (slice_get image (a - 0x8000)) None ≡ Some b → (0x8000 ≤ a) × (slice_get image (a - 0x8000) ≡ Some b)) [
      | true ↦ λ from there. (leb-true 0x8000 a from, there)
      | false ↦ λ below none. absurd (cc)
    ] refl e

module _ (source : List (List ℕ)) (image : List ℕ) (stretches : Stretches)
    (all : SoFar source (rom_bytes image) (length source) stretches) (zeros : is_zero_outside stretches 0x8000 image ≡ true) where
  same_here : (a : ℕ) → Differs (source_bytes source) image a → (found : Option Cell) → cell_before Cdp1802 source (length source) a ≡ found
      → counted_assembled (source_bytes source) a ≡ counted_image image a
  same_here a differs (Some cell) is =
      ap (λ c. unwrap_or (option_map (λ (cell : Cell). cell.byte) c) 0) is
      ∙ sym (ap (λ o. unwrap_or o 0xFF) (all.agrees a cell is))
  same_here a differs None is =
      ap (λ c. unwrap_or (option_map (λ (cell : Cell). cell.byte) c) 0) is
      ∙ go (rom_bytes image a) refl
      (ap (λ c. is_some (rom_bytes image a) || is_some (option_map (λ (cell : Cell). cell.byte) c)) (sym is) ∙ differs.compared)
    where
      outside : covers stretches a ≡ false
      outside = sym (ap (λ f. f a) all.marked) ∙ ap is_some is

      go : (found : Option ℕ) → rom_bytes image a ≡ found → (is_some (rom_bytes image a) || false) ≡ true → 0 ≡ unwrap_or (rom_bytes image a) 0xFF
      go None none there = absurd (both_ways _ (ap (λ o. is_some o || false) none) there)
      go (Some b) some there =
          let inside = in_rom image a b some in
          let place : 0x8000 + (a - 0x8000) ≡ a = omega (arith, inside.0) in
          sym (zero_at stretches 0x8000 image (a - 0x8000) b zeros inside.1 (ap (covers stretches) place ∙ outside))
          ∙ sym (ap (λ o. unwrap_or o 0xFF) some)

  no_difference : AgreesBelow 65536 (source_bytes source) image
  no_difference a low differs = differs.unequal (same_here a differs (cell_before Cdp1802 source (length source) a) refl)

-- these lines assemble to this ROM
abbrev pub fits_with : List ℕ → Option Stretches → Bool
fits_with image None = false
fits_with image (Some stretches) = is_zero_outside stretches 0x8000 image

abbrev pub give_rom : List ℕ → List Read → Bool
give_rom image lines = fits_with image (stretches_of (rom_bytes image) lines)

gives_rom : (source : List (List ℕ)) (image : List ℕ) → give_rom image (map read source) ≡ true → Compares source image (Ok tt)
gives_rom source image e = go (stretches_of (rom_bytes image) (map read source)) refl e
  where
    go : (found : Option Stretches) → stretches_of (rom_bytes image) (map read source) ≡ found
        → fits_with image found ≡ true → Compares source image (Ok tt)
    go None is none = absurd (cc)
    go (Some stretches) is zeros =
        let all = all_lines source (rom_bytes image) stretches is in
        (record { pass_1 = all.pass_1; pass_2 = all.pass_2 }, no_difference source image stretches all zeros)

-- a text is assembled to a ROM by computing: all that it takes is open here
unfoldable pub gives_text : List ℕ → List ℕ → Bool
unfolding
    source_lines parsed has_bad_bytes has_bad_name parsed_code word_meaning entry_meaning is_reserved is_name has_long_name
    without_leading_blanks without_trailing_blanks operands_in spells directive_of opcodes mnemonic_at opcode_named coded register_given
    mnemonic_entry entry_of meaning_of size_at
    sum_in number_in written_value is_here is_expression names_register is_number has_large_number term_value sum_of value_of
    operand_value placed judged laid_parts collected values_of instruction encoded_parts
gives_text text image = give_rom image (map read (source_lines text))

pub text_gives_rom : (text image : List ℕ) → gives_text text image ≡ true → Compares (source_lines text) image (Ok tt)
unfolding gives_text
text_gives_rom text image e = gives_rom (source_lines text) image e
