-- The lines of a listing, read off an assembly.
use Rattle.std.proofs.Common.{◌≡◌, ◌+◌, ◌-◌, ◌*◌, ◌/◌, ◌<◌, ◌≤◌, ℕ, zero, suc, refl, Bool, List, [], ◌∷◌, ◌++◌, length, take, get_or, sym, ◌∙◌, ap, arith, true, false, Some, None, Option, Ok, Err, Result, cond, inl, inr, min}
use Rattle.std.specs.Prelude.{◌||◌, map, flat_map, nat_le, slice_index, slice_get, is_some, option_map, unwrap_or, codes}
use Rattle.std.specs.Option.{option_or}
use Rattle.std.specs.Result.{result_unwrap_or}
use Rattle.std.specs.List.{list_any, range_with_len}
use Rattle.std.proofs.lemmas.Bool.{cond-true, le-leb, both_ways, cases_eq}
use Rattle.std.proofs.lemmas.List.{append_assoc, append-nil, length-map, map-append, take-map, drop-map, get_or-map, get_or_default, flat_map_more, same_lists}
use Rattle.std.proofs.lemmas.List.Concat.{flat_map-append}
use Rattle.std.proofs.lemmas.List.Folds.{list_any_at}
use Rattle.asm_lex.specs.declared.shape.Isa.{Isa}
use Rattle.asm_core.specs.declared.layout.LabelValue.{LabelValue}
use Rattle.asm_core.specs.declared.table.Cell.{Cell}
use Rattle.asm_core.specs.declared.fault.AsmCause.{AsmCause}
use Rattle.asm_core.specs.declared.fault.AsmCause.TheVariants.{Overlap}
use Rattle.asm_core.specs.Made.{Made, line_place, IsAssembly}
use Rattle.asm_core.specs.Sources.{line_at, address_of, label_value, fault_2, fault_with, bytes_of, cell_in, cell_of, cell_before, overlaps}
use Rattle.asm_core.specs.Layout.{count_between}
use Rattle.asm_core.proofs.PassTwo.{bytes_count, count_fits}
use Rattle.vip_byte.specs.HexText.{hex2}
use Rattle.vip_byte.specs.Text.{newline}
use Rattle.asm_listing.specs.Listing.{blanks, label_text, digits_of, three_at, further_line, further_lines, first_digits, number_text, line_listing, listed, lines_text}
use Rattle.asm_listing.specs.Raw.{bytes_from}
use Rattle.asm_listing.specs.Shown.{byte_count, byte_at}
use Rattle.asm_core.proofs.Cells.{length-range, get_or-range}
use Rattle.asm_listing.proofs.Ranges.{range_push, take-range, drop-range}

module _ (made : Made) where
  -- no bytes, and one more
  pub bytes-none : (from : ℕ) → bytes_from made from 0 ≡ []
  unfolding bytes_from
  bytes-none from = refl

  pub bytes-more : (from count : ℕ) → bytes_from made from (count + 1) ≡ bytes_from made from count ++ byte_at made (from + count) ∷ []
  unfolding bytes_from
  bytes-more from count = ap (map (byte_at made)) (range_push count from) ∙ map-append (byte_at made) (range_with_len from count) ((from + count) ∷ [])

  pub length-bytes : (from count : ℕ) → length (bytes_from made from count) ≡ count
  unfolding bytes_from
  length-bytes from count = length-map (range_with_len from count) (byte_at made) ∙ length-range count from

  -- three of them, or fewer at the end
  pub three-bytes : (from count k : ℕ) → three_at (bytes_from made from count) k ≡ bytes_from made (from + 3 * k) (min 3 (count - 3 * k))
  unfolding bytes_from
  three-bytes from count k =
      ap (take 3) (drop-map (byte_at made) (3 * k) (range_with_len from count) ∙ ap (map (byte_at made)) (drop-range (3 * k) count from))
      ∙ take-map (byte_at made) 3 (range_with_len (from + 3 * k) (count - 3 * k))
      ∙ ap (map (byte_at made)) (take-range 3 (count - 3 * k) (from + 3 * k))

  -- the digits of the first three
  pub first-bytes : (from count : ℕ)
      → digits_of (bytes_from made from (min 3 count)) ++ blanks (6 - 2 * min 3 count) ≡ first_digits (bytes_from made from count)
  first-bytes from count =
      let three : bytes_from made from (min 3 count) ≡ three_at (bytes_from made from count) 0 =
      ap (λ a. bytes_from made a (min 3 count)) (omega arith) ∙ ap (bytes_from made (from + 3 * 0)) (omega arith) ∙ sym (three-bytes from count 0) in
      ap (λ n. digits_of (bytes_from made from (min 3 count)) ++ blanks (6 - 2 * n)) (sym (length-bytes from (min 3 count)))
      ∙ ap (λ bytes. digits_of bytes ++ blanks (6 - 2 * length bytes)) three

-- the digits of bytes, none and one more
pub digits-none : (made : Made) (text : List ℕ) (from : ℕ) → text ≡ text ++ digits_of (bytes_from made from (from - from))
digits-none made text from =
    let none : 0 ≡ from - from = omega arith in
    sym (append-nil text) ∙ ap (λ bytes. text ++ digits_of bytes) (sym (bytes-none made from)) ∙ ap (λ n. text ++ digits_of (bytes_from made from n)) none

pub digits-more : (made : Made) (text : List ℕ) (from address : ℕ) → from ≤ address
    → (text ++ digits_of (bytes_from made from (address - from))) ++ hex2 (byte_at made address) ≡ text ++ digits_of (bytes_from made from (address + 1 - from))
digits-more made text from address some =
    let count : address - from + 1 ≡ address + 1 - from = omega arith in
    let place : address ≡ from + (address - from) = omega arith in
    ap (λ a. (text ++ digits_of (bytes_from made from (address - from))) ++ hex2 (byte_at made a)) place
    ∙ flat_map_more hex2 text (bytes_from made from (address - from)) (byte_at made (from + (address - from)))
    ∙ ap (λ bytes. text ++ digits_of bytes) (sym (bytes-more made from (address - from)))
    ∙ ap (λ n. text ++ digits_of (bytes_from made from n)) count

-- the lines behind the first, none and one more
pub further-none : (at : ℕ) (bytes text : List ℕ) → text ≡ text ++ flat_map (further_line at bytes) (range_with_len 1 (1 - 1))
further-none at bytes text = sym (append-nil text)

pub further-more : (at : ℕ) (bytes : List ℕ) (text : List ℕ) (row : ℕ) → 1 ≤ row
    → (text ++ flat_map (further_line at bytes) (range_with_len 1 (row - 1))) ++ further_line at bytes row ≡ text
    ++ flat_map (further_line at bytes) (range_with_len 1 (row + 1 - 1))
further-more at bytes text row some =
    let step : row + 1 - 1 ≡ row - 1 + 1 = omega arith in
    let last : 1 + (row - 1) ≡ row = omega arith in
    let f = further_line at bytes in
    append_assoc text (flat_map f (range_with_len 1 (row - 1))) (f row)
    ∙ ap (λ t. text ++ t)
    (ap (λ t. flat_map f (range_with_len 1 (row - 1)) ++ t) (sym (append-nil (f row)))
    ∙ sym (flat_map-append f (range_with_len 1 (row - 1)) (row ∷ []))
    ∙ ap (λ k. flat_map f (range_with_len 1 (row - 1) ++ k ∷ [])) (sym last)
    ∙ ap (flat_map f) (sym (range_push (row - 1) 1))
    ∙ ap (λ n. flat_map f (range_with_len 1 n)) (sym step))

pub further-all : (at : ℕ) (bytes : List ℕ) (text : List ℕ) (row : ℕ) → row - 1 ≡ (length bytes + 2) / 3 - 1
    → text ++ flat_map (further_line at bytes) (range_with_len 1 (row - 1)) ≡ text ++ further_lines at bytes
unfolding further_lines
further-all at bytes text row e = ap (λ n. text ++ flat_map (further_line at bytes) (range_with_len 1 n)) e

-- the parts of a line
pub line-parts : (number : ℕ) (shown : LabelValue) (at : ℕ) (bytes line : List ℕ)
    → number_text number ++ (codes " "
    ++ (label_text shown ++ (codes " " ++ (first_digits bytes ++ (codes " " ++ (line ++ (newline ++ further_lines at bytes)))))))
    ≡ line_listing number shown at bytes line
unfolding line_listing
line-parts number shown at bytes line = refl

-- the lines of the source so far
pub lines-start : (isa : Isa) (source : List (List ℕ)) → lines_text isa source 0 ≡ []
unfolding lines_text
lines-start isa source = refl

-- one text more
pub texts-more : (f : ℕ → List ℕ) (i : ℕ) → flat_map f (range_with_len 0 (i + 1)) ≡ flat_map f (range_with_len 0 i) ++ f i
texts-more f i =
    let here : 0 + i ≡ i = omega arith in
    ap (flat_map f) (range_push i 0)
    ∙ flat_map-append f (range_with_len 0 i) ((0 + i) ∷ [])
    ∙ ap (λ k. flat_map f (range_with_len 0 i) ++ flat_map f (k ∷ [])) here
    ∙ ap (λ t. flat_map f (range_with_len 0 i) ++ t) (append-nil (f i))

pub lines-more : (isa : Isa) (source : List (List ℕ)) (i : ℕ) → lines_text isa source (i + 1) ≡ lines_text isa source i ++ listed isa source i
unfolding lines_text
lines-more isa source i = texts-more (listed isa source) i

-- the bytes of a line stand in the table
some_here : (xs : List ℕ) (k : ℕ) → k < length xs → slice_get xs k ≡ Some (get_or xs k 0)
some_here [] k below = absurd (omega arith)
some_here (x ∷ xs) zero below = refl
some_here (x ∷ xs) (suc k) below = some_here xs k (omega arith)

no_overlap : (b : Bool) → cond b (Some Overlap) None ≡ None → b ≡ false
no_overlap true e = absurd (cc)
no_overlap false e = refl

no_fault_in : (given : ℕ → Option Cell) (at : ℕ) (r : Result (List ℕ) AsmCause) → fault_with given at r ≡ None
    → (bytes : List ℕ) × (r ≡ Ok bytes) × (overlaps given at (length bytes) ≡ false)
no_fault_in given at (Ok bytes) e = (bytes, refl, no_overlap (overlaps given at (length bytes)) e)
no_fault_in given at (Err cause) e = absurd (cc)

not_some : (o : Option Cell) → (is_some o ≡ true → ⊥) → o ≡ None
not_some None never = refl
not_some (Some cell) never = absurd (never refl)

free_before : (given : ℕ → Option Cell) (at count j : ℕ) → overlaps given at count ≡ false → j < count → given (at + j) ≡ None
free_before given at count j none below = not_some (given (at + j)) (λ some.
    both_ways (overlaps given at count) none
    (list_any_at (λ k. is_some (given (at + k))) (range_with_len 0 count) j 0 (omega (arith, length-range count 0))
    (ap (λ k. is_some (given (at + k))) (get_or-range count 0 j 0 below ∙ omega arith) ∙ some)))

module _ (isa : Isa) (source : List (List ℕ)) where
  kept : (n i address : ℕ) (cell : Cell) → i < n → cell_before isa source (suc i) address ≡ Some cell → cell_before isa source n address ≡ Some cell
  unfolding cell_before
  kept zero i address cell below e = absurd (omega arith)
  kept (suc n) i address cell below e = elim (cases_eq n i) [
    | inl same ↦ ap (λ k. cell_before isa source (suc k) address) same ∙ e
    | inr other ↦ ap (λ o. option_or o (cell_of isa source n address)) (kept n i address cell (omega arith) e)
  ]

  module _ (made : Made) (assembled : IsAssembly isa source made) (i : ℕ) (below : i < length source) where
    abbrev at : ℕ
    at = address_of isa source i

    judged : (bytes : List ℕ) × (bytes_of isa source i ≡ Ok bytes) × (overlaps (cell_before isa source i) at (length bytes) ≡ false)
    unfolding fault_2
    judged = no_fault_in (cell_before isa source i) at (bytes_of isa source i) (assembled.no_fault_2 i below)

    abbrev bytes : List ℕ
    bytes = judged.0

    counted : length bytes ≡ count_between (label_value isa source i) at (address_of isa source (i + 1))
    counted = bytes_count isa source assembled.no_fault_1 i below bytes judged.1

    fits : at + length bytes ≤ 65536
    fits =
        omega (
          arith,
          counted,
          count_fits (label_value isa source i) at (address_of isa source (i + 1)) (assembled.low i (omega arith)) (assembled.low (i + 1)
              (omega arith)),
        )

    cell_here : (j : ℕ) → j < length bytes → cell_before isa source (suc i) (at + j) ≡ Some (record { byte = get_or bytes j 0; line = i + 1 })
    unfolding cell_before
    cell_here j inside =
        let offset : at + j - at ≡ j = omega arith in
        ap (λ o. option_or o (cell_of isa source i (at + j))) (free_before (cell_before isa source i) at (length bytes) j judged.2 inside)
        ∙ ap (λ r. cell_in (i + 1) at (result_unwrap_or r []) (at + j)) judged.1
        ∙ cond-true (nat_le at (at + j)) (option_map (λ byte. record { byte = byte; line = i + 1 }) (slice_get bytes (at + j - at))) None
        (le-leb at (at + j) (omega arith))
        ∙ ap (λ k. option_map (λ byte. record { byte = byte; line = i + 1 }) (slice_get bytes k)) offset
        ∙ ap (option_map (λ byte. record { byte = byte; line = i + 1 })) (some_here bytes j inside)

    read : (j : ℕ) → j < length bytes → byte_at made (at + j) ≡ get_or bytes j 0
    read j inside =
        ap (λ (o : Option Cell). unwrap_or (option_map (λ cell. cell.byte) o) 0x00)
        (assembled.cells (at + j) (omega (arith, fits))
        ∙ kept (length source) i (at + j) (record { byte = get_or bytes j 0; line = i + 1 }) below (cell_here j inside))

    all_read : bytes_from made at (length bytes) ≡ bytes
    unfolding bytes_from
    all_read = same_lists (map (byte_at made) (range_with_len at (length bytes))) bytes
        (length-map (range_with_len at (length bytes)) (byte_at made) ∙ length-range (length bytes) at)
        (λ k d inside.
        let low : k < length bytes = omega (arith, length-map (range_with_len at (length bytes)) (byte_at made), length-range (length bytes) at) in
        get_or-map (byte_at made) (range_with_len at (length bytes)) k 0 d (omega (arith, length-range (length bytes) at))
        ∙ ap (byte_at made) (get_or-range (length bytes) at k 0 low)
        ∙ read k low
        ∙ get_or_default bytes k 0 d low)

    -- where the line stands, as the code reads it
    place_at : (line_place made i).at ≡ at
    place_at = assembled.addresses i (omega arith)

    place_count : byte_count (line_place made i) ≡ length bytes
    place_count =
        ap (λ v. count_between v (slice_index made.addresses i) (slice_index made.addresses (i + 1))) (assembled.values i below)
        ∙ ap (λ a. count_between (label_value isa source i) a (slice_index made.addresses (i + 1))) place_at
        ∙ ap (count_between (label_value isa source i) at) (assembled.addresses (i + 1) (omega arith))
        ∙ sym counted

    pub place_fits : (line_place made i).at + byte_count (line_place made i) ≤ 65536
    place_fits = omega (arith, place_at, place_count, fits)

    -- the line of the listing
    pub line-listed : (line : List ℕ) → line_at source i ≡ line
        → line_listing (i + 1) (line_place made i).value (line_place made i).at
        (bytes_from made (line_place made i).at (byte_count (line_place made i))) line ≡ listed isa source i
    line-listed line here =
        ap (λ v. line_listing (i + 1) v (line_place made i).at
        (bytes_from made (line_place made i).at (byte_count (line_place made i))) line) (assembled.values i below)
        ∙ ap (λ a. line_listing (i + 1) (label_value isa source i) a (bytes_from made a (byte_count (line_place made i))) line) place_at
        ∙ ap (λ n. line_listing (i + 1) (label_value isa source i) at (bytes_from made at n) line) place_count
        ∙ ap (λ bs. line_listing (i + 1) (label_value isa source i) at bs line) (all_read ∙ sym (ap (λ r. result_unwrap_or r []) judged.1))
        ∙ ap (line_listing (i + 1) (label_value isa source i) at (result_unwrap_or (bytes_of isa source i) [])) (sym here)

-- whether one of a function's values is there, by the list of them
any-from : {X : Type 0} (f : ℕ → Option X) (xs : List (Option X)) (a : ℕ) → ((i : ℕ) → i < length xs → get_or xs i None ≡ f (a + i))
    → list_any (λ x. is_some x) xs ≡ list_any (λ i. is_some (f i)) (range_with_len a (length xs))
any-from f [] a each = refl
any-from f (x ∷ xs) a each =
    let first : a + 0 ≡ a = omega arith in
    ap (λ o. is_some o || list_any (λ x. is_some x) xs) (each 0 (omega arith) ∙ ap f first)
    ∙ ap (λ b. is_some (f a) || b)
    (any-from f xs (a + 1) (λ i below. let moved : a + suc i ≡ a + 1 + i = omega arith in each (suc i) (omega arith) ∙ ap f moved))

pub any-each : {X : Type 0} (f : ℕ → Option X) (xs : List (Option X)) (n : ℕ) → length xs ≡ n → ((i : ℕ) → i < n → get_or xs i None ≡ f i)
    → list_any (λ x. is_some x) xs ≡ list_any (λ i. is_some (f i)) (range_with_len 0 n)
any-each f xs n count each =
    any-from f xs 0 (λ i below. let here : i ≡ 0 + i = omega arith in each i (omega (arith, count)) ∙ ap f here)
    ∙ ap (λ n. list_any (λ i. is_some (f i)) (range_with_len 0 n)) count
