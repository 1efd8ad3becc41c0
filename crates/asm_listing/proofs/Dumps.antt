-- A dump while it is written: a row that stands before the places that are left.
use Rattle.std.proofs.Common.{◌≡◌, ◌+◌, ◌-◌, ◌*◌, ◌/◌, ◌<◌, ◌≤◌, ℕ, zero, suc, refl, List, [], ◌∷◌, ◌++◌, length, take, drop, get_or, sym, ◌∙◌, ap, arith, true, false, cond, Some, None, Option}
use Rattle.std.specs.Prelude.{map, filter, flat_map, not, ◌==◌, All, option_map}
use Rattle.std.specs.List.{slice_split, onto_first, range_with_len, enumerate_from}
use Rattle.std.proofs.lemmas.Bool.{cond-true, cond-false, ne_eqb}
use Rattle.std.proofs.lemmas.List.{append_assoc, append-nil, length-append, length-map, length-drop, drop_more, drop_all, drop-drop, get_or-map, take_all, take_at, drop_at, map-append}
use Rattle.std.proofs.lemmas.List.Concat.{flat_map-append}
use Rattle.std.proofs.lemmas.List.Splits.{slice_split_none, slice_split_at, length-slice_split}
use Rattle.asm_core.specs.Made.{Made, cell_at}
use Rattle.vip_byte.specs.Text.{newline}
use Rattle.asm_listing.specs.Dump.{Place, addresses, place_at, places_of, has_no_byte, is_some_run, runs, piece, pieces, byte_text, line_text, dump_of, dump_text}
use Rattle.asm_listing.specs.Row.{bytes_text, row_before, row_text}
use Rattle.vip_byte.specs.HexText.{hex2, hex4}
use Rattle.asm_core.proofs.Cells.{length-range, get_or-range}

length-addresses : length addresses ≡ 65536
unfolding addresses
length-addresses = length-range 65536 0

get_or-addresses : (k : ℕ) → k < 65536 → get_or addresses k 0 ≡ k
unfolding addresses
get_or-addresses k below = get_or-range 65536 0 k 0 below ∙ omega arith

-- places that all have a byte
abbrev AllHaveBytes : List Place → Type 0
AllHaveBytes row = All (λ place. has_no_byte place ≡ false) row

-- the pieces behind the first one
next_piece : (run : List Place) (k : ℕ) → piece run (k + 1) ≡ piece (drop 16 run) k
next_piece run k = ap (λ n. take 16 (drop n run)) (omega arith) ∙ ap (take 16) (sym (drop-drop (16 * k) 16 run))

later_pieces : (run : List Place) (n a : ℕ) → map (piece run) (range_with_len (a + 1) n) ≡ map (piece (drop 16 run)) (range_with_len a n)
later_pieces run zero a = refl
later_pieces run (suc n) a =
    ap (λ x. x ∷ map (piece run) (range_with_len (a + 1 + 1) n)) (next_piece run a)
    ∙ ap (λ xs. piece (drop 16 run) a ∷ xs) (later_pieces run n (a + 1))

count_from : (run : List Place) (n : ℕ) → n ≡ suc ((length (drop 16 run) + 15) / 16)
    → map (piece run) (range_with_len 0 n) ≡ piece run 0 ∷ map (piece (drop 16 run)) (range_with_len 0 ((length (drop 16 run) + 15) / 16))
count_from run n e =
    ap (λ n. map (piece run) (range_with_len 0 n)) e
    ∙ ap (λ xs. piece run 0 ∷ xs) (later_pieces run ((length (drop 16 run) + 15) / 16) 0)

pieces-none : pieces [] ≡ []
unfolding pieces
pieces-none = refl

-- a run begins with a piece of at most 16 places
pieces-some : (run : List Place) → 0 < length run → pieces run ≡ take 16 run ∷ pieces (drop 16 run)
unfolding pieces
pieces-some run there = count_from run ((length run + 15) / 16) (omega (arith, length-drop 16 run))

pieces-one : (row : List Place) → 0 < length row → length row ≤ 16 → pieces row ≡ row ∷ []
pieces-one row there few =
    pieces-some row there ∙ ap (λ xs. xs ∷ pieces (drop 16 row)) (take_all 16 row few)
    ∙ ap (λ xs. row ∷ pieces xs) (drop_all 16 row few) ∙ ap (λ xs. row ∷ xs) pieces-none

pieces-full : (row rest : List Place) → length row ≡ 16 → pieces (row ++ rest) ≡ row ∷ pieces rest
pieces-full row rest full =
    pieces-some (row ++ rest) (omega (arith, length-append row rest))
    ∙ ap (λ xs. xs ∷ pieces (drop 16 (row ++ rest))) (take_at row rest 16 full)
    ∙ ap (λ xs. row ∷ pieces xs) (drop_at row rest 16 full)

-- the lines of some runs
abbrev lines_in : List (List Place) → List ℕ
lines_in all = flat_map line_text (flat_map pieces all)

lines_in-cons : (run : List Place) (all : List (List Place)) → lines_in (run ∷ all) ≡ flat_map line_text (pieces run) ++ lines_in all
lines_in-cons run all = flat_map-append line_text (pieces run) (flat_map pieces all)

-- the line of a row, if it has any place
abbrev own_line : List Place → List ℕ
own_line row = cond (length row == 0) [] (line_text row)

some_run : (p : Place) (row : List Place) → is_some_run (p ∷ row) ≡ true
some_run p row = ap not (ne_eqb (suc (length row)) 0 (λ e. omega arith))

own_line-some : (p : Place) (row : List Place) → own_line (p ∷ row) ≡ line_text (p ∷ row)
own_line-some p row = cond-false (suc (length row) == 0) [] (line_text (p ∷ row)) (ne_eqb (suc (length row)) 0 (λ e. omega arith))

lines_of_row : (row : List Place) → length row ≤ 16 → (all : List (List Place))
    → lines_in (cond (is_some_run row) (row ∷ all) all) ≡ own_line row ++ lines_in all
lines_of_row [] few all = refl
lines_of_row (p ∷ row) few all =
    ap lines_in (cond-true (is_some_run (p ∷ row)) ((p ∷ row) ∷ all) all (some_run p row))
    ∙ lines_in-cons (p ∷ row) all
    ∙ ap (λ ps. flat_map line_text ps ++ lines_in all) (pieces-one (p ∷ row) (omega arith) few)
    ∙ ap (λ xs. xs ++ lines_in all) (append-nil (line_text (p ∷ row)) ∙ sym (own_line-some p row))

-- a row ends before an address without a byte, and at the end
pub dump-gap : (row : List Place) (gap : Place) (rest : List Place) → AllHaveBytes row → length row ≤ 16 → has_no_byte gap ≡ true
    → dump_of (row ++ gap ∷ rest) ≡ own_line row ++ dump_of rest
unfolding dump_of runs
dump-gap row gap rest have few none =
    ap (λ all. lines_in (filter is_some_run all)) (slice_split_at has_no_byte row gap rest have none)
    ∙ lines_of_row row few (filter is_some_run (slice_split has_no_byte rest))

pub dump-end : (row : List Place) → AllHaveBytes row → length row ≤ 16 → dump_of (row ++ []) ≡ own_line row
unfolding dump_of runs
dump-end row have few =
    ap (λ row. dump_of row) (append-nil row)
    ∙ ap (λ all. lines_in (filter is_some_run all)) (slice_split_none has_no_byte row have)
    ∙ lines_of_row row few [] ∙ append-nil (own_line row)

-- a full row ends
abbrev onto_run : List Place → List (List Place) → List (List Place)
onto_run row [] = row ∷ []
onto_run row (part ∷ parts) = (row ++ part) ∷ parts

onto_run-cons : (p : Place) (row : List Place) (parts : List (List Place)) → onto_first p (onto_run row parts) ≡ onto_run (p ∷ row) parts
onto_run-cons p row [] = refl
onto_run-cons p row (part ∷ parts) = refl

onto_run-nil : (parts : List (List Place)) → 0 < length parts → parts ≡ onto_run [] parts
onto_run-nil [] there = absurd (omega arith)
onto_run-nil (part ∷ parts) there = refl

split-behind : (row rest : List Place) → AllHaveBytes row → slice_split has_no_byte (row ++ rest) ≡ onto_run row (slice_split has_no_byte rest)
split-behind [] rest have = onto_run-nil (slice_split has_no_byte rest) (omega (arith, length-slice_split has_no_byte rest))
split-behind (p ∷ row) rest have =
    cond-false (has_no_byte p) ([] ∷ slice_split has_no_byte (row ++ rest)) (onto_first p (slice_split has_no_byte (row ++ rest))) (have 0 p (omega arith))
    ∙ ap (onto_first p) (split-behind row rest (λ k d below. have (suc k) d (omega arith)))
    ∙ onto_run-cons p row (slice_split has_no_byte rest)

lines_behind_none : (all : List (List Place)) → flat_map line_text (pieces []) ++ lines_in all ≡ lines_in all
lines_behind_none all = ap (λ ps. flat_map line_text ps ++ lines_in all) pieces-none

some_lines : (part : List Place) (all : List (List Place))
    → flat_map line_text (pieces part) ++ lines_in all ≡ lines_in (cond (is_some_run part) (part ∷ all) all)
some_lines [] all = lines_behind_none all
some_lines (p ∷ part) all = sym (lines_in-cons (p ∷ part) all) ∙ sym (ap lines_in (cond-true (is_some_run (p ∷ part)) ((p ∷ part) ∷ all) all (some_run p part)))

full_run : (row : List Place) → length row ≡ 16 → (parts : List (List Place)) → 0 < length parts
    → lines_in (filter is_some_run (onto_run row parts)) ≡ line_text row ++ lines_in (filter is_some_run parts)
full_run row full [] there = absurd (omega arith)
full_run row full (part ∷ parts) there =
    let all : List (List Place) = filter is_some_run parts in
    ap lines_in (cond-true (is_some_run (row ++ part)) ((row ++ part) ∷ all) all
    (ap not (ne_eqb (length (row ++ part)) 0 (λ e. omega (arith, length-append row part)))))
    ∙ lines_in-cons (row ++ part) all
    ∙ ap (λ ps. flat_map line_text ps ++ lines_in all) (pieces-full row part full)
    ∙ append_assoc (line_text row) (flat_map line_text (pieces part)) (lines_in all)
    ∙ ap (λ xs. line_text row ++ xs) (some_lines part all)

pub dump-full : (row rest : List Place) → AllHaveBytes row → length row ≡ 16 → dump_of (row ++ rest) ≡ line_text row ++ dump_of rest
unfolding dump_of runs
dump-full row rest have full =
    ap (λ all. lines_in (filter is_some_run all)) (split-behind row rest have)
    ∙ full_run row full (slice_split has_no_byte rest) (omega (arith, length-slice_split has_no_byte rest))

-- the places of a row
length-enumerate : {X : Type 0} (n : ℕ) (xs : List X) → length (enumerate_from n xs) ≡ length xs
length-enumerate n [] = refl
length-enumerate n (x ∷ xs) = ap suc (length-enumerate (n + 1) xs)

enumerate-push : {X : Type 0} (n : ℕ) (xs : List X) (x : X) → enumerate_from n (xs ++ x ∷ []) ≡ enumerate_from n xs ++ (n + length xs, x) ∷ []
enumerate-push n [] x = ap (λ a. (a, x) ∷ []) (omega arith)
enumerate-push n (y ∷ ys) x = ap (λ zs. (n, y) ∷ zs) (enumerate-push (n + 1) ys x) ∙ ap (λ a. (n, y) ∷ (enumerate_from (n + 1) ys ++ (a, x) ∷ [])) (omega arith)

all_have : (n : ℕ) (bytes : List ℕ) → AllHaveBytes (enumerate_from n (map Some bytes))
all_have n [] k d below = absurd (omega arith)
all_have n (b ∷ bytes) zero d below = refl
all_have n (b ∷ bytes) (suc k) d below = all_have (n + 1) bytes k d (omega arith)

pub length-row : (behind : ℕ) (bytes : List ℕ) → length (row_before behind bytes) ≡ length bytes
length-row behind bytes = length-enumerate (behind - length bytes) (map {B = Option ℕ} Some bytes) ∙ length-map bytes Some

own_line-row : (behind : ℕ) (bytes : List ℕ) → own_line (row_before behind bytes) ≡ row_text behind bytes
own_line-row behind bytes = ap (λ n. cond (n == 0) [] (line_text (row_before behind bytes))) (length-row behind bytes)

bytes_in_row : (n : ℕ) (bytes : List ℕ) → flat_map byte_text (enumerate_from n (map Some bytes)) ≡ bytes_text bytes
bytes_in_row n [] = refl
bytes_in_row n (b ∷ bytes) = ap (λ xs. (32 ∷ hex2 b) ++ xs) (bytes_in_row (n + 1) bytes)

line_of : (n : ℕ) (bytes : List ℕ) → 0 < length bytes → line_text (enumerate_from n (map Some bytes)) ≡ hex4 n ++ (bytes_text bytes ++ newline)
line_of n [] there = absurd (omega arith)
line_of n (b ∷ bytes) there = ap (λ xs. hex4 n ++ (xs ++ newline)) (bytes_in_row n (b ∷ bytes))

pub row_text-some : (behind : ℕ) (bytes : List ℕ) → 0 < length bytes → row_text behind bytes ≡ hex4 (behind - length bytes) ++ (bytes_text bytes ++ newline)
row_text-some behind bytes there =
    cond-false (length bytes == 0) [] (line_text (row_before behind bytes)) (ne_eqb (length bytes) 0 (λ e. omega arith))
    ∙ line_of (behind - length bytes) bytes there

-- a byte more in a row
grown : (behind : ℕ) (bytes : List ℕ) (byte : ℕ) → length bytes ≤ behind
    → row_before (behind + 1) (bytes ++ byte ∷ []) ≡ row_before behind bytes ++ (behind, Some byte) ∷ []
grown behind bytes byte before =
    ap (λ n. enumerate_from n (map Some (bytes ++ byte ∷ []))) (omega (arith, length-append bytes (byte ∷ [])))
    ∙ ap (enumerate_from (behind - length bytes)) (map-append Some bytes (byte ∷ []))
    ∙ enumerate-push (behind - length bytes) (map {B = Option ℕ} Some bytes) (Some byte)
    ∙ ap (λ a. row_before behind bytes ++ (a, Some byte) ∷ []) (omega (arith, length-map {B = Option ℕ} bytes Some))

module _ (made : Made) where
  length-places : length (places_of made) ≡ 65536
  length-places = length-map addresses (place_at made) ∙ length-addresses

  places-next : (address : ℕ) → address < 65536 → drop address (places_of made) ≡ place_at made address ∷ drop (address + 1) (places_of made)
  places-next address below =
      drop_more (places_of made) address (place_at made 0) (omega (arith, length-places))
      ∙ ap (λ p. p ∷ drop (address + 1) (places_of made))
      (get_or-map (place_at made) addresses address 0 (place_at made 0) (omega (arith, length-addresses)) ∙ ap (place_at made) (get_or-addresses address below))

  -- before the first address
  pub dump-first : dump_of (row_before 0 [] ++ drop 0 (places_of made)) ≡ dump_text made
  unfolding dump_text
  dump-first = refl

  -- the address has a byte, which the row takes
  pub dump-byte : (address byte : ℕ) (text : List ℕ) (bytes : List ℕ) → address < 65536 → length bytes ≤ address
      → Some byte ≡ option_map (λ cell. cell.byte) (cell_at made address)
      → text ++ dump_of (row_before (address + 1) (bytes ++ byte ∷ []) ++ drop (address + 1) (places_of made)) ≡ text
      ++ dump_of (row_before address bytes ++ drop address (places_of made))
  dump-byte address byte text bytes below before is =
      ap (λ row. text ++ dump_of (row ++ drop (address + 1) (places_of made))) (grown address bytes byte before)
      ∙ ap (λ ps. text ++ dump_of ps) (append_assoc (row_before address bytes) ((address, Some byte) ∷ []) (drop (address + 1) (places_of made)))
      ∙ ap (λ b. text ++ dump_of (row_before address bytes ++ (address, b) ∷ drop (address + 1) (places_of made))) is
      ∙ ap (λ ps. text ++ dump_of (row_before address bytes ++ ps)) (sym (places-next address below))

  -- the address has none, and the row ends
  pub dump-none : (address : ℕ) (text : List ℕ) (bytes : List ℕ) → address < 65536 → length bytes ≤ 16
      → None ≡ option_map (λ cell. cell.byte) (cell_at made address)
      → (text ++ row_text address bytes) ++ dump_of (row_before (address + 1) [] ++ drop (address + 1) (places_of made)) ≡ text
      ++ dump_of (row_before address bytes ++ drop address (places_of made))
  dump-none address text bytes below few is =
      append_assoc text (row_text address bytes) (dump_of (drop (address + 1) (places_of made)))
      ∙ ap (λ t. text ++ (t ++ dump_of (drop (address + 1) (places_of made)))) (sym (own_line-row address bytes))
      ∙ ap (λ t. text ++ t) (sym (dump-gap (row_before address bytes) (address, None) (drop (address + 1) (places_of made))
      (all_have (address - length bytes) bytes) (omega (arith, length-row address bytes)) refl))
      ∙ ap (λ b. text ++ dump_of (row_before address bytes ++ (address, b) ∷ drop (address + 1) (places_of made))) is
      ∙ ap (λ ps. text ++ dump_of (row_before address bytes ++ ps)) (sym (places-next address below))

  -- behind the last address
  pub dump-last : (text : List ℕ) (bytes : List ℕ) → length bytes ≤ 16
      → text ++ row_text 65536 bytes ≡ text ++ dump_of (row_before 65536 bytes ++ drop 65536 (places_of made))
  dump-last text bytes few =
      ap (λ t. text ++ t) (sym (own_line-row 65536 bytes)
      ∙ sym (dump-end (row_before 65536 bytes) (all_have (65536 - length bytes) bytes) (omega (arith, length-row 65536 bytes))))
      ∙ ap (λ ps. text ++ dump_of (row_before 65536 bytes ++ ps)) (sym (drop_all 65536 (places_of made) (omega (arith, length-places))))

-- a full row ends before the next byte
pub room-full : (behind : ℕ) (text : List ℕ) (bytes : List ℕ) (rest : List Place) → length bytes ≡ 16
    → (text ++ row_text behind bytes) ++ dump_of (row_before behind [] ++ rest) ≡ text ++ dump_of (row_before behind bytes ++ rest)
room-full behind text bytes rest full =
    append_assoc text (row_text behind bytes) (dump_of rest)
    ∙ ap (λ t. text ++ (t ++ dump_of rest))
    (cond-false (length bytes == 0) [] (line_text (row_before behind bytes)) (ne_eqb (length bytes) 0 (λ e. omega arith)))
    ∙ ap (λ t. text ++ t) (sym (dump-full (row_before behind bytes) rest (all_have (behind - length bytes) bytes) (length-row behind bytes ∙ full)))
