-- A disassembly is assembled line by line.
use Rattle.std.proofs.Common.{◌≡◌, ◌+◌, ◌-◌, ◌<◌, ◌≤◌, ℕ, zero, suc, refl, List, [], ◌∷◌, ◌++◌, length, take, drop, get_or, sym, ◌∙◌, ap, subst, arith, true, false, Some, None, Option, Ok, Err, cond, inl, inr, below_more}
use Rattle.std.specs.Prelude.{◌||◌, ◌==◌, not, map, nat_le, nat_lt, slice_index, slice_get, is_some, option_map}
use Rattle.std.specs.Option.{option_or}
use Rattle.std.specs.Result.{result_err, result_unwrap_or}
use Rattle.std.specs.List.{list_all, range_with_len, position_or_len}
use Rattle.std.specs.Str.Lines.{strip_carriage_return}
use Rattle.std.proofs.lemmas.Bool.{cond-true, cond-false, eqb-true, le-leb, lt-leb, cases_lt, and_parts}
use Rattle.std.proofs.lemmas.List.{append_assoc, append-nil, take-append-drop, length-append, length-take-le, length-drop, take_at, drop_at, get_or_append_left, get_or_at, nil_from_length}
use Rattle.std.proofs.lemmas.List.Sums.{position_or_len_is}
use Rattle.std.proofs.lemmas.List.Folds.{list_any_none}
use Rattle.asm_lex.specs.Bytes.{is_allowed}
use Rattle.asm_lex.specs.declared.shape.LexFault.TheVariants.{BadText}
use Rattle.asm_lex.specs.Lines.{has_bad_bytes, parsed_code, parsed}
use Rattle.asm_lex.specs.Parts.{code_of}
use Rattle.asm_core.specs.declared.table.Cell.{Cell}
use Rattle.asm_core.specs.declared.fault.AsmCause.TheVariants.{Overlap}
use Rattle.asm_core.specs.Cuts.{is_newline}
use Rattle.asm_lex.specs.declared.shape.Isa.{Isa}
use Rattle.asm_lex.specs.Names.{Names}
use Rattle.asm_core.specs.declared.layout.LabelValue.{LabelValue}
use Rattle.asm_core.specs.declared.layout.LabelValue.TheVariants.{Address}
use Rattle.asm_lex.specs.Ranges.{origin_of, last_of}
use Rattle.asm_core.specs.Layout.{laid, laid_out, laid_parts, label_in, from_parts, encoded, count_between}
use Rattle.asm_core.specs.Sources.{source_lines, Known, known_after, known_at, names_before, address_of, all_names, line_at, NoFault, fault_1, fault_2, fault_with, bytes_of, cell_in, cell_of, cell_before, overlaps, count_of, label_value, value_from}
use Rattle.asm_core.proofs.Lines.{source_lines-empty, source_lines-next}
use Rattle.asm_core.proofs.PassOne.{line_here, no_line, known_at-first, known_at-next}
use Rattle.vip_byte.specs.Text.{newline}
use Rattle.asm_listing.specs.Disassembly.{taken, first_line, starts, lines_from, origin, disassembly, HasPlace}
use Rattle.asm_listing.specs.WayBack.{byte_in, AssemblesTo}
use Rattle.asm_core.proofs.Cells.{length-range, get_or-range}
use Rattle.asm_listing.proofs.Starts.{starts-first}
use Rattle.asm_listing.proofs.Values.{no_names}
use Rattle.asm_listing.proofs.Makes.{Makes, origin_makes}
use Rattle.asm_listing.proofs.Assembled.{AreBytes}
use Rattle.asm_listing.proofs.FirstLines.{line_makes, taken_some, taken_within}

-- a line that is laid out has no byte that isn't allowed
allowed_line : (isa : Isa) (names : Names) (at : ℕ) (line : List ℕ) (value : LabelValue) (next : ℕ) → laid_out isa names at line ≡ Ok (laid value next)
    → list_all is_allowed line ≡ true
unfolding laid_out parsed has_bad_bytes
allowed_line isa names at line value next e =
    elim (nat_lt 255 (length line))
    as (λ b. from_parts (laid_parts isa names at) (cond (b || not (list_all is_allowed line)) (Err BadText) (parsed_code isa names (code_of line)))
    ≡ Ok (laid value next) → list_all is_allowed line ≡ true) [
      | true ↦ λ h. absurd (cc)
      | false ↦ λ h. elim (list_all is_allowed line)
          as (λ b. from_parts (laid_parts isa names at) (cond (not b) (Err BadText) (parsed_code isa names (code_of line))) ≡ Ok (laid value next) → b ≡ true) [
            | true ↦ λ k. refl
            | false ↦ λ k. absurd (cc)
          ] h
    ] e

not_allowed : (c stop : ℕ) → is_allowed stop ≡ false → is_allowed c ≡ true → (c == stop) ≡ false
not_allowed c stop wrong right = elim (c == stop) as (λ b. (c == stop) ≡ b → b ≡ false) [
  | true ↦ λ e. let same : c ≡ stop = eqb-true c stop e in absurd (cc)
  | false ↦ λ e. refl
] refl

allowed_at : (line : List ℕ) → list_all is_allowed line ≡ true → (k d : ℕ) → k < length line → is_allowed (get_or line k d) ≡ true
allowed_at [] all k d below = absurd (omega arith)
allowed_at (c ∷ line) all zero d below = (and_parts _ _ all).0
allowed_at (c ∷ line) all (suc k) d below = allowed_at line (and_parts _ _ all).1 k d (omega arith)

strip-none : (line : List ℕ) → list_all is_allowed line ≡ true → strip_carriage_return line ≡ line
strip-none [] all = refl
strip-none (c ∷ line) all =
    cond-false (slice_index (c ∷ line) (length (c ∷ line) - 1) == 13) (take (length (c ∷ line) - 1) (c ∷ line)) (c ∷ line)
    (not_allowed (get_or (c ∷ line) (length (c ∷ line) - 1) 0) 13 refl (allowed_at (c ∷ line) all (length (c ∷ line) - 1) 0 (omega arith)))

-- a line and its end
line_cut : (line rest : List ℕ) → list_all is_allowed line ≡ true → source_lines ((line ++ newline) ++ rest) ≡ line ∷ source_lines rest
line_cut line rest all =
    let text : List ℕ = line ++ (10 ∷ rest) in
    let place : position_or_len is_newline text ≡ length line =
    position_or_len_is is_newline text (length line) 0 (omega (arith, length-append line (10 ∷ rest)))
    (λ k below. ap (λ c. c == 10) (get_or_append_left line (10 ∷ rest) 0 k below) ∙ not_allowed (get_or line k 0) 10 refl (allowed_at line all k 0 below))
    (λ below. ap (λ c. c == 10) (get_or_at line 10 rest 0 (length line) refl)) in
    let front : take (position_or_len is_newline text) text ≡ line = ap (λ n. take n text) place ∙ take_at line (10 ∷ rest) (length line) refl in
    let back : drop (position_or_len is_newline text + 1) text ≡ rest =
    ap (λ n. drop (n + 1) text) place ∙ ap (drop (length line + 1)) (sym (append_assoc line newline rest))
    ∙ drop_at (line ++ newline) rest (length line + 1) (length-append line newline) in
    ap source_lines (append_assoc line newline rest)
    ∙ source_lines-next text (omega (arith, place, length-append line (10 ∷ rest)))
    ∙ ap (λ l. strip_carriage_return l ∷ source_lines (drop (position_or_len is_newline text + 1) text)) front
    ∙ ap (λ l. l ∷ source_lines (drop (position_or_len is_newline text + 1) text)) (strip-none line all)
    ∙ ap (λ r. line ∷ source_lines r) back

-- the lines of a disassembly, one after another
abbrev line_of : Isa → ℕ × List ℕ → List ℕ
line_of isa start = first_line isa start.0 start.1

-- each line begins where the one before ends
abbrev IsChain : Isa → ℕ → List ℕ → List (ℕ × List ℕ) → Type 0
IsChain isa at bytes [] = length bytes ≡ 0
IsChain isa at bytes (start ∷ rest) =
    (start ≡ (at, bytes)) × (0 < length bytes) × IsChain isa (at + taken isa bytes) (drop (taken isa bytes) bytes) rest

chain : (isa : Isa) (n : ℕ) (bytes : List ℕ) (at : ℕ) → length bytes ≤ n → IsChain isa at bytes (starts isa 0 at bytes)
chain isa n [] at few = refl
chain isa zero (byte ∷ bytes) at few = absurd (omega arith)
chain isa (suc n) (byte ∷ bytes) at few =
    let all : List ℕ = byte ∷ bytes in
    let some : 1 ≤ taken isa all = taken_some isa all in
    let within : taken isa all ≤ length all = taken_within isa all (omega arith) in
    subst (IsChain isa at all) (sym (starts-first isa all at some within))
    (refl, omega arith, chain isa n (drop (taken isa all) all) (at + taken isa all) (omega (arith, length-drop (taken isa all) all)))

low_drop : (n : ℕ) (bytes : List ℕ) → AreBytes bytes → AreBytes (drop n bytes)
low_drop zero bytes all = all
low_drop (suc n) [] all = λ k d below. absurd (omega arith)
low_drop (suc n) (byte ∷ bytes) all = low_drop n bytes (λ k d below. all (suc k) d (omega arith))

-- the source of the lines
lines_cut : (isa : Isa) (rest : List (ℕ × List ℕ)) (at : ℕ) (bytes : List ℕ) → AreBytes bytes → at + length bytes ≤ last_of isa + 1 → IsChain isa at bytes rest
    → source_lines (lines_from isa rest) ≡ map (line_of isa) rest
lines_cut isa [] at bytes low fits linked = source_lines-empty
lines_cut isa (start ∷ rest) at bytes low fits linked =
    let makes = line_makes no_names at bytes low isa linked.1 fits in
    let within : taken isa bytes ≤ length bytes = taken_within isa bytes linked.1 in
    let allowed : list_all is_allowed (line_of isa start) ≡ true =
    ap (λ s. list_all is_allowed (line_of isa s)) linked.0
    ∙ allowed_line isa no_names at (first_line isa at bytes) (Address at) (at + taken isa bytes) makes.laid_is in
    line_cut (line_of isa start) (lines_from isa rest) allowed
    ∙ ap (λ more. line_of isa start ∷ more)
    (lines_cut isa rest (at + taken isa bytes) (drop (taken isa bytes) bytes) (low_drop (taken isa bytes) bytes low)
    (omega (arith, fits, within, length-drop (taken isa bytes) bytes)) linked.2)

-- the bytes at addresses, some of them and more behind them
slice_get-append_left : (xs ys : List ℕ) (k : ℕ) → k < length xs → slice_get (xs ++ ys) k ≡ slice_get xs k
slice_get-append_left [] ys k below = absurd (omega arith)
slice_get-append_left (x ∷ xs) ys zero below = refl
slice_get-append_left (x ∷ xs) ys (suc k) below = slice_get-append_left xs ys k (omega arith)

slice_get-append_right : (xs ys : List ℕ) (k : ℕ) → length xs ≤ k → slice_get (xs ++ ys) k ≡ slice_get ys (k - length xs)
slice_get-append_right [] ys k past = ap (slice_get ys) (omega arith)
slice_get-append_right (x ∷ xs) ys zero past = absurd (omega arith)
slice_get-append_right (x ∷ xs) ys (suc k) past = slice_get-append_right xs ys k (omega arith) ∙ ap (slice_get ys) (omega arith)

slice_get-past : (xs : List ℕ) (k : ℕ) → length xs ≤ k → slice_get xs k ≡ None
slice_get-past [] k past = refl
slice_get-past (x ∷ xs) zero past = absurd (omega arith)
slice_get-past (x ∷ xs) (suc k) past = slice_get-past xs k (omega arith)

slice_get-some : (xs : List ℕ) (k : ℕ) → k < length xs → (x : ℕ) × (slice_get xs k ≡ Some x)
slice_get-some [] k below = absurd (omega arith)
slice_get-some (x ∷ xs) zero below = (x, refl)
slice_get-some (x ∷ xs) (suc k) below = slice_get-some xs k (omega arith)

byte_in-above : (at : ℕ) (xs : List ℕ) (address : ℕ) → at ≤ address → byte_in at xs address ≡ slice_get xs (address - at)
byte_in-above at xs address above = cond-true (nat_le at address) (slice_get xs (address - at)) None (le-leb at address above)

byte_in-below : (at : ℕ) (xs : List ℕ) (address : ℕ) → address < at → byte_in at xs address ≡ None
byte_in-below at xs address below = cond-false (nat_le at address) (slice_get xs (address - at)) None (lt-leb at address below)

byte_in-past : (at : ℕ) (xs : List ℕ) (address : ℕ) → at + length xs ≤ address → byte_in at xs address ≡ None
byte_in-past at xs address past = byte_in-above at xs address (omega arith) ∙ slice_get-past xs (address - at) (omega arith)

nothing_in : (at address : ℕ) → byte_in at [] address ≡ None
nothing_in at address = elim (cases_lt address at) [
  | inl under ↦ byte_in-below at [] address under
  | inr above ↦ byte_in-past at [] address (omega arith)
]

first_stays : (o p : Option ℕ) (x : ℕ) → o ≡ Some x → option_or o p ≡ o
first_stays None p x e = absurd (cc)
first_stays (Some y) p x e = refl

second_none : (o p : Option ℕ) → p ≡ None → option_or o p ≡ o
second_none None p e = e
second_none (Some y) p e = refl

byte_in-append : (at : ℕ) (xs ys : List ℕ) (address : ℕ)
    → option_or (byte_in at xs address) (byte_in (at + length xs) ys address) ≡ byte_in at (xs ++ ys) address
byte_in-append at xs ys address = elim (cases_lt address at) [
  | inl under ↦
      ap (λ o. option_or o (byte_in (at + length xs) ys address)) (byte_in-below at xs address under)
      ∙ byte_in-below (at + length xs) ys address (omega arith) ∙ sym (byte_in-below at (xs ++ ys) address under)
  | inr above ↦ elim (cases_lt address (at + length xs)) [
    | inl inside ↦
        let there = slice_get-some xs (address - at) (omega arith) in
        first_stays (byte_in at xs address) (byte_in (at + length xs) ys address) there.0 (byte_in-above at xs address above ∙ there.1)
        ∙ byte_in-above at xs address above ∙ sym (slice_get-append_left xs ys (address - at) (omega arith)) ∙ sym (byte_in-above at (xs ++ ys) address above)
    | inr past ↦
        let place : address - at - length xs ≡ address - (at + length xs) = omega arith in
        ap (λ o. option_or o (byte_in (at + length xs) ys address)) (byte_in-past at xs address past)
        ∙ byte_in-above (at + length xs) ys address past ∙ ap (slice_get ys) (sym place)
        ∙ sym (slice_get-append_right xs ys (address - at) (omega arith)) ∙ sym (byte_in-above at (xs ++ ys) address above)
  ]
]

-- the cells of a line, seen as bytes
abbrev byte_of : Option Cell → Option ℕ
byte_of cell = option_map (λ cell. cell.byte) cell

byte_of-mapped : (line : ℕ) (o : Option ℕ) → byte_of (option_map (λ byte. record { byte = byte; line = line }) o) ≡ o
byte_of-mapped line None = refl
byte_of-mapped line (Some byte) = refl

byte_of-cell_in : (line at : ℕ) (bytes : List ℕ) (address : ℕ) → byte_of (cell_in line at bytes address) ≡ byte_in at bytes address
byte_of-cell_in line at bytes address =
    elim (nat_le at address) as (λ b. byte_of
    (cond b (option_map (λ byte. record { byte = byte; line = line }) (slice_get bytes (address - at))) None)
    ≡ cond b (slice_get bytes (address - at)) None) [
      | true ↦ byte_of-mapped line (slice_get bytes (address - at))
      | false ↦ refl
    ]

byte_of-or : (o p : Option Cell) → byte_of (option_or o p) ≡ option_or (byte_of o) (byte_of p)
byte_of-or None p = refl
byte_of-or (Some cell) p = refl

no_cell : (o : Option Cell) → byte_of o ≡ None → is_some o ≡ false
no_cell None e = refl
no_cell (Some cell) e = absurd (cc)

module _ (isa : Isa) (source : List (List ℕ)) (start : ℕ) where
  -- the lines before line k have no fault and define no name, and gave these bytes
  record Reached (k at : ℕ) (done : List ℕ) : Type 0 where
    inside : k ≤ length source
    place : address_of isa source k ≡ at
    unnamed : names_before isa source k ≡ no_names
    bound : at ≡ start + length done
    no_fault_1 : NoFault (fault_1 isa source) k
    no_fault_2 : NoFault (fault_2 isa source) k
    bytes : (address : ℕ) → byte_of (cell_before isa source k address) ≡ byte_in start done address

  module _ (k at : ℕ) (line : List ℕ) (value : LabelValue) (next : ℕ) (made : List ℕ) (makes : (names : Names) → Makes isa names at line value next made)
      (below : k < length source) (here : line_at source k ≡ line) (place : address_of isa source k ≡ at) (unnamed : names_before isa source k ≡ no_names) where
    laid_here : laid_out isa (names_before isa source k) (address_of isa source k) (line_at source k) ≡ Ok (laid value next)
    laid_here =
        ap (λ names. laid_out isa names (address_of isa source k) (line_at source k)) unnamed
        ∙ ap (λ a. laid_out isa no_names a (line_at source k)) place
        ∙ ap (laid_out isa no_names at) here
        ∙ (makes no_names).laid_is

    label_here : label_in isa (names_before isa source k) (line_at source k) ≡ None
    label_here =
        ap (λ names. label_in isa names (line_at source k)) unnamed ∙ ap (label_in isa no_names) here ∙ (makes no_names).unlabelled

    known_behind : known_at isa source (k + 1) ≡ known_after (known_at isa source k) None (Ok (laid value next))
    known_behind =
        known_at-next isa source k below
        ∙ ap (known_after (known_at isa source k) (label_in isa (names_before isa source k) (line_at source k))) laid_here
        ∙ ap (λ label. known_after (known_at isa source k) label (Ok (laid value next))) label_here

    next_place : address_of isa source (k + 1) ≡ next
    next_place = ap (λ (known : Known). known.at) known_behind

    next_unnamed : names_before isa source (k + 1) ≡ no_names
    next_unnamed = ap (λ (known : Known). known.names) known_behind ∙ unnamed

    no_fault : fault_1 isa source k ≡ None
    unfolding fault_1
    no_fault = ap result_err laid_here

    value_here : label_value isa source k ≡ value
    unfolding label_value
    value_here = ap value_from laid_here

    count_here : count_of isa source k ≡ count_between value at next
    count_here =
        let after : address_of isa source (suc k) ≡ next = ap (λ n. address_of isa source n) (omega arith) ∙ next_place in
        ap (λ v. count_between v (address_of isa source k) (address_of isa source (suc k))) value_here
        ∙ ap (λ a. count_between value a (address_of isa source (suc k))) place
        ∙ ap (count_between value at) after

    bytes_here : bytes_of isa source k ≡ Ok made
    unfolding bytes_of
    bytes_here =
        let all : Names = all_names isa source in
        ap (λ names. encoded isa names all (address_of isa source k) (count_of isa source k) (line_at source k)) unnamed
        ∙ ap (λ a. encoded isa no_names all a (count_of isa source k) (line_at source k)) place
        ∙ ap (λ n. encoded isa no_names all at n (line_at source k)) count_here
        ∙ ap (encoded isa no_names all at (count_between value at next)) here
        ∙ (makes all).encoded_is

    cell_here : (address : ℕ) → cell_of isa source k address ≡ cell_in (k + 1) at made address
    cell_here address =
        ap (λ r. cell_in (k + 1) (address_of isa source k) (result_unwrap_or r []) address) bytes_here ∙ ap (λ a. cell_in (k + 1) a made address) place

    bytes_behind : (address : ℕ) → byte_of (cell_before isa source (k + 1) address)
        ≡ option_or (byte_of (cell_before isa source k address)) (byte_in at made address)
    unfolding cell_before
    bytes_behind address =
        let step : k + 1 ≡ suc k = omega arith in
        ap (λ n. byte_of (cell_before isa source n address)) step
        ∙ byte_of-or (cell_before isa source k address) (cell_of isa source k address)
        ∙ ap (λ c. option_or (byte_of (cell_before isa source k address)) (byte_of c)) (cell_here address)
        ∙ ap (option_or (byte_of (cell_before isa source k address))) (byte_of-cell_in (k + 1) at made address)

    no_overlap : ((j : ℕ) → j < length made → byte_of (cell_before isa source k (at + j)) ≡ None) → fault_2 isa source k ≡ None
    unfolding fault_2
    no_overlap free =
        let none : overlaps (cell_before isa source k) at (length made) ≡ false =
        list_any_none (λ offset. is_some (cell_before isa source k (at + offset))) (range_with_len 0 (length made))
        (λ j d under. ap (λ n. is_some (cell_before isa source k (at + n))) (get_or-range (length made) 0 j d (omega (arith, length-range (length made) 0)))
        ∙ no_cell (cell_before isa source k (at + (0 + j))) (free (0 + j) (omega (arith, length-range (length made) 0)))) in
        ap (fault_with (cell_before isa source k) (address_of isa source k)) bytes_here
        ∙ ap (λ a. fault_with (cell_before isa source k) a (Ok made)) place
        ∙ ap (λ b. cond b (Some Overlap) None) none

  -- one line of bytes more
  reached_next : (k at : ℕ) (done : List ℕ) (line made : List ℕ)
      → ((names : Names) → Makes isa names at line (Address at) (at + length made) made)
      → k < length source → line_at source k ≡ line
      → Reached k at done → Reached (k + 1) (at + length made) (done ++ made)
  reached_next k at done line made makes below here so_far =
      let next : ℕ = at + length made in
      record {
        inside = omega arith;
        place = next_place k at line (Address at) next made makes below here so_far.place so_far.unnamed;
        unnamed = next_unnamed k at line (Address at) next made makes below here so_far.place so_far.unnamed;
        bound = omega (arith, so_far.bound, length-append done made);
        no_fault_1 = below_more (λ i. fault_1 isa source i ≡ None) k so_far.no_fault_1
            (no_fault k at line (Address at) next made makes below here so_far.place so_far.unnamed);
        no_fault_2 = below_more (λ i. fault_2 isa source i ≡ None) k so_far.no_fault_2
            (no_overlap k at line (Address at) next made makes below here so_far.place so_far.unnamed
            (λ j under. so_far.bytes (at + j) ∙ byte_in-past start done (at + j) (omega (arith, so_far.bound))));
        bytes = λ address.
            bytes_behind k at line (Address at) next made makes below here so_far.place so_far.unnamed address
            ∙ ap (λ o. option_or o (byte_in at made address)) (so_far.bytes address)
            ∙ ap (λ a. option_or (byte_in start done address) (byte_in a made address)) so_far.bound
            ∙ byte_in-append start done made address;
      }

  -- all lines
  reached_all : (rest : List (ℕ × List ℕ)) (k at : ℕ) (done left : List ℕ) → AreBytes left → at + length left ≤ last_of isa + 1 → IsChain isa at left rest
      → drop k source ≡ map (line_of isa) rest → Reached k at done
      → AssemblesTo isa source start (done ++ left)
  reached_all [] k at done left low fits linked source_is so_far =
      let last : k ≡ length source = no_line source k source_is so_far.inside in
      let whole : done ++ left ≡ done = ap (λ l. done ++ l) (nil_from_length left linked) ∙ append-nil done in
      record {
        no_fault_1 = subst (NoFault (fault_1 isa source)) last so_far.no_fault_1;
        no_fault_2 = subst (NoFault (fault_2 isa source)) last so_far.no_fault_2;
        bytes_are =
            λ address. ap (λ n. byte_of (cell_before isa source n address)) (sym last) ∙ so_far.bytes address
            ∙ ap (λ xs. byte_in start xs address) (sym whole);
      }
  reached_all (s ∷ rest) k at done left low fits linked source_is so_far =
      let here = line_here source k (line_of isa s) (map (line_of isa) rest) source_is in
      let within : taken isa left ≤ length left = taken_within isa left linked.1 in
      let made : List ℕ = take (taken isa left) left in
      let more : List ℕ = drop (taken isa left) left in
      let count : length made ≡ taken isa left = length-take-le (taken isa left) left within in
      let makes : (names : Names) → Makes isa names at (first_line isa at left) (Address at) (at + length made) made =
      λ names. subst (λ n. Makes isa names at (first_line isa at left) (Address at) (at + n) made) (sym count)
      (line_makes names at left low isa linked.1 fits) in
      let next : Reached (k + 1) (at + length made) (done ++ made) =
      reached_next k at done (first_line isa at left) made makes here.0 (here.1 ∙ ap (line_of isa) linked.0) so_far in
      let joined : (done ++ made) ++ more ≡ done ++ left = append_assoc done made more ∙ ap (λ l. done ++ l) (take-append-drop (taken isa left) left) in
      subst (AssemblesTo isa source start) joined
      (reached_all rest (k + 1) (at + length made) (done ++ made) more (low_drop (taken isa left) left low)
      (omega (arith, fits, within, count, length-drop (taken isa left) left))
      (subst (λ n. IsChain isa (at + n) more rest) (sym count) linked.2) here.2 next)

-- the source of a disassembly begins with the line that sets the address
module _ (isa : Isa) (start : ℕ) (bytes : List ℕ) (low : AreBytes bytes) (has_place : HasPlace isa start bytes) where
  abbrev source_of : List (List ℕ)
  source_of = origin start ∷ map (line_of isa) (starts isa 0 start bytes)

  first_makes : (names : Names) → Makes isa names (origin_of isa) (origin start) (Address start) start []
  first_makes names = origin_makes isa names (origin_of isa) start has_place.least has_place.most

  source_is : source_lines (disassembly isa start bytes) ≡ source_of
  unfolding disassembly
  source_is =
      line_cut (origin start) (lines_from isa (starts isa 0 start bytes))
      (allowed_line isa no_names (origin_of isa) (origin start) (Address start) start (first_makes no_names).laid_is)
      ∙ ap (λ more. origin start ∷ more)
      (lines_cut isa (starts isa 0 start bytes) start bytes low has_place.fits (chain isa (length bytes) bytes start (omega arith)))

  -- behind it no address has a byte yet
  reached_first : Reached isa source_of start 1 start []
  unfolding cell_before
  reached_first =
      let place : address_of isa source_of 0 ≡ origin_of isa = ap (λ (known : Known). known.at) (known_at-first isa source_of) in
      let unnamed : names_before isa source_of 0 ≡ no_names = ap (λ (known : Known). known.names) (known_at-first isa source_of) in
      let below : 0 < length source_of = omega arith in
      record {
        inside = omega arith;
        place = next_place isa source_of start 0 (origin_of isa) (origin start) (Address start) start [] first_makes below refl place unnamed;
        unnamed = next_unnamed isa source_of start 0 (origin_of isa) (origin start) (Address start) start [] first_makes below refl place unnamed;
        bound = omega arith;
        no_fault_1 =
            below_more (λ i. fault_1 isa source_of i ≡ None) 0 (λ i under. absurd (omega arith))
            (no_fault isa source_of start 0 (origin_of isa) (origin start) (Address start) start [] first_makes below refl place unnamed);
        no_fault_2 = below_more (λ i. fault_2 isa source_of i ≡ None) 0 (λ i under. absurd (omega arith))
            (no_overlap isa source_of start 0 (origin_of isa) (origin start) (Address start) start [] first_makes below refl place unnamed
            (λ j under. absurd (omega arith)));
        bytes = λ address.
            bytes_behind isa source_of start 0 (origin_of isa) (origin start) (Address start) start [] first_makes below refl place unnamed address
            ∙ nothing_in (origin_of isa) address ∙ sym (nothing_in start address);
      }

  pub comes_back : AssemblesTo isa (source_lines (disassembly isa start bytes)) start bytes
  comes_back =
      subst (λ source. AssemblesTo isa source start bytes) (sym source_is)
      (reached_all isa source_of start (starts isa 0 start bytes) 1 start [] bytes low has_place.fits (chain isa (length bytes) bytes start (omega arith)) refl
      reached_first)
