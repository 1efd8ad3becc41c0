-- A source of the CDP1802 is assembled by two passes over its lines, each of which is read once: one for the names, and one for the bytes,
-- which are compared on the way with those of a ROM. Where both pass, the source assembles, its bytes are the ROM's, and it is known which
-- addresses have one. The definitions speak of the state before each line, which they take from the first line on; this takes it from the
-- line before, so that a long source can be computed.
use Rattle.std.proofs.Common.{◌≡◌, ℕ, zero, suc, ◌+◌, ◌-◌, ◌<◌, ◌≤◌, refl, sym, ◌∙◌, ap, subst, arith, inl, inr, Bool, true, false, cond, not, ◌&&◌, ◌||◌, ◌==◌, nat_le, nat_lt, List, [], ◌∷◌, length, drop, map, fold, Option, Some, None, is_some, option_map, slice_get, Result, Ok, Err, below_more}
use Rattle.std.specs.List.{list_any, range_with_len}
use Rattle.std.specs.Option.{option_or}
use Rattle.std.specs.Result.{result_err, result_unwrap_or}
use Rattle.std.proofs.lemmas.Bool.{and_parts, and_from, or_cases, or_left, or_right, eqb-true, leb-true, le-leb, ltb-true, lt-ltb, le-ltb, cases_lt, not-true, cond-false}
use Rattle.std.proofs.lemmas.List.{take_all}
use Rattle.std.proofs.lemmas.Option.{slice_get_cases}
use Rattle.std.proofs.Math.Bool.{or_comm, or-false}
use Rattle.asm_lex.specs.declared.shape.LexFault.{LexFault}
use Rattle.asm_lex.specs.Lines.{Parsed, parsed}
use Rattle.asm_core.specs.declared.fault.AsmCause.{AsmCause}
use Rattle.asm_core.specs.declared.fault.AsmCause.TheVariants.{Overlap}
use Rattle.asm_core.specs.declared.layout.Laid.{Laid}
use Rattle.asm_core.specs.declared.table.Cell.{Cell}
use Rattle.asm_lex.specs.declared.shape.Isa.TheVariants.{Cdp1802}
use Rattle.asm_lex.specs.Names.{Names}
use Rattle.asm_lex.proofs.OneLanguage.{one_language}
use Rattle.asm_core.specs.Layout.{from_parts, laid_parts, laid_out, label_from, label_in, encoded_parts, encoded, count_between}
use Rattle.asm_core.specs.Sources.{Known, known_first, known_after, known_next, known_at, address_of, all_names, line_at, fault_1, fault_2, fault_with, overlaps, bytes_of, cell_in, cell_before, NoFault, value_from, label_value, count_of}
use Rattle.asm_core.proofs.PassOne.{line_here, no_line, known_at-first, known_at-next}

-- ---- a line that was read

abbrev pub Read : Type 0
Read = Result Parsed LexFault

-- a line as it is read, whatever the earlier names are
abbrev pub read : List ℕ → Read
read line = parsed Cdp1802 (λ name. None) line

abbrev pub laid_by : Known → Read → Result Laid AsmCause
laid_by known line = from_parts (laid_parts Cdp1802 known.names known.at) line

abbrev pub bytes_by : Names → ℕ → ℕ → Read → Result (List ℕ) AsmCause
bytes_by names at count line = from_parts (λ line. encoded_parts Cdp1802 names at count line.word line.operands) line

-- how many bytes it has
abbrev pub count_by : Known → Laid → ℕ
count_by known laid = count_between laid.value known.at laid.next

-- what stands before the next line
abbrev pub known_by : Known → Read → Known
known_by known line = known_after known (label_from line) (laid_by known line)

as_read : (names : Names) (line : List ℕ) → parsed Cdp1802 names line ≡ read line
as_read names line = one_language names (λ name. None) line

known_step : (known : Known) (line : List ℕ) → known_next Cdp1802 known line ≡ known_by known (read line)
unfolding laid_out label_in
known_step known line = ap (known_by known) (as_read known.names line)

-- ---- stretches of addresses, each by its first address and its length

abbrev pub Stretches : Type 0
Stretches = List (ℕ × ℕ)

abbrev pub is_in : ℕ → ℕ × ℕ → Bool
is_in a s = nat_le s.0 a && nat_lt a (s.0 + s.1)

abbrev pub covers : Stretches → ℕ → Bool
covers stretches a = list_any (is_in a) stretches

-- one more stretch, which may go on where the last one ends
abbrev pub with_stretch : Stretches → ℕ → ℕ → Stretches
with_stretch [] at count = (at, count) ∷ []
with_stretch (s ∷ more) at count = cond (s.0 + s.1 == at) ((s.0, s.1 + count) ∷ more) ((at, count) ∷ s ∷ more)

-- ---- the bytes of a ROM

-- the byte at each address, if there is one
abbrev pub Rom : Type 0
Rom = ℕ → Option ℕ

abbrev pub is_byte : Option ℕ → ℕ → Bool
is_byte None b = false
is_byte (Some x) b = x == b

-- the ROM has these bytes from this address on
abbrev pub holds : Rom → ℕ → List ℕ → Bool
holds rom at [] = true
holds rom at (b ∷ bytes) = is_byte (rom at) b && holds rom (at + 1) bytes

-- ---- the second pass

-- the bytes of a line stand where no earlier ones do, and are the ROM's
abbrev pub fits : Rom → Stretches → ℕ → List ℕ → Bool
fits rom stretches at bytes = not (list_any (λ offset. covers stretches (at + offset)) (range_with_len 0 (length bytes))) && holds rom at bytes

-- the other lines, from what stands before them on
abbrev pub Rest : Type 0
Rest = Known → Stretches → Option Stretches

abbrev pub by_bytes : Rom → Known → Stretches → Read → Rest → Laid → Result (List ℕ) AsmCause → Option Stretches
by_bytes rom known stretches line rest laid (Err cause) = None
by_bytes rom known stretches line rest laid (Ok bytes) =
    cond (fits rom stretches known.at bytes) (rest (known_after known (label_from line) (Ok laid)) (with_stretch stretches known.at (length bytes))) None

abbrev pub by_laid : Names → Rom → Known → Stretches → Read → Rest → Result Laid AsmCause → Option Stretches
by_laid names rom known stretches line rest (Err cause) = None
by_laid names rom known stretches line rest (Ok laid) = by_bytes rom known stretches line rest laid (bytes_by names known.at (count_by known laid) line)

-- the stretches of all lines; none where a line has a fault or another byte than the ROM
abbrev pub stretches_by : Names → Rom → List Read → Rest
stretches_by names rom [] known stretches = Some stretches
stretches_by names rom (line ∷ lines) known stretches = by_laid names rom known stretches line (stretches_by names rom lines) (laid_by known line)

abbrev pub stretches_of : Rom → List Read → Option Stretches
stretches_of rom lines = stretches_by (fold known_by (known_first Cdp1802) lines).names rom lines (known_first Cdp1802) []

-- ---- stretches

same_bool : (x y : Bool) → (x ≡ true → y ≡ true) → (y ≡ true → x ≡ true) → x ≡ y
same_bool true y f g = sym (f refl)
same_bool false true f g = g refl
same_bool false false f g = refl

is_in_from : (a first count : ℕ) → first ≤ a → a < first + count → is_in a (first, count) ≡ true
is_in_from a first count from to = and_from (nat_le first a) (nat_lt a (first + count)) (le-leb first a from) (lt-ltb a (first + count) to)

is_in_parts : (a first count : ℕ) → is_in a (first, count) ≡ true → (first ≤ a) × (a < first + count)
is_in_parts a first count e = let both = and_parts _ _ e in (leb-true first a both.0, ltb-true a (first + count) both.1)

-- two stretches of which one goes on where the other ends
joined : (a first n m : ℕ) → is_in a (first, n + m) ≡ (is_in a (first, n) || is_in a (first + n, m))
joined a first n m = same_bool _ _ one two
  where
    one : is_in a (first, n + m) ≡ true → (is_in a (first, n) || is_in a (first + n, m)) ≡ true
    one e =
        let parts = is_in_parts a first (n + m) e in
        elim (cases_lt a (first + n)) [
          | inl below ↦ or_left _ _ (is_in_from a first n parts.0 below)
          | inr above ↦ or_right _ _ (is_in_from a (first + n) m above (omega (arith, parts.1)))
        ]

    two : (is_in a (first, n) || is_in a (first + n, m)) ≡ true → is_in a (first, n + m) ≡ true
    two e = elim (or_cases _ _ e) [
      | inl x ↦ let parts = is_in_parts a first n x in is_in_from a first (n + m) parts.0 (omega (arith, parts.1))
      | inr y ↦ let parts = is_in_parts a (first + n) m y in is_in_from a first (n + m) (omega (arith, parts.0)) (omega (arith, parts.1))
    ]

or_move : (x y z : Bool) → ((x || y) || z) ≡ ((x || z) || y)
or_move true y z = refl
or_move false y z = or_comm y z

-- one more stretch
covers-with : (stretches : Stretches) (at count a : ℕ) → covers (with_stretch stretches at count) a ≡ (covers stretches a || is_in a (at, count))
covers-with [] at count a = or-false (is_in a (at, count))
covers-with (s ∷ more) at count a =
    elim (s.0 + s.1 == at) as
    (λ b. (s.0 + s.1 == at) ≡ b → covers (cond b ((s.0, s.1 + count) ∷ more) ((at, count) ∷ s ∷ more)) a
    ≡ (covers (s ∷ more) a || is_in a (at, count))) [
      | true ↦ λ e.
          ap (λ t. t || covers more a) (joined a s.0 s.1 count ∙ ap (λ n. is_in a s || is_in a (n, count)) (eqb-true (s.0 + s.1) at e))
          ∙ or_move (is_in a s) (is_in a (at, count)) (covers more a)
      | false ↦ λ e. or_comm (is_in a (at, count)) (covers (s ∷ more) a)
    ] refl

-- ---- the bytes of a ROM

is_byte-true : (found : Option ℕ) (b : ℕ) → is_byte found b ≡ true → found ≡ Some b
is_byte-true None b e = absurd (cc)
is_byte-true (Some x) b e = ap Some (eqb-true x b e)

holds_at : (rom : Rom) (at : ℕ) (bytes : List ℕ) (k b : ℕ) → holds rom at bytes ≡ true → slice_get bytes k ≡ Some b → rom (at + k) ≡ Some b
holds_at rom at [] k b e there = absurd (cc)
holds_at rom at (x ∷ bytes) zero b e there =
    let here : at + zero ≡ at = omega arith in
    ap rom here ∙ is_byte-true (rom at) x (and_parts _ _ e).0 ∙ there
holds_at rom at (x ∷ bytes) (suc k) b e there =
    let here : at + suc k ≡ (at + 1) + k = omega arith in
    ap rom here ∙ holds_at rom (at + 1) bytes k b (and_parts _ _ e).1 there

-- ---- the cells of a line

-- a line gives a byte to the addresses of its stretch
cell_there : (line at : ℕ) (bytes : List ℕ) (a : ℕ) → is_some (cell_in line at bytes a) ≡ is_in a (at, length bytes)
cell_there line at bytes a =
    elim (nat_le at a) as
    (λ b. nat_le at a ≡ b → is_some (cond b (option_map cell (slice_get bytes (a - at))) None) ≡ (b && nat_lt a (at + length bytes))) [
      | true ↦ λ from. elim (slice_get_cases bytes (a - at)).1 [
        | inl found ↦
            ap (λ o. is_some (option_map cell o)) found.2
            ∙ sym (lt-ltb a (at + length bytes) (omega (arith, found.1, leb-true at a from)))
        | inr past ↦
            ap (λ o. is_some (option_map cell o)) past.1
            ∙ sym (le-ltb a (at + length bytes) (omega (arith, past.0, leb-true at a from)))
      ]
      | false ↦ λ below. refl
    ] refl
  where
    cell : ℕ → Cell
    cell byte = record { byte = byte; line = line }

byte_in_cell : (line : ℕ) (found : Option ℕ) (cell : Cell)
    → option_map (λ byte. record { byte = byte; line = line }) found ≡ Some cell → found ≡ Some cell.byte
byte_in_cell line None cell e = absurd (cc)
byte_in_cell line (Some byte) cell e =
    let here : Cell = record { byte = byte; line = line } in
    let same : here ≡ cell = cc in
    ap (λ (c : Cell). Some c.byte) same

cell_byte : (line at : ℕ) (bytes : List ℕ) (a : ℕ) (cell : Cell)
    → cell_in line at bytes a ≡ Some cell → (at ≤ a) × (slice_get bytes (a - at) ≡ Some cell.byte)
cell_byte line at bytes a cell e =
    elim (nat_le at a) as
    (λ b. nat_le at a ≡ b → cond b (option_map (λ byte. record { byte = byte; line = line }) (slice_get bytes (a - at))) None ≡ Some cell
    → (at ≤ a) × (slice_get bytes (a - at) ≡ Some cell.byte)) [
      | true ↦ λ from there. (leb-true at a from, byte_in_cell line (slice_get bytes (a - at)) cell there)
      | false ↦ λ below none. absurd (cc)
    ] refl e

is_some-or : (p q : Option Cell) → is_some (option_or p q) ≡ (is_some p || is_some q)
is_some-or None q = refl
is_some-or (Some x) q = refl

-- ---- what is known of the lines before a line

pub record SoFar (source : List (List ℕ)) (rom : Rom) (count : ℕ) (stretches : Stretches) : Type 0 where
  pub pass_1 : NoFault (fault_1 Cdp1802 source) count
  pub pass_2 : NoFault (fault_2 Cdp1802 source) count
  pub marked : (λ a. is_some (cell_before Cdp1802 source count a)) ≡ covers stretches
  pub agrees : (a : ℕ) (cell : Cell) → cell_before Cdp1802 source count a ≡ Some cell → rom a ≡ Some cell.byte

nothing : (source : List (List ℕ)) (rom : Rom) → SoFar source rom 0 []
unfolding cell_before
nothing source rom = record {
  pass_1 = λ i below. absurd (omega arith);
  pass_2 = λ i below. absurd (omega arith);
  marked = refl;
  agrees = λ a cell e. absurd (cc);
}

module _ (source : List (List ℕ)) (rom : Rom) (number : ℕ) (below : number < length source) (line : List ℕ) (here : line_at source number ≡ line) where
  module _ (laid : Laid) (bytes : List ℕ) (stretches : Stretches)
      (laid_is : laid_by (known_at Cdp1802 source number) (read line) ≡ Ok laid)
      (bytes_is : bytes_by (all_names Cdp1802 source) (known_at Cdp1802 source number).at (count_by (known_at Cdp1802 source number) laid) (read line) ≡ Ok bytes) where
    next_known : known_at Cdp1802 source (number + 1) ≡ known_after (known_at Cdp1802 source number) (label_from (read line)) (Ok laid)
    unfolding laid_out label_in
    next_known =
        known_at-next Cdp1802 source number below
        ∙ ap (known_next Cdp1802 (known_at Cdp1802 source number)) here
        ∙ known_step (known_at Cdp1802 source number) line
        ∙ ap (known_after (known_at Cdp1802 source number) (label_from (read line))) laid_is

    no_fault_1 : fault_1 Cdp1802 source number ≡ None
    unfolding fault_1 laid_out
    no_fault_1 =
        ap (λ l. result_err (laid_by (known_at Cdp1802 source number) (parsed Cdp1802 (known_at Cdp1802 source number).names l))) here
        ∙ ap (λ r. result_err (laid_by (known_at Cdp1802 source number) r)) (as_read (known_at Cdp1802 source number).names line)
        ∙ ap result_err laid_is

    one_more : suc number ≡ number + 1
    one_more = omega arith

    value_is : label_value Cdp1802 source number ≡ laid.value
    unfolding label_value laid_out
    value_is =
        ap (λ l. value_from (laid_by (known_at Cdp1802 source number) (parsed Cdp1802 (known_at Cdp1802 source number).names l))) here
        ∙ ap (λ r. value_from (laid_by (known_at Cdp1802 source number) r)) (as_read (known_at Cdp1802 source number).names line)
        ∙ ap value_from laid_is

    count_is : count_of Cdp1802 source number ≡ count_by (known_at Cdp1802 source number) laid
    count_is =
        ap (λ v. count_between v (address_of Cdp1802 source number) (address_of Cdp1802 source (suc number))) value_is
        ∙ ap (count_between laid.value (address_of Cdp1802 source number))
        (ap (λ n. address_of Cdp1802 source n) one_more ∙ ap (λ (k : Known). k.at) next_known)

    bytes_are : bytes_of Cdp1802 source number ≡ Ok bytes
    unfolding bytes_of encoded
    bytes_are =
        ap (λ l. bytes_by (all_names Cdp1802 source) (address_of Cdp1802 source number) (count_of Cdp1802 source number)
        (parsed Cdp1802 (known_at Cdp1802 source number).names l)) here
        ∙ ap (bytes_by (all_names Cdp1802 source) (address_of Cdp1802 source number) (count_of Cdp1802 source number))
        (as_read (known_at Cdp1802 source number).names line)
        ∙ ap (λ n. bytes_by (all_names Cdp1802 source) (address_of Cdp1802 source number) n (read line)) count_is
        ∙ bytes_is

    cells_are : (a : ℕ)
        → cell_before Cdp1802 source (number + 1) a
        ≡ option_or (cell_before Cdp1802 source number a) (cell_in (number + 1) (address_of Cdp1802 source number) bytes a)
    unfolding cell_before
    cells_are a =
        sym (ap (λ n. cell_before Cdp1802 source n a) one_more)
        ∙ ap (λ r. option_or (cell_before Cdp1802 source number a)
        (cell_in (number + 1) (address_of Cdp1802 source number) (result_unwrap_or r []) a)) bytes_are

    module _ (so_far : SoFar source rom number stretches) (fit : fits rom stretches (address_of Cdp1802 source number) bytes ≡ true) where
      free : overlaps (cell_before Cdp1802 source number) (address_of Cdp1802 source number) (length bytes) ≡ false
      free =
          ap (λ given. list_any (λ offset. given (address_of Cdp1802 source number + offset)) (range_with_len 0 (length bytes))) so_far.marked
          ∙ not-true _ (and_parts _ _ fit).0

      no_fault_2 : fault_2 Cdp1802 source number ≡ None
      unfolding fault_2
      no_fault_2 =
          ap (fault_with (cell_before Cdp1802 source number) (address_of Cdp1802 source number)) bytes_are
          ∙ cond-false (overlaps (cell_before Cdp1802 source number) (address_of Cdp1802 source number) (length bytes)) (Some Overlap) None free

      marked_more : (a : ℕ) → is_some (cell_before Cdp1802 source (number + 1) a)
          ≡ covers (with_stretch stretches (address_of Cdp1802 source number) (length bytes)) a
      marked_more a =
          ap is_some (cells_are a)
          ∙ is_some-or (cell_before Cdp1802 source number a) (cell_in (number + 1) (address_of Cdp1802 source number) bytes a)
          ∙ ap (λ given. given a || is_some (cell_in (number + 1) (address_of Cdp1802 source number) bytes a)) so_far.marked
          ∙ ap (λ b. covers stretches a || b) (cell_there (number + 1) (address_of Cdp1802 source number) bytes a)
          ∙ sym (covers-with stretches (address_of Cdp1802 source number) (length bytes) a)

      agrees_more : (a : ℕ) (cell : Cell) → cell_before Cdp1802 source (number + 1) a ≡ Some cell → rom a ≡ Some cell.byte
      agrees_more a cell e = go (cell_before Cdp1802 source number a) refl (sym (cells_are a) ∙ e)
        where
          go : (old : Option Cell) → cell_before Cdp1802 source number a ≡ old
              → option_or old (cell_in (number + 1) (address_of Cdp1802 source number) bytes a) ≡ Some cell → rom a ≡ Some cell.byte
          go (Some c) was is = so_far.agrees a cell (was ∙ is)
          go None was is =
              let there = cell_byte (number + 1) (address_of Cdp1802 source number) bytes a cell is in
              let place : address_of Cdp1802 source number + (a - address_of Cdp1802 source number) ≡ a = omega (arith, there.0) in
              ap rom (sym place)
              ∙ holds_at rom (address_of Cdp1802 source number) bytes (a - address_of Cdp1802 source number) cell.byte (and_parts _ _ fit).1 there.1

      more : SoFar source rom (number + 1) (with_stretch stretches (address_of Cdp1802 source number) (length bytes))
      more = record {
        pass_1 = below_more (λ i. fault_1 Cdp1802 source i ≡ None) number so_far.pass_1 no_fault_1;
        pass_2 = below_more (λ i. fault_2 Cdp1802 source i ≡ None) number so_far.pass_2 no_fault_2;
        marked = λ i a. marked_more a i;
        agrees = agrees_more;
      }

-- ---- the second pass

-- what follows where a line passes
record Passes (names : Names) (rom : Rom) (known : Known) (stretches : Stretches) (line : Read) (rest : Rest) (all : Stretches) : Type 0 where
  laid : Laid
  laid_is : laid_by known line ≡ Ok laid
  bytes : List ℕ
  bytes_is : bytes_by names known.at (count_by known laid) line ≡ Ok bytes
  fit : fits rom stretches known.at bytes ≡ true
  on : rest (known_after known (label_from line) (Ok laid)) (with_stretch stretches known.at (length bytes)) ≡ Some all

passes : (names : Names) (rom : Rom) (known : Known) (stretches : Stretches) (line : Read) (rest : Rest) (all : Stretches)
    → by_laid names rom known stretches line rest (laid_by known line) ≡ Some all → Passes names rom known stretches line rest all
passes names rom known stretches line rest all e = from_laid (laid_by known line) refl e
  where
    from_bytes : (laid : Laid) → laid_by known line ≡ Ok laid → (found : Result (List ℕ) AsmCause) → bytes_by names known.at (count_by known laid) line ≡ found
        → by_bytes rom known stretches line rest laid found ≡ Some all → Passes names rom known stretches line rest all
    from_bytes laid laid_is (Err cause) is e = absurd (cc)
    from_bytes laid laid_is (Ok bytes) is e =
        elim (fits rom stretches known.at bytes) as
        (λ b. fits rom stretches known.at bytes ≡ b
        → cond b (rest (known_after known (label_from line) (Ok laid)) (with_stretch stretches known.at (length bytes))) None ≡ Some all
        → Passes names rom known stretches line rest all) [
          | true ↦ λ fit on. record { laid = laid; laid_is = laid_is; bytes = bytes; bytes_is = is; fit = fit; on = on }
          | false ↦ λ unfit none. absurd (cc)
        ] refl e

    from_laid : (found : Result Laid AsmCause) → laid_by known line ≡ found
        → by_laid names rom known stretches line rest found ≡ Some all → Passes names rom known stretches line rest all
    from_laid (Err cause) is e = absurd (cc)
    from_laid (Ok laid) is e = from_bytes laid is (bytes_by names known.at (count_by known laid) line) refl e

walk : (source : List (List ℕ)) (rom : Rom) (lines : List (List ℕ)) (number : ℕ) (stretches all : Stretches)
    → drop number source ≡ lines → number ≤ length source → SoFar source rom number stretches
    → stretches_by (all_names Cdp1802 source) rom (map read lines) (known_at Cdp1802 source number) stretches ≡ Some all → SoFar source rom (length source) all
walk source rom [] number stretches all left inside so_far e =
    let last : number ≡ length source = no_line source number left inside in
    let same : stretches ≡ all = cc in
    subst (SoFar source rom (length source)) same (subst (λ n. SoFar source rom n stretches) last so_far)
walk source rom (line ∷ lines) number stretches all left inside so_far e =
    let here = line_here source number line lines left in
    let p = passes (all_names Cdp1802 source) rom (known_at Cdp1802 source number) stretches (read line)
    (stretches_by (all_names Cdp1802 source) rom (map read lines)) all e in
    let next : Stretches = with_stretch stretches (address_of Cdp1802 source number) (length p.bytes) in
    walk source rom lines (number + 1) next all here.2 (omega (arith, here.0))
    (more source rom number here.0 line here.1 p.laid p.bytes stretches p.laid_is p.bytes_is so_far p.fit)
    (ap (λ known. stretches_by (all_names Cdp1802 source) rom (map read lines) known next)
    (next_known source rom number here.0 line here.1 p.laid p.bytes stretches p.laid_is p.bytes_is) ∙ p.on)

-- ---- the first pass

known_read : (lines : List (List ℕ)) (known : Known) → fold known_by known (map read lines) ≡ fold (known_next Cdp1802) known lines
known_read [] known = refl
known_read (line ∷ lines) known =
    ap (λ next. fold known_by next (map read lines)) (sym (known_step known line)) ∙ known_read lines (known_next Cdp1802 known line)

names_read : (source : List (List ℕ)) → (fold known_by (known_first Cdp1802) (map read source)).names ≡ all_names Cdp1802 source
unfolding known_at
names_read source =
    ap (λ (k : Known). k.names)
    (known_read source (known_first Cdp1802) ∙ ap (fold (known_next Cdp1802) (known_first Cdp1802)) (sym (take_all (length source) source (omega arith))))

-- ---- both

-- where the passes find stretches, no line has a fault, the bytes are the ROM's, and the stretches have exactly the addresses with a byte
pub all_lines : (source : List (List ℕ)) (rom : Rom) (all : Stretches)
    → stretches_of rom (map read source) ≡ Some all → SoFar source rom (length source) all
all_lines source rom all e =
    walk source rom source 0 [] all refl (omega arith) (nothing source rom)
    (ap (λ known. stretches_by (all_names Cdp1802 source) rom (map read source) known []) (known_at-first Cdp1802 source)
    ∙ ap (λ names. stretches_by names rom (map read source) (known_first Cdp1802) []) (sym (names_read source)) ∙ e)
