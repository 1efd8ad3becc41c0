-- The table while the bytes of a line are put into it.
use Rattle.std.proofs.Common.{◌≡◌, ◌+◌, ◌-◌, ◌<◌, ◌≤◌, ℕ, zero, suc, refl, List, [], ◌∷◌, ◌++◌, length, take, set, get_or, sym, ◌∙◌, ap, arith, true, false, Some, None, Option, inl, inr}
use Rattle.std.specs.Prelude.{nat_le, slice_get, is_some, option_map}
use Rattle.std.specs.Option.{option_or}
use Rattle.std.specs.List.{list_any, range_with_len}
use Rattle.std.proofs.lemmas.Bool.{both_ways, cases_eq, cases_lt, cond-true, cond-false, le-leb, lt-leb}
use Rattle.std.proofs.lemmas.List.{take_more, take_all, length-take-le, length-set, get_or-set_same, get_or-set_other}
use Rattle.std.proofs.lemmas.List.Folds.{list_any_none, list_any_at}
use Rattle.asm_core.specs.declared.table.Cell.{Cell}
use Rattle.asm_core.specs.Sources.{cell_in, overlaps}

abbrev pub entry : List (Option Cell) → ℕ → Option Cell
entry cells address = get_or cells address None

pub slice_get-past : {X : Type 0} (xs : List X) (k : ℕ) → length xs ≤ k → slice_get xs k ≡ None
slice_get-past [] k past = refl
slice_get-past (x ∷ xs) zero past = absurd (omega arith)
slice_get-past (x ∷ xs) (suc k) past = slice_get-past xs k (omega arith)

slice_get-push_here : {X : Type 0} (xs : List X) (x : X) (k : ℕ) → k ≡ length xs → slice_get (xs ++ x ∷ []) k ≡ Some x
slice_get-push_here [] x zero e = refl
slice_get-push_here [] x (suc k) e = absurd (omega arith)
slice_get-push_here (y ∷ xs) x zero e = absurd (omega arith)
slice_get-push_here (y ∷ xs) x (suc k) e = slice_get-push_here xs x k (omega arith)

slice_get-push_other : {X : Type 0} (xs : List X) (x : X) (k : ℕ) → (k ≡ length xs → ⊥) → slice_get (xs ++ x ∷ []) k ≡ slice_get xs k
slice_get-push_other [] x zero other = absurd (other refl)
slice_get-push_other [] x (suc k) other = refl
slice_get-push_other (y ∷ xs) x zero other = refl
slice_get-push_other (y ∷ xs) x (suc k) other = slice_get-push_other xs x k (λ e. other (omega arith))

module _ (line at : ℕ) where
  cell_in-at : (bytes : List ℕ) (address : ℕ) → at ≤ address
      → cell_in line at bytes address ≡ option_map (λ byte. record { byte = byte; line = line }) (slice_get bytes (address - at))
  cell_in-at bytes address above = cond-true (nat_le at address) _ None (le-leb at address above)

  cell_in-below : (bytes : List ℕ) (address : ℕ) → address < at → cell_in line at bytes address ≡ None
  cell_in-below bytes address below = cond-false (nat_le at address) _ None (lt-leb at address below)

  -- an address behind the bytes gets none
  cell_in-past : (bytes : List ℕ) (address : ℕ) → at + length bytes ≤ address → cell_in line at bytes address ≡ None
  cell_in-past bytes address past =
      cell_in-at bytes address (omega arith) ∙ ap (option_map (λ byte. record { byte = byte; line = line })) (slice_get-past bytes (address - at) (omega arith))

  module _ (bytes : List ℕ) (offset : ℕ) (below : offset < length bytes) where
    more : take (offset + 1) bytes ≡ take offset bytes ++ get_or bytes offset 0 ∷ []
    more = take_more bytes offset 0 below

    front : length (take offset bytes) ≡ offset
    front = length-take-le offset bytes (omega arith)

    cell_in-here : cell_in line at (take (offset + 1) bytes) (at + offset) ≡ Some (record { byte = get_or bytes offset 0; line = line })
    cell_in-here =
        cell_in-at (take (offset + 1) bytes) (at + offset) (omega arith)
        ∙ ap (λ xs. option_map (λ byte. record { byte = byte; line = line }) (slice_get xs (at + offset - at))) more
        ∙ ap (option_map (λ byte. record { byte = byte; line = line }))
        (slice_get-push_here (take offset bytes) (get_or bytes offset 0) (at + offset - at) (omega (arith, front)))

    cell_in-other : (address : ℕ) → (address ≡ at + offset → ⊥)
        → cell_in line at (take (offset + 1) bytes) address ≡ cell_in line at (take offset bytes) address
    cell_in-other address other = elim (cases_lt address at) [
      | inl under ↦ cell_in-below (take (offset + 1) bytes) address under ∙ sym (cell_in-below (take offset bytes) address under)
      | inr above ↦
          cell_in-at (take (offset + 1) bytes) address above
          ∙ ap (λ xs. option_map (λ byte. record { byte = byte; line = line }) (slice_get xs (address - at))) more
          ∙ ap (option_map (λ byte. record { byte = byte; line = line }))
          (slice_get-push_other (take offset bytes) (get_or bytes offset 0) (address - at) (λ e. other (omega (arith, front))))
          ∙ sym (cell_in-at (take offset bytes) address above)
    ]

first_none : (o p : Option Cell) → option_or o p ≡ None → o ≡ None
first_none None p e = refl
first_none (Some cell) p e = absurd (cc)

-- the table has the bytes so far beside what it had
pub record Holds (old cells : List (Option Cell)) (line at : ℕ) (bytes : List ℕ) (offset : ℕ) : Type 0 where
  pub same_length : length cells ≡ length old
  pub entries : (address : ℕ) → entry cells address ≡ option_or (entry old address) (cell_in line at (take offset bytes) address)
  pub free : (k : ℕ) → k < offset → entry old (at + k) ≡ None

pub second_none : (o : Option Cell) → option_or o None ≡ o
second_none None = refl
second_none (Some cell) = refl

-- one byte more, at an address that had none
pub holds_more : (old cells : List (Option Cell)) (line at : ℕ) (bytes : List ℕ) (offset byte : ℕ) → Holds old cells line at bytes offset
    → offset < length bytes → at + length bytes ≤ length old
    → byte ≡ get_or bytes offset 0 → entry cells (at + offset) ≡ None
    → Holds old (set cells (at + offset) (Some (record { byte = byte; line = line }))) line at bytes (offset + 1)
holds_more old cells line at bytes offset byte so_far below fits is empty =
    let was : entry old (at + offset) ≡ None =
    first_none (entry old (at + offset)) (cell_in line at (take offset bytes) (at + offset)) (sym (so_far.entries (at + offset)) ∙ empty) in
    let cell : Cell = record { byte = byte; line = line } in
    record {
      same_length = length-set cells (at + offset) (Some cell) ∙ so_far.same_length;
      entries = λ address. elim (cases_eq address (at + offset)) [
        | inl e ↦
            ap (entry (set cells (at + offset) (Some cell))) e
            ∙ get_or-set_same cells (at + offset) (Some cell) None (omega (arith, so_far.same_length))
            ∙ ap (λ b. Some (record { byte = b; line = line })) is
            ∙ sym (cell_in-here line at bytes offset below)
            ∙ ap (λ o. option_or o (cell_in line at (take (offset + 1) bytes) (at + offset))) (sym was)
            ∙ ap (λ a. option_or (entry old a) (cell_in line at (take (offset + 1) bytes) a)) (sym e)
        | inr other ↦
            get_or-set_other cells (at + offset) address (Some cell) None other
            ∙ so_far.entries address
            ∙ ap (option_or (entry old address)) (sym (cell_in-other line at bytes offset below address other))
      ];
      free = λ k under. elim (cases_lt k offset) [
        | inl lower ↦ so_far.free k lower
        | inr same ↦ ap (λ n. entry old (at + n)) (omega arith) ∙ was
      ];
    }

pub length-range : (n a : ℕ) → length (range_with_len a n) ≡ n
length-range zero a = refl
length-range (suc n) a = ap suc (length-range n (a + 1))

pub get_or-range : (n a k d : ℕ) → k < n → get_or (range_with_len a n) k d ≡ a + k
get_or-range zero a k d below = absurd (omega arith)
get_or-range (suc n) a zero d below = omega arith
get_or-range (suc n) a (suc k) d below = get_or-range n (a + 1) k d (omega arith) ∙ omega arith

-- no one of a function's values is there, where each is none, and the other way round
pub each_none-any : {X : Type 0} (f : ℕ → Option X) (n : ℕ) → ((i : ℕ) → i < n → f i ≡ None) → list_any (λ i. is_some (f i)) (range_with_len 0 n) ≡ false
each_none-any f n none =
    list_any_none (λ i. is_some (f i)) (range_with_len 0 n)
    (λ k d below. ap (λ i. is_some (f i)) (get_or-range n 0 k d (omega (arith, length-range n 0)))
    ∙ ap is_some (none (0 + k) (omega (arith, length-range n 0))))

pub any-each_none : {X : Type 0} (f : ℕ → Option X) (n : ℕ) → list_any (λ i. is_some (f i)) (range_with_len 0 n) ≡ false → (i : ℕ) → i < n → f i ≡ None
any-each_none {X} f n e i below = by_case (f i) refl
  where
    by_case : (found : Option X) → f i ≡ found → found ≡ None
    by_case None is = refl
    by_case (Some x) is =
        absurd (both_ways (list_any (λ k. is_some (f k)) (range_with_len 0 n)) e (list_any_at (λ k. is_some (f k)) (range_with_len 0 n) i 0
        (omega (arith, length-range n 0)) (ap (λ k. is_some (f k)) (get_or-range n 0 i 0 below ∙ omega arith) ∙ ap is_some is)))

-- whether a byte stands at one of so many addresses
pub overlaps-at : (old : List (Option Cell)) (at count k : ℕ) → k < count → is_some (entry old (at + k)) ≡ true → overlaps (entry old) at count ≡ true
overlaps-at old at count k below taken =
    list_any_at (λ k. is_some (entry old (at + k))) (range_with_len 0 count) k 0 (omega (arith, length-range count 0))
    (ap (λ n. is_some (entry old (at + n))) (get_or-range count 0 k 0 below ∙ omega arith) ∙ taken)

pub overlaps-none : (old : List (Option Cell)) (at count : ℕ) → ((k : ℕ) → k < count → entry old (at + k) ≡ None) → overlaps (entry old) at count ≡ false
overlaps-none old at count free =
    list_any_none (λ k. is_some (entry old (at + k))) (range_with_len 0 count)
    (λ k d below. ap (λ n. is_some (entry old (at + n))) (get_or-range count 0 k d (omega (arith, length-range count 0)))
    ∙ ap is_some (free (0 + k) (omega (arith, length-range count 0))))

-- all bytes were put
pub holds_all : (old cells : List (Option Cell)) (line at : ℕ) (bytes : List ℕ) (offset : ℕ) → Holds old cells line at bytes offset → length bytes ≤ offset
    → (overlaps (entry old) at (length bytes) ≡ false) × ((address : ℕ) → entry cells address ≡ option_or (entry old address) (cell_in line at bytes address))
holds_all old cells line at bytes offset so_far past = (
  overlaps-none old at (length bytes) (λ k below. so_far.free k (omega arith)),
  λ address. so_far.entries address ∙ ap (λ xs. option_or (entry old address) (cell_in line at xs address)) (take_all offset bytes past),
)

-- a byte stood there before
pub holds_overlap : (old cells : List (Option Cell)) (line at : ℕ) (bytes : List ℕ) (offset : ℕ) → Holds old cells line at bytes offset → offset < length bytes
    → is_some (entry cells (at + offset)) ≡ true → overlaps (entry old) at (length bytes) ≡ true
holds_overlap old cells line at bytes offset so_far below taken =
    let nothing : cell_in line at (take offset bytes) (at + offset) ≡ None =
    cell_in-past line at (take offset bytes) (at + offset) (omega (arith, length-take-le offset bytes (omega arith))) in
    let was : is_some (entry old (at + offset)) ≡ true =
    ap is_some (sym (so_far.entries (at + offset) ∙ ap (option_or (entry old (at + offset))) nothing ∙ second_none (entry old (at + offset)))) ∙ taken in
    overlaps-at old at (length bytes) offset below was
