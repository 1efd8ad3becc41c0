-- The rows, address by address.
use Rattle.std.proofs.Common.{◌≡◌, ℕ, zero, suc, ◌+◌, ◌-◌, ◌*◌, ◌≤◌, ◌<◌, List, [], ◌∷◌, ◌++◌, length, length-append, refl, sym, ap, ap₂, subst, ◌∙◌, arith, add-zero, append-nil, append_assoc, Bool, true, false, Option, None, Some}
use Rattle.std.specs.Prelude.{IfSome, filter, map, max, min, nat_eq, nat_lt, not, slice_index_or}
use Rattle.std.specs.Option.{option_eq, option_map_or}
use Rattle.std.specs.List.{flat_map, fold, range_with_len, sum, take_while}
use Rattle.std.proofs.Math.Nat.{mul-le-mul_left, mul-suc}
use Rattle.std.proofs.lemmas.Bool.{cond-false, cond-true, eq-eqb, lt-ltb}
use Rattle.std.proofs.lemmas.List.{map-append}
use Rattle.std.proofs.lemmas.List.Concat.{flat_map-cons}
use Rattle.std.proofs.lemmas.List.Sums.{sum_by-append, sum_by-cons, take_while-cons}
use Rattle.asm_core.specs.Labels.{label_lines}
use Rattle.asm_core.specs.Origins.{Origins}
use Rattle.vip_program.specs.declared.counts.Point.{Point}
use Rattle.vip_program.specs.declared.counts.Counts.{Counts}
use Rattle.vip_program.specs.declared.figures.Figures.{Figures}
use Rattle.vip_program.specs.Counts.{addresses, IsCount}
use Rattle.vip_program.specs.Figures.{figures_of, IsTold}
use Rattle.vip_program.specs.Profile.{Code, belongs, cycles_at, cycles_under, frame_points, frames_line, heading, label_of, last_cycle, least, most, profile_text, row_text, rows, rows_text, steps_line, sum_lines, sums_before}
use Rattle.vip_program.specs.Sums.{AreWithin, lines_room, rows_from}
use Rattle.vip_program.proofs.Counting.{row-few}

-- ---- the least and the most of some numbers are at most their sum

min-below : (a : ℕ) (numbers : List ℕ) → fold min a numbers ≤ a
min-below a [] = omega arith
min-below a (n ∷ numbers) = let below = min-below (min a n) numbers in omega (arith, below)

max-below : (a : ℕ) (numbers : List ℕ) → fold max a numbers ≤ a + sum numbers
max-below a [] = omega arith
max-below a (n ∷ numbers) = rw (sum_by-cons (λ x. x) n numbers) (let below = max-below (max a n) numbers in omega (arith, below))

least-below : (numbers : List ℕ) → least numbers ≤ sum numbers
least-below [] = omega arith
least-below (n ∷ numbers) = rw (sum_by-cons (λ x. x) n numbers) (let below = min-below n numbers in omega (arith, below))

most-below : (numbers : List ℕ) → most numbers ≤ sum numbers
most-below [] = omega arith
most-below (n ∷ numbers) = rw (sum_by-cons (λ x. x) n numbers) (max-below n numbers)

-- the steps of a row have no number of more than ten digits
pub row-told : (counts : Counts) → IsCount counts → (pc : ℕ) (row : Figures) → pc < addresses → row ≡ slice_index_or counts.steps.items pc row → IsTold row
row-told counts is pc row below at =
    let few = row-few counts is.points is.counted pc row below in
    let same : row ≡ figures_of (cycles_at is.points pc) = at ∙ is.counted.steps pc row below in
    let count : row.count ≤ length is.points = rw at few.0 in
    let total : row.sum ≤ last_cycle is.points = rw at few.1 in
    let low : least (cycles_at is.points pc) ≤ sum (cycles_at is.points pc) = least-below (cycles_at is.points pc) in
    let high : most (cycles_at is.points pc) ≤ sum (cycles_at is.points pc) = most-below (cycles_at is.points pc) in
    record {
      count = omega (arith, count, is.few);
      sum = omega (arith, total, is.in_time);
      least = omega (arith, ap (λ (f : Figures). f.least) same, ap (λ (f : Figures). f.sum) same, low, total, is.in_time);
      most = omega (arith, ap (λ (f : Figures). f.most) same, ap (λ (f : Figures). f.sum) same, high, total, is.in_time);
    }

-- ---- the rows from an address on

range-next : (pc : ℕ) → pc < addresses → range_with_len pc (addresses - pc) ≡ pc ∷ range_with_len (pc + 1) (addresses - (pc + 1))
range-next pc below = let more : addresses - pc ≡ suc (addresses - (pc + 1)) = omega (arith, below) in ap (range_with_len pc) more

module _ (points : List Point) where
  abbrev has_row : ℕ → Bool
  has_row pc = nat_lt 0 (length (cycles_at points pc))

  pub rows-some : (pc : ℕ) → pc < addresses → 0 < length (cycles_at points pc) → rows_from points pc ≡ pc ∷ rows_from points (pc + 1)
  rows-some pc below some =
      ap (rows points) (range-next pc below)
      ∙ cond-true (has_row pc) (pc ∷ rows_from points (pc + 1)) (rows_from points (pc + 1)) (lt-ltb 0 (length (cycles_at points pc)) some)

  pub rows-none : (pc : ℕ) → pc < addresses → length (cycles_at points pc) ≡ 0 → rows_from points pc ≡ rows_from points (pc + 1)
  rows-none pc below none =
      ap (rows points) (range-next pc below)
      ∙ cond-false (has_row pc) (pc ∷ rows_from points (pc + 1)) (rows_from points (pc + 1)) (ap (nat_lt 0) none)

  pub rows-over : (pc : ℕ) → addresses ≤ pc → rows_from points pc ≡ []
  rows-over pc past = let over : addresses - pc ≡ 0 = omega (arith, past) in ap (λ n. rows points (range_with_len pc n)) over

  -- ---- the rows that belong to a label, so many steps of which, with so many cycles, are summed up

  module _ (origins : Origins) (code : ℕ → Code) (label : Option ℕ) where
    abbrev under : ℕ → List ℕ
    under pc = cycles_under origins code points label (rows_from points pc)

    pub record SummedTo (from pc steps cycles : ℕ) : Type 0 where
      pub steps_are : length (under from) ≡ steps + length (under pc)
      pub cycles_are : sum (under from) ≡ cycles + sum (under pc)

    pub summed-first : (from : ℕ) → SummedTo from from 0 0
    summed-first from = record { steps_are = omega arith; cycles_are = omega arith }

    -- an address without a row
    pub summed-none : (from pc steps cycles : ℕ) → pc < addresses → length (cycles_at points pc) ≡ 0 → SummedTo from pc steps cycles
        → SummedTo from (pc + 1) steps cycles
    summed-none from pc steps cycles below none so_far = record {
      steps_are = so_far.steps_are ∙ ap (λ pcs. steps + length (cycles_under origins code points label pcs)) (rows-none pc below none);
      cycles_are = so_far.cycles_are ∙ ap (λ pcs. cycles + sum (cycles_under origins code points label pcs)) (rows-none pc below none);
    }

    -- a row that belongs there, and one that doesn't
    under-more : (pc : ℕ) → pc < addresses → 0 < length (cycles_at points pc) → belongs origins code label pc ≡ true
        → under pc ≡ cycles_at points pc ++ under (pc + 1)
    under-more pc below some here =
        ap (cycles_under origins code points label) (rows-some pc below some)
        ∙ ap (λ pcs. flat_map (cycles_at points) pcs)
        (take_while-cons (belongs origins code label) pc (rows_from points (pc + 1))
        ∙ cond-true (belongs origins code label pc) (pc ∷ take_while (belongs origins code label) (rows_from points (pc + 1))) [] here)
        ∙ flat_map-cons (cycles_at points) pc (take_while (belongs origins code label) (rows_from points (pc + 1)))

    pub summed-more : (from pc steps cycles count total : ℕ) → pc < addresses → 0 < count → count ≡ length (cycles_at points pc)
        → total ≡ sum (cycles_at points pc) → belongs origins code label pc ≡ true → SummedTo from pc steps cycles
        → SummedTo from (pc + 1) (steps + count) (cycles + total)
    summed-more from pc steps cycles count total below some counts totals here so_far =
        let more = under-more pc below (subst (λ n. 0 < n) counts some) here in
        let long : length (under pc) ≡ length (cycles_at points pc) + length (under (pc + 1)) =
        ap length more ∙ length-append (cycles_at points pc) (under (pc + 1)) in
        let much : sum (under pc) ≡ sum (cycles_at points pc) + sum (under (pc + 1)) =
        ap sum more ∙ sum_by-append (λ x. x) (cycles_at points pc) (under (pc + 1)) in
        record {
          steps_are = omega (arith, so_far.steps_are, long, counts);
          cycles_are = omega (arith, so_far.cycles_are, much, totals);
        }

    all-summed : (from pc steps cycles : ℕ) → under pc ≡ [] → SummedTo from pc steps cycles → (steps ≡ length (under from)) × (cycles ≡ sum (under from))
    all-summed from pc steps cycles none so_far =
        (omega (arith, so_far.steps_are, ap length none), omega (arith, so_far.cycles_are, ap sum none))

    pub summed-over : (from pc steps cycles : ℕ) → pc < addresses → 0 < length (cycles_at points pc) → belongs origins code label pc ≡ false
        → SummedTo from pc steps cycles → (steps ≡ length (under from)) × (cycles ≡ sum (under from))
    summed-over from pc steps cycles below some elsewhere so_far =
        let none : under pc ≡ [] =
        ap (cycles_under origins code points label) (rows-some pc below some)
        ∙ ap (λ pcs. flat_map (cycles_at points) pcs)
        (take_while-cons (belongs origins code label) pc (rows_from points (pc + 1))
        ∙ cond-false (belongs origins code label pc) (pc ∷ take_while (belongs origins code label) (rows_from points (pc + 1))) [] elsewhere) in
        all-summed from pc steps cycles none so_far

    pub summed-whole : (from pc steps cycles : ℕ) → addresses ≤ pc → SummedTo from pc steps cycles
        → (steps ≡ length (under from)) × (cycles ≡ sum (under from))
    summed-whole from pc steps cycles past so_far =
        all-summed from pc steps cycles (ap (cycles_under origins code points label) (rows-over pc past)) so_far

-- ---- the sums before a row

pub is-not : (b : Bool) → not b ≡ true → b ≡ false
is-not true bad = cc
is-not false same = refl

pub is-so : (b : Bool) → not b ≡ false → b ≡ true
is-so true same = refl
is-so false bad = cc

option-same : (label : Option ℕ) → option_eq nat_eq label label ≡ true
option-same None = refl
option-same (Some address) = eq-eqb address address refl

module _ (origins : Origins) (code : ℕ → Code) (points : List Point) where
  -- the rows from an address on that belong where it does, whether or not it has a row
  under-here : (pc : ℕ) → pc < addresses
      → cycles_under origins code points (label_of origins code pc) (rows_from points pc)
      ≡ cycles_under origins code points (label_of origins code pc) (pc ∷ rows_from points (pc + 1))
  under-here pc below = by_case (cycles_at points pc) refl
    where
      label : Option ℕ
      label = label_of origins code pc

      more : cycles_under origins code points label (pc ∷ rows_from points (pc + 1))
          ≡ cycles_at points pc ++ cycles_under origins code points label (rows_from points (pc + 1))
      more =
          ap (λ pcs. flat_map (cycles_at points) pcs)
          (take_while-cons (belongs origins code label) pc (rows_from points (pc + 1))
          ∙ cond-true (belongs origins code label pc) (pc ∷ take_while (belongs origins code label) (rows_from points (pc + 1))) [] (option-same label))
          ∙ flat_map-cons (cycles_at points) pc (take_while (belongs origins code label) (rows_from points (pc + 1)))

      by_case : (cycles : List ℕ) → cycles_at points pc ≡ cycles
          → cycles_under origins code points label (rows_from points pc) ≡ cycles_under origins code points label (pc ∷ rows_from points (pc + 1))
      by_case [] none =
          ap (cycles_under origins code points label) (rows-none points pc below (ap length none))
          ∙ sym (more ∙ ap (λ cycles. cycles ++ cycles_under origins code points label (rows_from points (pc + 1))) none)
      by_case (cycle ∷ cycles) some =
          ap (cycles_under origins code points label) (rows-some points pc below (omega (arith, ap length some)))

  pub sums-then : (before label : Option ℕ) (pc : ℕ) → pc < addresses → label ≡ label_of origins code pc → option_eq nat_eq label before ≡ false
      → sum_lines origins label (cycles_under origins code points label (rows_from points pc))
      ≡ sums_before origins code points before pc (rows_from points (pc + 1))
  sums-then before label pc below at differs =
      ap (λ l. sum_lines origins l (cycles_under origins code points l (rows_from points pc))) at
      ∙ ap (sum_lines origins (label_of origins code pc)) (under-here pc below)
      ∙ sym (cond-false (belongs origins code before pc) []
      (sum_lines origins (label_of origins code pc) (cycles_under origins code points (label_of origins code pc) (pc ∷ rows_from points (pc + 1))))
      (ap (λ l. option_eq nat_eq l before) (sym at) ∙ differs))

  pub sums-else : (before label : Option ℕ) (pc : ℕ) → label ≡ label_of origins code pc → option_eq nat_eq label before ≡ true
      → [] ≡ sums_before origins code points before pc (rows_from points (pc + 1))
  sums-else before label pc at same =
      sym (cond-true (belongs origins code before pc) []
      (sum_lines origins (label_of origins code pc) (cycles_under origins code points (label_of origins code pc) (pc ∷ rows_from points (pc + 1))))
      (ap (λ l. option_eq nat_eq l before) (sym at) ∙ same))

-- ---- the room of some labels' lines

pub label-room : (labels : List (ℕ × List ℕ)) (most : ℕ) → AreWithin labels most → (label : Option ℕ) → IfSome label (λ address. address < addresses)
    → option_map_or (λ address. lines_room (label_lines labels address)) label 0 ≤ most
label-room labels most within None fits = omega arith
label-room labels most within (Some address) fits = within address fits

pub lines_room-cons : (line : List ℕ) (lines : List (List ℕ)) → lines_room (line ∷ lines) ≡ length line + 96 + lines_room lines
lines_room-cons line lines = sum_by-cons (λ x. x) (length line + 96) (map (λ line. length line + 96) lines)

lines_room-append : (xs ys : List (List ℕ)) → lines_room (xs ++ ys) ≡ lines_room xs + lines_room ys
lines_room-append xs ys =
    ap sum (map-append (λ line. length line + 96) xs ys)
    ∙ sum_by-append (λ x. x) (map (λ line. length line + 96) xs) (map (λ line. length line + 96) ys)

pub lines_room-snoc : (lines : List (List ℕ)) (line : List ℕ) → lines_room (lines ++ line ∷ []) ≡ lines_room lines + (length line + 96)
lines_room-snoc lines line = lines_room-append lines (line ∷ []) ∙ ap (λ n. lines_room lines + n) (lines_room-cons line [] ∙ add-zero (length line + 96))

-- a row more has room
pub size-more : (size pc : ℕ) → size * (pc + 1) ≡ size * pc + size
size-more size pc = let more : pc + 1 ≡ suc pc = omega arith in ap (λ n. size * n) more ∙ mul-suc size pc

pub room-more : (size pc : ℕ) → pc < addresses → size * pc + size ≤ size * 0x10000
room-more size pc below =
    let more : pc + 1 ≤ 0x10000 = omega (arith, below) in subst (λ n. n ≤ size * 0x10000) (size-more size pc) (mul-le-mul_left size more)

fits-in : (len size done whole capacity capacity' : ℕ) → done + size ≤ whole → len ≤ 1_024 + done → 1_024 + whole ≤ capacity → capacity ≤ capacity'
    → len + size ≤ capacity'
fits-in len size done whole capacity capacity' more so_far room kept = omega (arith, more, so_far, room, kept)

pub row-fits : (len size pc capacity capacity' : ℕ) → pc < addresses → len ≤ 1_024 + size * pc → 1_024 + size * 0x10000 ≤ capacity → capacity ≤ capacity'
    → len + size ≤ capacity'
row-fits len size pc capacity capacity' below = fits-in len size (size * pc) (size * 0x10000) capacity capacity' (room-more size pc below)

grows : (len len' size done : ℕ) → len ≤ 1_024 + done → len' ≤ len + size → len' ≤ 1_024 + (done + size)
grows len len' size done so_far more = omega (arith, so_far, more)

pub row-grows : (len len' size pc : ℕ) → len ≤ 1_024 + size * pc → len' ≤ len + size → len' ≤ 1_024 + size * (pc + 1)
row-grows len len' size pc so_far more = subst (λ n. len' ≤ 1_024 + n) (sym (size-more size pc)) (grows len len' size (size * pc) so_far more)

kept-size : (len done size : ℕ) → len ≤ 1_024 + done → len ≤ 1_024 + (done + size)
kept-size len done size so_far = omega (arith, so_far)

pub row-keeps : (len size pc : ℕ) → len ≤ 1_024 + size * pc → len ≤ 1_024 + size * (pc + 1)
row-keeps len size pc so_far = subst (λ n. len ≤ 1_024 + n) (sym (size-more size pc)) (kept-size len (size * pc) size so_far)

-- ---- the text so far, and what is left of it

module _ (origins : Origins) (code : ℕ → Code) (points : List Point) where
  abbrev pub left : Option ℕ → ℕ → List ℕ
  left before pc = rows_text origins code points before (rows_from points pc)

  -- an address without a row, and one with
  pub left-none : (before : Option ℕ) (pc : ℕ) → pc < addresses → length (cycles_at points pc) ≡ 0 → left before pc ≡ left before (pc + 1)
  left-none before pc below none = ap (rows_text origins code points before) (rows-none points pc below none)

  abbrev pub added : Option ℕ → ℕ → List ℕ
  added before pc = sums_before origins code points before pc (rows_from points (pc + 1)) ++ row_text origins pc (code pc) (cycles_at points pc)

  left-some : (before : Option ℕ) (pc : ℕ) → pc < addresses → 0 < length (cycles_at points pc)
      → left before pc ≡ added before pc ++ left (label_of origins code pc) (pc + 1)
  unfolding rows_text
  left-some before pc below some = ap (rows_text origins code points before) (rows-some points pc below some)

  module _ (title : List ℕ) where
    abbrev head : List ℕ
    head = steps_line points ++ frames_line (frame_points points) ++ heading title

    -- behind the head all rows are left
    pub text-first : (text : List ℕ) → text ≡ head → text ++ left None 0 ≡ profile_text title origins code points
    unfolding profile_text
    text-first text is = ap (λ t. t ++ left None 0) is

    pub text-more : (before label : Option ℕ) (pc : ℕ) (text text' : List ℕ) → pc < addresses → 0 < length (cycles_at points pc)
        → text' ≡ text ++ added before pc → label ≡ label_of origins code pc → text ++ left before pc ≡ profile_text title origins code points
        → text' ++ left label (pc + 1) ≡ profile_text title origins code points
    text-more before label pc text text' below some is at so_far =
        ap₂ (λ t label. t ++ left label (pc + 1)) is at
        ∙ append_assoc text (added before pc) (left (label_of origins code pc) (pc + 1))
        ∙ ap (λ rest. text ++ rest) (sym (left-some before pc below some))
        ∙ so_far

    pub text-none : (before : Option ℕ) (pc : ℕ) (text : List ℕ) → pc < addresses → length (cycles_at points pc) ≡ 0
        → text ++ left before pc ≡ profile_text title origins code points → text ++ left before (pc + 1) ≡ profile_text title origins code points
    text-none before pc text below none so_far = ap (λ rest. text ++ rest) (sym (left-none before pc below none)) ∙ so_far

    pub text-whole : (before : Option ℕ) (pc : ℕ) (text : List ℕ) → addresses ≤ pc → text ++ left before pc ≡ profile_text title origins code points
        → text ≡ profile_text title origins code points
    unfolding rows_text
    text-whole before pc text past so_far =
        sym (append-nil text) ∙ ap (λ pcs. text ++ rows_text origins code points before pcs) (sym (rows-over points pc past)) ∙ so_far
