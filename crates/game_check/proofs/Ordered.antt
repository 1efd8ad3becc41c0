-- The order of points, and what is found by halving among claims in order.
use Rattle.std.proofs.Common.{◌≡◌, ℕ, ◌+◌, ◌-◌, ◌<◌, ◌≤◌, true, false, ◌&&◌, ◌||◌, eqb, leb, ltb, List, [], ◌∷◌, ◌++◌, length, get_or, Option, Some, None, Ok, refl, sym, ap, ◌∙◌, arith, inl, inr}
use Rattle.std.specs.Cmp.{IsTotalOrder}
use Rattle.std.specs.Cmp.Lexicographic.{slice_cmp}
use Rattle.std.specs.FinMap.{nat_cmp-IsAntisymmetric, slice_cmp-IsAntisymmetric}
use Rattle.std.specs.List.{list_all, list_any}
use Rattle.std.specs.List.Sorted.{IsNonDecreasingBy, IsPartitionPoint, IsSortedBy}
use Rattle.std.specs.Option.{option_to_list}
use Rattle.std.specs.declared.cmp.Ordering.{Ordering}
use Rattle.std.specs.declared.cmp.Ordering.TheVariants.{Less, Equal, Greater}
use Rattle.std.specs.Ordering.{is_eq, is_lt, nat_cmp, ordering_index, ordering_reverse, ordering_then}
use Rattle.std.proofs.lemmas.Bool.{and_right, cases_Bool, cases_lt, cases_order, le-leb, le-ltb, leb-true, lt-leb, lt-ltb, ne_eqb}
use Rattle.std.proofs.lemmas.Cmp.{nat_cmp_total, nat_list_cmp_total, on_total, then_total, alike_right}
use Rattle.std.proofs.lemmas.List.{append-nil, length-append}
use Rattle.std.proofs.lemmas.List.Elements.{All-from_get_or}
use Rattle.std.proofs.lemmas.List.Folds.{list_all_at, list_any_at, list_any_none}
use Rattle.std.proofs.lemmas.List.Quantifiers.{all_pairs_push}
use Rattle.std.proofs.lemmas.List.Sorted.{searchable_from_sorted}
use Rattle.std.proofs.lemmas.List.Sums.{list_all-from_AllPass}
use Rattle.std.proofs.lemmas.Option.{slice_get-get_or}
use Rattle.game_check.specs.declared.claim.Point.{Point}
use Rattle.game_check.specs.declared.claim.Claim.{Claim}
use Rattle.game_check.specs.Closed.{allows, has_range, has_start, is_apart, is_claimed, is_start, point}
use Rattle.game_check.specs.Grammar.{order, cause_after, is_behind}
use Rattle.game_check.specs.Order.{IsAscending}

pub order_total : IsTotalOrder order
order_total =
    then_total (on_total (λ p. p.pc) nat_cmp_total)
    (then_total (on_total (λ p. length p.stack.items) nat_cmp_total) (on_total (λ p. p.stack.items) nat_list_cmp_total))

-- points that tie are the same
then_parts : (a b : Ordering) → ordering_then a b ≡ Equal → (a ≡ Equal) × (b ≡ Equal)
then_parts Less b same = absurd (less_equal same)
  where
    less_equal : Less ≡ Equal → ⊥
    less_equal h = cc
then_parts Equal b same = (refl, same)
then_parts Greater b same = absurd (greater_equal same)
  where
    greater_equal : Greater ≡ Equal → ⊥
    greater_equal h = cc

pub is_eq-true : (o : Ordering) → is_eq o ≡ true → o ≡ Equal
is_eq-true Less h = cc
is_eq-true Equal h = refl
is_eq-true Greater h = cc

pub same_point : (a b : Point) → is_eq (order a b) ≡ true → (a.pc ≡ b.pc) × (a.stack.items ≡ b.stack.items)
same_point a b same =
    let parts = then_parts (nat_cmp a.pc b.pc) _ (is_eq-true _ same) in
    let stacks = then_parts (nat_cmp (length a.stack.items) (length b.stack.items)) (slice_cmp nat_cmp a.stack.items b.stack.items) parts.1 in
    (nat_cmp-IsAntisymmetric a.pc b.pc parts.0, slice_cmp-IsAntisymmetric nat_cmp-IsAntisymmetric a.stack.items b.stack.items stacks.1)

-- a point before another has no greater pc
pc_before : (a b : Point) → order a b ≡ Less → a.pc ≤ b.pc
pc_before a b before = elim (cases_lt b.pc a.pc) [
  | inl above ↦ absurd (greater_less (sym (rw (le-ltb a.pc b.pc (omega (arith, above)), ne_eqb a.pc b.pc (λ same. omega (arith, same, above))) refl) ∙ before))
  | inr fine ↦ fine
]
  where
    greater_less : Greater ≡ Less → ⊥
    greater_less h = cc

-- ---- a claim more

is_lt-true : (o : Ordering) → is_lt o ≡ true → o ≡ Less
is_lt-true Less h = refl
is_lt-true Equal h = cc
is_lt-true Greater h = cc

pub ascending_more : (claims : List Claim) (claim : Claim) → IsAscending claims → is_behind claims claim ≡ true → IsAscending (claims ++ claim ∷ [])
ascending_more claims claim up behind = all_pairs_push (λ a b. order a.point b.point ≡ Less) claims claim up before
  where
    last_before : (d : Claim) → 0 < length claims → order (get_or claims (length claims - 1) d).point claim.point ≡ Less
    last_before d some = is_lt-true _ (rw (slice_get-get_or claims (length claims - 1) d (omega arith)) at behind)

    before : (k : ℕ) (d : Claim) → k < length claims → order (get_or claims k d).point claim.point ≡ Less
    before k d within = elim (cases_lt k (length claims - 1)) [
      | inl earlier ↦
          order_total.trans (get_or claims k d).point (get_or claims (length claims - 1) d).point claim.point
          (up k (length claims - 1) d earlier (omega (arith, within))) (last_before d (omega (arith, within)))
      | inr last ↦
          let end : k ≡ length claims - 1 = omega (arith, within) in
          rw end (last_before d (omega (arith, within)))
    ]

-- what a line adds
pub ascending_with : (claims : List Claim) (said : Option Claim) → IsAscending claims → cause_after claims (Ok said) ≡ None
    → IsAscending (claims ++ option_to_list said)
unfolding cause_after
ascending_with claims None up accepted = rw append-nil up
ascending_with claims (Some claim) up accepted = elim (cases_Bool (is_behind claims claim)) [
  | inl behind ↦ ascending_more claims claim up behind
  | inr other ↦ absurd (not_none (rw other at accepted))
]
  where
    not_none : {A : Type 0} {a : A} → Some a ≡ None → ⊥
    not_none h = cc

pub length_with : (claims : List Claim) (said : Option Claim) → length (claims ++ option_to_list said) ≤ length claims + 1
length_with claims None = omega (arith, length-append claims [])
length_with claims (Some claim) = omega (arith, length-append claims (claim ∷ []))

-- ---- the claim of a point

module _ (claims : List Claim) (up : IsAscending claims) (low high : ℕ) (p : Point) where
  pub answers_rise : IsNonDecreasingBy (λ c. ordering_index (order c.point p)) claims
  answers_rise = searchable_from_sorted order_total (λ c. c.point) claims p sorted
    where
      sorted : IsSortedBy (λ a b. is_lt (order a.point b.point)) claims
      sorted k d from below =
          rw (order_total.antisymm (get_or claims (k + 1) d).point (get_or claims k d).point, up k (k + 1) d (omega arith) below) refl

  -- it is the one that was found
  pub claimed_there : (i : ℕ) (d : Claim) → i < length claims → order (get_or claims i d).point p ≡ Equal
      → list_any (allows low high p) claims ≡ (leb (get_or claims i d).low low && leb high (get_or claims i d).high)
  claimed_there i d within same = elim (cases_Bool (leb (get_or claims i d).low low && leb high (get_or claims i d).high)) [
    | inl fits ↦ list_any_at (allows low high p) claims i d within (rw (same, fits) refl) ∙ sym fits
    | inr other ↦ list_any_none (allows low high p) claims (All-from_get_or (λ x. allows low high p x ≡ false) claims d (fails other)) ∙ sym other
  ]
    where
      here : Point
      here = (get_or claims i d).point

      fails : (leb (get_or claims i d).low low && leb high (get_or claims i d).high) ≡ false → (j : ℕ) → j < length claims
          → allows low high p (get_or claims j d) ≡ false
      fails other j below = elim (cases_order j i) [
        | inl it ↦ rw (it, same, other) refl
        | inr apart ↦ elim apart [
          | inl earlier ↦
              let less : order (get_or claims j d).point p ≡ Less = sym (alike_right order_total here p (get_or claims j d).point same)
              ∙ up j i d earlier within in
              rw less refl
          | inr later ↦
              let greater : order (get_or claims j d).point p ≡ Greater =
              order_total.antisymm (get_or claims j d).point p
              ∙ ap ordering_reverse (sym (order_total.congr here p (get_or claims j d).point same) ∙ up i j d later below) in
              rw greater refl
        ]
      ]

  pub claimed_here : (i : ℕ) (c : Claim) → i < length claims → c ≡ get_or claims i c → ((d : Claim) → order (get_or claims i d).point p ≡ Equal) → high ≤ 0xffff
      → has_range low high c ≡ is_claimed claims low high p
  claimed_here i c within is same fits =
      ap (has_range low high) is ∙ sym (ap (λ b. b && list_any (allows low high p) claims) (le-leb high 0xffff fits) ∙ claimed_there i c within (same c))

  -- there is none
  pub claimed_nowhere : (i : ℕ) → IsPartitionPoint (λ c. order c.point p ≡ Less) (λ c. order c.point p ≡ Greater) claims i
      → false ≡ is_claimed claims low high p
  claimed_nowhere i cut = sym (and_right (leb high 0xffff) _ (list_any_none (allows low high p) claims (λ k d within. elim (cases_lt k i) [
    | inl earlier ↦ rw (cut.0 k d (omega arith) earlier) refl
    | inr later ↦ rw (cut.1 k d later within) refl
  ])))

-- ---- the claim of the start

not_equal : (o : Ordering) → is_eq (ordering_then o Greater) ≡ false
not_equal Less = refl
not_equal Equal = refl
not_equal Greater = refl

low_is : (low high : ℕ) → (leb low 0 && leb 0 high) ≡ eqb low 0
low_is low high = elim (cases_lt 0 low) [
  | inl some ↦ rw (lt-leb low 0 some, ne_eqb low 0 (λ same. omega (arith, same, some))) refl
  | inr none ↦ let same : low ≡ 0 = omega (arith, none) in rw same (le-leb 0 high (omega arith))
]

above_none : (n : ℕ) → 0 < n → nat_cmp n 0 ≡ Greater
above_none n some = rw (le-ltb n 0 (omega (arith, some)), ne_eqb n 0 (λ same. omega (arith, same, some))) refl

start_is : (pc low high : ℕ) (items : List ℕ)
    → (is_eq (order (point pc items) (point 0x200 [])) && (leb low 0 && leb 0 high)) ≡ (eqb pc 0x200 && (eqb (length items) 0 && eqb low 0))
start_is pc low high [] = elim (cases_order pc 0x200) [
  | inl same ↦ rw same (low_is low high)
  | inr apart ↦ elim apart [
    | inl below ↦ rw (lt-ltb pc 0x200 below, ne_eqb pc 0x200 (λ same. omega (arith, same, below))) refl
    | inr above ↦ rw (le-ltb pc 0x200 (omega (arith, above)), ne_eqb pc 0x200 (λ same. omega (arith, same, above))) refl
  ]
]
start_is pc low high (x ∷ items) =
    ap (λ o. is_eq (ordering_then (nat_cmp pc 0x200) (ordering_then o (slice_cmp nat_cmp (x ∷ items) []))) && (leb low 0 && leb 0 high))
    (above_none (length (x ∷ items)) (omega arith))
    ∙ ap (λ b. b && (leb low 0 && leb 0 high)) (not_equal (nat_cmp pc 0x200))
    ∙ sym (and_right (eqb pc 0x200) _ (ap (λ b. b && eqb low 0) (ne_eqb (length (x ∷ items)) 0 (λ same. omega (arith, same)))))

starts-any : (claims : List Claim) → list_any (allows 0 0 (point 0x200 [])) claims ≡ list_any is_start claims
starts-any [] = refl
starts-any (c ∷ claims) =
    ap (λ b. b || list_any (allows 0 0 (point 0x200 [])) claims) (start_is c.point.pc c.low c.high c.point.stack.items)
    ∙ ap (λ b. is_start c || b) (starts-any claims)

-- some claim is of the start where the start is claimed with an I of 0
pub start_claimed : (claims : List Claim) (stack : List ℕ) → stack ≡ [] → is_claimed claims 0 0 (point 0x200 stack) ≡ has_start claims
unfolding has_start
start_claimed claims stack empty = rw empty (starts-any claims)

-- ---- the code

module _ (claims : List Claim) (up : IsAscending claims) (start count : ℕ) where
  pub pc_rises : IsNonDecreasingBy (λ c. c.point.pc + 1) claims
  pc_rises i j d before within = elim (cases_lt i j) [
    | inl earlier ↦ let le = pc_before (get_or claims i d).point (get_or claims j d).point (up i j d earlier within) in omega (arith, le)
    | inr same ↦ let it : i ≡ j = omega (arith, before, same) in rw it (omega arith)
  ]

  -- the first claim whose opcode doesn't lie before the bytes tells it
  pub apart_there : (i : ℕ) (d : Claim) → i < length claims
      → IsPartitionPoint (λ c. ltb (c.point.pc + 1) start ≡ true) (λ c. ltb (c.point.pc + 1) start ≡ false) claims i
      → list_all (is_apart start count) claims ≡ leb (start + count) (get_or claims i d).point.pc
  apart_there i d within cut = elim (cases_Bool (leb (start + count) (get_or claims i d).point.pc)) [
    | inl behind ↦ list_all-from_AllPass (is_apart start count) claims (All-from_get_or (λ c. is_apart start count c ≡ true) claims d (passes behind))
        ∙ sym behind
    | inr not_behind ↦ list_all_at (is_apart start count) claims i d within (rw (cut.1 i d (omega arith) within, not_behind) refl) ∙ sym not_behind
  ]
    where
      passes : leb (start + count) (get_or claims i d).point.pc ≡ true → (j : ℕ) → j < length claims → is_apart start count (get_or claims j d) ≡ true
      passes behind j below = elim (cases_lt j i) [
        | inl earlier ↦ rw (cut.0 j d (omega arith) earlier) refl
        | inr later ↦
            let rises = pc_rises i j d later below in
            let past = leb-true (start + count) (get_or claims i d).point.pc behind in
            rw (cut.1 j d later below) (le-leb (start + count) (get_or claims j d).point.pc (omega (arith, rises, past)))
      ]

  -- where there is none, all lie before them
  pub apart_nowhere : (i : ℕ) → length claims ≤ i
      → IsPartitionPoint (λ c. ltb (c.point.pc + 1) start ≡ true) (λ c. ltb (c.point.pc + 1) start ≡ false) claims i
      → list_all (is_apart start count) claims ≡ true
  apart_nowhere i past cut =
      list_all-from_AllPass (is_apart start count) claims (λ k d within. rw (cut.0 k d (omega arith) (omega (arith, within, past))) refl)
