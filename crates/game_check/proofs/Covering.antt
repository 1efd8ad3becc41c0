-- What each closed family has a claim around: what is met stays so under steps, and where ranges are joined.
use Rattle.std.proofs.Common.{◌≡◌, ℕ, ◌+◌, ◌-◌, ◌<◌, ◌≤◌, true, false, Bool, ◌||◌, leb, min, max, List, [], ◌∷◌, length, get_or, refl, sym, ap, subst, ◌∙◌, arith, inl, inr}
use Rattle.std.specs.Prelude.{map, slice_get, slice_set, not, Option, Some, None}
use Rattle.std.specs.Option.{option_to_list}
use Rattle.std.specs.Cmp.{tied_itself}
use Rattle.std.specs.List.{All, insert}
use Rattle.std.specs.Ordering.{ordering_reverse}
use Rattle.std.specs.declared.cmp.Ordering.TheVariants.{Less, Equal, Greater}
use Rattle.std.proofs.lemmas.Bool.{and_parts, cases_lt, cases_order, le-leb, leb-true}
use Rattle.std.proofs.lemmas.List.{get_or_default, get_or-map, get_or-set_same, get_or-set_other, length-map, length-set, set-get_or}
use Rattle.std.proofs.lemmas.List.Edits.{get_or-insert_at, get_or-insert_below, get_or-insert_above, length-insert}
use Rattle.std.proofs.lemmas.List.Elements.{All-cons, All-map, All-nil, All-set}
use Rattle.std.proofs.lemmas.Option.{get_or_from_slice_get, slice_get_within}
use Rattle.std.proofs.lemmas.List.Sums.{sum_by-insert, sum_by-set}
use Rattle.chip8_lang.specs.declared.instr.Instr.{Instr}
use Rattle.chip8_lang.specs.declared.instr.Instr.TheVariants.{Index, Font, AddIndex, Store, Fetch}
use Rattle.chip8_lang.specs.declared.view.Edition.{Edition}
use Rattle.game_check.specs.declared.claim.Point.{Point}
use Rattle.game_check.specs.declared.claim.Claim.{Claim}
use Rattle.game_check.specs.Closed.{has_range, high_after, instr_in, low_after, next_points, point}
use Rattle.game_check.specs.Grammar.{order}
use Rattle.game_check.specs.Least.{IsAround, IsClosed, IsCovered, IsFollowed, IsMet, claim_of, goes, last_address, left_by}
use Rattle.game_check.specs.Order.{IsAscending}
use Rattle.game_check.specs.Searching.{AreFound, AreMet, HasGrown, IsFoundOn, IsMarked, IsProper, ways_of, weight, weights}
use Rattle.game_check.specs.declared.least.Family.{Family}
use Rattle.game_check.specs.declared.least.search.Search.{Search}
use Rattle.game_check.proofs.Ordered.{order_total, same_point}

-- ---- points

pub point_is : (p q : Point) → order p q ≡ Equal → p ≡ q
point_is p q same =
    let parts : (p.pc ≡ q.pc) × (p.stack.items ≡ q.stack.items) = same_point p q (rw same refl) in
    ap (λ pc. point pc p.stack.items) parts.0 ∙ ap (λ stack. point q.pc stack) parts.1

pub order_itself : (p : Point) → order p p ≡ Equal
order_itself p = tied_itself order_total p

pub not_before_itself : (p : Point) → order p p ≡ Less → ⊥
not_before_itself p h = equal_less (sym (order_itself p) ∙ h)
  where
    equal_less : Equal ≡ Less → ⊥
    equal_less e = cc

-- a family has one claim of a point
pub one_claim : (family : List Claim) → IsAscending family → (i j : ℕ) (d e : Claim) → i < length family → j < length family
    → (get_or family i d).point ≡ (get_or family j e).point → i ≡ j
one_claim family up i j d e first second same = elim (cases_order i j) [
  | inl it ↦ it
  | inr apart ↦ elim apart [
    | inl earlier ↦ absurd (not_before_itself (get_or family j d).point (rw here at (up i j d earlier second)))
    | inr later ↦ absurd (not_before_itself (get_or family j d).point (rw here at (up j i d later first)))
  ]
]
  where
    here : (get_or family i d).point ≡ (get_or family j d).point
    here = same ∙ ap (λ c. c.point) (get_or_default family j e d second)

-- ---- ranges

pub around-trans : (a b c : Claim) → IsAround a b → IsAround b c → IsAround a c
around-trans a b c first second = record {
  point = second.point ∙ first.point;
  low = omega (arith, first.low, second.low);
  high = omega (arith, first.high, second.high);
}

pub covered_at : (family : List Claim) (k : ℕ) (d c : Claim) → k < length family → IsAround c (get_or family k d) → IsCovered family c
covered_at family k d c within around = (k, get_or family k d, within, get_or_default family k _ d within, around)

pub covered_wider : (family : List Claim) (b c : Claim) → IsAround b c → IsCovered family c → IsCovered family b
covered_wider family b c around known = (known.0, known.1, known.2, known.3, around-trans b c known.1 around known.4)

-- ---- what an instruction leaves

pub low_least : (i : Instr) (p q : Point) (l h l' h' : ℕ) → l ≤ l' → low_after i (claim_of p l h) ≤ low_after i (claim_of q l' h')
low_least (Index a) p q l h l' h' le = omega arith
low_least (Font x) p q l h l' h' le = omega arith
low_least (Store x) p q l h l' h' le = omega (arith, le)
low_least (Fetch x) p q l h l' h' le = omega (arith, le)
low_least _ p q l h l' h' le = le

pub high_most : (i : Instr) (p q : Point) (l h l' h' : ℕ) → h ≤ h' → high_after i (claim_of p l h) ≤ high_after i (claim_of q l' h')
high_most (Index a) p q l h l' h' le = omega arith
high_most (Font x) p q l h l' h' le = omega arith
high_most (AddIndex x) p q l h l' h' le = omega (arith, le)
high_most (Store x) p q l h l' h' le = omega (arith, le)
high_most (Fetch x) p q l h l' h' le = omega (arith, le)
high_most _ p q l h l' h' le = le

pub low_below_high : (i : Instr) (c : Claim) → c.low ≤ c.high → low_after i c ≤ high_after i c
low_below_high (Index a) c le = omega arith
low_below_high (Font x) c le = omega arith
low_below_high (AddIndex x) c le = omega (arith, le)
low_below_high (Store x) c le = omega (arith, le)
low_below_high (Fetch x) c le = omega (arith, le)
low_below_high _ c le = le

pub left_around : (i : Instr) (c d : Claim) (p : Point) → IsAround c d → IsAround (left_by i c p) (left_by i d p)
left_around i c d p around =
    let low = low_least i d.point c.point d.low d.high c.low c.high around.low in
    let high = high_most i c.point d.point c.low c.high d.low d.high around.high in
    record { point = refl; low = omega (arith, low); high = omega (arith, high) }

pub left_proper : (i : Instr) (c : Claim) (p : Point) → IsProper c → IsProper (left_by i c p)
left_proper i c p proper =
    let le = low_below_high i c proper.rises in
    record { rises = omega (arith, le); low = omega arith; high = omega arith }

-- ---- what is met

module _ (e : Edition) (game : List ℕ) where
  -- a claim is followed in a family where one around it is
  pub followed_in : (family : List Claim) (c d : Claim) → IsAround c d → (goes e game d ≡ true → IsFollowed game family d)
      → goes e game c ≡ true → IsFollowed game family c
  followed_in family c d around follows going =
      let here : goes e game (claim_of c.point d.low d.high) ≡ true → IsFollowed game family (claim_of c.point d.low d.high) =
      subst (λ p. goes e game (claim_of p d.low d.high) ≡ true → IsFollowed game family (claim_of p d.low d.high)) around.point follows in
      let i = instr_in game c.point.pc in
      λ k p within.
      covered_wider family (left_by i c _) (left_by i (claim_of c.point d.low d.high) _)
      (left_around i c (claim_of c.point d.low d.high) _ (record { point = refl; low = around.low; high = around.high })) (here going k p within)

  pub step_of : (family : List Claim) → IsClosed e game family → (c : Claim) → IsCovered family c → goes e game c ≡ true → IsFollowed game family c
  step_of family closed c known =
      followed_in family c known.1 known.4 (subst (λ d. goes e game d ≡ true → IsFollowed game family d) known.3 (closed.steps known.0 known.1 known.2))

  pub met_step : (c : Claim) → IsMet e game c → goes e game c ≡ true
      → All (λ p. IsMet e game (left_by (instr_in game c.point.pc) c p)) (next_points (instr_in game c.point.pc) c.point)
  met_step c met going k p within family closed = step_of family closed c (met family closed) going k p within

  pub met_join : (c d j : Claim) → c.point ≡ d.point → IsMet e game c → IsMet e game d → j.point ≡ c.point → j.low ≡ min c.low d.low
      → j.high ≡ max c.high d.high → IsMet e game j
  met_join c d j same first second point low high family closed =
      let a = first family closed in
      let b = second family closed in
      let there : (get_or family a.0 a.1).point ≡ (get_or family b.0 b.1).point =
      ap (λ x. x.point) a.3 ∙ a.4.point ∙ same ∙ sym b.4.point ∙ sym (ap (λ x. x.point) b.3) in
      let place : a.0 ≡ b.0 = one_claim family closed.in_order a.0 b.0 a.1 b.1 a.2 b.2 there in
      let one : b.1 ≡ a.1 = sym b.3 ∙ rw (← place) (get_or_default family a.0 b.1 a.1 a.2 ∙ a.3) in
      let lower : a.1.low ≤ d.low = subst (λ x. x.low ≤ d.low) one b.4.low in
      let higher : d.high ≤ a.1.high = subst (λ x. d.high ≤ x.high) one b.4.high in (
        a.0,
        a.1,
        a.2,
        a.3,
        record {
          point = a.4.point ∙ sym point;
          low = omega (arith, low, a.4.low, lower);
          high = omega (arith, high, a.4.high, higher);
        },
      )

  -- ---- claims that grow

  module _ (claims : List Claim) (are : AreMet e game claims) where
    pub put_met : (i : ℕ) (c : Claim) → i < length claims → ((d : Claim) → c.point ≡ (get_or claims i d).point) → IsMet e game c → IsProper c
        → AreMet e game (slice_set claims i c)
    put_met i c within point met proper = record {
      in_order = λ j k d before below.
          rw (points j d, points k d) (are.in_order j k d before (omega (arith, below, length-set claims i c)));
      met = All-set (IsMet e game) claims i c met are.met;
      proper = All-set IsProper claims i c proper are.proper;
    }
      where
        points : (j : ℕ) (d : Claim) → (get_or (slice_set claims i c) j d).point ≡ (get_or claims j d).point
        points j d = elim (cases_order j i) [
          | inl it ↦ rw it (ap (λ x. x.point) (get_or-set_same claims i c d within) ∙ point d)
          | inr apart ↦ ap (λ x. x.point) (get_or-set_other claims i j c d (λ it. elim apart [ inl lt ↦ omega (arith, lt, it) | inr lt ↦ omega (arith, lt, it) ]))
        ]

    pub insert_met : (i : ℕ) (c : Claim) → i ≤ length claims → ((k : ℕ) (d : Claim) → k < i → order (get_or claims k d).point c.point ≡ Less)
        → ((k : ℕ) (d : Claim) → i ≤ k → k < length claims → order (get_or claims k d).point c.point ≡ Greater) → IsMet e game c → IsProper c
        → AreMet e game (insert claims i c)
    insert_met i c within before behind met proper = record {
      in_order = ordered;
      met = every (IsMet e game) are.met met;
      proper = every IsProper are.proper proper;
    }
      where
        len : length (insert claims i c) ≡ length claims + 1
        len = length-insert claims i c within

        every : (P : Claim → Type 0) → All P claims → P c → All P (insert claims i c)
        every P all this k d below = elim (cases_order k i) [
          | inl it ↦ subst P (sym (ap (λ n. get_or (insert claims i c) n d) it ∙ get_or-insert_at claims i c d within)) this
          | inr apart ↦ elim apart [
            | inl lt ↦ subst P (sym (get_or-insert_below claims i c d k lt within)) (all k d (omega (arith, lt, within)))
            | inr gt ↦
                let n : k ≡ k - 1 + 1 = omega (arith, gt) in
                subst P (sym (ap (λ m. get_or (insert claims i c) m d) n ∙ get_or-insert_above claims i c d (k - 1) (omega (arith, gt)) within))
                (all (k - 1) d (omega (arith, gt, below, len)))
          ]
        ]

        ordered : IsAscending (insert claims i c)
        ordered j k d less below = elim (cases_order k i) [
          | inl it ↦
              rw (it, get_or-insert_at claims i c d within, get_or-insert_below claims i c d j (omega (arith, it, less)) within)
              (before j d (omega (arith, it, less)))
          | inr apart ↦ elim apart [
            | inl lt ↦
                rw (get_or-insert_below claims i c d k lt within, get_or-insert_below claims i c d j (omega (arith, lt, less)) within)
                (are.in_order j k d less (omega (arith, lt, within)))
            | inr gt ↦
                let n : k ≡ k - 1 + 1 = omega (arith, gt) in
                let last : get_or (insert claims i c) k d ≡ get_or claims (k - 1) d =
                ap (λ m. get_or (insert claims i c) m d) n ∙ get_or-insert_above claims i c d (k - 1) (omega (arith, gt)) within in
                rw last (elim (cases_order j i) [
                  | inl here ↦
                      rw (here, get_or-insert_at claims i c d within)
                      (order_total.antisymm c.point (get_or claims (k - 1) d).point
                      ∙ ap ordering_reverse (behind (k - 1) d (omega (arith, gt)) (omega (arith, gt, below, len))))
                  | inr off ↦ elim off [
                    | inl under ↦
                        rw (get_or-insert_below claims i c d j under within)
                        (are.in_order j (k - 1) d (omega (arith, under, gt)) (omega (arith, gt, below, len)))
                    | inr over ↦
                        let m : j ≡ j - 1 + 1 = omega (arith, over) in
                        rw (ap (λ m. get_or (insert claims i c) m d) m ∙ get_or-insert_above claims i c d (j - 1) (omega (arith, over)) within)
                        (are.in_order (j - 1) (k - 1) d (omega (arith, over, gt, less)) (omega (arith, gt, below, len)))
                  ]
                ])
          ]
        ]

-- ---- weights

pub weights-insert : (claims : List Claim) (i : ℕ) (c : Claim) → weights claims < weights (insert claims i c)
weights-insert claims i c = omega (arith, sum_by-insert weight claims i c)

pub weights-put : (claims : List Claim) (i : ℕ) (c d : Claim) → i < length claims → weight (get_or claims i d) < weight c
    → weights claims < weights (slice_set claims i c)
weights-put claims i c d within more = omega (arith, sum_by-set weight claims i c d within, more)

-- a range that grew
pub heavier : (c j : Claim) (low high : ℕ) → c.low ≤ last_address → low ≤ last_address → j.low ≡ min c.low low → j.high ≡ max c.high high
    → has_range low high c ≡ false → weight c < weight j
heavier c j low high first second lows highs grew = elim (cases_lt low c.low) [
  | inl lower ↦ omega (arith, first, second, lows, highs, lower)
  | inr fits ↦ elim (cases_lt c.high high) [
    | inl higher ↦ omega (arith, first, second, lows, highs, higher, fits)
    | inr held ↦ absurd (true_false (sym (rw (le-leb c.low low fits, le-leb high c.high held) refl) ∙ grew))
  ]
]
  where
    true_false : true ≡ false → ⊥
    true_false h = cc

-- a range that holds another stays
pub kept_range : (c j : Claim) (low high : ℕ) → j.point ≡ c.point → j.low ≡ min c.low low → j.high ≡ max c.high high → has_range low high c ≡ true → j ≡ c
kept_range c j low high point lows highs holds =
    let sides = and_parts (leb c.low low) (leb high c.high) holds in
    let under = leb-true c.low low sides.0 in
    let over = leb-true high c.high sides.1 in
    let l : j.low ≡ c.low = omega (arith, lows, under) in
    let h : j.high ≡ c.high = omega (arith, highs, over) in
    ap (λ p. claim_of p j.low j.high) point ∙ ap (λ n. claim_of c.point n j.high) l ∙ ap (λ n. claim_of c.point c.low n) h

pub not_false : (b : Bool) → not b ≡ false → b ≡ true
not_false true h = refl
not_false false h = cc

pub not_true : (b : Bool) → not b ≡ true → b ≡ false
not_true false h = refl
not_true true h = cc

-- the claim of a point grows to hold another
module _ (e : Edition) (game : List ℕ) (claims : List Claim) (place : ℕ) (within : place < length claims) (c old new : Claim)
    (there : old ≡ get_or claims place old) (same : order old.point c.point ≡ Equal) (point : new.point ≡ old.point) (low : new.low ≡ min old.low c.low)
    (high : new.high ≡ max old.high c.high) where
  joined_met : All (IsMet e game) claims → IsMet e game c → IsMet e game new
  joined_met all met =
      let had : IsMet e game old = subst (IsMet e game) (sym there) (all place old within) in
      met_join e game old c new (point_is old.point c.point same) had met point low high

  joined_proper : All IsProper claims → IsProper c → IsProper new
  joined_proper all proper =
      let was : IsProper old = subst IsProper (sym there) (all place old within) in
      record {
        rises = omega (arith, low, high, was.rises, proper.rises);
        low = omega (arith, low, was.low, proper.low);
        high = omega (arith, high, was.high, proper.high);
      }

  pub widened_found : AreFound e game claims → IsMet e game c → IsProper c → AreFound e game (slice_set claims place new)
  widened_found are met proper = record {
    met = All-set (IsMet e game) claims place new (joined_met are.met met) are.met;
    proper = All-set IsProper claims place new (joined_proper are.proper proper) are.proper;
  }

  pub widened_met : AreMet e game claims → IsMet e game c → IsProper c → AreMet e game (slice_set claims place new)
  widened_met are met proper =
      put_met e game claims are place new within (λ d. point ∙ ap (λ x. x.point) (there ∙ get_or_default claims place old d within))
      (joined_met are.met met) (joined_proper are.proper proper)

  pub widened_more : AreMet e game claims → (grew : Bool) → grew ≡ not (has_range c.low c.high old) → IsProper c → grew ≡ true
      → weights claims < weights (slice_set claims place new)
  widened_more are grew is proper up =
      let was : IsProper old = subst IsProper (sym there) (are.proper place old within) in
      weights-put claims place new old within
      (subst (λ x. weight x < weight new) there
      (heavier old new c.low c.high was.low proper.low low high (not_true _ (sym is ∙ up))))

  pub widened_same : (grew : Bool) → grew ≡ not (has_range c.low c.high old) → grew ≡ false → slice_set claims place new ≡ claims
  widened_same grew is stays =
      ap (slice_set claims place) (kept_range old new c.low c.high point low high (not_false _ (sym is ∙ stays)) ∙ there) ∙ set-get_or claims place old

  pub widened_covers : (grew : Bool) → grew ≡ not (has_range c.low c.high old) → grew ≡ false → IsCovered claims c
  widened_covers grew is stays =
      let sides = and_parts (leb old.low c.low) (leb c.high old.high) (not_false _ (sym is ∙ stays)) in
      covered_at claims place old c within
      (subst (IsAround c) there
      (record { point = point_is old.point c.point same; low = leb-true old.low c.low sides.0; high = leb-true c.high old.high sides.1 }))

-- a claim that was found at a place
module _ (claims : List Claim) (place : ℕ) (c : Claim) (there : Some c ≡ slice_get claims place) where
  pub found_all : (P : Claim → Type 0) → All P claims → P c
  found_all P all =
      subst P (get_or_from_slice_get claims place c c (sym there)) (all place c (slice_get_within claims place c (sym there)))

-- what is met at the points behind a claim
module _ (e : Edition) (game : List ℕ) (c first : Claim) (second : Option Claim) (ways : ways_of game c ≡ first ∷ option_to_list second) where
  abbrev left : Point → Claim
  left = left_by (instr_in game c.point.pc) c

  abbrev points : List Point
  points = next_points (instr_in game c.point.pc) c.point

  left_all : (P : Claim → Type 0) → All (λ p. P (left p)) points → All P (first ∷ option_to_list second)
  left_all P all = subst (All P) ways (All-map P left points all)

  left_first : (P : Claim → Type 0) → All (λ p. P (left p)) points → P first
  left_first P all = (left_all P all) 0 first (omega arith)

  left_second : (P : Claim → Type 0) → All (λ p. P (left p)) points → (r : Claim) → second ≡ Some r → P r
  left_second P all r is = (subst (λ o. All P (first ∷ option_to_list o)) is (left_all P all)) 1 r (omega arith)

  pub first_met : IsMet e game c → goes e game c ≡ true → IsMet e game first
  first_met met going = left_first (IsMet e game) (met_step e game c met going)

  pub second_met : IsMet e game c → goes e game c ≡ true → (r : Claim) → second ≡ Some r → IsMet e game r
  second_met met going = left_second (IsMet e game) (met_step e game c met going)

  pub first_proper : IsProper c → IsProper first
  first_proper proper = left_first IsProper (λ k p within. left_proper (instr_in game c.point.pc) c _ proper)

  pub second_proper : IsProper c → (r : Claim) → second ≡ Some r → IsProper r
  second_proper proper = left_second IsProper (λ k p within. left_proper (instr_in game c.point.pc) c _ proper)

  pub followed_all : (claims : List Claim) → IsCovered claims first → ((r : Claim) → second ≡ Some r → IsCovered claims r) → IsFollowed game claims c
  followed_all claims one more k p within =
      subst (IsCovered claims) (get_or-map left points k p (left p) within) (all k (left p) (omega (arith, within, length-map points left)))
    where
      cover : (o : Option Claim) → second ≡ o → All (IsCovered claims) (first ∷ option_to_list o)
      cover None is = All-cons (IsCovered claims) first [] one (All-nil _)
      cover (Some r) is = All-cons (IsCovered claims) first (r ∷ []) one (All-cons (IsCovered claims) r [] (more r is) (All-nil _))

      all : All (IsCovered claims) (map left points)
      all = subst (All (IsCovered claims)) (sym ways) (cover second refl)

-- ---- a search and a family that grow

-- what is noted of claims doesn't count
pub found_marked : (old mid new : Search) → IsMarked mid new → IsFoundOn old mid → IsFoundOn old new
found_marked old mid new marked found = record {
  edition = marked.edition ∙ found.edition;
  game = ap (λ g. g.now) marked.game ∙ found.game;
  found = rw (marked.edition, marked.game, marked.claims) found.found;
}

or_none : (a b : Bool) → (b || a) ≡ false → (a ≡ false) × (b ≡ false)
or_none a true h = cc
or_none true false h = cc
or_none false false h = (refl, refl)

pub no_less : (old new : Family) (grew : Bool) → HasGrown old new grew → weights old.claims.items ≤ weights new.claims.items
no_less old new true grown = omega (arith, grown.more refl)
no_less old new false grown = omega (arith, ap weights (grown.same refl))

more_on : (old mid new : Family) (a b : Bool) → HasGrown old mid a → HasGrown mid new b → (b || a) ≡ true → weights old.claims.items < weights new.claims.items
more_on old mid new a true first second up = let before = no_less old mid a first in let after = second.more refl in omega (arith, before, after)
more_on old mid new true false first second up = let before = first.more refl in let after = no_less mid new false second in omega (arith, before, after)
more_on old mid new false false first second up = cc

pub grown_on : (old mid new : Family) (a b r : Bool) → HasGrown old mid a → HasGrown mid new b → r ≡ (b || a) → HasGrown old new r
grown_on old mid new a b r first second is = record {
  edition = second.edition ∙ first.edition;
  game = second.game ∙ first.game;
  kept = second.kept;
  more = λ up. more_on old mid new a b first second (sym is ∙ up);
  same = λ stays. let each = or_none a b (sym is ∙ stays) in second.same each.1 ∙ first.same each.0;
}

pub neither : (a b r : Bool) → r ≡ (b || a) → r ≡ false → (a ≡ false) × (b ≡ false)
neither a b r is stays = or_none a b (sym is ∙ stays)

-- what a claim that was followed says, where nothing had grown before
pub followed_there : (old mid : Family) (a : Bool) → HasGrown old mid a → a ≡ false → (place : ℕ)
    → ((d : Claim) → Some d ≡ slice_get mid.claims.items place → goes mid.edition mid.game.now d ≡ true → IsFollowed mid.game.now mid.claims.items d)
    → (d : Claim) → Some d ≡ slice_get old.claims.items place → goes old.edition old.game.now d ≡ true → IsFollowed old.game.now old.claims.items d
followed_there old mid a grown stays place says = rw (grown.edition, grown.game, grown.same stays) at says
