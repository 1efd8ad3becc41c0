-- What the least family has of each other closed one: fewer bytes, and each rule that holds there.
use Rattle.std.proofs.Common.{◌≡◌, ℕ, zero, suc, ◌+◌, ◌-◌, ◌<◌, ◌≤◌, true, false, Bool, ◌&&◌, ◌||◌, leb, ltb, eqb, min, List, [], ◌∷◌, length, get_or, None, refl, sym, ap, subst, ◌∙◌, arith, inl, inr}
use Rattle.std.specs.Prelude.{map}
use Rattle.std.specs.List.{All, list_all, list_any, sum_by}
use Rattle.std.specs.Ordering.{is_eq}
use Rattle.std.specs.declared.cmp.Ordering.TheVariants.{Less, Equal}
use Rattle.std.proofs.lemmas.Bool.{and_from, and_parts, cases_lt, le-leb, leb-true, lt-ltb, ltb-true, or_cases}
use Rattle.std.proofs.lemmas.List.{get_or-map, length-map}
use Rattle.std.proofs.lemmas.List.Folds.{list_any-from_Any}
use Rattle.std.proofs.lemmas.List.Sums.{AllPass-from_list_all, list_all-from_AllPass, sum_by-cons}
use Rattle.chip8_lang.specs.declared.instr.Instr.{Instr}
use Rattle.chip8_lang.specs.declared.instr.Instr.TheVariants.{Draw, Decimal, Store, Fetch}
use Rattle.chip8_lang.specs.declared.view.Edition.{Edition}
use Rattle.chip8_lang.specs.Editions.{font_end, font_start, memory_end, memory_start}
use Rattle.chip8_lang.specs.State.{is_in_font, is_in_memory}
use Rattle.chip8_lang.specs.Step.{is_readable}
use Rattle.game_check.specs.declared.claim.Point.{Point}
use Rattle.game_check.specs.declared.claim.Claim.{Claim}
use Rattle.game_check.specs.Closed.{allows, cause_in, goes_on, has_access, high_after, instr_in, is_apart, is_claimed, is_writable, low_after, next_points}
use Rattle.game_check.specs.Grammar.{order}
use Rattle.game_check.specs.Least.{IsAround, IsClosed, IsCovered, IsFollowed, IsLeast, claim_of, goes, last_address, left_by, line_bytes, start_claim}
use Rattle.game_check.specs.Order.{IsAscending}
use Rattle.game_check.specs.Searching.{IsProper}
use Rattle.game_check.proofs.Covering.{covered_at, covered_wider, high_most, low_least, not_before_itself, order_itself}
use Rattle.game_check.proofs.Games.{Parts, parts}
use Rattle.game_check.proofs.Ordered.{order_total}

-- ---- bytes

covered_behind : (d : Claim) (family : List Claim) (x : Claim) → (x.point ≡ d.point → ⊥) → (k : ℕ) (y : Claim) → k < length (d ∷ family)
    → get_or (d ∷ family) k y ≡ y → IsAround x y → IsCovered family x
covered_behind d family x apart zero y within at around = absurd (apart (sym around.point ∙ ap (λ c. c.point) (sym at)))
covered_behind d family x apart (suc k) y within at around = (k, y, omega (arith, within), at, around)

all_behind : (d : Claim) (family xs : List Claim) → All (λ x. x.point ≡ d.point → ⊥) xs → All (IsCovered (d ∷ family)) xs → All (IsCovered family) xs
all_behind d family xs apart all k c within =
    let known = all k c within in
    covered_behind d family (get_or xs k c) (apart k c within) known.0 known.1 known.2 known.3 known.4

-- a family that covers claims has no fewer bytes
pub covering_bytes : (family claims : List Claim) → IsAscending family → IsAscending claims → All (IsCovered family) claims
    → sum_by line_bytes claims ≤ sum_by line_bytes family
covering_bytes family [] ordered up all = omega arith
covering_bytes [] (c ∷ claims) ordered up all = let here = all 0 c (omega arith) in absurd (omega (arith, here.2))
covering_bytes (d ∷ family) (c ∷ claims) ordered up all = elim (cases_lt 0 known.0) [
  | inr first ↦
      let place : known.0 ≡ 0 = omega (arith, first) in
      let one : d ≡ known.1 = rw place at known.3 in
      let same : c.point ≡ d.point = sym known.4.point ∙ ap (λ x. x.point) (sym one) in
      let apart : All (λ x. x.point ≡ d.point → ⊥) claims =
      λ k x within there.
      not_before_itself c.point (subst (λ p. order c.point p ≡ Less) (there ∙ sym same) (up 0 (suc k) x (omega arith) (omega (arith, within)))) in
      let rest = covering_bytes family claims (λ i j x before below. ordered (suc i) (suc j) x (omega (arith, before)) (omega (arith, below)))
      (λ i j x before below. up (suc i) (suc j) x (omega (arith, before)) (omega (arith, below)))
      (all_behind d family claims apart (λ k x within. all (suc k) x (omega (arith, within)))) in
      omega (arith, rest, sum_by-cons line_bytes c claims, sum_by-cons line_bytes d family, ap (λ p. length p.stack.items) same)
  | inl later ↦
      let before : order d.point c.point ≡ Less =
      subst (λ p. order d.point p ≡ Less) (ap (λ x. x.point) known.3 ∙ known.4.point) (ordered 0 known.0 known.1 later known.2) in
      let apart : All (λ x. x.point ≡ d.point → ⊥) (c ∷ claims) =
      λ k x within there. not_before_itself d.point (subst (λ p. order d.point p ≡ Less) there (behind before k x within)) in
      let rest = covering_bytes family (c ∷ claims) (λ i j x less below. ordered (suc i) (suc j) x (omega (arith, less)) (omega (arith, below))) up
      (all_behind d family (c ∷ claims) apart all) in
      omega (arith, rest, sum_by-cons line_bytes d family)
]
  where
    known : IsCovered (d ∷ family) c
    known = all 0 c (omega arith)

    behind : order d.point c.point ≡ Less → (k : ℕ) (x : Claim) → k < length (c ∷ claims) → order d.point (get_or (c ∷ claims) k x).point ≡ Less
    behind before zero x within = before
    behind before (suc k) x within =
        order_total.trans d.point c.point (get_or claims k x).point before (up 0 (suc k) x (omega arith) within)

-- ---- rules

module _ (e : Edition) (l h low high n : ℕ) (first : l ≤ low) (last : high ≤ h) (rises : low ≤ high) where
  memory_kept : is_in_memory e l (h - l + n) ≡ true → is_in_memory e low (high - low + n) ≡ true
  memory_kept holds =
      let sides = and_parts (leb memory_start l) (leb (l + (h - l + n)) (memory_end e)) holds in
      let from : memory_start ≤ l = leb-true memory_start l sides.0 in
      let to : l + (h - l + n) ≤ memory_end e = leb-true (l + (h - l + n)) (memory_end e) sides.1 in
      and_from (leb memory_start low) (leb (low + (high - low + n)) (memory_end e)) (le-leb memory_start low (omega (arith, from, first)))
      (le-leb (low + (high - low + n)) (memory_end e) (omega (arith, to, first, last, rises)))

  font_kept : is_in_font l (h - l + n) ≡ true → is_in_font low (high - low + n) ≡ true
  font_kept holds =
      let sides = and_parts (leb font_start l) (leb (l + (h - l + n)) font_end) holds in
      let from : font_start ≤ l = leb-true font_start l sides.0 in
      let to : l + (h - l + n) ≤ font_end = leb-true (l + (h - l + n)) font_end sides.1 in
      and_from (leb font_start low) (leb (low + (high - low + n)) font_end) (le-leb font_start low (omega (arith, from, first)))
      (le-leb (low + (high - low + n)) font_end (omega (arith, to, first, last, rises)))

  readable_kept : is_readable e l (h - l + n) ≡ true → is_readable e low (high - low + n) ≡ true
  readable_kept holds = elim (or_cases (is_in_memory e l (h - l + n)) (is_in_font l (h - l + n)) holds) [
    | inl memory ↦ rw (memory_kept memory) refl
    | inr font ↦ or_right (is_in_memory e low (high - low + n)) (font_kept font)
  ]
    where
      or_right : (a : Bool) {b : Bool} → b ≡ true → (a || b) ≡ true
      or_right true is = refl
      or_right false is = is

  apart_kept : (x y : Claim) → y.point ≡ x.point → is_apart l (h - l + n) y ≡ true → is_apart low (high - low + n) x ≡ true
  apart_kept x y point holds = elim (or_cases (ltb (y.point.pc + 1) l) (leb (l + (h - l + n)) y.point.pc) holds) [
    | inl before ↦
        let lt = ltb-true _ _ before in
        rw (lt-ltb (x.point.pc + 1) low (omega (arith, lt, first, ap (λ p. p.pc) point))) refl
    | inr behind ↦
        let le = leb-true _ _ behind in
        or_right (ltb (x.point.pc + 1) low) (le-leb (low + (high - low + n)) x.point.pc (omega (arith, le, first, last, rises, ap (λ p. p.pc) point)))
  ]
    where
      or_right : (a : Bool) {b : Bool} → b ≡ true → (a || b) ≡ true
      or_right true is = refl
      or_right false is = is

  writable_kept : (claims family : List Claim) → All (IsCovered family) claims → is_writable e family l (h - l + n) ≡ true
      → is_writable e claims low (high - low + n) ≡ true
  writable_kept claims family covers holds =
      let sides = and_parts (is_in_memory e l (h - l + n)) (list_all (is_apart l (h - l + n)) family) holds in
      let each = AllPass-from_list_all (is_apart l (h - l + n)) family sides.1 in
      and_from _ _ (memory_kept sides.0)
      (list_all-from_AllPass (is_apart low (high - low + n)) claims
      (λ k x within.
      let known = covers k x within in
      apart_kept (get_or claims k x) known.1 known.4.point (subst (λ y. is_apart l (h - l + n) y ≡ true) known.3 (each known.0 known.1 known.2))))

access_kept : (e : Edition) (claims family : List Claim) (i : Instr) (c : Claim) (l h : ℕ) → l ≤ c.low → c.high ≤ h → c.low ≤ c.high
    → All (IsCovered family) claims → has_access e family i (claim_of c.point l h) ≡ true → has_access e claims i c ≡ true
access_kept e claims family (Draw x y n) c l h first last rises covers holds = elim (or_cases (eqb n 0) (is_readable e l (h - l + n)) holds) [
  | inl none ↦ rw none refl
  | inr some ↦ or_right (eqb n 0) (readable_kept e l h c.low c.high n first last rises some)
]
  where
    or_right : (a : Bool) {b : Bool} → b ≡ true → (a || b) ≡ true
    or_right true is = refl
    or_right false is = is
access_kept e claims family (Fetch x) c l h first last rises covers holds = readable_kept e l h c.low c.high (x + 1) first last rises holds
access_kept e claims family (Decimal x) c l h first last rises covers holds = writable_kept e l h c.low c.high 3 first last rises claims family covers holds
access_kept e claims family (Store x) c l h first last rises covers holds =
    writable_kept e l h c.low c.high (x + 1) first last rises claims family covers holds
access_kept e claims family _ c l h first last rises covers holds = refl

module _ (e : Edition) (game : List ℕ) where
  rules_from : (claims : List Claim) (c : Claim) → Parts e game claims c → cause_in e game claims c ≡ None
  unfolding cause_in
  rules_from claims c p = rw (p.inside, p.allowed, p.access, p.onward) refl

  -- what the rules say of a new range
  fits_after : (claims : List Claim) (c : Claim) → Parts e game claims c → (k : ℕ) (p : Point) → k < length (next_points (instr_in game c.point.pc) c.point)
      → high_after (instr_in game c.point.pc) c ≤ last_address
  fits_after claims c rules k p within =
      let i = instr_in game c.point.pc in
      let each = AllPass-from_list_all (is_claimed claims (low_after i c) (high_after i c)) (next_points i c.point) rules.onward in
      leb-true _ _ (and_parts _ _ (each k p within)).0

  -- a closed family claims what is left, where I can't pass the last address
  claims_on : (claims : List Claim) (c : Claim) → IsClosed e game claims → c.low ≤ c.high → IsFollowed game claims c
      → ((k : ℕ) (p : Point) → k < length (next_points (instr_in game c.point.pc) c.point) → high_after (instr_in game c.point.pc) c ≤ last_address)
      → goes_on claims (instr_in game c.point.pc) c ≡ true
  claims_on claims c closed rises follows fits =
      let i = instr_in game c.point.pc in
      list_all-from_AllPass (is_claimed claims (low_after i c) (high_after i c)) (next_points i c.point)
      (λ k p within.
      let known = follows k p within in
      let most = fits k p within in
      let q = get_or (next_points i c.point) k p in
      let low = known.4.low in
      let high = known.4.high in
      let l = low_after i c in
      let h = high_after i c in
      let there : order known.1.point q ≡ Equal = subst (λ r. order r q ≡ Equal) (sym known.4.point) (order_itself q) in
      let alike : is_eq (order known.1.point q) ≡ true = ap is_eq there in
      let range : (leb known.1.low l && leb h known.1.high) ≡ true =
      and_from (leb known.1.low l) (leb h known.1.high) (le-leb known.1.low l (omega (arith, low))) (le-leb h known.1.high (omega (arith, high, most))) in
      let found : list_any (allows l h q) claims ≡ true =
      list_any-from_Any (allows l h q) claims
      (known.0, known.1, known.2, known.3, and_from (is_eq (order known.1.point q)) (leb known.1.low l && leb h known.1.high) alike range) in
      and_from (leb h last_address) (list_any (allows l h q) claims) (le-leb h last_address most) found)

  -- each rule that holds of a closed family holds of the least
  pub rules_kept : (least family : List Claim) → IsLeast e game least → All IsProper least → IsClosed e game family
      → All (λ c. cause_in e game family c ≡ None) family → All (λ c. cause_in e game least c ≡ None) least
  rules_kept least family is proper closed rules k d within =
      let c = get_or least k d in
      let known = is.least k d within family closed in
      let here : Parts e game family (claim_of c.point known.1.low known.1.high) =
      subst (λ p. Parts e game family (claim_of p known.1.low known.1.high)) known.4.point
      (parts e game family known.1 (subst (λ x. cause_in e game family x ≡ None) known.3 (rules known.0 known.1 known.2))) in
      let i = instr_in game c.point.pc in
      let rises = (proper k d within).rises in
      let below = high_most i c.point c.point c.low c.high known.1.low known.1.high known.4.high in
      rules_from least c
      (record {
        inside = here.inside;
        allowed = here.allowed;
        access =
            access_kept e least family i c known.1.low known.1.high known.4.low known.4.high rises
            (λ j x there. is.least j x there family closed) here.access;
        onward =
            claims_on least c is.closed rises (is.closed.steps k d within (and_from _ _ here.inside here.allowed))
            (λ j p there. let most = fits_after family (claim_of c.point known.1.low known.1.high) here j p there in omega (arith, below, most));
      })

  -- ---- no range passes the last address

  capped : Claim → Claim
  capped c = claim_of c.point c.low (min last_address c.high)

  -- where each rule holds, the least family keeps below
  pub keeps_below : (least : List Claim) → IsLeast e game least → All (λ c. cause_in e game least c ≡ None) least → All (λ c. c.high ≤ last_address) least
  unfolding capped
  keeps_below least is rules k d within =
      let known = is.least k d within (map capped least) closed in
      let x = get_or least known.0 d in
      let there : known.1 ≡ capped x = sym known.3 ∙ get_or-map capped least known.0 d known.1 (omega (arith, known.2, length-map least capped)) in
      let high = subst (λ y. (get_or least k d).high ≤ y.high) there known.4.high in
      omega (arith, high)
    where
      at : (j : ℕ) (x : Claim) → j < length (map capped least) → get_or (map capped least) j (capped x) ≡ capped (get_or least j x)
      at j x below = get_or-map capped least j x (capped x) (omega (arith, below, length-map least capped))

      in_cap : (c : Claim) → c.high ≤ last_address → IsCovered least c → IsCovered (map capped least) c
      in_cap c small known =
          let below : known.0 < length (map capped least) = omega (arith, known.2, length-map least capped) in
          let here : get_or (map capped least) known.0 (capped known.1) ≡ capped known.1 = at known.0 known.1 below ∙ ap capped known.3 in
          let high = known.4.high in
          covered_at (map capped least) known.0 (capped known.1) c below
          (subst (IsAround c) (sym here) (record { point = known.4.point; low = known.4.low; high = omega (arith, high, small) }))

      closed : IsClosed e game (map capped least)
      closed = record {
        in_order = λ i j x before below.
            let a = get_or-map capped least i x x (omega (arith, before, below, length-map least capped)) in
            let b = get_or-map capped least j x x (omega (arith, below, length-map least capped)) in
            rw (a, b) (is.closed.in_order i j x before (omega (arith, below, length-map least capped)));
        start = let low : start_claim.high ≤ last_address = omega arith in in_cap start_claim low is.closed.start;
        steps = λ j x below going.
            let inner : j < length least = omega (arith, below, length-map least capped) in
            let c = get_or least j x in
            let one : get_or (map capped least) j x ≡ capped c = get_or-map capped least j x x inner in
            rw one (follows c j x inner refl (rw one at going));
      }
        where
          follows : (c : Claim) (j : ℕ) (x : Claim) (inner : j < length least) → get_or least j x ≡ c → goes e game c ≡ true
              → IsFollowed game (map capped least) (capped c)
          follows c j x inner here going m p there =
              let i = instr_in game c.point.pc in
              let said = parts e game least c (subst (λ y. cause_in e game least y ≡ None) here (rules j x inner)) in
              let most = fits_after least c said m p there in
              let next = subst (λ y. goes e game y ≡ true → IsFollowed game least y) here (is.closed.steps j x inner) going m p there in
              let q = get_or (next_points i c.point) m p in
              let below = high_most i c.point c.point c.low (min last_address c.high) c.low c.high (omega arith) in
              let low = low_least i c.point c.point c.low c.high c.low (min last_address c.high) (omega arith) in
              let around : IsAround (left_by i (capped c) q) (left_by i c q) =
              record { point = refl; low = omega (arith, low); high = omega (arith, below) } in
              in_cap (left_by i (capped c) q) (omega (arith, below, most)) (covered_wider least _ _ around next)
