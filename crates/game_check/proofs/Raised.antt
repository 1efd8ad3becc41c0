-- Ways on which I is raised: a cycle of them raises it above all addresses, in each closed family.
use Rattle.std.proofs.Common.{◌≡◌, ℕ, ◌+◌, ◌<◌, ◌≤◌, true, false, Bool, ◌||◌, min, List, ◌∷◌, length, get_or, Option, Some, None, refl, sym, ap, subst, ◌∙◌, arith, if◌then◌else◌}
use Rattle.std.specs.Option.{option_to_list}
use Rattle.std.specs.Prelude.{IfSome}
use Rattle.std.specs.Ordering.{is_eq}
use Rattle.std.proofs.lemmas.List.{get_or_default}
use Rattle.chip8_lang.specs.declared.instr.Instr.{Instr}
use Rattle.chip8_lang.specs.declared.view.Edition.{Edition}
use Rattle.game_check.specs.declared.claim.Claim.{Claim}
use Rattle.game_check.specs.declared.claim.Point.{Point}
use Rattle.game_check.specs.Closed.{high_after, instr_in, next_points}
use Rattle.game_check.specs.Grammar.{order}
use Rattle.game_check.specs.Least.{IsAround, IsCovered, IsMet, above, claim_of, goes, last_address, left_by}
use Rattle.game_check.specs.Searching.{IsAhead, IsProper}
use Rattle.game_check.proofs.Covering.{covered_at, covered_wider, one_claim, point_is, step_of}
use Rattle.game_check.proofs.Ordered.{is_eq-true}

-- an instruction raises I by one at least, or keeps it
abbrev pub Shifts : Instr → Bool → Type 0
Shifts i shifts = (c : Claim) → c.high + (if shifts then 1 else 0) ≤ high_after i c

module _ (e : Edition) (game : List ℕ) where
  pub ahead_itself : (p q : Point) → p ≡ q → IsAhead e game p q false
  ahead_itself p q same family closed high known =
      subst (λ r. IsCovered family (claim_of r last_address (min above (high + 0)))) same
      (covered_wider family (claim_of p last_address (min above (high + 0))) (claim_of p last_address high)
      (record { point = refl; low = omega arith; high = omega arith }) known)

  pub ahead_on : (p q r : Point) (a b : Bool) → IsAhead e game p q a → IsAhead e game q r b → IsAhead e game p r (b || a)
  ahead_on p q r a b first second family closed high known =
      covered_wider family (claim_of r last_address (min above (high + (if b || a then 1 else 0))))
      (claim_of r last_address (min above (min above (high + (if a then 1 else 0)) + (if b then 1 else 0))))
      (record { point = refl; low = omega arith; high = most a b })
      (second family closed (min above (high + (if a then 1 else 0))) (first family closed high known))
    where
      most : (a b : Bool) → min above (high + (if b || a then 1 else 0)) ≤ min above (min above (high + (if a then 1 else 0)) + (if b then 1 else 0))
      most true true = omega arith
      most true false = omega arith
      most false true = omega arith
      most false false = omega arith

  module _ (from : Claim) (i : Instr) (instr : i ≡ instr_in game from.point.pc) (going : goes e game from ≡ true) (p : Point) (q : Option Point)
      (points : next_points i from.point ≡ p ∷ option_to_list q) (to : Point) where
    ahead_at : (k : ℕ) → k < length (p ∷ option_to_list q) → ((d : Point) → get_or (p ∷ option_to_list q) k d ≡ to) → (shifts : Bool) → Shifts i shifts
        → IsAhead e game from.point to shifts
    ahead_at k within here shifts rises family closed high known =
        let c = claim_of from.point last_address high in
        let all = rw (← instr, points) at (step_of e game family closed c known going) in
        let more = rises c in
        covered_wider family (claim_of to last_address (min above (high + (if shifts then 1 else 0)))) (left_by i c to)
        (record { point = refl; low = omega arith; high = omega (arith, more) })
        (subst (λ r. IsCovered family (left_by i c r)) (here to) (all k to within))

    ahead_by : (k : ℕ) → k < length (p ∷ option_to_list q) → ((d : Point) → get_or (p ∷ option_to_list q) k d ≡ to) → (shift : Option Bool)
        → IfSome shift (Shifts i) → IfSome shift (IsAhead e game from.point to)
    ahead_by k within here (Some shifts) rises = ahead_at k within here shifts rises
    ahead_by k within here None rises = rises

    pub ahead_first : is_eq (order p to) ≡ true → (shift : Option Bool) → IfSome shift (Shifts i) → IfSome shift (IsAhead e game from.point to)
    ahead_first same = ahead_by 0 (omega arith) (λ d. point_is p to (is_eq-true _ same))

    pub ahead_second : (r : Point) → q ≡ Some r → is_eq (order r to) ≡ true → (shift : Option Bool) → IfSome shift (Shifts i)
        → IfSome shift (IsAhead e game from.point to)
    ahead_second r is same =
        ahead_by 1 (rw is (omega arith)) (λ d. rw is (point_is r to (is_eq-true _ same)))

  -- where I is raised on the way from a point back to it, it is above all addresses
  pub lifted_met : (c d : Claim) → IsMet e game c → IsProper c → d.point ≡ c.point → IsAhead e game d.point c.point true
      → IsMet e game (claim_of c.point c.low above)
  lifted_met c d met proper same ahead family closed =
      let a = met family closed in
      let round = rw same at ahead in
      let here : IsCovered family (claim_of c.point last_address a.1.high) =
      covered_at family a.0 a.1 (claim_of c.point last_address a.1.high) a.2
      (subst (IsAround (claim_of c.point last_address a.1.high)) (sym a.3)
      (record { point = a.4.point; low = omega (arith, a.4.low, proper.low); high = omega arith })) in
      let b = round family closed a.1.high here in
      let from : (get_or family a.0 a.1).point ≡ c.point = ap (λ x. x.point) a.3 ∙ a.4.point in
      let to : (get_or family b.0 b.1).point ≡ c.point = ap (λ x. x.point) b.3 ∙ b.4.point in
      let there : (get_or family a.0 a.1).point ≡ (get_or family b.0 b.1).point = from ∙ sym to in
      let place : a.0 ≡ b.0 = one_claim family closed.in_order a.0 b.0 a.1 b.1 a.2 b.2 there in
      let one : b.1 ≡ a.1 = sym b.3 ∙ rw (← place) (get_or_default family a.0 b.1 a.1 a.2 ∙ a.3) in
      let higher : min above (a.1.high + 1) ≤ a.1.high = subst (λ x. min above (a.1.high + 1) ≤ x.high) one b.4.high in
      (a.0, a.1, a.2, a.3, record { point = a.4.point; low = a.4.low; high = omega (arith, higher) })
