use Rattle.std.proofs.Common.{◌≡◌, ℕ, zero, suc, ◌<◌, Bool, true, false, eqb, List, [], ◌∷◌, length, get_or, Some, None, find, option_map, refl, sym, ap, ◌∙◌, arith}
use Rattle.std.proofs.lemmas.Bool.{eq-eqb}
use Rattle.vip_outside.proofs.mem_sink.MemSink.named_kept.Goals as goal

-- the first that passes is found
find_first : (passes : ℕ × ℕ → Bool) (entries : List (ℕ × ℕ)) (place : ℕ) → place < length entries
    → ((k : ℕ) → k < place → passes (get_or entries k (0, 0)) ≡ false) → passes (get_or entries place (0, 0)) ≡ true
    → find passes entries ≡ Some (get_or entries place (0, 0))
find_first passes [] place within before here = absurd (omega arith)
find_first passes (entry ∷ entries) zero within before here = rw here refl
find_first passes (entry ∷ entries) (suc place) within before here =
    rw (before 0 (omega arith)) (find_first passes entries place (omega arith) (λ k lt. before (suc k) (omega arith)) here)

-- none is found where none passes
find_none : (passes : ℕ × ℕ → Bool) (entries : List (ℕ × ℕ))
    → ((k : ℕ) → k < length entries → passes (get_or entries k (0, 0)) ≡ false) → find passes entries ≡ None
find_none passes [] all = refl
find_none passes (entry ∷ entries) all = rw (all 0 (omega arith)) (find_none passes entries (λ k lt. all (suc k) (omega arith)))

-- the named calls, and the number of the next one, are those that are read
pub returns-then-entry-self : goal.returns-then-entry-self
returns-then-entry-self c =
    let s = c.args.self.now in
    let is_next : ℕ × ℕ → Bool = λ entry. eqb entry.0 s.calls in
    let named = ap (λ t. t.named) (sym c.self.view_is) ∙ sym c.as_slice-named.ensures.value in
    let next = c.if-entry-self.true ∙ ap (λ t. t.calls) c.self.view_is in
    let found = find_first is_next c.as_slice-named.result.now c.loop-entry.entry-index c.loop-entry-test.true c.loop-entry.invariant (eq-eqb _ _ next) in
    sym (ap (λ entries. option_map (λ entry. entry.1) (find is_next entries)) named ∙ ap (option_map (λ entry. entry.1)) found)

pub returns : goal.returns
returns c =
    let s = c.args.self.now in
    let is_next : ℕ × ℕ → Bool = λ entry. eqb entry.0 s.calls in
    let named = ap (λ t. t.named) (sym c.self.view_is) ∙ sym c.as_slice-named.ensures.value in
    let none = find_none is_next c.as_slice-named.result.now (λ k lt. c.loop-entry.invariant k (omega arith)) in
    sym (ap (λ entries. option_map (λ entry. entry.1) (find is_next entries)) named ∙ ap (option_map (λ entry. entry.1)) none)
