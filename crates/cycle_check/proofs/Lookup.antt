-- The line with an address, among lines whose addresses don't fall.
use Rattle.std.proofs.Common.{◌≡◌, ℕ, zero, suc, ◌+◌, ◌<◌, ◌≤◌, true, false, eqb, ltb, List, [], ◌∷◌, length, get_or, drop, map, Option, Some, None, refl, sym, ap, ◌∙◌, arith, inl, inr, le_refl}
use Rattle.std.specs.List.{All, AllWithin}
use Rattle.std.specs.Prelude.{option_map, IfSome}
use Rattle.std.proofs.lemmas.Bool.{eq-eqb, ne_eqb, eqb-true, ltb-true, ltb-false, cases_Bool, cases_lt}
use Rattle.std.proofs.lemmas.List.{drop_more, drop_all}
use Rattle.std.proofs.lemmas.Option.{same_Some}
use Rattle.cycle_check.specs.declared.fault.CertCause.{CertCause}
use Rattle.cycle_check.specs.declared.grammar.Line.{Line}
use Rattle.cycle_check.specs.Closed.{line_at, first_from, placed, or_else}
use Rattle.cycle_check.specs.Reading.{AreRising}

-- the first line behind those with lower addresses has it
pub line_at-found : (lines : List Line) (a n : ℕ) (d : Line) → n < length lines → AllWithin (λ line. ltb line.address a ≡ true) lines 0 n
    → (get_or lines n d).address ≡ a → line_at lines a ≡ Some (get_or lines n d)
line_at-found [] a n d within below is = absurd (omega arith)
line_at-found (line ∷ lines) a zero d within below is = rw (eq-eqb line.address a is) refl
line_at-found (line ∷ lines) a (suc n) d within below is =
    let lower = ltb-true line.address a (below 0 line (omega arith) (omega arith)) in
    rw (ne_eqb line.address a (λ same. omega (arith, lower, same)))
    (line_at-found lines a n d (omega arith) (λ k e low high. below (suc k) e (omega arith) (omega arith)) is)

-- no line has it
pub line_at-none : (lines : List Line) (a : ℕ) → ((k : ℕ) (d : Line) → k < length lines → (get_or lines k d).address ≡ a → ⊥) → line_at lines a ≡ None
line_at-none [] a absent = refl
line_at-none (line ∷ lines) a absent =
    rw (ne_eqb line.address a (absent 0 line (omega arith))) (line_at-none lines a (λ k d within. absent (suc k) d (omega arith)))

-- a line that was found has the address, and no cause where no line has one
pub address_of-found : (lines : List Line) (a : ℕ) (line : Line) → line_at lines a ≡ Some line → line.address ≡ a
address_of-found [] a line found = cc
address_of-found (first ∷ lines) a line found = elim (cases_Bool (eqb first.address a)) [
  | inl same ↦
      let is : Some first ≡ Some line = rw same at found in
      sym (ap (λ l. l.address) (same_Some first line is)) ∙ eqb-true first.address a same
  | inr other ↦ address_of-found lines a line (rw other at found)
]

-- lines that are changed, each but for its address
pub line_at-map : (f : Line → Line) → ((line : Line) → (f line).address ≡ line.address) → (lines : List Line) (a : ℕ)
    → line_at (map f lines) a ≡ option_map f (line_at lines a)
line_at-map f same [] a = refl
line_at-map f same (line ∷ lines) a = elim (cases_Bool (eqb line.address a)) [
  | inl here ↦ let there : eqb (f line).address a ≡ true = ap (λ n. eqb n a) (same line) ∙ here in rw (there, here) refl
  | inr other ↦ let nowhere : eqb (f line).address a ≡ false = ap (λ n. eqb n a) (same line) ∙ other in rw (nowhere, other) (line_at-map f same lines a)
]

-- what all lines have, that of an address has, if there is one
pub found_some : (P : Line → Type 0) (lines : List Line) (a : ℕ) → All P lines → IfSome (line_at lines a) P
found_some P [] a all = tt
found_some P (line ∷ lines) a all = elim (cases_Bool (eqb line.address a)) [
  | inl here ↦ rw here (all 0 line (omega arith))
  | inr other ↦ rw other (found_some P lines a (λ i d within. all (suc i) d (omega arith)))
]

or_none : {X : Type 0} (x y : Option X) → or_else x y ≡ None → (x ≡ None) × (y ≡ None)
or_none None y h = (refl, h)
or_none (Some x) y h = cc

placed_none : (place : ℕ) (cause : Option CertCause) → placed place cause ≡ None → cause ≡ None
placed_none place None h = refl
placed_none place (Some cause) h = cc

pub cause_of-found : (cause : Line → Option CertCause) (place : ℕ) (lines : List Line) (a : ℕ) (line : Line) → first_from cause place lines ≡ None
    → line_at lines a ≡ Some line → cause line ≡ None
unfolding first_from
cause_of-found cause place [] a line fine found = cc
cause_of-found cause place (first ∷ lines) a line fine found =
    let parts = or_none (placed place (cause first)) (first_from cause (place + 1) lines) fine in
    elim (cases_Bool (eqb first.address a)) [
      | inl same ↦
          let is : Some first ≡ Some line = rw same at found in
          ap cause (sym (same_Some first line is)) ∙ placed_none place (cause first) parts.0
      | inr other ↦ cause_of-found cause (place + 1) lines a line parts.1 (rw other at found)
    ]

-- the causes of the lines from a place on, without the first line, which has none
first_from-next : (cause : Line → Option CertCause) (place : ℕ) (line : Line) (lines : List Line) → cause line ≡ None
    → first_from cause place (line ∷ lines) ≡ first_from cause (place + 1) lines
unfolding first_from
first_from-next cause place line lines fine = rw fine refl

first_from-here : (cause : Line → Option CertCause) (place : ℕ) (line : Line) (lines : List Line) (why : CertCause) → cause line ≡ Some why
    → first_from cause place (line ∷ lines) ≡ Some (place, why)
unfolding first_from
first_from-here cause place line lines why faulty = rw faulty refl

first_from-none : (cause : Line → Option CertCause) (place : ℕ) → first_from cause place [] ≡ None
unfolding first_from
first_from-none cause place = refl

-- none has it where the first line that isn't below it doesn't
pub line_at-passed : (lines : List Line) (a n : ℕ) → AreRising lines → AllWithin (λ line. ltb line.address a ≡ true) lines 0 n
    → AllWithin (λ line. ltb line.address a ≡ false) lines n (length lines) → ((d : Line) → n < length lines → (get_or lines n d).address ≡ a → ⊥)
    → line_at lines a ≡ None
line_at-passed lines a n rising below above other = line_at-none lines a absent
  where
    absent : (k : ℕ) (d : Line) → k < length lines → (get_or lines k d).address ≡ a → ⊥
    absent k d within is = elim (cases_lt k n) [
      | inl before ↦ omega (arith, ltb-true (get_or lines k d).address a (below k d (omega arith) before), is)
      | inr behind ↦
          let there : n < length lines = omega (arith, behind, within) in
          let least = ltb-false (get_or lines n d).address a (above n d (le_refl n) there) in
          other d there (omega (arith, least, rising n k d behind within, is))
    ]

-- the same at a place of a list
pub first_from-on : (cause : Line → Option CertCause) (place : ℕ) (lines : List Line) (i : ℕ) (d : Line) → i < length lines → cause (get_or lines i d) ≡ None
    → first_from cause place (drop i lines) ≡ first_from cause (place + 1) (drop (i + 1) lines)
first_from-on cause place lines i d within fine =
    ap (first_from cause place) (drop_more lines i d within) ∙ first_from-next cause place (get_or lines i d) (drop (i + 1) lines) fine

pub first_from-at : (cause : Line → Option CertCause) (place : ℕ) (lines : List Line) (i : ℕ) (d : Line) (why : CertCause) → i < length lines
    → cause (get_or lines i d) ≡ Some why → first_from cause place (drop i lines) ≡ Some (place, why)
first_from-at cause place lines i d why within faulty =
    ap (first_from cause place) (drop_more lines i d within) ∙ first_from-here cause place (get_or lines i d) (drop (i + 1) lines) why faulty

pub first_from-end : (cause : Line → Option CertCause) (place : ℕ) (lines : List Line) (i : ℕ) → length lines ≤ i → first_from cause place (drop i lines) ≡ None
first_from-end cause place lines i past = ap (first_from cause place) (drop_all i lines past) ∙ first_from-none cause place
