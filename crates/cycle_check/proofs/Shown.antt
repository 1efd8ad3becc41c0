-- What a certificate shows behind an instruction holds there.
use Rattle.std.proofs.Common.{◌≡◌, ◌≢◌, ℕ, ◌+◌, ◌<◌, ◌≤◌, inl, inr, Bool, true, false, not, ◌&&◌, eqb, leb, Option, Some, None, refl, sym, ap, subst, ◌∙◌, le_refl, true≢false}
use Rattle.std.proofs.lemmas.Bool.{and_parts, or_cases, not-true, cases_eq, eq-eqb, ne_eqb, eqb-true, eqb-false, leb-true, not_from_false}
use Rattle.machine.specs.declared.Kind.{Kind}
use Rattle.machine.specs.declared.Kind.TheVariants.{Inc, Dec, Lda, Plo, Phi, Glo, Ldi, Sex}
use Rattle.machine.specs.Bank.{word, up, down, get}
use Rattle.machine.specs.Instruction.{Regs, Inputs, effect}
use Rattle.vip_isa.specs.Rows.{size_of}
use Rattle.cycle_check.specs.declared.grammar.Fact.{Fact}
use Rattle.cycle_check.specs.declared.grammar.Fact.TheVariants.{Any, Copy, NonZero, Is}
use Rattle.cycle_check.specs.declared.grammar.Line.{Line}
use Rattle.cycle_check.specs.declared.table.When.{When}
use Rattle.cycle_check.specs.declared.table.When.TheVariants.{Always, Zero, NotZero, Either}
use Rattle.cycle_check.specs.declared.closed.Instruction.{Instruction}
use Rattle.cycle_check.specs.Table.{is_refused, assigns_d, assigns_named, assigns_pointed, x_after, low_after}
use Rattle.cycle_check.specs.Closed.{admits, known_d, left, is_open, counter_after, stays_copied, is_copied, stays_loaded, is_loaded, was_not_zero, loads_not_zero, is_shown, fits_x, pays_for}
use Rattle.cycle_check.proofs.Below.{passes_at}
use Rattle.machine.proofs.Registers.{get_put}
use Rattle.cycle_check.proofs.Effects.{keeps, d_is, x_then}

-- ---- what a line's parts mean

-- a value that is known is the one that is there
abbrev pub Knows : Option ℕ → ℕ → Type 0
Knows None value = Unit {0}
Knows (Some known) value = value ≡ known

-- a fact holds of D and of the counter
abbrev pub FactHolds : Fact → ℕ → ℕ → Type 0
FactHolds Any d v = Unit {0}
FactHolds Copy d v = d ≡ v
FactHolds NonZero d v = v ≢ 0
FactHolds (Is byte) d v = d ≡ byte

pub known_d-holds : (fact : Fact) (d v : ℕ) → FactHolds fact d v → Knows (known_d fact v) d
known_d-holds Any d v h = tt
known_d-holds Copy d v h = h
known_d-holds NonZero d v h = tt
known_d-holds (Is byte) d v h = h

pub admits-holds : (fact : Fact) (d v : ℕ) → FactHolds fact d v → admits fact v ≡ true
admits-holds Any d v h = refl
admits-holds Copy d v h = refl
admits-holds NonZero d v h = not_from_false (eqb v 0) (ne_eqb v 0 h)
admits-holds (Is byte) d v h = refl

-- a way that is open for D is open for what is known of D
pub open-known : (when : When) (known : Option ℕ) (d : ℕ) → Knows known d → is_open when (Some d) ≡ true → is_open when known ≡ true
open-known Always None d knows open_ = refl
open-known Always (Some known) d knows open_ = refl
open-known Either None d knows open_ = refl
open-known Either (Some known) d knows open_ = refl
open-known Zero None d knows open_ = refl
open-known Zero (Some known) d knows open_ = rw (← knows) open_
open-known NotZero None d knows open_ = refl
open-known NotZero (Some known) d knows open_ = rw (← knows) open_

-- ---- X

pub x_after-holds : (kind : Kind) (n : ℕ) (x : Option ℕ) (is : ℕ) → Knows x is → Knows (x_after kind n x) (x_then kind n is)
x_after-holds Sex n x is knows = refl
x_after-holds _ n x is knows = knows

pub fits_x-holds : (asked x : Option ℕ) (is : ℕ) → fits_x asked x ≡ true → Knows x is → Knows asked is
fits_x-holds None x is fits knows = tt
fits_x-holds (Some asked) None is fits knows = absurd (true≢false (sym fits))
fits_x-holds (Some asked) (Some x) is fits knows = knows ∙ sym (eqb-true asked x fits)

-- ---- the cycles

-- a counter that may follow
abbrev pub Follows : Option ℕ → ℕ → Type 0
Follows None w = w < 256
Follows (Some value) w = w ≡ value

pub pays_for-at : (budget cycles : ℕ) (behind : Line) (counter : Option ℕ) (w : ℕ) → pays_for budget cycles behind counter ≡ true → Follows counter w
    → cycles + left behind w ≤ budget
pays_for-at budget cycles behind None w pays follows =
    leb-true (cycles + left behind w) budget (passes_at (λ v. leb (cycles + left behind v) budget) 256 w pays follows)
pays_for-at budget cycles behind (Some value) w pays follows =
    rw follows (leb-true (cycles + left behind value) budget pays)

-- ---- an instruction behind its fetch, which is allowed under a counter register

pub record Allowed (kind : Kind) (n : ℕ) (s : Regs) (k : ℕ) : Type 0 where
  pub fine : is_refused kind ≡ false
  pub p_fits : s.p < 16
  pub x_fits : s.x < 16
  pub n_fits : n < 16
  pub k_fits : k < 16
  pub apart : k ≢ s.p
  pub named : assigns_named kind ≡ true → s.p ≢ n
  pub pointed : assigns_pointed kind ≡ true → s.p ≢ s.x
  pub pointed_apart : assigns_pointed kind ≡ true → k ≢ s.x
  pub d_fits : s.d < 256

module _ (n : ℕ) (s : Regs) (i : Inputs) (k : ℕ) where
  -- the counter register stays where the row doesn't assign it
  counter-stays : (kind : Kind) → Allowed kind n s k → (assigns_named kind ≡ true → k ≢ n) → get (effect kind n s i).regs.r k ≡ get s.r k
  counter-stays kind may other = keeps kind n s i k may.fine may.p_fits may.x_fits may.n_fits may.k_fits may.apart other may.pointed_apart

  counter-unassigned : (kind : Kind) → Allowed kind n s k → (assigns_named kind && eqb n k) ≡ false → get (effect kind n s i).regs.r k ≡ get s.r k
  counter-unassigned kind may free =
      counter-stays kind may (λ names same. true≢false (rw (names, eq-eqb n k (sym same)) at free))

  low-other : (kind : Kind) → Allowed kind n s k → k ≡ n → assigns_named kind ≡ false → (get (effect kind n s i).regs.r n).lo ≡ (get s.r n).lo
  low-other kind may same free =
      let P : ℕ → Type 0 = λ m. (get (effect kind n s i).regs.r m).lo ≡ (get s.r m).lo in
      subst P same (ap (λ w. w.lo) (counter-stays kind may (λ names. absurd (true≢false (sym names ∙ free)))))

  -- what an instruction that names the counter register leaves in its low byte
  low-named : (kind : Kind) (d : Option ℕ) → Allowed kind n s k → k ≡ n → Knows d s.d
      → Follows (low_after kind d (get s.r n).lo) (get (effect kind n s i).regs.r n).lo
  low-named Inc d may same knows = ap (λ w. w.lo) (get_put s.r n (up (get s.r n)) may.n_fits)
  low-named Dec d may same knows = ap (λ w. w.lo) (get_put s.r n (down (get s.r n)) may.n_fits)
  low-named Lda d may same knows = ap (λ w. w.lo) (get_put s.r n (up (get s.r n)) may.n_fits)
  low-named Plo None may same knows = rw (get_put s.r n (word (get s.r n).hi s.d) may.n_fits) may.d_fits
  low-named Plo (Some d) may same knows = ap (λ w. w.lo) (get_put s.r n (word (get s.r n).hi s.d) may.n_fits) ∙ knows
  low-named Phi d may same knows = ap (λ w. w.lo) (get_put s.r n (word s.d (get s.r n).lo) may.n_fits)
  low-named kind d may same knows = low-other kind may same refl

  -- the counter behind an instruction
  pub counter-follows : (kind : Kind) (ins : Instruction) (fact : Fact) → Allowed kind n s k → ins.op.kind ≡ kind → ins.op.n ≡ n
      → FactHolds fact s.d (get s.r k).lo → Follows (counter_after k ins fact (get s.r k).lo) (get (effect kind n s i).regs.r k).lo
  counter-follows kind ins fact may kind_is n_is holds = rw (kind_is, n_is) (elim (cases_eq n k) [
    | inl same ↦
        let knows = known_d-holds fact s.d (get s.r k).lo holds in
        let P : ℕ → Type 0 = λ m. Follows (low_after kind (known_d fact (get s.r k).lo) (get s.r m).lo) (get (effect kind n s i).regs.r m).lo in
        rw (eq-eqb n k same) (subst P same (low-named kind (known_d fact (get s.r k).lo) may (sym same) knows))
    | inr other ↦
        rw (ne_eqb n k other)
        (ap (λ w. w.lo) (counter-stays kind may (λ names same. other (sym same))))
  ])

  -- ---- the facts

  copied-stays : (kind : Kind) (fact : Fact) → Allowed kind n s k → stays_copied kind (eqb n k) fact ≡ true → FactHolds fact s.d (get s.r k).lo
      → (effect kind n s i).regs.d ≡ (get (effect kind n s i).regs.r k).lo
  copied-stays kind Copy may shown holds =
      let both = and_parts (not (assigns_d kind)) (not (assigns_named kind && eqb n k)) shown in
      d_is kind n s i (not-true (assigns_d kind) both.0) ∙ holds
      ∙ sym (ap (λ w. w.lo) (counter-unassigned kind may (not-true (assigns_named kind && eqb n k) both.1)))
  copied-stays kind fact may shown holds = absurd (true≢false (sym shown))

  copied-by_glo : (fact : Fact) (named : Bool) → Allowed Glo n s k → eqb n k ≡ named → is_copied Glo named fact ≡ true → FactHolds fact s.d (get s.r k).lo
      → (effect Glo n s i).regs.d ≡ (get (effect Glo n s i).regs.r k).lo
  copied-by_glo fact true may is shown holds = ap (λ m. (get s.r m).lo) (eqb-true n k is)
  copied-by_glo fact false may is shown holds = copied-stays Glo fact may (rw is shown) holds

  copied-holds : (kind : Kind) (fact : Fact) → Allowed kind n s k → is_copied kind (eqb n k) fact ≡ true → FactHolds fact s.d (get s.r k).lo
      → (effect kind n s i).regs.d ≡ (get (effect kind n s i).regs.r k).lo
  copied-holds Glo fact may shown holds = copied-by_glo fact (eqb n k) may refl shown holds
  copied-holds kind fact may shown holds = copied-stays kind fact may shown holds

  loaded-stays : (kind : Kind) (byte v : ℕ) (fact : Fact) → stays_loaded kind byte fact ≡ true → FactHolds fact s.d v → (effect kind n s i).regs.d ≡ byte
  loaded-stays kind byte v (Is held) shown holds =
      let both = and_parts (eqb held byte) (not (assigns_d kind)) shown in
      d_is kind n s i (not-true (assigns_d kind) both.1) ∙ holds ∙ eqb-true held byte both.0
  loaded-stays kind byte v fact shown holds = absurd (true≢false (sym shown))

  loaded-by_ldi : (byte v next : ℕ) (fact : Fact) (same : Bool) → i.next ≡ next → eqb next byte ≡ same → is_loaded Ldi same byte fact ≡ true
      → FactHolds fact s.d v
      → (effect Ldi n s i).regs.d ≡ byte
  loaded-by_ldi byte v next fact true next_is is shown holds = next_is ∙ eqb-true next byte is
  loaded-by_ldi byte v next fact false next_is is shown holds = loaded-stays Ldi byte v fact shown holds

  loaded-holds : (kind : Kind) (byte v next : ℕ) (fact : Fact) → (2 ≤ size_of kind → i.next ≡ next) → is_loaded kind (eqb next byte) byte fact ≡ true
      → FactHolds fact s.d v → (effect kind n s i).regs.d ≡ byte
  loaded-holds Ldi byte v next fact next_is shown holds = loaded-by_ldi byte v next fact (eqb next byte) (next_is (le_refl 2)) refl shown holds
  loaded-holds kind byte v next fact next_is shown holds = loaded-stays kind byte v fact shown holds

  was_not_zero-holds : (fact : Fact) (when : When) (d v : ℕ) → was_not_zero fact when ≡ true → is_open when (Some d) ≡ true → FactHolds fact d v → v ≢ 0
  was_not_zero-holds Copy NotZero d v was open_ holds zero_ = eqb-false d 0 (not-true (eqb d 0) open_) (holds ∙ zero_)
  was_not_zero-holds NonZero when d v was open_ holds zero_ = holds zero_
  was_not_zero-holds fact when d v was open_ holds zero_ = true≢false (sym was)

  loads_not_zero-holds : (kind : Kind) (named : Bool) (d : Option ℕ) → Allowed kind n s k → eqb n k ≡ named → loads_not_zero kind named d ≡ true → Knows d s.d
      → (get (effect kind n s i).regs.r k).lo ≢ 0
  loads_not_zero-holds Plo true (Some d) may is shown knows zero_ =
      let low = ap (λ w. w.lo) (get_put s.r n (word (get s.r n).hi s.d) may.n_fits) in
      let P : ℕ → Type 0 = λ m. (get (effect Plo n s i).regs.r m).lo ≡ s.d in
      eqb-false d 0 (not-true (eqb d 0) shown) (sym knows ∙ sym (subst P (eqb-true n k is) low) ∙ zero_)
  loads_not_zero-holds kind named d may is shown knows zero_ = true≢false (sym shown)

  -- each fact that is shown on an open way holds behind the instruction
  pub shown-holds : (kind : Kind) (ins : Instruction) (fact : Fact) (when : When) (asked : Fact) → Allowed kind n s k → ins.op.kind ≡ kind → ins.op.n ≡ n
      → (2 ≤ size_of kind → i.next ≡ ins.next) → is_open when (Some s.d) ≡ true → FactHolds fact s.d (get s.r k).lo
      → is_shown k ins fact when (get s.r k).lo asked ≡ true → FactHolds asked (effect kind n s i).regs.d (get (effect kind n s i).regs.r k).lo
  shown-holds kind ins fact when Any may kind_is n_is next_is open_ holds shown = tt
  shown-holds kind ins fact when Copy may kind_is n_is next_is open_ holds shown = copied-holds kind fact may (rw (kind_is, n_is) at shown) holds
  shown-holds kind ins fact when (Is byte) may kind_is n_is next_is open_ holds shown =
      loaded-holds kind byte (get s.r k).lo ins.next fact next_is (rw kind_is at shown) holds
  shown-holds kind ins fact when NonZero may kind_is n_is next_is open_ holds shown = λ zero_.
      elim (or_cases (was_not_zero fact when && not (assigns_named kind && eqb n k)) (loads_not_zero kind (eqb n k) (known_d fact (get s.r k).lo))
      (rw (kind_is, n_is) at shown)) [
        | inl stays ↦
            let both = and_parts (was_not_zero fact when) (not (assigns_named kind && eqb n k)) stays in
            let same = ap (λ w. w.lo) (counter-unassigned kind may (not-true (assigns_named kind && eqb n k) both.1)) in
            was_not_zero-holds fact when s.d (get s.r k).lo both.0 open_ holds (sym same ∙ zero_)
        | inr loads ↦
            loads_not_zero-holds kind (eqb n k) (known_d fact (get s.r k).lo) may refl loads (known_d-holds fact s.d (get s.r k).lo holds) zero_
      ]
