-- Where a line is left: its exits are those of the ways that its instruction goes where no line is.
use Rattle.std.proofs.Common.{◌≡◌, ℕ, ◌+◌, ◌%◌, ◌<◌, ◌&&◌, Bool, true, false, true≢false, eqb, List, [], ◌∷◌, ◌++◌, length, Option, Some, None, refl, sym, ap, subst, ◌∙◌, arith, inl, inr}
use Rattle.std.specs.Prelude.{MatchOption, flat_map, is_none, is_some, option_and_then, option_map, nat_lt}
use Rattle.std.specs.List.{Any}
use Rattle.std.proofs.lemmas.Bool.{cases_Bool, eq-eqb, eqb-true, ne_eqb}
use Rattle.std.proofs.lemmas.Grind.{common_steps}
use Rattle.std.proofs.lemmas.Option.{same_Some}
use Rattle.machine.specs.declared.Kind.{Kind}
use Rattle.machine.specs.declared.Kind.TheVariants.{Sep}
use Rattle.machine.specs.Bank.{value, get}
use Rattle.machine.specs.Instruction.{Inputs, Regs, at, effect}
use Rattle.cycle_check.specs.declared.exits.Exit.{Exit}
use Rattle.cycle_check.specs.declared.grammar.Fact.{Fact}
use Rattle.cycle_check.specs.declared.grammar.Fact.TheVariants.{Any as AnyFact, Copy, NonZero, Is}
use Rattle.cycle_check.specs.declared.grammar.Line.{Line}
use Rattle.cycle_check.specs.declared.table.Flow.{Flow}
use Rattle.cycle_check.specs.declared.table.Flow.TheVariants.{Straight, Skip, Short, Long, LongSkip, Leave}
use Rattle.cycle_check.specs.declared.table.When.{When}
use Rattle.cycle_check.specs.declared.table.When.TheVariants.{Always, Zero, NotZero, Either}
use Rattle.cycle_check.specs.declared.table.Way.{Way}
use Rattle.cycle_check.specs.declared.table.Ways.{Ways}
use Rattle.cycle_check.specs.Table.{flow_of, none, ways_of}
use Rattle.cycle_check.specs.Closed.{bytes_at, is_open, lets_through, line_at, line_behind}
use Rattle.cycle_check.specs.Exits.{exit_on, exits_with, in_order, next_of}
use Rattle.cycle_check.proofs.Effects.{Goes, GoesOneOf, p_then}
use Rattle.cycle_check.proofs.Shown.{FactHolds}

-- ---- elements

Any-left : {X : Type 0} (P : X → Type 0) (xs ys : List X) → Any P xs → Any P (xs ++ ys)
Any-left P xs ys a = (a.0, a.1, grind (arith, common_steps), grind (arith, common_steps), a.4)

Any-right : {X : Type 0} (P : X → Type 0) (xs ys : List X) → Any P ys → Any P (xs ++ ys)
Any-right P xs ys a = (length xs + a.0, a.1, grind (arith, common_steps), grind (arith, common_steps), a.4)

pub Any-map : {X : Type 0} (P Q : X → Type 0) → ((x : X) → P x → Q x) → (xs : List X) → Any P xs → Any Q xs
Any-map P Q follows xs a = (a.0, a.1, a.2, a.3, follows a.1 a.4)

-- what some element of the line with an address gives, all lines give
pub Any-at_line : {X : Type 0} (P : X → Type 0) (f : Line → List X) (lines : List Line) (a : ℕ) (line : Line) → line_at lines a ≡ Some line
    → Any P (f line) → Any P (flat_map f lines)
Any-at_line P f [] a line found given = absurd (none found)
  where
    none : (let no : Option Line = None in no ≡ Some line) → ⊥
    none e = cc
Any-at_line P f (first ∷ lines) a line found given = elim (cases_Bool (eqb first.address a)) [
  | inl same ↦
      let is : Some first ≡ Some line = rw same at found in
      Any-left P (f first) (flat_map f lines) (subst (λ l. Any P (f l)) (sym (same_Some first line is)) given)
  | inr other ↦ Any-right P (f first) (flat_map f lines) (Any-at_line P f lines a line (rw other at found) given)
]

-- ---- one or two exits

in_order-first : (P : Exit → Type 0) (exit : Exit) (other : Option Exit) → P exit → Any P (in_order (Some exit) other)
in_order-first P exit None is = (0, exit, omega arith, refl, is)
in_order-first P exit (Some other) is = elim (cases_Bool (eqb (next_of exit) (next_of other))) [
  | inl same ↦ rw same (0, exit, omega arith, refl, is)
  | inr differ ↦ elim (cases_Bool (nat_lt (next_of exit) (next_of other))) [
    | inl before ↦ rw (differ, before) (0, exit, omega arith, refl, is)
    | inr behind ↦ rw (differ, behind) (1, exit, omega arith, refl, is)
  ]
]

-- the second one is told by the first where they lead to the same address
in_order-second : (P : Exit → Type 0) (one : Option Exit) (exit : Exit) → P exit → ((first : Exit) → one ≡ Some first → next_of first ≡ next_of exit → P first)
    → Any P (in_order one (Some exit))
in_order-second P None exit is as_first = (0, exit, omega arith, refl, is)
in_order-second P (Some first) exit is as_first = elim (cases_Bool (eqb (next_of first) (next_of exit))) [
  | inl same ↦ rw same (0, first, omega arith, refl, as_first first refl (eqb-true (next_of first) (next_of exit) same))
  | inr differ ↦ elim (cases_Bool (nat_lt (next_of first) (next_of exit))) [
    | inl before ↦ rw (differ, before) (1, exit, omega arith, refl, is)
    | inr behind ↦ rw (differ, behind) (0, exit, omega arith, refl, is)
  ]
]

-- ---- the exit on a way

abbrev exit_at : List ℕ → List Line → Line → Option ℕ → Exit
exit_at rom lines line to = record {
  address = line.address;
  bytes = bytes_at rom line.address;
  to = option_map (λ to. to % 65536) to;
  may_return = is_none to && is_some (line_at lines (line.address + 1));
}

-- a way that D opens is one that the fact of the line lets through
through-open : (fact : Fact) (when : When) (d v : ℕ) → FactHolds fact d v → is_open when (Some d) ≡ true → lets_through fact when ≡ true
through-open AnyFact when d v holds open_ = refl
through-open Copy when d v holds open_ = refl
through-open NonZero when d v holds open_ = refl
through-open (Is byte) when d v holds open_ = rw (← holds) open_

through-always : (fact : Fact) → lets_through fact Always ≡ true
through-always AnyFact = refl
through-always Copy = refl
through-always NonZero = refl
through-always (Is byte) = refl

exit_on-there : (rom : List ℕ) (lines : List Line) (line : Line) (way : Way) → lets_through line.fact way.when ≡ true → line_behind lines way ≡ None
    → exit_on rom lines line way ≡ Some (exit_at rom lines line way.to)
unfolding exit_on
exit_on-there rom lines line way through outside = rw (through, outside) refl

exit_on-is : (rom : List ℕ) (lines : List Line) (line : Line) (way : Way) (exit : Exit) → exit_on rom lines line way ≡ Some exit
    → exit ≡ exit_at rom lines line way.to
unfolding exit_on
exit_on-is rom lines line way exit is = elim (cases_Bool (lets_through line.fact way.when && is_none (line_behind lines way))) [
  | inl out ↦ sym (same_Some _ exit (rw out at is))
  | inr stays ↦ let wrong : None ≡ Some exit = rw stays at is in absurd (cc)
]

-- ---- where an instruction leaves

-- registers behind an instruction are where an exit leads, from an address with a program counter
abbrev pub EndsAt : List Line → ℕ → Regs → Bool → Option ℕ → Type 0
EndsAt lines p s may_return None = (s.p ≡ p → ⊥) × (may_return ≡ is_some (line_at lines (value (get s.r p))))
EndsAt lines p s may_return (Some to) = (s.p ≡ p) × (value (get s.r p) ≡ to)

pub record IsGone (lines : List Line) (address p : ℕ) (s : Regs) (exit : Exit) : Type 0 where
  pub from : exit.address ≡ address
  pub to : EndsAt lines p s exit.may_return exit.to

-- an instruction that changes the program counter has no way
pub ways-none : (kind : Kind) (n p size address next after : ℕ) → (p_then kind n p ≡ p → ⊥) → ways_of (flow_of kind n p) size address next after ≡ none
ways-none Sep n p size address next after changed = rw (ne_eqb n p changed) refl
ways-none _ n p size address next after changed = absurd (changed refl)

-- nor does it assign a register
pub bank-stays : (kind : Kind) (n : ℕ) (s : Regs) (i : Inputs) → (p_then kind n s.p ≡ s.p → ⊥) → (effect kind n s i).regs.r ≡ s.r
bank-stays Sep n s i changed = refl
bank-stays _ n s i changed = absurd (changed refl)

pub gone_off : (rom : List ℕ) (lines : List Line) (line : Line) (p : ℕ) (s : Regs) → (s.p ≡ p → ⊥) → value (get s.r p) ≡ line.address + 1
    → Any (IsGone lines line.address p s) (exits_with rom lines line none)
gone_off rom lines line p s other behind =
    rw (exit_on-there rom lines line none.first (through-always line.fact) refl)
    (in_order-first (IsGone lines line.address p s) (exit_at rom lines line None) None
    (record { from = refl; to = (other, ap (λ a. is_some (line_at lines a)) (sym behind)) }))

-- of two ways the first has an address
two-lead : (flow : Flow) (size address next after : ℕ) (second : Way) → (ways_of flow size address next after).second ≡ Some second
    → (to : ℕ) × ((ways_of flow size address next after).first.to ≡ Some to)
two-lead Straight size address next after second is = (address + size, refl)
two-lead Skip size address next after second is = (address + 2, refl)
two-lead (Short Always) size address next after second is = (_, refl)
two-lead (Short Zero) size address next after second is = (_, refl)
two-lead (Short NotZero) size address next after second is = (_, refl)
two-lead (Short Either) size address next after second is = (_, refl)
two-lead (Long Always) size address next after second is = (_, refl)
two-lead (Long Zero) size address next after second is = (_, refl)
two-lead (Long NotZero) size address next after second is = (_, refl)
two-lead (Long Either) size address next after second is = (_, refl)
two-lead (LongSkip Always) size address next after second is = (_, refl)
two-lead (LongSkip Zero) size address next after second is = (_, refl)
two-lead (LongSkip NotZero) size address next after second is = (_, refl)
two-lead (LongSkip Either) size address next after second is = (_, refl)
two-lead Leave size address next after second is = absurd (nothing is)
  where
    nothing : (let no : Option Way = None in no ≡ Some second) → ⊥
    nothing e = cc

module _ (rom : List ℕ) (lines : List Line) (line : Line) (size next after d v p : ℕ) (s : Regs) (flow : Flow) (holds : FactHolds line.fact d v)
    (small : value (get s.r p) < 65536) (same : s.p ≡ p) (outside : line_at lines (value (get s.r p)) ≡ None) where
  abbrev ways : Ways
  ways = ways_of flow size line.address next after

  abbrev here : Exit
  here = exit_at rom lines line (Some (value (get s.r p)))

  is_here : IsGone lines line.address p s here
  is_here = record { from = refl; to = (same, omega (arith, small)) }

  -- the exit on a way that is gone
  there : (way : Way) → Goes (s.p ≡ p) d (value (get s.r p)) way → exit_on rom lines line way ≡ Some here
  there way goes =
      let to = goes.1 same in
      exit_on-there rom lines line way (through-open line.fact way.when d v holds goes.0) (ap (option_and_then (line_at lines)) to ∙ outside)
      ∙ ap (λ t. Some (exit_at rom lines line t)) to

  by_second : (second : Option Way) → ways.second ≡ second → MatchOption second ⊥ (Goes (s.p ≡ p) d (value (get s.r p)))
      → Any (IsGone lines line.address p s) (in_order (exit_on rom lines line ways.first) (option_and_then (λ way. exit_on rom lines line way) second))
  by_second None is goes = absurd goes
  by_second (Some way) is goes =
      let first = two-lead flow size line.address next after way is in
      rw (there way goes)
      (in_order-second (IsGone lines line.address p s) (exit_on rom lines line ways.first) here is_here
      (λ exit on alike.
      let exit_is = exit_on-is rom lines line ways.first exit on ∙ ap (exit_at rom lines line) first.1 in
      let to_is : first.0 % 65536 ≡ value (get s.r p) % 65536 = rw exit_is at alike in
      rw exit_is (record { from = refl; to = (same, omega (arith, small, to_is)) })))

  pub gone : GoesOneOf (s.p ≡ p) d (value (get s.r p)) ways → Any (IsGone lines line.address p s) (exits_with rom lines line ways)
  gone went = elim went [
    | inl goes ↦ rw (there ways.first goes) (in_order-first (IsGone lines line.address p s) here _ is_here)
    | inr goes ↦ by_second ways.second refl goes
  ]

-- where the program counter is still the same register and the state isn't inside, no line is at its address
pub no-line : (lines : List Line) (s : Regs) (address p : ℕ) → address ≡ at s p → s.p ≡ p → (eqb s.p p && is_some (line_at lines (at s p))) ≡ false
    → line_at lines address ≡ None
no-line lines s address p is same outside = rw is (none_of (line_at lines (at s p)) (rw (eq-eqb s.p p same) at outside))
  where
    none_of : (found : Option Line) → is_some found ≡ false → found ≡ None
    none_of None empty = refl
    none_of (Some line) full = absurd (true≢false full)
