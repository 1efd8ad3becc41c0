-- An accepted certificate holds of the machine: its lines bound what is left of every run that stays inside.
use Rattle.std.proofs.Common.{◌≡◌, ◌≢◌, ℕ, ◌+◌, ◌-◌, ◌<◌, ◌≤◌, inl, inr, Bool, true, false, not, ◌&&◌, ◌||◌, eqb, leb, List, [], ◌∷◌, length, ltb, Option, Some, None, Result, Ok, Err, refl, sym, ap, subst, ◌∙◌, arith, true≢false, suc}
use Rattle.std.specs.Prelude.{MatchOption, All, is_some, is_none, ok_or, codes, if◌then◌else◌}
use Rattle.std.specs.List.{Any as AnyOf}
use Rattle.std.specs.Option.{option_and_then, option_map_or}
use Rattle.std.specs.Result.{result_ok}
use Rattle.std.specs.Str.{bytes_eq}
use Rattle.std.specs.Str.Lines.{lines}
use Rattle.std.specs.Str.Parse.{digits_value}
use Rattle.std.proofs.lemmas.Bool.{and_parts, or_cases, not-true, cases_Bool, eqb-true, eqb-false, eq-eqb, leb-true, le-leb, lt-ltb, le-ltb, ltb-false, cases_eq}
use Rattle.machine.specs.declared.Kind.{Kind}
use Rattle.machine.specs.declared.Kind.TheVariants.{Lbr}
use Rattle.machine.specs.Bank.{Word, value, up, get, put}
use Rattle.machine.specs.Opcodes.{kind_of, opcode_number, cycles_of}
use Rattle.machine.specs.Instruction.{Regs, Inputs, Port, at, stepped, inputs, effect, instruction}
use Rattle.machine.specs.Instruction.Port.{Send, Receive}
use Rattle.machine.specs.Memory.{read}
use Rattle.machine.specs.Board.{Machine, byte_of, opcode_of, latch_after}
use Rattle.machine.specs.Ranges.{FitsMachine, FitsRom, FitsRegs, FitsWord}
use Rattle.machine.proofs.Ranges.{get_fits, number_fits, stepped_fits}
use Rattle.machine.proofs.Fits.{read-fits, instruction-fits, acted-fits}
use Rattle.vip_byte.specs.Reading.{◌>>=◌}
use Rattle.vip_byte.specs.Reading as reading
use Rattle.vip_byte.specs.declared.number.NumFault.{NumFault}
use Rattle.vip_byte.specs.Number.{number, hex_number, are_digits}
use Rattle.vip_isa.specs.Rows.{size_of}
use Rattle.cycle_check.specs.declared.Within.{Within}
use Rattle.cycle_check.specs.declared.fault.CertCause.{CertCause}
use Rattle.cycle_check.specs.declared.fault.CertCause.TheVariants.{BadNumber}
use Rattle.cycle_check.specs.declared.grammar.Bound.{Bound}
use Rattle.cycle_check.specs.declared.grammar.Fact.{Fact}
use Rattle.cycle_check.specs.declared.grammar.Fact.TheVariants.{Any}
use Rattle.cycle_check.specs.declared.grammar.Line.{Line}
use Rattle.cycle_check.specs.declared.table.When.{When}
use Rattle.cycle_check.specs.declared.table.Way.{Way}
use Rattle.cycle_check.specs.declared.table.Ways.{Ways}
use Rattle.cycle_check.specs.declared.closed.Instruction as declared
use Rattle.cycle_check.specs.Certificate.{address_of, digit_of, decimal_of, hex_of, bound_in, bound_of, certificate_of, certificate_format, most_limit, numbers_from}
use Rattle.cycle_check.specs.Table.{is_refused, assigns_named, assigns_pointed, flow_of, none as no_ways, ways_of, x_after}
use Rattle.cycle_check.specs.Exits.{exits, exits_at, exits_with}
use Rattle.cycle_check.specs.Closed.{left, known_d, line_at, byte_at, instruction_at, is_apart, is_allowed, is_open, is_shown, fits_x, pays_for, counter_after, is_kept, holds_at, line_behind, is_way_closed, are_ways_closed, ways_at, is_closed, cause_at, takes_all, is_any, is_entered, fault_in, first_from, unless, judged, checked}
use Rattle.cycle_check.specs.Leaving.{Outside, instructed, after, is_inside, StaysInside, IsBehind, IsMoveOf, Leaves, LeavesByExits, IsWithin, AcceptedIsWithin}
use Rattle.cycle_check.proofs.Below.{passes_at, left_rises}
use Rattle.cycle_check.proofs.Growth.{bind-ok, ok_is}
use Rattle.cycle_check.proofs.Lookup.{address_of-found, cause_of-found}
use Rattle.machine.proofs.Registers.{get_put, get_put_other}
use Rattle.cycle_check.proofs.Effects.{Stands, Goes, GoesOneOf, goes, x_is, p_is, p_then}
use Rattle.cycle_check.proofs.Departing.{EndsAt, IsGone, Any-at_line, Any-map, bank-stays, gone, gone_off, no-line, ways-none}
use Rattle.cycle_check.proofs.Shown.{Knows, FactHolds, Follows, Allowed, known_d-holds, admits-holds, open-known, x_after-holds, fits_x-holds, pays_for-at, counter-follows, shown-holds}

-- ---- the ROM and the latch

read-rom : (rom ram : List ℕ) (latch : Bool) (a : ℕ) → latch ≡ false → 0x8000 ≤ a → a < 0x8800 → read rom latch ram a ≡ byte_at rom a
unfolding read
read-rom rom ram latch a clear from below =
    rw (clear, le-ltb a 0x1000 (omega arith), le-leb 0x8000 a from, lt-ltb a 0x8800 below) refl

latch-clear : (port : Option Port) → latch_after port false ≡ false
latch-clear None = refl
latch-clear (Some (Receive n)) = refl
latch-clear (Some (Send n byte)) = elim (cases_Bool (eqb n 4)) [ inl fourth ↦ rw fourth refl | inr other ↦ rw other refl ]

-- ---- what is kept along a way

-- the line's X and fact hold, under a counter register
pub record Holds (k : ℕ) (line : Line) (s : Regs) : Type 0 where
  pub x : Knows line.x s.x
  pub fact : FactHolds line.fact s.d (get s.r k).lo

-- along an open way of a closed line, what is asked at the counter's value is kept
kept-at : (k : ℕ) (lines : List Line) (line : Line) (i : declared.Instruction) (way : Way) (d v : ℕ) → is_way_closed k lines line i way ≡ true → v < 256
    → FactHolds line.fact d v → is_open way.when (Some d) ≡ true → is_kept k line i way.when (line_behind lines way) v ≡ true
unfolding is_way_closed holds_at
kept-at k lines line i way d v closed below holds open_ =
    let asked = passes_at (holds_at k line i way.when (line_behind lines way)) 256 v closed below in
    let allows = admits-holds line.fact d v holds in
    let opens = open-known way.when (known_d line.fact v) d (known_d-holds line.fact d v holds) open_ in
    rw (allows, opens) at asked

-- so the cycles that are left pay for the instruction
kept-pays : (k : ℕ) (line : Line) (i : declared.Instruction) (when : When) (behind : Option Line) (v w : ℕ) → is_kept k line i when behind v ≡ true
    → Follows (counter_after k i line.fact v) w → i.cycles ≤ left line v
unfolding is_kept
kept-pays k line i when None v w kept follows = leb-true i.cycles (left line v) kept
kept-pays k line i when (Some behind) v w kept follows =
    let parts = and_parts _ (pays_for (left line v) i.cycles behind (counter_after k i line.fact v)) kept in
    omega (arith, pays_for-at (left line v) i.cycles behind (counter_after k i line.fact v) w parts.1 follows)

pub record KeptTo (k : ℕ) (line : Line) (i : declared.Instruction) (when : When) (behind : Line) (x : Option ℕ) (v w : ℕ) : Type 0 where
  pub fits : fits_x behind.x x ≡ true
  pub shown : is_shown k i line.fact when v behind.fact ≡ true
  pub pays : i.cycles + left behind w ≤ left line v

kept-to : (k : ℕ) (line : Line) (i : declared.Instruction) (when : When) (behind : Line) (v w : ℕ) → is_kept k line i when (Some behind) v ≡ true
    → Follows (counter_after k i line.fact v) w → KeptTo k line i when behind (x_after i.op.kind i.op.n line.x) v w
unfolding is_kept
kept-to k line i when behind v w kept follows =
    let parts = and_parts (fits_x behind.x (x_after i.op.kind i.op.n line.x) && is_shown k i line.fact when v behind.fact)
    (pays_for (left line v) i.cycles behind (counter_after k i line.fact v)) kept in
    let first = and_parts (fits_x behind.x (x_after i.op.kind i.op.n line.x)) (is_shown k i line.fact when v behind.fact) parts.0 in
    record { fits = first.0; shown = first.1; pays = pays_for-at (left line v) i.cycles behind (counter_after k i line.fact v) w parts.1 follows }

-- the way that an instruction goes is closed
second-chosen : (P : Type 0) (k : ℕ) (lines : List Line) (line : Line) (i : declared.Instruction) (d address : ℕ) (second : Option Way)
    → option_map_or (is_way_closed k lines line i) second true ≡ true → MatchOption second ⊥ (Goes P d address)
    → (way : Way) × (is_way_closed k lines line i way ≡ true) × Goes P d address way
second-chosen P k lines line i d address None closed goes_ = absurd goes_
second-chosen P k lines line i d address (Some way) closed goes_ = (way, closed, goes_)

chosen : (P : Type 0) (k : ℕ) (lines : List Line) (line : Line) (i : declared.Instruction) (d address : ℕ) (ways : Ways)
    → are_ways_closed k lines line i ways ≡ true
    → GoesOneOf P d address ways → (way : Way) × (is_way_closed k lines line i way ≡ true) × Goes P d address way
chosen P k lines line i d address ways closed goes_ =
    let parts = and_parts (is_way_closed k lines line i ways.first) (option_map_or (is_way_closed k lines line i) ways.second true) closed in
    elim goes_ [ inl first ↦ (ways.first, parts.0, first) | inr second ↦ second-chosen P k lines line i d address ways.second parts.1 second ]

-- ---- an allowed opcode

record AllowedParts (bound : Bound) (line : Line) (i : declared.Instruction) : Type 0 where
  from : 0x8000 ≤ line.address
  inside : line.address + i.size ≤ 0x8800
  fine : is_refused i.op.kind ≡ false
  named : (assigns_named i.op.kind && eqb i.op.n bound.p) ≡ false
  pointed : (not (assigns_pointed i.op.kind) || is_apart bound.p bound.k line.x) ≡ true

allowed-parts : (bound : Bound) (line : Line) (i : declared.Instruction) → is_allowed bound line i ≡ true → AllowedParts bound line i
unfolding is_allowed
allowed-parts bound line i allowed =
    let low = leb 0x8000 line.address in
    let high = leb (line.address + i.size) 0x8800 in
    let fine = not (is_refused i.op.kind) in
    let named = not (assigns_named i.op.kind && eqb i.op.n bound.p) in
    let four = and_parts (low && high && fine && named) (not (assigns_pointed i.op.kind) || is_apart bound.p bound.k line.x) allowed in
    let three = and_parts (low && high && fine) named four.0 in
    let two = and_parts (low && high) fine three.0 in
    let one = and_parts low high two.0 in
    record {
      from = leb-true 0x8000 line.address one.0;
      inside = leb-true (line.address + i.size) 0x8800 one.1;
      fine = not-true (is_refused i.op.kind) two.1;
      named = not-true (assigns_named i.op.kind && eqb i.op.n bound.p) three.1;
      pointed = four.1;
    }

apart-is : (p k : ℕ) (x : Option ℕ) (is : ℕ) → is_apart p k x ≡ true → Knows x is → (p ≢ is) × (k ≢ is)
apart-is p k None is apart knows = absurd (true≢false (sym apart))
apart-is p k (Some x) is apart knows =
    let parts = and_parts (not (eqb x p)) (not (eqb x k)) apart in
    (λ same. eqb-false x p (not-true (eqb x p) parts.0) (sym (same ∙ knows)), λ same. eqb-false x k (not-true (eqb x k) parts.1) (sym (same ∙ knows)))

pointed-apart : (bound : Bound) (line : Line) (i : declared.Instruction) (x : ℕ) → AllowedParts bound line i → Knows line.x x
    → assigns_pointed i.op.kind ≡ true → (bound.p ≢ x) × (bound.k ≢ x)
pointed-apart bound line i x parts knows points =
    elim (or_cases (not (assigns_pointed i.op.kind)) (is_apart bound.p bound.k line.x) parts.pointed) [
      | inl not_ ↦ absurd (true≢false (sym points ∙ not-true (assigns_pointed i.op.kind) not_))
      | inr apart ↦ apart-is bound.p bound.k line.x x apart knows
    ]

-- ---- one instruction of a line, behind its fetch

module _ (bound : Bound) (listed : List Line) (line : Line) (i : declared.Instruction) (kind : Kind) (n : ℕ) (s : Regs) (reads : Inputs) where
  -- the certificate's instruction is the one that runs, at a line that is allowed, closed and holds
  pub record Runs : Type 0 where
    pub kind_is : i.op.kind ≡ kind
    pub n_is : i.op.n ≡ n
    pub size_is : i.size ≡ size_of kind
    pub p_is : s.p ≡ bound.p
    pub fits : FitsRegs s
    pub n_fits : n < 16
    pub k_fits : bound.k < 16
    pub k_apart : bound.k ≢ bound.p
    pub allowed : is_allowed bound line i ≡ true
    pub closed : is_closed bound listed line i ≡ true
    pub holds : Holds bound.k line s
    pub behind : value (get s.r s.p) ≡ line.address + 1
    pub next_is : 2 ≤ size_of kind → reads.next ≡ i.next
    pub after_is : 3 ≤ size_of kind → reads.after ≡ i.after

  stands : Runs → Stands (size_of kind) s reads line.address i.next i.after
  stands runs = record {
    behind = runs.behind;
    low = (get_fits s.p s.r runs.fits.r).lo;
    inside = rw (← runs.size_is) (allowed-parts bound line i runs.allowed).inside;
    next_is = runs.next_is;
    after_is = runs.after_is;
  }

  may : Runs → Allowed kind n s bound.k
  may runs =
      let parts = allowed-parts bound line i runs.allowed in
      let apart = pointed-apart bound line i s.x parts runs.holds.x in
      record {
        fine = ap is_refused (sym runs.kind_is) ∙ parts.fine;
        p_fits = runs.fits.p;
        x_fits = runs.fits.x;
        n_fits = runs.n_fits;
        k_fits = runs.k_fits;
        apart = λ same. runs.k_apart (same ∙ runs.p_is);
        named = λ names same. true≢false (rw (runs.kind_is, runs.n_is, names, eq-eqb n bound.p (sym same ∙ runs.p_is)) at parts.named);
        pointed = λ points same. (apart (ap assigns_pointed runs.kind_is ∙ points)).0 (sym runs.p_is ∙ same);
        pointed_apart = λ points. (apart (ap assigns_pointed runs.kind_is ∙ points)).1;
        d_fits = runs.fits.d;
      }

  -- what comes of it: the cycles are paid for, and a line behind it holds with what is left there
  pub record StepPays (after_it : Regs) : Type 0 where
    pub pays : i.cycles ≤ left line (get s.r bound.k).lo
    pub on : after_it.p ≡ s.p → (next : Line) → line_at listed (value (get after_it.r s.p)) ≡ Some next
        → Holds bound.k next after_it × (i.cycles + left next (get after_it.r bound.k).lo ≤ left line (get s.r bound.k).lo)

  went : Runs → GoesOneOf ((effect kind n s reads).regs.p ≡ s.p) s.d (value (get (effect kind n s reads).regs.r s.p)) (ways_at bound line i)
  went runs =
      let allows = may runs in
      let M : ℕ → Type 0 = λ p. GoesOneOf ((effect kind n s reads).regs.p ≡ s.p) s.d (value (get (effect kind n s reads).regs.r s.p))
      (ways_of (flow_of kind n p) (size_of kind) line.address i.next i.after) in
      rw (runs.kind_is, runs.n_is, runs.size_is) (subst M runs.p_is (goes kind n s reads line.address i.next i.after
      (stands runs) allows.fine allows.p_fits allows.x_fits allows.n_fits allows.named allows.pointed))

  pub comes : Runs → StepPays (effect kind n s reads).regs
  unfolding is_closed
  comes runs =
      let allows = may runs in
      let way = chosen ((effect kind n s reads).regs.p ≡ s.p) bound.k listed line i s.d (value (get (effect kind n s reads).regs.r s.p))
      (ways_at bound line i) runs.closed (went runs) in
      let follows = counter-follows n s reads bound.k kind i line.fact allows runs.kind_is runs.n_is runs.holds.fact in
      let kept = kept-at bound.k listed line i way.0 s.d (get s.r bound.k).lo way.1 (get_fits bound.k s.r runs.fits.r).lo runs.holds.fact way.2.0 in
      record {
        pays = kept-pays bound.k line i way.0.when (line_behind listed way.0) (get s.r bound.k).lo (get (effect kind n s reads).regs.r bound.k).lo kept follows;
        on = λ same next found.
            let behind : line_behind listed way.0 ≡ Some next = ap (option_and_then (line_at listed)) (way.2.1 same) ∙ found in
            let to = kept-to bound.k line i way.0.when next (get s.r bound.k).lo (get (effect kind n s reads).regs.r bound.k).lo (rw behind at kept) follows in
            let x = x_after-holds kind n line.x s.x runs.holds.x in (
              record {
                x = fits_x-holds next.x (x_after kind n line.x) (effect kind n s reads).regs.x (rw (runs.kind_is, runs.n_is) at to.fits)
                    (rw (x_is kind n s reads allows.fine) x);
                fact = shown-holds n s reads bound.k kind i line.fact way.0.when next.fact allows runs.kind_is runs.n_is runs.next_is way.2.0 runs.holds.fact
                    to.shown;
              },
              to.pays,
            );
      }

  -- it leaves by one of the exits of its line, where it comes to no line
  pub departs : (rom : List ℕ) → Runs → value (get (effect kind n s reads).regs.r s.p) < 65536
      → ((effect kind n s reads).regs.p ≡ s.p → line_at listed (value (get (effect kind n s reads).regs.r s.p)) ≡ None)
      → AnyOf (IsGone listed line.address s.p (effect kind n s reads).regs) (exits_with rom listed line (ways_at bound line i))
  departs rom runs small outside = elim (cases_eq (effect kind n s reads).regs.p s.p) [
    | inl same ↦
        gone rom listed line i.size i.next i.after s.d (get s.r bound.k).lo s.p (effect kind n s reads).regs (flow_of i.op.kind i.op.n bound.p)
        runs.holds.fact small same (outside same) (went runs)
    | inr other ↦
        let changed : p_then kind n s.p ≡ s.p → ⊥ = λ is. other (p_is kind n s reads (may runs).fine ∙ is) in
        let none_on : ways_at bound line i ≡ no_ways =
        rw (runs.kind_is, runs.n_is, ← runs.p_is) (ways-none kind n s.p i.size line.address i.next i.after changed) in
        rw none_on (gone_off rom listed line s.p (effect kind n s reads).regs other
        (ap (λ r. value (get r s.p)) (bank-stays kind n s reads changed) ∙ runs.behind))
  ]

-- ---- one move of the machine

cause-none : (rom : List ℕ) (bound : Bound) (listed : List Line) (line : Line) → cause_at rom bound listed line ≡ None
    → (is_allowed bound line (instruction_at rom line.address) ≡ true) × (is_closed bound listed line (instruction_at rom line.address) ≡ true)
unfolding cause_at
cause-none rom bound listed line none = elim (cases_Bool (is_allowed bound line (instruction_at rom line.address))) [
  | inr denied ↦ let wrong = rw denied at none in cc
  | inl allowed ↦ elim (cases_Bool (is_closed bound listed line (instruction_at rom line.address))) [
    | inr open_ ↦ let wrong = rw (allowed, open_) at none in cc
    | inl closed ↦ (allowed, closed)
  ]
]

some-line : (found : Option Line) → is_some found ≡ true → (line : Line) × (found ≡ Some line)
some-line None is = absurd (true≢false (sym is))
some-line (Some line) is = (line, refl)

up-is : (w : Word) (a : ℕ) → value w ≡ a → w.lo < 256 → a < 0xffff → value (up w) ≡ a + 1
up-is w a is low lt = omega (arith, is, low, lt)

size-some : (kind : Kind) → 1 ≤ size_of kind
size-some Lbr = omega arith
size-some _ = omega arith

-- the instruction of a line in the ROM, as the machine fetches it from an address
module _ (rom : List ℕ) (b : Machine) (clear : b.latch ≡ false) (bound : Bound) (line : Line) (here : at b.regs b.regs.p ≡ line.address)
    (allowed : is_allowed bound line (instruction_at rom line.address) ≡ true) where
  rom-byte : (a there : ℕ) → there ≡ a → 0x8000 ≤ a → a < 0x8800 → byte_of rom b there ≡ byte_at rom a
  rom-byte a there is from below = ap (byte_of rom b) is ∙ read-rom rom b.ram b.latch a clear from below

  within-rom : (0x8000 ≤ line.address) × (line.address + size_of (kind_of (byte_at rom line.address)) ≤ 0x8800) × (line.address < 0x8800)
  unfolding instruction_at
  within-rom =
      let parts = allowed-parts bound line (instruction_at rom line.address) allowed in
      (parts.from, parts.inside, omega (arith, parts.inside, size-some (kind_of (byte_at rom line.address))))

  opcode-is : byte_at rom line.address ≡ opcode_of rom b
  opcode-is = sym (rom-byte line.address (at b.regs b.regs.p) here within-rom.0 within-rom.2)

  -- R(P) behind the fetch, and what is read by it
  fetched : (get_fit : FitsWord (get b.regs.r b.regs.p)) → b.regs.p < 16 → value (get (put b.regs.r b.regs.p
      (up (get b.regs.r b.regs.p))) b.regs.p) ≡ line.address + 1
  fetched fit p = rw (get_put b.regs.r b.regs.p (up (get b.regs.r b.regs.p)) p) (up-is (get b.regs.r b.regs.p) line.address here fit.lo
      (omega (arith, within-rom.2)))

knows-none : (x : Option ℕ) (is : ℕ) → is_none x ≡ true → Knows x is
knows-none None is none = tt
knows-none (Some x) is none = absurd (true≢false (sym none))

holds-any : (fact : Fact) (d v : ℕ) → is_any fact ≡ true → FactHolds fact d v
holds-any Any d v any_ = tt
holds-any fact d v any_ = absurd (true≢false (sym any_))

module _ (rom : List ℕ) (fits_rom : FitsRom rom) (bound : Bound) (listed : List Line) (k_fits : bound.k < 16) (k_apart : bound.k ≢ bound.p)
    (fine : (a : ℕ) (line : Line) → line_at listed a ≡ Some line → cause_at rom bound listed line ≡ None) where
  -- a state is at a line that holds there, and no more is left than this
  record Covered (b : Machine) (budget : ℕ) : Type 0 where
    line : Line
    found : line_at listed (at b.regs bound.p) ≡ Some line
    holds : Holds bound.k line b.regs
    pays : left line (get b.regs.r bound.k).lo ≤ budget

  counter-same : (b : Machine) → FitsMachine b → b.regs.p ≡ bound.p → get (put b.regs.r b.regs.p (up (get b.regs.r b.regs.p))) bound.k ≡ get b.regs.r bound.k
  counter-same b fits p_is =
      get_put_other b.regs.r b.regs.p bound.k (up (get b.regs.r b.regs.p)) fits.regs.p k_fits (λ same. k_apart (same ∙ p_is))

  -- the machine runs the certificate's instruction
  runs : (o : Outside) (b : Machine) (line : Line) → FitsMachine b → b.latch ≡ false → b.regs.p ≡ bound.p → line_at listed (at b.regs bound.p) ≡ Some line
      → Holds bound.k line b.regs
      → Runs bound listed line (instruction_at rom line.address) (kind_of (opcode_of rom b)) (opcode_number (opcode_of rom b)) (stepped b.regs b.regs.p)
      (inputs (stepped b.regs b.regs.p) (byte_of rom b) o.flag o.taken)
  unfolding instruction_at
  runs o b line fits clear p_is found holds =
      let here : at b.regs b.regs.p ≡ line.address = ap (at b.regs) p_is ∙ sym (address_of-found listed (at b.regs bound.p) line found) in
      let checks = cause-none rom bound listed line (fine (at b.regs bound.p) line found) in
      let inside = within-rom rom b clear bound line here checks.0 in
      let op = opcode-is rom b clear bound line here checks.0 in
      let behind = fetched rom b clear bound line here checks.0 (get_fits b.regs.p b.regs.r fits.regs.r) fits.regs.p in
      let size : size_of (kind_of (byte_at rom line.address)) ≡ size_of (kind_of (opcode_of rom b)) = ap (λ byte. size_of (kind_of byte)) op in
      let fits_s = stepped_fits fits.regs b.regs.p in
      let low = (get_fits b.regs.p (put b.regs.r b.regs.p (up (get b.regs.r b.regs.p))) fits_s.r).lo in
      record {
        kind_is = ap kind_of op;
        n_is = ap opcode_number op;
        size_is = size;
        p_is = p_is;
        fits = fits_s;
        n_fits = number_fits (opcode_of rom b);
        k_fits = k_fits;
        k_apart = k_apart;
        allowed = checks.0;
        closed = checks.1;
        holds = record { x = holds.x; fact = rw (counter-same b fits p_is) holds.fact };
        behind = behind;
        next_is = λ two. rom-byte rom b clear bound line here checks.0 (line.address + 1) (value
            (get (put b.regs.r b.regs.p (up (get b.regs.r b.regs.p))) b.regs.p)) behind (omega (arith, inside.0)) (omega (arith, inside.1, size, two));
        after_is = λ three. rom-byte rom b clear bound line here checks.0 (line.address + 2)
            (value (up (get (put b.regs.r b.regs.p (up (get b.regs.r b.regs.p))) b.regs.p)))
            (omega (
              arith,
              up-is (get (put b.regs.r b.regs.p (up (get b.regs.r b.regs.p))) b.regs.p) (line.address + 1) behind low
                  (omega (arith, inside.2)),
            )) (omega (arith, inside.0)) (omega (arith, inside.1, size, three));
      }

  cycles-are : (b : Machine) (line : Line) → b.latch ≡ false → b.regs.p ≡ bound.p → line_at listed (at b.regs bound.p) ≡ Some line
      → cycles_of (opcode_of rom b) ≡ (instruction_at rom line.address).cycles
  unfolding instruction_at
  cycles-are b line clear p_is found =
      let here : at b.regs b.regs.p ≡ line.address = ap (at b.regs) p_is ∙ sym (address_of-found listed (at b.regs bound.p) line found) in
      ap cycles_of (sym (opcode-is rom b clear bound line here (cause-none rom bound listed line (fine (at b.regs bound.p) line found)).0))

  -- a move from a line that holds is paid for, and comes to a line that holds, where it comes to a line
  record Moves (o : Outside) (b : Machine) (budget : ℕ) : Type 0 where
    pays : cycles_of (opcode_of rom b) ≤ budget
    on : is_inside rom bound listed (instructed rom o b) ≡ true → Covered (instructed rom o b) (budget - cycles_of (opcode_of rom b))
    fits : FitsMachine (instructed rom o b)
    clear : (instructed rom o b).latch ≡ false

  moves : (o : Outside) (b : Machine) (budget : ℕ) → FitsMachine b → b.latch ≡ false → b.regs.p ≡ bound.p → o.taken < 256 → Covered b budget → Moves o b budget
  moves o b budget fits clear p_is taken covered =
      let line = covered.line in
      let run = runs o b covered.line fits clear p_is covered.found covered.holds in
      let come = comes bound listed covered.line (instruction_at rom covered.line.address) (kind_of (opcode_of rom b)) (opcode_number (opcode_of rom b))
      (stepped b.regs b.regs.p) (inputs (stepped b.regs b.regs.p) (byte_of rom b) o.flag o.taken) run in
      let cycles = cycles-are b covered.line clear p_is covered.found in
      let same = ap (λ w. left covered.line w.lo) (counter-same b fits p_is) in
      let e = instruction b.regs (byte_of rom b) o.flag o.taken in
      let acts = acted-fits (instruction b.regs (byte_of rom b) o.flag o.taken) b (instruction-fits b.regs (byte_of rom b) o.flag o.taken fits.regs
      (λ a. read-fits rom b.ram b.latch a fits_rom.bytes fits.ram) taken) fits in
      record {
        pays = omega (arith, come.pays, cycles, same, covered.pays);
        on = λ inside.
            let both = and_parts (eqb (instruction b.regs (byte_of rom b) o.flag o.taken).regs.p bound.p)
            (is_some (line_at listed (at (instruction b.regs (byte_of rom b) o.flag o.taken).regs bound.p))) inside in
            let next = some-line (line_at listed (at (instruction b.regs (byte_of rom b) o.flag o.taken).regs bound.p)) both.1 in
            let there : line_at listed (value (get (instruction b.regs (byte_of rom b) o.flag o.taken).regs.r b.regs.p)) ≡ Some next.0 =
            ap (λ p. line_at listed (value (get (instruction b.regs (byte_of rom b) o.flag o.taken).regs.r p))) p_is ∙ next.1 in
            let on = come.on (eqb-true (instruction b.regs (byte_of rom b) o.flag o.taken).regs.p bound.p both.0 ∙ sym p_is) next.0 there in
            record { line = next.0; found = next.1; holds = on.0; pays = omega (arith, on.1, cycles, same, covered.pays) };
        fits = record { regs = acts.regs; ram = acts.ram; size = acts.size; key = acts.key };
        clear = ap (latch_after (instruction b.regs (byte_of rom b) o.flag o.taken).port) clear
            ∙ latch-clear (instruction b.regs (byte_of rom b) o.flag o.taken).port;
      }

  -- a list of moves from states that are covered, as long as they are inside
  stays : (list : List Outside) (b : Machine) (budget : ℕ) → FitsMachine b → b.latch ≡ false → (is_inside rom bound listed b ≡ true → Covered b budget)
      → All (λ o. o.taken < 256) list → StaysInside rom bound listed list b → (after rom list b).cycle ≤ b.cycle + budget
  stays [] b budget fits clear covered taken inside = omega arith
  stays (o ∷ list) b budget fits clear covered taken inside =
      let both = and_parts (eqb b.regs.p bound.p) (is_some (line_at listed (at b.regs bound.p))) inside.0 in
      let move = moves o b budget fits clear (eqb-true b.regs.p bound.p both.0) (taken 0 o (omega arith)) (covered inside.0) in
      let rest = stays list (instructed rom o b) (budget - cycles_of (opcode_of rom b)) move.fits move.clear move.on
      (λ k d within. taken (suc k) d (omega arith)) inside.1 in
      omega (arith, rest, move.pays)

  -- a move that doesn't end inside, from a state that is covered, is that of an exit
  abbrev Left : Outside → Machine → Type 0
  Left o b = AnyOf (IsMoveOf rom bound listed b (instructed rom o b)) (exits rom bound listed)

  departs_at : (o : Outside) (b : Machine) (budget : ℕ) → FitsMachine b → b.latch ≡ false → b.regs.p ≡ bound.p → o.taken < 256 → Covered b budget
      → is_inside rom bound listed (instructed rom o b) ≡ false → Left o b
  unfolding exits_at
  departs_at o b budget fits clear p_is taken covered outside =
      let line = covered.line in
      let run = runs o b covered.line fits clear p_is covered.found covered.holds in
      let move = moves o b budget fits clear p_is taken covered in
      let word = get_fits b.regs.p (instructed rom o b).regs.r move.fits.regs.r in
      let e = instruction b.regs (byte_of rom b) o.flag o.taken in
      let left = departs bound listed covered.line (instruction_at rom covered.line.address) (kind_of (opcode_of rom b)) (opcode_number (opcode_of rom b))
      (stepped b.regs b.regs.p) (inputs (stepped b.regs b.regs.p) (byte_of rom b) o.flag o.taken) rom run (omega (arith, word.hi, word.lo))
      (λ same. no-line listed (instruction b.regs (byte_of rom b) o.flag o.taken).regs
      (value (get (instruction b.regs (byte_of rom b) o.flag o.taken).regs.r b.regs.p)) bound.p (ap (λ p. value (get (instruction b.regs (byte_of rom b) o.flag o.taken).regs.r p)) p_is) (same ∙ p_is) outside) in
      Any-at_line (IsMoveOf rom bound listed b (instructed rom o b)) (λ l. exits_at rom bound listed l) listed (at b.regs bound.p) line covered.found
      (Any-map _ _ (λ exit is. record {
        from = sym (address_of-found listed (at b.regs bound.p) line covered.found) ∙ sym is.from;
        to = behind exit.may_return exit.to (instructed rom o b) p_is is.to;
      }) _ left)
    where
      behind : (may_return : Bool) (to : Option ℕ) (b' : Machine) → b.regs.p ≡ bound.p → EndsAt listed b.regs.p b'.regs may_return to
          → IsBehind rom bound listed b' may_return to
      behind may_return None b' same is = (λ e. is.0 (e ∙ sym same), is.1 ∙ ap (λ p. is_some (line_at listed (at b'.regs p))) same)
      behind may_return (Some to) b' same is = (is.0 ∙ same, ap (at b'.regs) (sym same) ∙ is.1)

  departs_in : (list : List Outside) (last : Outside) (b : Machine) (budget : ℕ) → FitsMachine b → b.latch ≡ false
      → (is_inside rom bound listed b ≡ true → Covered b budget) → All (λ o. o.taken < 256) list → last.taken < 256 → StaysInside rom bound listed list b
      → is_inside rom bound listed (after rom list b) ≡ true → is_inside rom bound listed (instructed rom last (after rom list b)) ≡ false
      → Left last (after rom list b)
  departs_in [] last b budget fits clear covered taken small inside here outside =
      let both = and_parts (eqb b.regs.p bound.p) (is_some (line_at listed (at b.regs bound.p))) here in
      departs_at last b budget fits clear (eqb-true b.regs.p bound.p both.0) small (covered here) outside
  departs_in (o ∷ list) last b budget fits clear covered taken small inside here outside =
      let both = and_parts (eqb b.regs.p bound.p) (is_some (line_at listed (at b.regs bound.p))) inside.0 in
      let move = moves o b budget fits clear (eqb-true b.regs.p bound.p both.0) (taken 0 o (omega arith)) (covered inside.0) in
      departs_in list last (instructed rom o b) (budget - cycles_of (opcode_of rom b)) move.fits move.clear move.on
      (λ k d within. taken (suc k) d (omega arith)) small inside.1 here outside

  entry-covers : (b : Machine) (line : Line) → FitsMachine b → line_at listed (at b.regs bound.p) ≡ Some line → takes_all bound line ≡ true
      → Covered b bound.limit
  entry-covers b line fits found takes =
      let both = and_parts (is_none line.x && is_any line.fact) (leb (left line 255) bound.limit) takes in
      let free = and_parts (is_none line.x) (is_any line.fact) both.0 in
      record {
        line = line;
        found = found;
        holds = record { x = knows-none line.x b.regs.x free.0; fact = holds-any line.fact b.regs.d (get b.regs.r bound.k).lo free.1 };
        pays = omega (
          arith,
          leb-true (left line 255) bound.limit both.1,
          left_rises line (get b.regs.r bound.k).lo 255
              (omega (arith, (get_fits bound.k b.regs.r fits.regs.r).lo)),
        );
      }

  covered_at : is_entered bound listed ≡ true → (b : Machine) → FitsMachine b → at b.regs bound.p ≡ bound.entry → Covered b bound.limit
  unfolding is_entered
  covered_at entered b fits at_entry =
      let line = entered-line (line_at listed bound.entry) entered in
      let found : line_at listed (at b.regs bound.p) ≡ Some line.0 = ap (line_at listed) at_entry ∙ line.1 in
      entry-covers b line.0 fits found line.2
    where
      entered-line : (found : Option Line) → option_map_or (takes_all bound) found false ≡ true
          → (line : Line) × (found ≡ Some line) × (takes_all bound line ≡ true)
      entered-line None is = absurd (true≢false (sym is))
      entered-line (Some line) is = (line, refl, is)

  pub leaves : is_entered bound listed ≡ true → Leaves rom bound listed
  leaves entered b fits clear p_is at_entry list taken inside =
      stays list b bound.limit fits clear (λ _. covered_at entered b fits at_entry) taken inside

  pub leaves_by_exits : is_entered bound listed ≡ true → LeavesByExits rom bound listed
  leaves_by_exits entered b fits clear p_is at_entry list last taken small inside here outside =
      departs_in list last b bound.limit fits clear (λ _. covered_at entered b fits at_entry) taken small inside here outside

-- ---- the registers of a bound

number-most : (base most : ℕ) (text : List ℕ) (found : ℕ) → number base text most ≡ Ok found → found ≤ most
unfolding number
number-most base most text found is = elim (cases_Bool (eqb (length text) 0)) [
  | inl empty ↦ let wrong = rw empty at is in cc
  | inr some ↦ elim (cases_Bool (not (are_digits base text))) [
    | inl bad ↦ let wrong = rw (some, bad) at is in cc
    | inr good ↦ elim (cases_Bool (ltb most (digits_value base text))) [
      | inl large ↦ let wrong = rw (some, good, large) at is in cc
      | inr small ↦ omega (arith, ltb-false most (digits_value base text) small, ok_is (digits_value base text) found (rw (some, good, small) at is))
    ]
  ]
]

ok_from_or : (r : Result ℕ NumFault) (cause : CertCause) (found : ℕ) → ok_or (result_ok r) cause ≡ Ok found → r ≡ Ok found
ok_from_or (Ok x) cause found is = ap Ok (ok_is x found is)
ok_from_or (Err fault) cause found is = cc

hex_of-most : (count most : ℕ) (word : List ℕ) (found : ℕ) → hex_of count most word ≡ Ok found → found ≤ most
unfolding hex_of
hex_of-most count most word found is = elim (cases_Bool (eqb (length word) count)) [
  | inl right ↦ number-most 16 most word found (ok_from_or (hex_number word most) BadNumber found (rw right at is))
  | inr wrong ↦ let other = rw wrong at is in cc
]

-- the counter register is one of the sixteen, and not the program counter
abbrev HasRegisters : Bound → Type 0
HasRegisters bound = (bound.k < 16) × (bound.k ≢ bound.p)

abbrev last_step : ℕ → ℕ → ℕ → ℕ → Result Bound CertCause
last_step entry p k limit = if eqb k p then Err BadNumber else Ok (record { entry = entry; p = p; k = k; limit = limit })

last-registers : (entry p k limit : ℕ) (bound : Bound) → k ≤ 0xf → last_step entry p k limit ≡ Ok bound → HasRegisters bound
last-registers entry p k limit bound small is = elim (cases_Bool (eqb k p)) [
  | inl same ↦ let wrong = rw same at is in cc
  | inr other ↦
      subst HasRegisters (ok_is (record { entry = entry; p = p; k = k; limit = limit }) bound (rw other at is)) (omega (arith, small), eqb-false k p other)
]

in-registers : (first second third fourth : List ℕ) (bound : Bound) → bound_in first second third fourth ≡ Ok bound → HasRegisters bound
unfolding bound_in
in-registers first second third fourth bound is =
    let one = bind-ok (address_of first) (λ entry. digit_of second >>= (λ p. digit_of third >>=
    (λ k. decimal_of most_limit fourth >>= (λ limit. last_step entry p k limit)))) bound is in
    let two = bind-ok (digit_of second) (λ p. digit_of third >>= (λ k. decimal_of most_limit fourth >>= (λ limit. last_step one.0 p k limit))) bound one.2 in
    let three = bind-ok (digit_of third) (λ k. decimal_of most_limit fourth >>= (λ limit. last_step one.0 two.0 k limit)) bound two.2 in
    let four = bind-ok (decimal_of most_limit fourth) (λ limit. last_step one.0 two.0 three.0 limit) bound three.2 in
    last-registers one.0 two.0 three.0 four.0 bound (hex_of-most 1 0xf third three.0 three.1) four.2

bound-registers : (words : List (List ℕ)) (bound : Bound) → bound_of words ≡ Ok bound → HasRegisters bound
unfolding bound_of
bound-registers (word ∷ entry ∷ p ∷ k ∷ limit ∷ []) bound is = elim (cases_Bool (bytes_eq word (codes "within"))) [
  | inl right ↦ in-registers entry p k limit bound (rw right at is)
  | inr wrong ↦ let other = rw wrong at is in cc
]
bound-registers _ bound is = cc

bound-said : (statements : List (List (List ℕ))) (bound : Bound) → (certificate_of statements).bound ≡ Some bound → HasRegisters bound
bound-said [] bound is = cc
bound-said (first ∷ others) bound is = bound-registers first bound (some_from (bound_of first) is)
  where
    some_from : (r : Result Bound CertCause) → result_ok r ≡ Some bound → r ≡ Ok bound
    some_from (Ok x) e = ap Ok (same x e)
      where
        same : (y : Bound) → Some y ≡ Some bound → y ≡ bound
        same y h = cc
    some_from (Err cause) e = cc

-- ---- an accepted text

-- a check that accepts has found no fault
record Accepts (rom text : List ℕ) (listed : List Line) (bound : Bound) (within : Within) : Type 0 where
  entry : within.entry ≡ bound.entry
  limit : within.limit ≡ bound.limit
  entered : is_entered bound listed ≡ true
  fine : first_from (cause_at rom bound listed) 1 listed ≡ None

accepts : (rom text numbers : List ℕ) (listed : List Line) (bound : Bound) (within : Within) → unless numbers bound (fault_in rom bound listed) ≡ Ok within
    → Accepts rom text listed bound within
unfolding fault_in
accepts rom text numbers listed bound within is = elim (cases_Bool (is_entered bound listed)) [
  | inr no_entry ↦ let wrong = rw no_entry at is in cc
  | inl entered ↦ with_fault (first_from (cause_at rom bound listed) 1 listed) refl entered (rw entered at is)
]
  where
    with_fault : (fault : Option (ℕ × CertCause)) → first_from (cause_at rom bound listed) 1 listed ≡ fault → is_entered bound listed ≡ true
        → unless numbers bound fault ≡ Ok within → Accepts rom text listed bound within
    with_fault (Some found) fault_is entered e = cc
    with_fault None fault_is entered e =
        let made = ok_is (record { entry = bound.entry; limit = bound.limit }) within e in
        record { entry = ap (λ w. w.entry) (sym made); limit = ap (λ w. w.limit) (sym made); entered = entered; fine = fault_is }

within-from : (rom text : List ℕ) (within : Within) (statements : List (List (List ℕ))) (bound : Option Bound) → FitsRom rom
    → reading.read certificate_format text ≡ Ok statements → (certificate_of statements).bound ≡ bound
    → judged rom (numbers_from 1 (lines text)) (certificate_of statements).lines bound ≡ Ok within → IsWithin rom text within
within-from rom text within statements None fits says none is = cc
within-from rom text within statements (Some bound) fits says bounded is =
    let accepted = accepts rom text (numbers_from 1 (lines text)) (certificate_of statements).lines bound within is in
    let registers = bound-said statements bound bounded in
    record {
      bound = bound;
      statements = statements;
      says = says;
      bounded = bounded;
      entry = accepted.entry;
      limit = accepted.limit;
      leaves = leaves rom fits bound (certificate_of statements).lines registers.0 registers.1
          (λ a line found. cause_of-found (cause_at rom bound (certificate_of statements).lines) 1
          (certificate_of statements).lines a line accepted.fine found) accepted.entered;
      by_exits = leaves_by_exits rom fits bound (certificate_of statements).lines registers.0 registers.1
          (λ a line found. cause_of-found (cause_at rom bound (certificate_of statements).lines) 1
          (certificate_of statements).lines a line accepted.fine found) accepted.entered;
    }

pub accepted-within : AcceptedIsWithin
unfolding checked
accepted-within rom text within fits is =
    let said = bind-ok (reading.read certificate_format text) (λ statements. judged rom (numbers_from 1 (lines text)) (certificate_of statements).lines
    (certificate_of statements).bound) within is in
    within-from rom text within said.0 (certificate_of said.0).bound fits said.1 refl said.2
