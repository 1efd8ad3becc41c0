-- The counts of a profile, point by point.
use Rattle.std.proofs.Common.{◌≡◌, ◌⊎◌, inl, inr, ℕ, ◌+◌, ◌-◌, ◌/◌, ◌≤◌, ◌<◌, Bool, true, false, List, [], ◌∷◌, ◌++◌, length, replicate, refl, sym, ap, ap₂, ◌∙◌, arith, length-append}
use Rattle.std.specs.Prelude.{if◌then◌else◌, ◌==◌, filter, max, Option, Some, None, slice_index_or, slice_set}
use Rattle.std.specs.List.{last_or, sum}
use Rattle.std.proofs.lemmas.Bool.{cases_eq, eq-eqb, ne_eqb}
use Rattle.std.proofs.lemmas.List.{get_or-replicate, get_or-set_same, get_or-set_other}
use Rattle.std.proofs.lemmas.List.Elements.{filter-append}
use Rattle.std.proofs.lemmas.List.Sums.{sum_by-cons, sum_by_push}
use Rattle.machine.specs.Pictures.{frame}
use Rattle.vip_program.specs.declared.counts.Counts.{Counts}
use Rattle.vip_program.specs.declared.counts.Point.{Point}
use Rattle.vip_program.specs.declared.figures.Figures.{Figures}
use Rattle.vip_program.specs.declared.frames.Frames.{Frames}
use Rattle.vip_program.specs.Counts.{addresses, Awaits, Counted, HasValues}
use Rattle.vip_program.specs.Figures.{figures_of, HasRoom, most_number}
use Rattle.vip_program.specs.Frames.{frame_behind, Framed, IsFew, CountsPoint, most_points}
use Rattle.vip_program.specs.Profile.{Step, cycle_in, cycles_at, cycles_of, first_cycle, last_cycle, steps_of}

-- ---- no point

pub table-first : {X : Type 0} (items : List X) (value : X) (values : ℕ → X) → items ≡ replicate addresses value → ((pc : ℕ) → value ≡ values pc)
    → HasValues items values
table-first items value values is same pc other below =
    ap (λ xs. slice_index_or xs pc other) is ∙ get_or-replicate addresses pc value other below ∙ same pc

-- a copy of nothing, whatever is said of copies of something
pub none-copied : {X : Type 0} (IsCopy : Option X → Type 0) → ((x : X) → IsCopy (Some x) → ⊥) → (copy : Option X) → IsCopy copy → copy ≡ None
none-copied IsCopy never None is = refl
none-copied IsCopy never (Some x) is = absurd (never x is)

-- ---- the list of points, with one more

last-more : (o : Option Point) (points : List Point) (point : Point) → last_or o (points ++ point ∷ []) ≡ Some point
last-more o [] point = refl
last-more o (v ∷ points) point = last-more (Some v) points point

pub last_cycle-more : (points : List Point) (point : Point) → last_cycle (points ++ point ∷ []) ≡ point.cycle
last_cycle-more points point = ap cycle_in (last-more None points point)

abbrev pub step : Point → Point → Step
step from to = record { pc = from.pc; cycles = to.cycle - from.cycle }

-- behind a last point
module _ (last : Point) where
  first-more : (points : List Point) (point : Point) → last_or None points ≡ Some last → first_cycle (points ++ point ∷ []) ≡ first_cycle points
  first-more [] point is = cc
  first-more (v ∷ points) point is = refl

  steps-more : (points : List Point) (point : Point) → last_or None points ≡ Some last → steps_of (points ++ point ∷ []) ≡ steps_of points ++ step last point ∷ []
  unfolding steps_of
  steps-more [] point is = cc
  steps-more (v ∷ []) point is = ap (λ v. step v point ∷ []) (the_same v is)
    where
      the_same : (v : Point) → Some v ≡ Some last → v ≡ last
      the_same v is = cc
  steps-more (v ∷ next ∷ points) point is = ap (λ steps. step v next ∷ steps) (steps-more (next ∷ points) point is)

-- ---- the tables

-- a table in which one value was changed
pub table-set : {X : Type 0} (items : List X) (at : ℕ) (value : X) (old new : ℕ → X) → length items ≡ addresses → at < addresses → HasValues items old
    → value ≡ new at → ((pc : ℕ) → (pc ≡ at → ⊥) → old pc ≡ new pc) → HasValues (slice_set items at value) new
table-set items at value old new size within tells same others pc other below = go (cases_eq pc at)
  where
    go : (pc ≡ at) ⊎ (pc ≡ at → ⊥) → slice_index_or (slice_set items at value) pc other ≡ new pc
    go (inl here) =
        ap (λ k. slice_index_or (slice_set items at value) k other) here
        ∙ get_or-set_same items at value other (omega (arith, size, within))
        ∙ same ∙ ap new (sym here)
    go (inr there) = get_or-set_other items at pc value other there ∙ tells pc other below ∙ others pc there

append-none : {X : Type 0} (xs : List X) → xs ++ [] ≡ xs
append-none [] = refl
append-none (x ∷ xs) = ap (λ ys. x ∷ ys) (append-none xs)

map-more : (steps more : List Step) → cycles_of (steps ++ more) ≡ cycles_of steps ++ cycles_of more
map-more [] more = refl
map-more (s ∷ steps) more = ap (λ ns. s.cycles ∷ ns) (map-more steps more)

module _ (last : Point) (points : List Point) (point : Point) (is : last_or None points ≡ Some last) where
  cycles-more : (pc : ℕ) → cycles_at (points ++ point ∷ []) pc ≡ cycles_at points pc ++ cycles_of (if last.pc == pc then step last point ∷ [] else [])
  cycles-more pc =
      ap (λ steps. cycles_of (filter (λ s. s.pc == pc) steps)) (steps-more last points point is)
      ∙ ap cycles_of (filter-append (λ s. s.pc == pc) (steps_of points) (step last point ∷ []))
      ∙ map-more (filter (λ s. s.pc == pc) (steps_of points)) (if last.pc == pc then step last point ∷ [] else [])

  cycles-here : (pc : ℕ) → pc ≡ last.pc → cycles_at (points ++ point ∷ []) pc ≡ cycles_at points pc ++ (point.cycle - last.cycle) ∷ []
  cycles-here pc here =
      cycles-more pc ∙ ap (λ b. cycles_at points pc ++ cycles_of (if b then step last point ∷ [] else [])) (eq-eqb last.pc pc (sym here))

  cycles-there : (pc : ℕ) → (pc ≡ last.pc → ⊥) → cycles_at (points ++ point ∷ []) pc ≡ cycles_at points pc
  cycles-there pc there =
      cycles-more pc ∙ ap (λ b. cycles_at points pc ++ cycles_of (if b then step last point ∷ [] else [])) (ne_eqb last.pc pc (λ same. there (sym same)))
      ∙ append-none (cycles_at points pc)

-- ---- the counts

-- of no point
pub counted-none : (counts : Counts) (none : Figures) → none ≡ figures_of [] → counts.steps.items ≡ replicate addresses none
    → counts.count ≡ 0 → counts.first ≡ 0 → counts.last ≡ None → Framed counts.frames 0 []
    → counts.frames.next ≡ frame_behind 0 → IsFew 0 counts.frames → Counted counts []
unfolding steps_of
counted-none counts none none_is steps count first last framed next few = record {
  steps = table-first counts.steps.items none (λ pc. figures_of (cycles_at [] pc)) steps (λ pc. none_is);
  count = count;
  first = first;
  last = last;
  frames = rw first framed;
  next = next ∙ ap (λ t. max (frame_behind t) (0 / frame)) (sym first);
  few = few;
  in_order = omega arith;
  cycles = refl;
}

-- of the first one
pub counted-first : (old new : Counts) (begun : Frames) (point : Point) → Counted old []
    → begun.next ≡ frame_behind point.cycle → Framed begun point.cycle [] → IsFew 0 begun → CountsPoint begun point new.frames
    → new.steps.items ≡ old.steps.items → new.count ≡ old.count → new.first ≡ point.cycle → new.last ≡ Some point → Counted new (point ∷ [])
unfolding steps_of
counted-first old new begun point c next framed few meets steps count first last = record {
  steps = λ pc other below. ap (λ items. slice_index_or items pc other) steps ∙ c.steps pc other below;
  count = count ∙ c.count;
  first = first;
  last = last;
  frames = rw first (meets.framed point.cycle [] framed (let h = next in omega (arith, h)));
  next = meets.next ∙ ap (λ n. max n (point.cycle / frame)) (next ∙ ap frame_behind (sym first));
  few = meets.few 0 few;
  in_order = omega arith;
  cycles = let same : point.cycle - point.cycle ≡ 0 = omega arith in sym same;
}

module _ (old : Counts) (points : List Point) (point last : Point) (c : Counted old points) (is : last_or None points ≡ Some last)
    (behind : last_cycle points ≤ point.cycle) where
  last_is : last_cycle points ≡ last.cycle
  last_is = ap cycle_in is

  pub in-order : last.cycle ≤ point.cycle
  in-order = omega (arith, last_is, behind)

  sum-more : (steps : List Step) (n : ℕ) → sum (cycles_of (steps ++ record { pc = last.pc; cycles = n } ∷ [])) ≡ sum (cycles_of steps) + n
  sum-more steps n = ap sum (map-more steps (record { pc = last.pc; cycles = n } ∷ [])) ∙ sum_by_push (λ x. x) (cycles_of steps) n

  -- of one more
  pub counted-next : (new : Counts) → length old.steps.items ≡ addresses → last.pc < addresses
      → new.steps.items ≡ slice_set old.steps.items last.pc (figures_of (cycles_at points last.pc ++ (point.cycle - last.cycle) ∷ []))
      → CountsPoint old.frames point new.frames
      → new.count ≡ old.count + 1 → new.first ≡ old.first → new.last ≡ Some point → Counted new (points ++ point ∷ [])
  counted-next new steps_size from_within steps meets count first last_now = record {
    steps =
        λ pc other below. ap (λ items. slice_index_or items pc other) steps
        ∙ table-set old.steps.items last.pc (figures_of (cycles_at points last.pc ++ (point.cycle - last.cycle) ∷ [])) (λ pc. figures_of (cycles_at points pc))
        (λ pc. figures_of (cycles_at (points ++ point ∷ []) pc)) steps_size from_within c.steps
        (ap figures_of (sym (cycles-here last points point is last.pc refl)))
        (λ pc there. ap figures_of (sym (cycles-there last points point is pc there))) pc other below;
    count = count ∙ ap (λ n. n + 1) c.count ∙ sym (ap length (steps-more last points point is) ∙ length-append (steps_of points) (step last point ∷ []));
    first = first ∙ c.first ∙ sym begins;
    last = last_now ∙ sym (last-more None points point);
    frames =
        rw first (meets.framed old.first points c.frames
        (let next = c.next in let from : last_cycle points / frame ≤ point.cycle / frame = omega (arith, behind) in omega (arith, next, from)));
    next = meets.next ∙ here ∙ ap₂ (λ f t. max (frame_behind f) (t / frame)) (sym first) (sym (last_cycle-more points point));
    few = rw length-append (meets.few (length points) c.few);
    in_order = let order = c.in_order in omega (arith, begins, last_cycle-more points point, order, behind);
    cycles =
        ap (λ steps. sum (cycles_of steps)) (steps-more last points point is) ∙ sum-more (steps_of points) (point.cycle - last.cycle)
        ∙ (let order = c.in_order in omega (arith, c.cycles, order, last_is, behind))
        ∙ ap₂ (λ a b. a - b) (sym (last_cycle-more points point)) (sym begins);
  }
    where
      begins : first_cycle (points ++ point ∷ []) ≡ first_cycle points
      begins = first-more last points point is

      here : max old.frames.next (point.cycle / frame) ≡ max (frame_behind old.first) (point.cycle / frame)
      here = let next = c.next in let from : last_cycle points / frame ≤ point.cycle / frame = omega (arith, behind) in omega (arith, next, from)

-- ---- room for one more

fewer : (p : Step → Bool) (steps : List Step) → length (cycles_of (filter p steps)) ≤ length steps
fewer p [] = omega arith
fewer p (s ∷ steps) = go (p s) (fewer p steps)
  where
    go : (b : Bool) → length (cycles_of (filter p steps)) ≤ length steps
        → length (cycles_of (if b then s ∷ filter p steps else filter p steps)) ≤ length (s ∷ steps)
    go true h = omega (arith, h)
    go false h = omega (arith, h)

less : (p : Step → Bool) (steps : List Step) → sum (cycles_of (filter p steps)) ≤ sum (cycles_of steps)
less p [] = omega arith
less p (s ∷ steps) = rw (sum_by-cons (λ x. x) s.cycles (cycles_of steps)) (go (p s) (less p steps))
  where
    go : (b : Bool) → sum (cycles_of (filter p steps)) ≤ sum (cycles_of steps)
        → sum (cycles_of (if b then s ∷ filter p steps else filter p steps)) ≤ s.cycles + sum (cycles_of steps)
    go true h = rw (sum_by-cons (λ x. x) s.cycles (cycles_of (filter p steps))) (omega (arith, h))
    go false h = omega (arith, h)

steps-few : (points : List Point) → length (steps_of points) ≤ length points
unfolding steps_of
steps-few [] = omega arith
steps-few (point ∷ []) = omega arith
steps-few (point ∷ next ∷ points) = let few = steps-few (next ∷ points) in omega (arith, few)

-- the steps from an address are at most all, and take at most the time up to the last point
pub row-few : (counts : Counts) (points : List Point) → Counted counts points → (pc : ℕ) (other : Figures) → pc < addresses
    → ((slice_index_or counts.steps.items pc other).count ≤ length points) × ((slice_index_or counts.steps.items pc other).sum ≤ last_cycle points)
row-few counts points c pc other below =
    let is : slice_index_or counts.steps.items pc other ≡ figures_of (cycles_at points pc) = c.steps pc other below in
    let few : length (cycles_at points pc) ≤ length (steps_of points) = fewer (λ step. step.pc == pc) (steps_of points) in
    let all : length (steps_of points) ≤ length points = steps-few points in
    let sums : sum (cycles_at points pc) ≤ sum (cycles_of (steps_of points)) = less (λ step. step.pc == pc) (steps_of points) in
    rw is (omega (arith, few, all), omega (arith, sums, c.cycles))

pub row-room : (counts : Counts) (point last : Point) → Awaits counts point → counts.last ≡ Some last → (other : Figures) → last.pc < addresses
    → HasRoom (slice_index_or counts.steps.items last.pc other) (point.cycle - last.cycle)
row-room counts point last a is other below =
    let at : last_cycle a.points ≡ last.cycle = ap cycle_in (sym a.counted.last ∙ is) in
    let row = row-few counts a.points a.counted last.pc other below in
    record {
      count = omega (arith, row.0, a.few);
      sum = omega (arith, row.1, at, a.behind, a.in_time);
    }

pub awaits-few : (counts : Counts) (point : Point) (a : Awaits counts point) → counts.count ≤ most_number
awaits-few counts point a = let all = steps-few a.points in let few = a.few in omega (arith, all, few, a.counted.count)

pub awaits-frames : (counts : Counts) (point : Point) → Awaits counts point → IsFew most_points counts.frames
awaits-frames counts point a =
    let f : IsFew (length a.points) counts.frames = a.counted.few in
    record { count = f.count; sum = omega (arith, f.sum, a.few); next = f.next }

pub awaits-order : (counts : Counts) (point last : Point) → Awaits counts point → counts.last ≡ Some last → last.cycle ≤ point.cycle
awaits-order counts point last a is = in-order counts a.points point last a.counted (sym a.counted.last ∙ is) a.behind

-- without a last point there is none
pub none-met : (counts : Counts) (points : List Point) → Counted counts points → counts.last ≡ None → points ≡ []
none-met counts [] c none = refl
none-met counts (p ∷ points) c none = absurd (told p points (sym c.last ∙ none))
  where
    told : (p : Point) (points : List Point) → last_or (Some p) points ≡ None → ⊥
    told p [] h = cc
    told p (next ∷ points) h = told next points h
