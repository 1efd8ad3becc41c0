-- Moves one after another, behind none of which but the last one an event waits.
use Rattle.std.proofs.Common.{◌≡◌, ◌⊎◌, ℕ, zero, suc, ◌+◌, ◌-◌, ◌<◌, ◌≤◌, inl, inr, Bool, true, false, ◌&&◌, [], refl, sym, ap, ◌∙◌, subst, subst₂, arith}
use Rattle.std.specs.Prelude.{◌==◌}
use Rattle.std.proofs.lemmas.Bool.{eqb-true}
use Rattle.machine.specs.Instruction.{Regs, at}
use Rattle.machine.specs.Board.{Machine, Case, case_of}
use Rattle.machine.specs.Board.Case.{Dma, Interrupt, Idle, Instruction}
use Rattle.machine.proofs.Runs.{later-move}
use Rattle.chip8_lang.specs.Events.{is_instruction, is_at, is_dispatch, is_stop}
use Rattle.chip8_lang.specs.Places.{Interpreter}
use Rattle.vip_board.specs.Moves.{moved, moved_by, name_of, StartsInstruction, Passes as BoardPasses}
use Rattle.vip_board.specs.Seen.{Seen, contents_of, held_by}
use Rattle.vip_memory.specs.Contents.{Contents}
use Rattle.vip_board.proofs.Shown.{carries-on}
use Rattle.chip8_image.specs.Interpreters.{interpreter_of}
use Rattle.vip_relation.specs.State.{VipState, interpreter, events_waiting, most_cycles}
use Rattle.vip_relation.specs.Follows.{Follows}
use Rattle.vip_relation.specs.Kept.{state_of, IsKept}
use Rattle.vip_relation.specs.Parts.{Runs, Steps}
use Rattle.vip_relation.specs.Points.{point_of, point_events}
use Rattle.vip_relation.specs.Waiting.{waits_by}
use Rattle.vip_relation.specs.declared.point.Point.{Point}
use Rattle.vip_relation.specs.declared.point.Point.TheVariants.{Other}
use Rattle.vip_relation.specs.declared.run.Waits.{Waits}
use Rattle.vip_relation.specs.declared.run.Waits.TheVariants.{Nothing}
use Rattle.vip_relation.specs.declared.run.Run.TheInside.{Inside}
use Rattle.vip_relation.proofs.ByRun.{whole, follows-run, named-run}
use Rattle.vip_relation.proofs.Closing.{kept-step, steps-to}
use Rattle.vip_relation.proofs.Steps.{follows-on, waits-point}

-- ---- where no instruction at the label of the fetch or of the halt comes next is no point

instruction : (k : Case) → is_instruction k ≡ true → k ≡ Instruction
instruction Dma h = cc
instruction Interrupt h = cc
instruction Idle h = cc
instruction Instruction h = refl

parts : (x y z : Bool) → (x && y && z) ≡ true → (x ≡ true) × (y ≡ true) × (z ≡ true)
parts true true true h = (refl, refl, refl)
parts true true false h = cc
parts true false z h = cc
parts false y z h = cc

at_label : (p address : ℕ) (b : Machine) → is_at p address b ≡ true → StartsInstruction b × (at b.regs b.regs.p ≡ address)
at_label p address b h =
    let t = parts (is_instruction (case_of b)) (b.regs.p == p) (at b.regs p == address) h in
    let here : b.regs.p ≡ p = same b.regs.p p t.1 in
    (instruction (case_of b) t.0, ap (at b.regs) here ∙ same (at b.regs p) address t.2)
  where
    same : (x y : ℕ) → (x == y) ≡ true → x ≡ y
    same x y e = eqb-true x y e

not_true : (x : Bool) → (x ≡ true → ⊥) → x ≡ false
not_true true h = absurd (h refl)
not_true false h = refl

-- the next opcode has one of these addresses
abbrev pub stops : Interpreter → Regs → Contents → Type 0
stops i regs memory = (at regs regs.p ≡ i.fetch) ⊎ (at regs regs.p ≡ i.halt)

module _ (i : Interpreter) (b : Machine) (m : Contents) (apart : StartsInstruction b → stops i b.regs m → ⊥) where
  no_dispatch : is_dispatch i b ≡ false
  no_dispatch = not_true (is_dispatch i b) (λ h. let t = at_label 4 i.fetch b h in apart t.0 (inl t.1))

  pub no-stop-here : is_stop i b ≡ false
  no-stop-here = not_true (is_stop i b) (λ h. let t = at_label 3 i.halt b h in apart t.0 (inr t.1))

  no_point : point_of i b ≡ Other
  no_point = rw (no-stop-here, no_dispatch)

-- ---- move by move

later_one : (s : Seen) → s.machine.cycle < (moved s).machine.cycle
later_one s = later-move s.rom (held_by s) s.machine

later_by : (s : Seen) (n : ℕ) → s.machine.cycle ≤ (moved_by n s).machine.cycle
later_by s zero = omega arith
later_by s (suc n) = omega (arith, later_by s n, later_one (moved_by n s))

script_by : (s : Seen) (n : ℕ) → (moved_by n s).script ≡ s.script
script_by s zero = refl
script_by s (suc n) = script_by s n

module _ (v : VipState) (n : ℕ) (passes : (k : ℕ) → 0 < k → k ≤ n → BoardPasses (stops (interpreter v)) v.board (moved_by k v.board)) (f : Follows v)
    (none : events_waiting v ≡ []) (no_stop_yet : is_stop (interpreter v) v.board.machine ≡ false)
    (in_time : (moved_by n v.board).machine.cycle ≤ most_cycles) where
  -- after k of them, which are so many moves in all
  abbrev pub after_some : ℕ → ℕ → VipState
  after_some moves k = record v { moves = moves; board = moved_by k v.board }

  pub record Stands (moves k : ℕ) : Type 0 where
    pub follows : Follows (after_some moves k)
    pub met : events_waiting (after_some moves k) ≡ []
    pub runs : is_stop (interpreter v) (moved_by k v.board).machine ≡ false

  -- each of them ends in time
  early : (j k : ℕ) → k + j ≡ n → (moved_by k v.board).machine.cycle ≤ most_cycles
  early zero k e = let same : k ≡ n = omega (arith, e) in subst (λ m. (moved_by m v.board).machine.cycle ≤ most_cycles) (sym same) in_time
  early (suc j) k e = omega (arith, early j (suc k) (omega (arith, e)), later_one (moved_by k v.board))

  -- and finishes no picture
  pub same_count : (k : ℕ) → k ≤ n → (moved_by k v.board).pictures.count ≡ v.board.pictures.count
  same_count zero l = refl
  same_count (suc k) l = (passes (suc k) (omega arith) l).count

  stands_on : (moves k : ℕ) → suc k ≤ n → Stands moves k → Stands (moves + 1) (suc k)
  stands_on moves k l a =
      let s = moved_by k v.board in
      let p = passes (suc k) (omega arith) l in
      let next : (moved_by (suc k) v.board).machine.cycle ≤ most_cycles = early (n - suc k) (suc k) (omega (arith, l)) in
      record {
        follows = follows-on (after_some moves k) a.follows a.met a.runs (carries-on s) next;
        met =
            waits-point (after_some moves k) a.follows a.met a.runs (carries-on s) (p.count ∙ sym (same_count k (omega (arith, l))))
            ∙ ap (λ p. point_events p (moved s).machine) (no_point (interpreter v) (moved s).machine (contents_of (moved s)) p.apart);
        runs = no-stop-here (interpreter v) (moved s).machine (contents_of (moved s)) p.apart;
      }

  pub stands : (k moves : ℕ) → moves ≡ v.moves + k → k ≤ n → Stands moves k
  stands zero moves e l =
      let same : v.moves ≡ moves = omega (arith, e) in
      subst (λ m. Stands m 0) same (record { follows = f; met = none; runs = no_stop_yet })
  stands (suc k) moves e l =
      let one : v.moves + k + 1 ≡ moves = omega (arith, e) in
      subst (λ m. Stands m (suc k)) one (stands_on (v.moves + k) k l (stands k (v.moves + k) refl (omega (arith, l))))

-- ---- the fields

-- what is kept behind them, and what is said of them
pub record RanTo (a : Inside) (limit : ℕ) (b : Inside) : Type 0 where
  pub kept : IsKept b
  pub runs : Runs limit (state_of a) (state_of b)

module _ (a : Inside) (keeps : IsKept a) (met : events_waiting (state_of a) ≡ []) (runs : is_stop (interpreter_of a.edition) a.board.machine ≡ false)
    (n limit : ℕ) (small : limit ≤ most_cycles)
    (passes : (k : ℕ) → 0 < k → k ≤ n → BoardPasses (stops (interpreter_of a.edition)) a.board (moved_by k a.board))
    (in_time : (moved_by (suc n) a.board).machine.cycle ≤ limit) where
  abbrev i : Interpreter
  i = interpreter_of a.edition

  abbrev middle : Seen
  middle = moved_by n a.board

  -- before the last move
  abbrev before : Point → Waits → Inside
  before point waits = record a { moves = a.moves + n; board = middle; point = point; waits = waits }

  -- and behind it
  abbrev behind : Seen → Point → Waits → Inside
  behind s point waits = record a { moves = a.moves + suc n; board = s; point = point; waits = waits }

  early_enough : middle.machine.cycle ≤ limit
  early_enough = omega (arith, in_time, later_one middle)

  stood : Stands (state_of a) n passes keeps.follows met runs (omega (arith, early_enough, small)) (a.moves + n) n
  stood = stands (state_of a) n passes keeps.follows met runs (omega (arith, early_enough, small)) n (a.moves + n) refl (omega arith)

  count : middle.pictures.count ≡ a.board.pictures.count
  count = same_count (state_of a) n passes keeps.follows met runs (omega (arith, early_enough, small)) n (omega arith)

  by_fields : (point : Point) (waits : Waits) → IsKept (before point waits)
      → RanTo a limit (behind (moved middle) (point_of i (moved middle).machine) (waits_by a.board.pictures.count (moved middle).pictures.count))
  by_fields point waits kept =
      let b = before point waits in
      let here : VipState = record (state_of a) { moves = a.moves + n; board = middle } in
      let late : (moved middle).machine.cycle ≤ most_cycles = omega (arith, in_time, small) in
      let one : a.moves + n + 1 ≡ a.moves + suc n = omega arith in
      let s = moved middle in
      let now = point_of i s.machine in
      let first = waits_by a.board.pictures.count s.pictures.count in
      let after_one : ℕ → Inside = λ m. record (behind s now first) { moves = m } in
      record {
        kept =
            subst (λ m. IsKept (after_one m)) one
            (kept-step b kept stood.met stood.runs s now first refl (carries-on middle) late refl
            (ap (λ c. waits_by c s.pictures.count) (sym count)));
        runs =
            record {
              middle = state_of b;
              passes =
                  record {
                    state = whole here stood.follows;
                    script = script_by a.board n;
                    moves = omega arith;
                    later = later_by a.board n;
                    within = λ _. early_enough;
                    met = stood.met;
                    runs = stood.runs;
                  };
              follows = follows-run here stood.follows;
              name = name_of middle.machine;
              steps =
                  subst (λ m. Steps (state_of b) (state_of (after_one m)) (name_of middle.machine)) one
                  (steps-to b kept stood.met stood.runs (moved middle) (name_of middle.machine) refl refl (carries-on middle) late);
              within = in_time;
            };
      }

by_size : (a : Inside) (keeps : IsKept a) (met : events_waiting (state_of a) ≡ []) (runs : is_stop (interpreter_of a.edition) a.board.machine ≡ false)
    (n limit : ℕ) (small : limit ≤ most_cycles)
    (passes : (k : ℕ) → 0 < k → k ≤ n → BoardPasses (stops (interpreter_of a.edition)) a.board (moved_by k a.board))
    (in_time : (moved_by (suc n) a.board).machine.cycle ≤ limit)
    → RanTo a limit
    (record a {
      moves = a.moves + suc n;
      board = moved_by (suc n) a.board;
      point = point_of (interpreter_of a.edition) (moved_by (suc n) a.board).machine;
      waits = waits_by a.board.pictures.count (moved_by (suc n) a.board).pictures.count;
    })
by_size a keeps met runs zero limit small passes in_time =
    let same : a.moves ≡ a.moves + 0 = omega arith in
    by_fields a keeps met runs 0 limit small passes in_time a.point a.waits (subst (λ m. IsKept (record a { moves = m })) same keeps)
by_size a keeps met runs (suc n) limit small passes in_time =
    let stood_here = stood a keeps met runs (suc n) limit small passes in_time in
    let here : VipState = record (state_of a) { moves = a.moves + suc n; board = moved_by (suc n) a.board } in
    by_fields a keeps met runs (suc n) limit small passes in_time Other Nothing
    (record {
      follows = follows-run here stood_here.follows;
      point = sym (no_point (interpreter_of a.edition) (moved_by (suc n) a.board).machine (contents_of (moved_by (suc n) a.board)) (passes (suc n) (omega arith) (omega arith)).apart);
      waiting = stood_here.met;
      last = named-run here stood_here.follows a.last keeps.last;
    })

pub ran : (a : Inside) (limit made : ℕ) (s : Seen) (point : Point) (waits : Waits) → IsKept a → events_waiting (state_of a) ≡ []
    → is_stop (interpreter_of a.edition) a.board.machine ≡ false → limit ≤ most_cycles → s ≡ moved_by made a.board → (made ≡ 0 → ⊥)
    → ((k : ℕ) → 0 < k → k < made → BoardPasses (stops (interpreter_of a.edition)) a.board (moved_by k a.board)) → (0 < made → s.machine.cycle ≤ limit)
    → point ≡ point_of (interpreter_of a.edition) s.machine → waits ≡ waits_by a.board.pictures.count s.pictures.count
    → RanTo a limit (record a { moves = a.moves + made; board = s; point = point; waits = waits })
ran a limit zero s point waits keeps met runs small is some passes within is_point is_waits = absurd (some refl)
ran a limit (suc n) s point waits keeps met runs small is some passes within is_point is_waits =
    let i = interpreter_of a.edition in
    let in_time : (moved_by (suc n) a.board).machine.cycle ≤ limit = subst (λ (x : Seen). x.machine.cycle ≤ limit) is (within (omega arith)) in
    let then : Seen → Point → Waits → Inside = λ x p w. record a { moves = a.moves + suc n; board = x; point = p; waits = w } in
    subst₂ (λ p w. RanTo a limit (then s p w)) (sym is_point) (sym is_waits)
    (subst (λ (x : Seen). RanTo a limit (then x (point_of i x.machine) (waits_by a.board.pictures.count x.pictures.count))) (sym is)
    (by_size a keeps met runs n limit small (λ k some l. passes k some (omega (arith, l))) in_time))
