-- The board makes moves, up to one that was looked for.
use Rattle.std.proofs.Common.{◌≡◌, ◌⊎◌, inl, inr, ℕ, zero, suc, ◌+◌, ◌-◌, ◌<◌, ◌≤◌, Bool, true, false, List, [], ◌∷◌, ◌++◌, length, not, bytes_eq, refl, sym, ap, ap₂, ◌∙◌, subst, arith, min, nat_le, Option, Some, None}
use Rattle.std.specs.Prelude.{◌==◌, find, if◌then◌else◌}
use Rattle.std.specs.List.{range_with_len}
use Rattle.std.specs.Option.{option_map_or}
use Rattle.asm_core.specs.Origins.{Origins, labels_over}
use Rattle.std.proofs.lemmas.Bool.{cases_lt, le-leb, lt-leb}
use Rattle.std.proofs.lemmas.Bool.Decides.{nat_tests}
use Rattle.std.proofs.lemmas.Slice.Eq.{bytes_eq-Decides}
use Rattle.machine.specs.Board.{Machine, Case, case_of, byte_of, length_of}
use Rattle.machine.specs.Board.Case.{Dma, Interrupt, Idle, Instruction}
use Rattle.machine.specs.Keys.{Event, held_at}
use Rattle.machine.specs.Instruction.{Regs, at}
use Rattle.machine.proofs.Runs.{cycle-move, later-move}
use Rattle.vip_board.specs.Seen.{Seen, contents_of, held_by}
use Rattle.vip_board.proofs.Through.{later-by, positive}
use Rattle.vip_memory.specs.Contents.{Contents}
use Rattle.vip_cpu.specs.declared.cpu.Phase.TheVariants.{Boundary}
use Rattle.vip_board.specs.Moves.{moved, moved_by, StartsInstruction}
use Rattle.vip_debug.specs.TargetRun.{Makes, Run, run_from, state_of, moves_until, ahead}
use Rattle.vip_debug.specs.TargetRun as run
use Rattle.vip_words.specs.declared.debug_commands.Running.{Running}
use Rattle.vip_words.specs.declared.debug_commands.Running.TheVariants.{Watch}
use Rattle.vip_byte.specs.Text.{newline}
use Rattle.vip_debug.specs.declared.moves.Change.{Change}
use Rattle.vip_debug.specs.Answered.{completed_lines, move_end, move_line}
use Rattle.vip_debug.specs.Commands.{Came, after_steps, at_cycle, found_or_last, is_at, starts_in, starts_at, bytes_at}
use Rattle.vip_program.specs.Lines.{line_of, place_in}
use Rattle.vip_debug.specs.BoardShown.{cycle_text, rows, mem_lines, stretch, has_changed}
use Rattle.vip_debug.specs.BoardParts.{Arrives, HasMoved, IsShown, labels_by, lines_by, Fits, reads}
use Rattle.vip_debug.specs.Programs.{changing, comes, run_on}
use Rattle.vip_debug.specs.Watching.{may_change}
use Rattle.vip_debug.proofs.Watching.{stretch-stays}
use Rattle.vip_debug.proofs.Lines.{stretch-short}
use Rattle.vip_debug.proofs.TargetRuns.{Progress, Stands, Rests, next, made-most, made-all, made-before, next-within, stands-next}

-- ---- on the way

-- some moves of a run are made, none of them up to a cycle in the past
pub record Going (limit : ℕ) (r : Run) (p : Progress) : Type 0 where
  pub stands : Stands p
  pub run : p.run ≡ r
  pub stays : limit < p.board.machine.cycle → p.made ≡ 0

module _ (limit : ℕ) (r : Run) (p : Progress) (g : Going limit r p) where
  pub going-next : (Rests limit p → ⊥) → Going limit r (next p)
  going-next goes =
      record { stands = stands-next p g.stands limit goes; run = g.run; stays = λ over. absurd (omega (arith, over, next-within p g.stands limit goes)) }

  until_same : moves_until p.run limit ≡ moves_until r limit
  until_same = ap (λ x. moves_until x limit) g.run

  -- where it rests all are made
  pub made-here : Rests limit p → p.made ≡ moves_until r limit
  made-here rests = by_test (cases_lt limit p.board.machine.cycle)
    where
      by_test : (limit < p.board.machine.cycle) ⊎ (p.board.machine.cycle ≤ limit) → p.made ≡ moves_until r limit
      by_test (inl over) = omega (arith, made-before p g.stands limit over, g.stays over, until_same)
      by_test (inr within) = omega (arith, made-all p g.stands limit within rests, until_same)

  pub made-within : p.board.machine.cycle ≤ limit → p.made ≤ moves_until r limit
  made-within within = omega (arith, made-most p g.stands limit within, until_same)

  pub arrives : (last : ℕ) (came : Came) (answer : Bool) → p.made ≡ came.moves → answer ≡ came.completed → p.board.machine.cycle ≤ last
      → Arrives last r came p.board answer
  arrives last came answer is done within = record {
    phase = g.stands.phase;
    rom = g.stands.rom ∙ ap (λ (x : Run). x.rom) g.run;
    script = g.stands.script ∙ ap (λ (x : Run). x.script) g.run;
    machine = g.stands.machine ∙ ap (λ x. state_of x p.made) g.run ∙ ap (state_of r) is;
    within = within;
    completed = done;
  }

-- after so many moves of the board
abbrev pub next_by : ℕ → Progress → Progress
next_by n p = record { run = p.run; made = p.made + n; board = moved_by n p.board }

pub going-by : (limit : ℕ) (r : Run) (p : Progress) → Going limit r p → (n : ℕ) → ((k : ℕ) → k < n → Rests limit (next_by k p) → ⊥)
    → Going limit r (next_by n p)
going-by limit r p g zero goes = let same : p.made ≡ p.made + 0 = omega arith in subst (λ made. Going limit r (record p { made = made })) same g
going-by limit r p g (suc n) goes =
    let one : p.made + n + 1 ≡ p.made + suc n = omega arith in
    subst (λ made. Going limit r (record { run = p.run; made = made; board = moved_by (suc n) p.board })) one
    (going-next limit r (next_by n p) (going-by limit r p g n (λ k l. goes k (omega (arith, l)))) (goes n (omega arith)))

-- the last of them ends in time
pub within-by : (limit : ℕ) (r : Run) (p : Progress) → Going limit r p → (n : ℕ) → 0 < n → ((k : ℕ) → k < n → Rests limit (next_by k p) → ⊥)
    → (moved_by n p.board).machine.cycle ≤ limit
within-by limit r p g zero some goes = absurd (omega (arith, some))
within-by limit r p g (suc n) some goes =
    next-within (next_by n p) (going-by limit r p g n (λ k l. goes k (omega (arith, l)))).stands limit (goes n (omega arith))

-- each of some moves takes a cycle at least
pub later-on : (left k n : ℕ) (s : Seen) → k + left ≡ n → (moved_by k s).machine.cycle + left ≤ (moved_by n s).machine.cycle
later-on zero k n s e =
    let same : k ≡ n = omega (arith, e) in subst (λ m. (moved_by k s).machine.cycle + 0 ≤ (moved_by m s).machine.cycle) same (omega arith)
later-on (suc left) k n s e =
    let v = moved_by k s in
    omega (arith, later-on left (suc k) n s (omega (arith, e)), later-move v.rom (held_by v) v.machine)

-- a board that makes moves rests before none of them
pub makes-goes : (Stands : Regs → Contents → Type 0) (ends : Machine → Bool) (limit : ℕ) (s v : Seen) (n : ℕ) → Makes Stands ends limit s v n
    → (run.Rests ends limit s → ⊥) → (k : ℕ) → k < n → run.Rests ends limit (moved_by k s) → ⊥
makes-goes Stands ends limit s v n m first zero below rests = first rests
makes-goes Stands ends limit s v n m first (suc k) below (inl stop) = let e : false ≡ true = sym (m.goes_on (suc k) (omega arith) below) ∙ stop in cc
makes-goes Stands ends limit s v n m first (suc k) below (inr over) =
    let u = moved_by (suc k) s in
    let left = n - suc (suc k) in
    let all : suc (suc k) + left ≡ n = omega (arith, below) in
    let cycle = cycle-move u.rom (held_by u) u.machine in
    let on = later-on left (suc (suc k)) n s all in
    let within : (moved_by n s).machine.cycle ≤ limit = subst (λ (w : Seen). w.machine.cycle ≤ limit) m.moved m.within in
    omega (arith, cycle, on, within, over)

-- ---- what is kept beside the board

module _ {X : Type 0} (seen : X → Seen) (ends : X → Machine → Bool) (leads : ℕ → X → X → Type 0) where
  abbrev pub run_of : X → Run
  run_of x = run_from (ends x) (seen x)

  abbrev pub at_move : X → ℕ → X → Progress
  at_move old n x = record { run = run_of old; made = n; board = seen x }

  -- so many moves are made since the first
  pub record Gone (limit : ℕ) (old x : X) (moves : ℕ) : Type 0 where
    pub going : Going limit (run_of old) (at_move old moves x)
    pub same : ends x ≡ ends old
    pub moved : HasMoved leads moves old x

  pub gone-first : (limit : ℕ) (old : X) → (seen old).phase ≡ Boundary → Gone limit old old 0
  gone-first limit old phase = record {
    going =
        record {
          stands = record { phase = phase; rom = refl; script = refl; machine = refl; goes_on = λ k l. absurd (omega (arith, l)) };
          run = refl;
          stays = λ over. refl;
        };
    same = refl;
    moved = inl (refl, refl);
  }

  -- so many moves of a target, none of which is made from where it rests
  pub record MovesBy (limit n : ℕ) (x x' : X) : Type 0 where
    pub some : 0 < n
    pub moved : seen x' ≡ moved_by n (seen x)
    pub goes : (k : ℕ) → k < n → run.Rests (ends x) limit (moved_by k (seen x)) → ⊥
    pub same : ends x' ≡ ends x
    pub led : leads n x x'

  pub one-move : (limit : ℕ) (x x' : X) → (run.Rests (ends x) limit (seen x) → ⊥) → (seen x' ≡ moved (seen x)) × (ends x' ≡ ends x) × leads 1 x x'
      → MovesBy limit 1 x x'
  one-move limit x x' goes m =
      record {
        some = omega arith;
        moved = m.0;
        goes = λ k l. let first : 0 ≡ k = omega (arith, l) in
            subst (λ j. run.Rests (ends x) limit (moved_by j (seen x)) → ⊥) first goes;
        same = m.1;
        led = m.2;
      }

  pub some-moves : (Stands : Regs → Contents → Type 0) (limit : ℕ) (x x' : X) (n : ℕ) → (n ≡ 0 → ⊥) → (run.Rests (ends x) limit (seen x) → n ≡ 0)
      → (0 < n → Makes Stands (ends x) limit (seen x) (seen x') n × (ends x' ≡ ends x) × leads n x x') → MovesBy limit n x x'
  some-moves Stands limit x x' n some rests makes =
      let m = makes (positive n some) in
      record {
        some = positive n some;
        moved = m.0.moved;
        goes = makes-goes Stands (ends x) limit (seen x) (seen x') n m.0 (λ here. some (rests here));
        same = m.1;
        led = m.2;
      }

  -- the same up to a limit, whatever comes next behind them
  abbrev pub HasMade : ℕ → X → X → ℕ → Type 0
  HasMade limit x x' n = Makes (λ regs memory. ⊥) (ends x) limit (seen x) (seen x') n × (ends x' ≡ ends x) × leads n x x'

  pub made-wider : (limit last : ℕ) (x x' : X) (n : ℕ) → last ≤ limit → HasMade last x x' n → HasMade limit x x' n
  made-wider limit last x x' n order m =
      (record { moved = m.0.moved; goes_on = m.0.goes_on; apart = m.0.apart; within = omega (arith, order, m.0.within) }, m.1, m.2)

  pub made-few : (last most : ℕ) (x x' : X) (n : ℕ) → last ≤ (seen x).machine.cycle + most → HasMade last x x' n → n ≤ most
  made-few last most x x' n order m =
      let later : (seen x).machine.cycle + n ≤ (seen x').machine.cycle =
      subst (λ (s : Seen). (seen x).machine.cycle + n ≤ s.machine.cycle) (sym m.0.moved) (later-by n (seen x)) in
      omega (arith, later, m.0.within, order)

  pub made-one : (limit : ℕ) (x x' : X) → (run.Rests (ends x) limit (seen x) → ⊥) → (seen x' ≡ moved (seen x)) × (ends x' ≡ ends x) × leads 1 x x'
      → HasMade limit x x' 1
  made-one limit x x' goes m = (
    record {
      moved = m.0;
      goes_on = λ k some below. absurd (omega (arith, some, below));
      apart = λ k some below. absurd (omega (arith, some, below));
      within = by_test (cases_lt limit ((seen x).machine.cycle + length_of (seen x).rom (seen x).machine));
    },
    m.1,
    m.2,
  )
    where
      by_test : (limit < (seen x).machine.cycle + length_of (seen x).rom (seen x).machine)
          ⊎ ((seen x).machine.cycle + length_of (seen x).rom (seen x).machine ≤ limit) → (seen x').machine.cycle ≤ limit
      by_test (inl over) = absurd (goes (inr over))
      by_test (inr within) =
          let s = seen x in
          let cycle = cycle-move s.rom (held_by s) s.machine in
          subst (λ (t : Seen). t.machine.cycle ≤ limit) (sym m.0) (omega (arith, cycle, within))

  -- a board that rests up to a limit rests up to an earlier one
  pub rests-sooner : (limit last : ℕ) (x : X) → last ≤ limit → run.Rests (ends x) limit (seen x) → run.Rests (ends x) last (seen x)
  rests-sooner limit last x order (inl stop) = inl stop
  rests-sooner limit last x order (inr over) = inr (omega (arith, order, over))

  module _ (on : (j k : ℕ) (a b c : X) → leads j a b → leads k b c → leads (j + k) a c) (limit : ℕ) (old x x' : X) (moves : ℕ)
      (g : Gone limit old x moves) where
    rests_too : (s : Seen) → run.Rests (ends old) limit s → run.Rests (ends x) limit s
    rests_too s (inl stop) = inl (ap (λ f. f s.machine) g.same ∙ stop)
    rests_too s (inr over) = inr over

    pub rests-here : run.Rests (ends x) limit (seen x) → Rests limit (at_move old moves x)
    rests-here (inl stop) = inl (sym (ap (λ f. f (seen x).machine) g.same) ∙ stop)
    rests-here (inr over) = inr over

    module _ (n : ℕ) (m : MovesBy limit n x x') where
      goes_on : (k : ℕ) → k < n → Rests limit (next_by k (at_move old moves x)) → ⊥
      goes_on k l rests = m.goes k l (rests_too (moved_by k (seen x)) rests)

      is_next : at_move old (moves + n) x' ≡ next_by n (at_move old moves x)
      is_next = ap (λ s. record { run = run_of old; made = moves + n; board = s }) m.moved

      -- on the way of them
      pub going-on : (k : ℕ) → k ≤ n → Going limit (run_of old) (next_by k (at_move old moves x))
      going-on k few = going-by limit (run_of old) (at_move old moves x) g.going k (λ j l. goes_on j (omega (arith, l, few)))

      pub gone-next : Gone limit old x' (moves + n)
      gone-next = record {
        going = subst (Going limit (run_of old)) (sym is_next) (going-on n (omega arith));
        same = m.same ∙ g.same;
        moved = inr (omega (arith, m.some), by_case g.moved);
      }
        where
          by_case : HasMoved leads moves old x → leads (moves + n) old x'
          by_case (inl none) =
              let all : n ≡ moves + n = omega (arith, none.0) in
              subst (λ k. leads k old x') all (subst (λ y. leads n y x') none.1 m.led)
          by_case (inr more) = on moves n old x x' more.1 m.led

      pub within-next : (seen x').machine.cycle ≤ limit
      within-next =
          subst (λ (s : Seen). s.machine.cycle ≤ limit) (sym m.moved)
          (within-by limit (run_of old) (at_move old moves x) g.going n m.some goes_on)

      pub gone-smaller : limit - (seen x').machine.cycle < limit - (seen x).machine.cycle
      gone-smaller =
          let later : (seen x).machine.cycle + n ≤ (seen x').machine.cycle =
          subst (λ (s : Seen). (seen x).machine.cycle + n ≤ s.machine.cycle) (sym m.moved) (later-by n (seen x)) in
          omega (arith, later, within-next, m.some)

-- ---- looking for a state

-- no byte has changed since now
pub unchanged : (address count : ℕ) (bytes : ℕ → ℕ) → has_changed address count bytes bytes ≡ false
unchanged address count bytes = ap not ((bytes_eq-Decides (stretch bytes address count) (stretch bytes address count)).1 refl)

-- where the next opcode isn't at an address, or no instruction comes next
starts-apart : (address : ℕ) (b : Machine) → (StartsInstruction b → is_at address b.latch (at b.regs b.regs.p) ≡ true → ⊥) → starts_at address b ≡ false
starts-apart address b apart = by_case (case_of b) refl
  where
    by_case : (k : Case) → case_of b ≡ k → starts_in k address b ≡ false
    by_case Dma is = refl
    by_case Interrupt is = refl
    by_case Idle is = refl
    by_case Instruction is = by_test (is_at address b.latch (at b.regs b.regs.p)) refl
      where
        by_test : (t : Bool) → is_at address b.latch (at b.regs b.regs.p) ≡ t → t ≡ false
        by_test false e = refl
        by_test true e = absurd (apart is e)

-- the first number of a range that passes a test, or none
module _ (test : ℕ → Bool) where
  find_none : (a n : ℕ) → ((k : ℕ) → a ≤ k → k < a + n → test k ≡ false) → find test (range_with_len a n) ≡ None
  find_none a zero fails = refl
  find_none a (suc n) fails = rw (fails a (omega arith) (omega arith)) (find_none (a + 1) n (λ k from to. fails k (omega (arith, from)) (omega (arith, to))))

  find_first : (a n k : ℕ) → a ≤ k → k < a + n → ((j : ℕ) → a ≤ j → j < k → test j ≡ false) → test k ≡ true → find test (range_with_len a n) ≡ Some k
  find_first a zero k from to fails passes = absurd (omega (arith, from, to))
  find_first a (suc n) k from to fails passes =
      by_case (λ below. find_first (a + 1) n k (omega (arith, below)) (omega (arith, to)) (λ j at before. fails j (omega (arith, at)) before) passes)
      (cases_lt a k)
    where
      by_case : (a < k → find test (range_with_len (a + 1) n) ≡ Some k) → (a < k) ⊎ (k ≤ a) → find test (range_with_len a (suc n)) ≡ Some k
      by_case further (inl below) = rw (fails a (omega arith) below) (further below)
      by_case further (inr above) =
          let same : k ≡ a = omega (arith, above, from) in
          let here : test a ≡ true = ap test (sym same) ∙ passes in
          rw here (ap Some (sym same))

-- the one that is found lies in the range
pub find-within : (test : ℕ → Bool) (a n k : ℕ) → find test (range_with_len a n) ≡ Some k → (a ≤ k) × (k < a + n)
find-within test a zero k is = cc
find-within test a (suc n) k is = by_test (test a) refl is (find-within test (a + 1) n k)
  where
    by_test : (t : Bool) → test a ≡ t → (if t then Some a else find test (range_with_len (a + 1) n)) ≡ Some k
        → (find test (range_with_len (a + 1) n) ≡ Some k → (a + 1 ≤ k) × (k < a + 1 + n)) → (a ≤ k) × (k < a + suc n)
    by_test true h e further = let same : a ≡ k = cc in (omega (arith, same), omega (arith, same))
    by_test false h e further = let w = further e in (omega (arith, w.0), omega (arith, w.1))

module _ {X : Type 0} (seen : X → Seen) (ends : X → Machine → Bool) (leads : ℕ → X → X → Type 0) where
  -- none of the states that the board came by passes a test
  pub record Seeking (limit : ℕ) (test : ℕ → Bool) (old x : X) : Type 0 where
    pub moves : ℕ
    pub gone : Gone seen ends leads limit old x moves
    pub here : (seen x).machine.cycle ≤ limit
    pub fails : (k : ℕ) → 1 ≤ k → k ≤ moves → test k ≡ false

  pub seeking-first : (limit : ℕ) (test : ℕ → Bool) (old : X) → (seen old).phase ≡ Boundary → (seen old).machine.cycle ≤ limit → Seeking limit test old old
  seeking-first limit test old phase within =
      record { moves = 0; gone = gone-first seen ends leads limit old phase; here = within; fails = λ k from to. absurd (omega (arith, from, to)) }

  -- a byte that is looked for hasn't changed yet
  abbrev bytes_of : X → ℕ → ℕ → ℕ
  bytes_of old = bytes_at (run_of seen ends leads old)

  pub same-now : (limit address count : ℕ) (old x : X)
      (s : Seeking limit (λ k. has_changed address count (bytes_of old 0) (bytes_of old k)) old x)
      → has_changed address count (bytes_of old 0) (bytes_of old s.moves) ≡ false
  same-now limit address count old x s = by_count (cases_lt 0 s.moves)
    where
      by_count : (0 < s.moves) ⊎ (s.moves ≤ 0) → has_changed address count (bytes_of old 0) (bytes_of old s.moves) ≡ false
      by_count (inl some) = s.fails s.moves (omega (arith, some)) (omega arith)
      by_count (inr few) =
          let none : s.moves ≡ 0 = omega (arith, few) in
          ap (λ k. has_changed address count (bytes_of old 0) (bytes_of old k)) none ∙ unchanged address count (bytes_of old 0)

  module _ (on : (j k : ℕ) (a b c : X) → leads j a b → leads k b c → leads (j + k) a c) (limit : ℕ) (test : ℕ → Bool) (old x x' : X)
      (s : Seeking limit test old x) where
    abbrev r : Run
    r = run_of seen ends leads old

    module _ (n : ℕ) (m : MovesBy seen ends leads limit n x x') where
      pub gone-on : Gone seen ends leads limit old x' (s.moves + n)
      gone-on = gone-next seen ends leads on limit old x x' s.moves s.gone n m

      here_next : (seen x').machine.cycle ≤ limit
      here_next = within-next seen ends leads on limit old x x' s.moves s.gone n m

      -- the states on the way
      pub state-between : (k : ℕ) → k ≤ n → (moved_by k (seen x)).machine ≡ state_of r (s.moves + k)
      state-between k few = (going-on seen ends leads on limit old x x' s.moves s.gone n m k few).stands.machine

      -- none of them starts at an address before which moves end
      pub starts-between : (address : ℕ)
          → ((k : ℕ) → 0 < k → k < n → let b = (moved_by k (seen x)).machine in StartsInstruction b → is_at address b.latch (at b.regs b.regs.p) ≡ true → ⊥)
          → (k : ℕ) → 0 < k → k < n → starts_at address (state_of r (s.moves + k)) ≡ false
      starts-between address apart k some below =
          ap (starts_at address) (sym (state-between k (omega (arith, below)))) ∙ starts-apart address (moved_by k (seen x)).machine (apart k some below)

      -- nor does a byte change that is watched, where none of the moves can change one
      module _ (address count : ℕ)
          (apart : (k : ℕ) → k < n → let u = moved_by k (seen x) in StartsInstruction u.machine
          → may_change (record { address = address; count = count }) u.machine.regs (contents_of u) ≡ true → ⊥) where
        stretch_at : (k : ℕ) → k ≤ n
            → stretch (byte_of (moved_by k (seen x)).rom (moved_by k (seen x)).machine) address count ≡ stretch (bytes_at r (s.moves + k)) address count
        stretch_at k few =
            ap₂ (λ rom b. stretch (byte_of rom b) address count) (going-on seen ends leads on limit old x x' s.moves s.gone n m k few).stands.rom
            (state-between k few)

        pub stretch-between : (k : ℕ) → k ≤ n → stretch (bytes_at r (s.moves + k)) address count ≡ stretch (bytes_at r s.moves) address count
        stretch-between zero few = let none : s.moves + 0 ≡ s.moves = omega arith in ap (λ j. stretch (bytes_at r j) address count) none
        stretch-between (suc k) few =
            let u = moved_by k (seen x) in
            sym (stretch_at (suc k) few)
            ∙ stretch-stays u.rom (held_by u) address count u.machine (apart k (omega (arith, few)))
            ∙ stretch_at k (omega (arith, few))
            ∙ stretch-between k (omega (arith, few))

        pub same-between : (k : ℕ) → k ≤ n → has_changed address count (bytes_at r 0) (bytes_at r s.moves) ≡ false
            → has_changed address count (bytes_at r 0) (bytes_at r (s.moves + k)) ≡ false
        same-between k few same = ap (λ bytes. not (bytes_eq (stretch (bytes_at r 0) address count) bytes)) (stretch-between k few) ∙ same

      -- none of the states before the last passes either
      module _ (between : (k : ℕ) → 0 < k → k < n → test (s.moves + k) ≡ false) where
        fails_on : (k : ℕ) → 1 ≤ k → k < s.moves + n → test k ≡ false
        fails_on k from to = by_case (cases_lt s.moves k)
          where
            by_case : (s.moves < k) ⊎ (k ≤ s.moves) → test k ≡ false
            by_case (inr below) = s.fails k from below
            by_case (inl above) =
                let same : s.moves + (k - s.moves) ≡ k = omega (arith, above) in
                ap test (sym same) ∙ between (k - s.moves) (omega (arith, above)) (omega (arith, above, to))

        pub seeking-next : test (s.moves + n) ≡ false → Seeking limit test old x'
        seeking-next misses =
            record { moves = s.moves + n; gone = gone-on; here = here_next; fails = λ k from to. by_case k from to (cases_lt k (s.moves + n)) }
          where
            by_case : (k : ℕ) → 1 ≤ k → k ≤ s.moves + n → (k < s.moves + n) ⊎ (s.moves + n ≤ k) → test k ≡ false
            by_case k from to (inl below) = fails_on k from below
            by_case k from to (inr above) = let same : k ≡ s.moves + n = omega (arith, above, to) in ap test same ∙ misses

        is_first : test (s.moves + n) ≡ true → find test (ahead r limit) ≡ Some (s.moves + n)
        unfolding ahead
        is_first passes =
            find_first test 1 (moves_until r limit) (s.moves + n) (omega (arith, m.some))
            (omega (arith, made-within limit r (at_move seen ends leads old (s.moves + n) x') gone-on.going here_next))
            fails_on
            passes

        -- the board came to the first state ahead that passes
        pub finds : test (s.moves + n) ≡ true → Arrives limit r (found_or_last r limit (find test (ahead r limit))) (seen x') true
        finds passes =
            rw (is_first passes)
            (arrives limit r (at_move seen ends leads old (s.moves + n) x') gone-on.going limit (record { moves = s.moves + n; completed = true }) true refl refl
            here_next)

        pub finds-moved : test (s.moves + n) ≡ true → HasMoved leads (found_or_last r limit (find test (ahead r limit))).moves old x'
        finds-moved passes = rw (is_first passes) gone-on.moved

        pub finds-at : test (s.moves + n) ≡ true → (found_or_last r limit (find test (ahead r limit))).moves ≡ s.moves + n
        finds-at passes = ap (λ k. (found_or_last r limit k).moves) (is_first passes)

    is_none : run.Rests (ends x) limit (seen x) → find test (ahead r limit) ≡ None
    unfolding ahead
    is_none rests =
        let all : s.moves ≡ moves_until r limit = made-here limit r (at_move seen ends leads old s.moves x) s.gone.going
        (rests-here seen ends leads on limit old x x' s.moves s.gone rests) in
        find_none test 1 (moves_until r limit) (λ k from to. s.fails k from (omega (arith, to, all)))

    all_made : run.Rests (ends x) limit (seen x) → s.moves ≡ moves_until r limit
    all_made rests = made-here limit r (at_move seen ends leads old s.moves x) s.gone.going (rests-here seen ends leads on limit old x x' s.moves s.gone rests)

    -- there is none, and all moves up to the limit are made
    pub finds-none : x' ≡ x → run.Rests (ends x) limit (seen x) → Arrives limit r (found_or_last r limit (find test (ahead r limit))) (seen x') false
    finds-none kept rests =
        subst (λ y. Arrives limit r (found_or_last r limit (find test (ahead r limit))) (seen y) false) (sym kept)
        (rw (is_none rests)
        (arrives limit r (at_move seen ends leads old s.moves x) s.gone.going limit (record { moves = moves_until r limit; completed = false }) false
        (all_made rests) refl s.here))

    pub none-moved : x' ≡ x → run.Rests (ends x) limit (seen x) → HasMoved leads (found_or_last r limit (find test (ahead r limit))).moves old x'
    none-moved kept rests =
        subst (λ y. HasMoved leads (found_or_last r limit (find test (ahead r limit))).moves old y) (sym kept)
        (rw (is_none rests) (subst (λ n. HasMoved leads n old x) (all_made rests) s.gone.moved))

-- ---- what is looked for, by the board

module _ (r : Run) (p : Progress) (s : Stands p) (run : p.run ≡ r) (b : Seen) (is : b ≡ p.board) where
  pub starts-here : (address : ℕ) → starts_at address b.machine ≡ starts_at address (state_of r p.made)
  starts-here address =
      ap (λ (x : Seen). starts_at address x.machine) is
      ∙ ap (starts_at address) s.machine
      ∙ ap (λ x. starts_at address (state_of x p.made)) run

  pub stretch-here : (address count : ℕ) (m : Contents) → m ≡ contents_of b → stretch (reads m) address count ≡ stretch (bytes_at r p.made) address count
  stretch-here address count m mem =
      ap (λ x. stretch (reads x) address count) mem
      ∙ ap (λ x. stretch (reads (contents_of x)) address count) is
      ∙ ap (λ rom. stretch (byte_of rom p.board.machine) address count) s.rom
      ∙ ap (λ machine. stretch (byte_of p.run.rom machine) address count) s.machine
      ∙ ap (λ x. stretch (bytes_at x p.made) address count) run

  pub line-here : (told : Option Origins)
      → line_of b.rom (held_by b) (b.machine ∷ []) ++ move_end told b.rom b.machine ≡ move_line told r (state_of r p.made)
  line-here told =
      ap (λ (x : Seen). line_of x.rom (held_by x) (x.machine ∷ []) ++ move_end told x.rom x.machine) is
      ∙ ap (λ rom. line_of rom (held_by p.board) (p.board.machine ∷ []) ++ move_end told rom p.board.machine) s.rom
      ∙ ap (λ (script : List Event). line_of p.run.rom (held_at script) (p.board.machine ∷ []) ++ move_end told p.run.rom p.board.machine) s.script
      ∙ ap (λ machine. line_of p.run.rom (held_at p.run.script) (machine ∷ []) ++ move_end told p.run.rom machine) s.machine
      ∙ ap (λ x. move_line told x (state_of x p.made)) run

  pub place-here : place_in (case_of b.machine) b.machine ≡ place_in (case_of (state_of r p.made)) (state_of r p.made)
  place-here =
      ap (λ (x : Seen). place_in (case_of x.machine) x.machine) is
      ∙ ap (λ machine. place_in (case_of machine) machine) s.machine
      ∙ ap (λ x. place_in (case_of (state_of x p.made)) (state_of x p.made)) run

-- ---- so many moves

module _ {X : Type 0} (seen : X → Seen) (ends : X → Machine → Bool) (leads : ℕ → X → X → Type 0) where
  pub record Stepping (limit : ℕ) (old x : X) (moves : ℕ) : Type 0 where
    pub gone : Gone seen ends leads limit old x moves
    pub here : (seen x).machine.cycle ≤ limit

  module _ (on : (j k : ℕ) (a b c : X) → leads j a b → leads k b c → leads (j + k) a c) (limit : ℕ) (old x x' : X) (moves : ℕ)
      (s : Stepping limit old x moves) where
    abbrev first_run : Run
    first_run = run_of seen ends leads old

    pub stepping-next : (n : ℕ) → MovesBy seen ends leads limit n x x' → Stepping limit old x' (moves + n)
    stepping-next n m =
        record {
          gone = gone-next seen ends leads on limit old x x' moves s.gone n m;
          here = within-next seen ends leads on limit old x x' moves s.gone n m;
        }

    -- it rests before all are made
    module _ (count : ℕ) (few : moves < count) (kept : x' ≡ x) (rests : run.Rests (ends x) limit (seen x)) where
      made_all : moves ≡ moves_until first_run limit
      made_all = made-here limit first_run (at_move seen ends leads old moves x) s.gone.going (rests-here seen ends leads on limit old x x' moves s.gone rests)

      made_count : moves ≡ (after_steps first_run limit count).moves
      made_count = omega (arith, made_all, few)

      pub steps-few : Arrives limit first_run (after_steps first_run limit count) (seen x') false
      steps-few =
          subst (λ y. Arrives limit first_run (after_steps first_run limit count) (seen y) false) (sym kept)
          (arrives limit first_run (at_move seen ends leads old moves x) s.gone.going limit (after_steps first_run limit count) false made_count
          (sym (lt-leb count (moves_until first_run limit) (omega (arith, made_all, few)))) s.here)

      pub few-moved : HasMoved leads (after_steps first_run limit count).moves old x'
      few-moved =
          subst (λ y. HasMoved leads (after_steps first_run limit count).moves old y) (sym kept) (subst (λ n. HasMoved leads n old x) made_count s.gone.moved)

    -- all are made
    module _ (count : ℕ) (all : moves ≡ count) where
      most : moves ≤ moves_until first_run limit
      most = made-within limit first_run (at_move seen ends leads old moves x) s.gone.going s.here

      made_them : moves ≡ (after_steps first_run limit count).moves
      made_them = omega (arith, most, all)

      pub steps-all : Arrives limit first_run (after_steps first_run limit count) (seen x) true
      steps-all =
          arrives limit first_run (at_move seen ends leads old moves x) s.gone.going limit (after_steps first_run limit count) true made_them
          (sym (le-leb count (moves_until first_run limit) (omega (arith, most, all)))) s.here

      pub all-moved : HasMoved leads (after_steps first_run limit count).moves old x
      all-moved = subst (λ n. HasMoved leads n old x) made_them s.gone.moved

  -- ---- the moves up to a cycle, which is at most the limit

  pub record Until (limit last : ℕ) (old x : X) : Type 0 where
    pub moves : ℕ
    pub gone : Gone seen ends leads last old x moves
    pub here : (seen x).machine.cycle ≤ limit

  pub until-first : (limit last : ℕ) (old : X) → (seen old).phase ≡ Boundary → (seen old).machine.cycle ≤ limit → Until limit last old old
  until-first limit last old phase within = record { moves = 0; gone = gone-first seen ends leads last old phase; here = within }

  module _ (on : (j k : ℕ) (a b c : X) → leads j a b → leads k b c → leads (j + k) a c) (limit cycle : ℕ) (old x x' : X)
      (s : Until limit (min cycle limit) old x) where
    abbrev whole : Run
    whole = run_of seen ends leads old

    abbrev last : ℕ
    last = min cycle limit

    module _ (n : ℕ) (m : MovesBy seen ends leads last n x x') where
      pub until-next : Until limit last old x'
      until-next =
          let here : (seen x').machine.cycle ≤ last = within-next seen ends leads on last old x x' s.moves s.gone n m in
          record { moves = s.moves + n; gone = gone-next seen ends leads on last old x x' s.moves s.gone n m; here = omega (arith, here) }

      pub until-smaller : last - (seen x').machine.cycle < last - (seen x).machine.cycle
      until-smaller = gone-smaller seen ends leads on last old x x' s.moves s.gone n m

    module _ (kept : x' ≡ x) (rests : run.Rests (ends x) last (seen x)) where
      made_until : s.moves ≡ moves_until whole last
      made_until = made-here last whole (at_move seen ends leads old s.moves x) s.gone.going (rests-here seen ends leads on last old x x' s.moves s.gone rests)

      pub until-arrives : Arrives limit whole (at_cycle whole limit cycle) (seen x') (nat_le cycle limit)
      until-arrives =
          subst (λ y. Arrives limit whole (at_cycle whole limit cycle) (seen y) (nat_le cycle limit)) (sym kept)
          (arrives last whole (at_move seen ends leads old s.moves x) s.gone.going limit (at_cycle whole limit cycle) (nat_le cycle limit) made_until refl
          s.here)

      pub until-moved : HasMoved leads (at_cycle whole limit cycle).moves old x'
      until-moved =
          subst (λ y. HasMoved leads (at_cycle whole limit cycle).moves old y) (sym kept) (subst (λ n. HasMoved leads n old x) made_until s.gone.moved)

-- ---- what a completed command writes

module _ (r : Run) (limit : ℕ) (came : Came) (s : Seen) (answer : Bool) (a : Arrives limit r came s answer) where
  pub lines-completed : (source : Option Origins) (running : Running) (b : Seen) (change : Change) → b ≡ s → IsShown source running r came.moves change
      → lines_by running b change ≡ completed_lines source r running came.moves
  lines-completed source (Watch address count) b change is told =
      ap (λ line. line ∷ rows address change.before.items ++ rows address change.after.items) told.line
      ∙ ap (λ bytes. move_line source r (state_of r (came.moves - 1)) ∷ rows address bytes ++ rows address change.after.items) told.before
      ∙ ap (λ bytes. move_line source r (state_of r (came.moves - 1)) ∷ mem_lines (bytes_at r 0) address count ++ rows address bytes)
      told.after
  lines-completed source _ b change is told =
      ap (λ (x : Seen). (cycle_text x.machine ++ newline) ∷ []) is ∙ ap (λ machine. (cycle_text machine ++ newline) ∷ []) a.machine

-- and the labels at the instruction that changed a byte
pub labels-completed : (origins : Origins) (rom : List ℕ) (script : List Event) (limit : ℕ) (running : Running) (b : Machine) (change : Change)
    → IsShown (Some origins) running (run_on rom script limit b) (comes rom script limit running b).moves change
    → labels_by origins running change ≡ changing rom script limit origins running b
labels-completed origins rom script limit (Watch address count) b change told = ap (λ place. option_map_or (labels_over origins) place []) told.place
labels-completed origins rom script limit _ b change told = refl

pub fits : (source : Option Origins) (running : Running) (r : Run) (k : ℕ) (change : Change) → IsShown source running r k change → Fits running change
fits source (Watch address count) r k change told = (
  subst (λ bytes. length bytes ≤ 0x10000 - address) (sym told.before) (stretch-short (bytes_at r 0) address count),
  subst (λ bytes. length bytes ≤ 0x10000 - address) (sym told.after) (stretch-short (bytes_at r k) address count),
)
fits source _ r k change told = tt
