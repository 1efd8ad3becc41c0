-- The rows of a ROM are kept by main moves and by ticks, where each block comes to what it should.
use Rattle.std.proofs.Common.{Option, Some, slice_index, ◌≡◌, ℕ, zero, suc, ◌+◌, ◌<◌, ◌≤◌, ◌⊎◌, inl, inr, refl, sym, ◌∙◌, ap, subst, arith, Bool, true, false, T, not, List, [], ◌∷◌, ◌++◌, length}
use Rattle.std.proofs.lemmas.Bool.{cases_eq}
use Rattle.machine.specs.Bank.{value}
use Rattle.machine.specs.Opcodes.{cycles_of}
use Rattle.machine.specs.Instruction.{Inputs, at, stepped, executed}
use Rattle.machine.specs.Board.{Machine, opcode_of}
use Rattle.machine.specs.Keys.{Keys}
use Rattle.machine.specs.Schedule.{Tick}
use Rattle.machine.specs.Ranges.{FitsMachine, FitsRom}
use Rattle.chip8_lang.specs.State.{Lang}
use Rattle.chip8_lang.specs.Ticks.{ticks}
use Rattle.rom_law.specs.Code.{Code, Input, moved, run, is_event}
use Rattle.rom_law.specs.Later.{After}
use Rattle.rom_law.proofs.Moves.{AllGood, Below, Calm, Fine, opcode_in, rom_inputs, quicks, Reaches, reaches_good, reaches_run, reaches_quicks, quicks_are, quicks_idle, quicks_clear, quicks_full, quicks_on, quicks_enabled, quicks_entry, quicks_above, after_quick, after_counter, after_cycles}
use Rattle.machine.proofs.Fits.{main-fits}
use Rattle.rom_law.proofs.Ranges.{tick_fits}
use Rattle.rom_law.proofs.Ticks.{after_none}
use Rattle.rom_law.proofs.Ticks.{after_tick as later_tick}
use Rattle.rom_law.specs.Program.{Program, code, Dispatches, Halts}
use Rattle.rom_law.specs.Rows.{Since, Grows, Ready, Pieces, InBlock, Row, Starts, Ends, Outcome, dispatched, after_main, after_tick, after_ticks}
use Rattle.rom_law.specs.Rows.Ends.{Continues, Steps, Fails}
use Rattle.rom_law.specs.Rows.Row.{Inside, Alone}
use Rattle.rom_law.specs.Rows.Starts.{Enters, Meets}
use Rattle.rom_law.specs.Rows.Outcome.{Still, Dispatched, Halted}
use Rattle.rom_law.proofs.Language.{ticks_add, counted_as, between_ticks, between_ticks_key, told_ticks}
use Rattle.rom_law.proofs.Later.{dispatches_after, halts_after}
use Rattle.rom_law.proofs.Writes.{writes_below}

-- ---- the first of several moves

none : (k : ℕ) → k ≤ 0 → 0 ≡ k
none k l = omega arith

module _ (x : Code) (top : Option ℕ) where
  -- the first k of m moves
  prefix : (k m : ℕ) (b : Machine) → k ≤ m → AllGood x top m b → AllGood x top k b
  prefix k zero b l g = subst (λ z. AllGood x top z b) (none k l) tt
  prefix k (suc m) b l g = go (cases_eq k (suc m)) (λ e. prefix k m b e g.0)
    where
      go : (k ≡ suc m) ⊎ (k ≡ suc m → ⊥) → (k ≤ m → AllGood x top k b) → AllGood x top k b
      go (inl e) f = subst (λ z. AllGood x top z b) (sym e) g
      go (inr e) f = f (omega arith)

  pub at_move : (k m : ℕ) (b : Machine) → k < m → AllGood x top m b → Fine x (quicks x k b)
  at_move k m b l g = (prefix (suc k) m b l g).1.0

  -- what it writes lies below the top
  below_move : (k m : ℕ) (b : Machine) → k < m → AllGood x top m b
      → Below top (executed (opcode_in x (quicks x k b)) (stepped (quicks x k b).regs (quicks x k b).regs.p)
      (rom_inputs x (quicks x k b) (λ f. false))).write
  below_move k m b l g = (prefix (suc k) m b l g).2

  -- no event between
  calm_in : (k m : ℕ) (b : Machine) → suc k < m → AllGood x top m b → Calm x (quicks x (suc k) b)
  calm_in k m b l g = (prefix (suc (suc k)) m b l g).1.1

  run_is : (k m : ℕ) (b : Machine) → k ≤ m → AllGood x top m b → quicks x k b ≡ run x k b
  run_is k m b l g = quicks_are x top k b (prefix k m b l g)

  -- a main move of a state after n ticks of the k-th state is one of the next
  moved_in : (u : Input) (k m n : ℕ) (start b : Machine) → start.latch ≡ false → length start.ram ≡ 4096 → AllGood x top m start → k < m
      → After x.low n (run x k start) b → After x.low n (run x (suc k) start) (moved x u b)
  moved_in u k m n start b clear full g l h =
      subst (λ z. After x.low n z (moved x u b)) (run_is (suc k) m start l g)
      (after_quick x u n (quicks x k start) b (at_move k m start l g) (quicks_clear x k start clear) (quicks_full x k start full)
      (subst (λ z. After x.low n z b) (sym (run_is k m start (omega arith) g)) h))

module _ (x : Code) where
  run_fits : FitsRom x.rom → (k : ℕ) (b : Machine) → FitsMachine b → FitsMachine (run x k b)
  run_fits r zero b f = f
  run_fits r (suc k) b f = main-fits x.rom r false (λ k. false) (run x k b) (run_fits r k b f)

quiet : (t : Bool) → T (not t) → t ≡ false
quiet true h = absurd h
quiet false h = refl

-- ---- what the pieces of a ROM come to

-- At the head of a block main code runs; after its instructions, through which ticks may pass, it comes to a machine at which, with
-- whatever keys the moves had, there is a next piece, a dispatch or a stop.
pub record RunsBlock (x : Program) (t : Pieces) (l : t.Block) (b : Machine) (h : Since) : Type 0 where
  pub runs : Ready x b
  pub awake : b.regs.idle ≡ false
  pub some : 0 < t.moves l h
  pub end : Machine
  pub reaches : Reaches (code x) t.top (t.moves l h) b end
  pub ends : (h' : Since) → Grows h (t.moves l h) 0 h' → Ends x t end h'

-- At a place main code runs or waits. Where it runs, a main move of two cycles comes to a next piece, a dispatch or a stop, and what is
-- known there outlasts ticks; where it waits, a tick comes to a next piece.
pub record RunsPlace (x : Program) (t : Pieces) (l : t.Place) (b : Machine) (h : Since) : Type 0 where
  pub runs : Ready x b
  pub moves : b.regs.idle ≡ false → (u : Input) → Ends x t (moved (code x) u b) (after_main u h)
  pub cycles : b.regs.idle ≡ false → cycles_of (opcode_of x.interpreter.rom b) ≡ 2
  pub later : b.regs.idle ≡ false → (n : ℕ) (c : Machine) → After (code x).low n b c → t.At l c (after_ticks n h)
  pub wakes : b.regs.idle ≡ true → (c : Machine) → Tick (code x).low b c → Starts t c (after_tick h)

-- the proof of a ROM: at a dispatch a piece begins, and each piece comes to what it should
pub record Proved (x : Program) (t : Pieces) : Type 0 where
  pub fetch : (cycle : ℕ) (b : Machine) (s : Lang) → FitsMachine b → Dispatches x b s → Starts t b (dispatched cycle s)
  pub rom : FitsRom x.interpreter.rom
  pub blocks : (l : t.Block) (b : Machine) (h : Since) → FitsMachine b → t.Head l b h → RunsBlock x t l b h
  pub places : (l : t.Place) (b : Machine) (h : Since) → FitsMachine b → t.At l b h → RunsPlace x t l b h

-- What lets one group of pieces be proved apart from the others: the bytes of the ROM are in range, each block has an instruction, and
-- what is known at a place where main code runs outlasts ticks.
pub record Sound (x : Program) (t : Pieces) : Type 0 where
  pub rom : FitsRom x.interpreter.rom
  pub some : (l : t.Block) (b : Machine) (h : Since) → FitsMachine b → t.Head l b h → 0 < t.moves l h
  pub later : (l : t.Place) (b : Machine) (h : Since) → FitsMachine b → t.At l b h → b.regs.idle ≡ false → (n : ℕ) (c : Machine)
      → After (code x).low n b c → t.At l c (after_ticks n h)

pub sound_of : (x : Program) (t : Pieces) → Proved x t → Sound x t
sound_of x t p = record { rom = p.rom; some = λ l b h f head. (p.blocks l b h f head).some; later = λ l b h f at. (p.places l b h f at).later }

-- ---- records of what came

append_none : (l : List Keys) → l ≡ l ++ []
append_none [] = refl
append_none (k ∷ l) = ap (λ m. k ∷ m) (append_none l)

append_more : (l m : List Keys) (k : Keys) → (l ++ m) ++ k ∷ [] ≡ l ++ (m ++ k ∷ [])
append_more [] m k = refl
append_more (j ∷ l) m k = ap (λ z. j ∷ z) (append_more l m k)

length_more : (m : List Keys) (k : Keys) → length (m ++ k ∷ []) ≡ suc (length m)
length_more [] k = refl
length_more (j ∷ m) k = ap suc (length_more m k)

pub grows_none : (h : Since) → Grows h 0 0 h
grows_none h = record { from = refl; state = refl; ticks = omega arith; spent = omega arith; more = []; keys = append_none h.keys; count = refl; moments = λ m a. a }

grows_main : (h : Since) (k n : ℕ) (h' : Since) (u : Input) → Grows h k n h' → Grows h (suc k) n (after_main u h')
grows_main h k n h' u g =
    record {
      from = g.from;
      state = g.state;
      ticks = g.ticks;
      spent = omega (arith, g.spent);
      more = g.more ++ u.held ∷ [];
      keys = ap (λ l. l ++ u.held ∷ []) g.keys ∙ append_more h.keys g.more u.held;
      count = length_more g.more u.held ∙ ap suc g.count;
      moments = λ m a. inr (g.moments m a);
    }

grows_tick : (h : Since) (k n : ℕ) (h' : Since) → Grows h k n h' → Grows h k (suc n) (after_tick h')
grows_tick h k n h' g =
    record { from = g.from; state = g.state; ticks = omega (arith, g.ticks); spent = g.spent; more = g.more; keys = g.keys; count = g.count; moments = g.moments }

-- the record before the n ticks
abbrev unticked : Since → Since → Since
unticked h h' = record h' { ticks = h.ticks }

grows_back : (h : Since) (k n : ℕ) (h' : Since) → Grows h k n h' → Grows h k 0 (unticked h h')
grows_back h k n h' g = record { from = g.from; state = g.state; ticks = omega arith; spent = g.spent; more = g.more; keys = g.keys; count = g.count; moments = g.moments }

grows_on : (h : Since) (k n : ℕ) (h' : Since) → Grows h k n h' → Grows (unticked h h') 0 n h'
grows_on h k n h' g = record { from = refl; state = refl; ticks = g.ticks; spent = omega arith; more = []; keys = append_none h'.keys; count = refl; moments = λ m a. a }

-- ---- the rows are kept

module _ (x : Program) (t : Pieces) (sound : Sound x t) where
  -- a block begins
  begins : (l : t.Block) (b : Machine) (h : Since) → FitsMachine b → t.Head l b h → InBlock x t l b h
  begins l b h f head =
      record {
        start = b;
        since = h;
        k = 0;
        n = 0;
        inside = sound.some l b h f head;
        grows = grows_none h;
        fits = f;
        head = head;
        after = after_none (code x).low b;
      }

  -- a piece begins
  pub starts_row : (b : Machine) (h : Since) → FitsMachine b → Starts t b h → Row x t b h
  starts_row b h f (Enters l head) = Inside l (begins l b h f head)
  starts_row b h f (Meets l at) = Alone l at

  -- the same, n ticks later
  starts_later : (c b : Machine) (h : Since) (k n : ℕ) (h' : Since) → Grows h k n h' → FitsMachine c → c.regs.idle ≡ false → After (code x).low n c b
      → Starts t c (unticked h h') → Row x t b h'
  starts_later c b h k n h' g f i a (Enters l head) =
      Inside l
      (record {
        start = c;
        since = unticked h h';
        k = 0;
        n = n;
        inside = sound.some l c (unticked h h') f head;
        grows = grows_on h k n h' g;
        fits = f;
        head = head;
        after = a;
      })
  starts_later c b h k n h' g f i a (Meets l at) =
      Alone l (subst (λ m. t.At l b (record h' { ticks = m })) (sym g.ticks) (sound.later l c (unticked h h') f at i n b a))

  -- the end of a block, with n ticks since
  ended : (c b : Machine) (h : Since) (k n : ℕ) (h' : Since) → Grows h k n h' → FitsMachine c → c.regs.idle ≡ false → After (code x).low n c b
      → Ends x t c (unticked h h') → Outcome x t b h'
  ended c b h k n h' g f i a (Continues calm s) = Still (ap (is_event (code x)) a.is ∙ calm) (starts_later c b h k n h' g f i a s)
  ended c b h k n h' g f i a (Steps s st makes) =
      Dispatched (ticks n s)
      (record {
        runs = st.runs;
        between = counted_as g.ticks (between_ticks n x.edition h'.state h.ticks h'.keys s st.between);
        time =
            λ k t. st.time k (ap (x.takes h'.state) (sym (between_ticks_key n x.edition h'.state h.ticks h'.keys s st.between)) ∙ t);
        told = told_ticks n x.edition h'.state h.ticks h'.keys s st.between h'.moments h'.spent st.told;
        stands = dispatches_after x n c b a f s st.stands;
      })
      makes
  ended c b h k n h' g f i a (Fails stop st) =
      Halted stop
      (record {
        fits = st.fits;
        time = st.time;
        halts =
            subst (λ z. Halts x b z stop) (ticks_add n h.ticks h'.state ∙ ap (λ m. ticks m h'.state) (sym g.ticks))
            (halts_after x n c b a f (ticks h.ticks h'.state) stop st.halts);
      })

  module _ {l : t.Block} {b : Machine} {h : Since} (r : InBlock x t l b h) (comes : RunsBlock x t l r.start r.since) where
    pub good : AllGood (code x) t.top (t.moves l r.since) r.start
    good = reaches_good (code x) t.top (t.moves l r.since) r.start comes.end comes.reaches

    is_quicks : quicks (code x) r.k r.start ≡ run (code x) r.k r.start
    is_quicks = run_is (code x) t.top r.k (t.moves l r.since) r.start (omega (arith, r.inside)) good

    good_k : AllGood (code x) t.top r.k r.start
    good_k = prefix (code x) t.top r.k (t.moves l r.since) r.start (omega (arith, r.inside)) good

    -- main code runs inside a block
    awake_in : b.regs.idle ≡ false
    awake_in =
        ap (λ (z : Machine). z.regs.idle) r.after.is ∙ sym (ap (λ (z : Machine). z.regs.idle) is_quicks)
        ∙ quicks_idle (code x) t.top r.k r.start good_k ∙ comes.awake

    block_runs : Ready x b
    block_runs =
        record {
          latch = ap (λ (z : Machine). z.latch) r.after.is ∙ sym (ap (λ (z : Machine). z.latch) is_quicks) ∙ quicks_clear (code x) r.k r.start comes.runs.latch;
          enabled =
              ap (λ (z : Machine). z.regs.ie) r.after.is ∙ sym (ap (λ (z : Machine). z.regs.ie) is_quicks)
              ∙ quicks_enabled (code x) t.top r.k r.start good_k ∙ comes.runs.enabled;
          entry =
              ap (λ (z : Machine). z.regs.r.r1) r.after.is ∙ sym (ap (λ (z : Machine). z.regs.r.r1) is_quicks)
              ∙ quicks_entry (code x) t.top r.k r.start good_k ∙ comes.runs.entry;
          on = ap (λ (z : Machine). z.on) r.after.is ∙ sym (ap (λ (z : Machine). z.on) is_quicks) ∙ quicks_on (code x) t.top r.k r.start good_k ∙ comes.runs.on;
        }

    fine : Fine (code x) (quicks (code x) r.k r.start)
    fine = at_move (code x) t.top r.k (t.moves l r.since) r.start r.inside good

    later : After (code x).low r.n (quicks (code x) r.k r.start) b
    later = subst (λ z. After (code x).low r.n z b) (sym is_quicks) r.after

    -- the opcode is that of a two-cycle instruction
    block_cycles : cycles_of (opcode_of x.interpreter.rom b) ≡ 2
    block_cycles = after_cycles (code x) r.n (quicks (code x) r.k r.start) b fine later

    -- where its instruction writes, that lies below the top
    pub block_writes : (top : ℕ) → t.top ≡ Some top → (j : Inputs) (w : ℕ × ℕ)
        → (executed (opcode_of x.interpreter.rom b) (stepped b.regs b.regs.p) j).write ≡ Some w → w.0 < top
    block_writes top is =
        writes_below (code x) r.n (quicks (code x) r.k r.start) b fine later top
        (subst (λ y. Below y (executed (opcode_in (code x) (quicks (code x) r.k r.start))
        (stepped (quicks (code x) r.k r.start).regs (quicks (code x) r.k r.start).regs.p)
        (rom_inputs (code x) (quicks (code x) r.k r.start) (λ f. false))).write) is
        (below_move (code x) t.top r.k (t.moves l r.since) r.start r.inside good))

    -- the address at the program counter
    pub block_at : at b.regs b.regs.p ≡ at (quicks (code x) r.k r.start).regs (quicks (code x) r.k r.start).regs.p
    block_at = ap value (after_counter (code x) r.n (quicks (code x) r.k r.start) b fine later)

    -- R2
    pub block_r2 : b.regs.r.r2 ≡ (quicks (code x) r.k r.start).regs.r.r2
    block_r2 = ap (λ (z : Machine). z.regs.r.r2) r.after.is ∙ sym (ap (λ (z : Machine). z.regs.r.r2) is_quicks)

    -- RAM from the top on, above R2, is as it was at the head of the block
    pub block_above : (top a : ℕ) → t.top ≡ Some top → top ≤ a → value b.regs.r.r2 < a → slice_index b.ram a ≡ slice_index r.start.ram a
    block_above top a is l above =
        r.after.ram a (λ k. subst (λ w. value w < a) (block_r2 ∙ ap (λ (z : Machine). z.regs.r.r2) is_quicks) above)
        ∙ ap (λ (z : Machine). slice_index z.ram a) (sym is_quicks)
        ∙ quicks_above (code x) top r.k r.start (subst (λ y. AllGood (code x) y r.k r.start) is good_k) a l

    -- a main move of a state after n ticks of the k-th state is one of the next
    next : (u : Input) → After (code x).low r.n (run (code x) (suc r.k) r.start) (moved (code x) u b)
    next u = moved_in (code x) t.top u r.k (t.moves l r.since) r.n r.start b comes.runs.latch r.fits.size good r.inside r.after

    pub block_above_next : (u : Input) (top a : ℕ) → t.top ≡ Some top → top ≤ a → value (moved (code x) u b).regs.r.r2 < a
        → slice_index (moved (code x) u b).ram a ≡ slice_index r.start.ram a
    block_above_next u top a is low above =
        (next u).ram a (λ k. subst (λ w. value w < a) (ap (λ (z : Machine). z.regs.r.r2) (next u).is) above)
        ∙ ap (λ (z : Machine). slice_index z.ram a) (sym (run_is (code x) t.top (suc r.k) (t.moves l r.since) r.start (omega (arith, r.inside)) good))
        ∙ quicks_above (code x) top (suc r.k) r.start
        (subst (λ y. AllGood (code x) y (suc r.k) r.start) is
        (prefix (code x) t.top (suc r.k) (t.moves l r.since) r.start (omega (arith, r.inside)) good)) a low

    -- the number of the program counter, and what it is after a move
    pub block_p : b.regs.p ≡ (quicks (code x) r.k r.start).regs.p
    block_p = ap (λ (z : Machine). z.regs.p) r.after.is ∙ sym (ap (λ (z : Machine). z.regs.p) is_quicks)

    pub moved_p : (u : Input) → (moved (code x) u b).regs.p ≡ (quicks (code x) (suc r.k) r.start).regs.p
    moved_p u =
        ap (λ (z : Machine). z.regs.p) (next u).is
        ∙ sym (ap (λ (z : Machine). z.regs.p) (run_is (code x) t.top (suc r.k) (t.moves l r.since) r.start (omega (arith, r.inside)) good))

    -- the block's last move
    last : (u : Input) → suc r.k ≡ t.moves l r.since → Outcome x t (moved (code x) u b) (after_main u h)
    last u e =
        ended comes.end (moved (code x) u b) r.since (suc r.k) r.n (after_main u h) grown
        (subst FitsMachine there (run_fits (code x) sound.rom (suc r.k) r.start r.fits)) awake
        (subst (λ z. After (code x).low r.n z (moved (code x) u b)) there (next u))
        (comes.ends (unticked r.since (after_main u h))
        (subst (λ m. Grows r.since m 0 (unticked r.since (after_main u h))) e (grows_back r.since (suc r.k) r.n (after_main u h) grown)))
      where
        grown : Grows r.since (suc r.k) r.n (after_main u h)
        grown = grows_main r.since r.k r.n h u r.grows

        there : run (code x) (suc r.k) r.start ≡ comes.end
        there = ap (λ m. run (code x) m r.start) e ∙ reaches_run (code x) t.top (t.moves l r.since) r.start comes.end comes.reaches

        awake : comes.end.regs.idle ≡ false
        awake =
            ap (λ (z : Machine). z.regs.idle) (sym (reaches_quicks (code x) t.top (t.moves l r.since) r.start comes.end comes.reaches))
            ∙ quicks_idle (code x) t.top (t.moves l r.since) r.start good ∙ comes.awake

    -- a move inside the block
    within : (u : Input) → (suc r.k ≡ t.moves l r.since → ⊥) → Outcome x t (moved (code x) u b) (after_main u h)
    within u e =
        Still calm
        (Inside l (record {
          start = r.start;
          since = r.since;
          k = suc r.k;
          n = r.n;
          inside = more;
          grows = grows_main r.since r.k r.n h u r.grows;
          fits = r.fits;
          head = r.head;
          after = next u;
        }))
      where
        more : suc r.k < t.moves l r.since
        more = omega (arith, r.inside, e)

        calm : is_event (code x) (moved (code x) u b) ≡ false
        calm =
            ap (is_event (code x)) (next u).is
            ∙ ap (is_event (code x)) (sym (run_is (code x) t.top (suc r.k) (t.moves l r.since) r.start (omega (arith, r.inside)) good))
            ∙ quiet _ (calm_in (code x) t.top r.k (t.moves l r.since) r.start more good)

    pub block_moves : (u : Input) → Outcome x t (moved (code x) u b) (after_main u h)
    block_moves u = go (cases_eq (suc r.k) (t.moves l r.since))
      where
        go : (suc r.k ≡ t.moves l r.since) ⊎ (suc r.k ≡ t.moves l r.since → ⊥) → Outcome x t (moved (code x) u b) (after_main u h)
        go (inl e) = last u e
        go (inr e) = within u e

    pub block_ticks : (c : Machine) → Tick (code x).low b c → Row x t c (after_tick h)
    block_ticks c k =
        Inside l (record {
          start = r.start;
          since = r.since;
          k = r.k;
          n = suc r.n;
          inside = r.inside;
          grows = grows_tick r.since r.k r.n h r.grows;
          fits = r.fits;
          head = r.head;
          after = later_tick (code x).low r.n (run (code x) r.k r.start) b c idle r.after k;
        })
      where
        idle : (run (code x) r.k r.start).regs.idle ≡ false
        idle = sym (ap (λ (z : Machine). z.regs.idle) is_quicks) ∙ quicks_idle (code x) t.top r.k r.start good_k ∙ comes.awake

  -- a block's row says nothing of the cycle number
  pub at_cycle : (n : ℕ) (b c : Machine) (k : ℕ) → After (code x).low n b c → After (code x).low n b (record c { cycle = k })
  at_cycle n b c k a = record { is = ap (λ (z : Machine). record z { cycle = k }) a.is; size = a.size; ram = a.ram }

  pub block_cycle : {l : t.Block} (b : Machine) (h : Since) (k : ℕ) → InBlock x t l b h → InBlock x t l (record b { cycle = k }) h
  block_cycle b h k r =
      record {
        start = r.start;
        since = r.since;
        k = r.k;
        n = r.n;
        inside = r.inside;
        grows = r.grows;
        fits = r.fits;
        head = r.head;
        after = at_cycle r.n _ b k r.after;
      }

  -- what a place comes to, at once
  place_ended : (b : Machine) (h : Since) → FitsMachine b → Ends x t b h → Outcome x t b h
  place_ended b h f (Continues calm s) = Still calm (starts_row b h f s)
  place_ended b h f (Steps s st makes) = Dispatched s st makes
  place_ended b h f (Fails stop st) = Halted stop st

  pub place_moves : (l : t.Place) (b : Machine) (h : Since) → FitsMachine b → RunsPlace x t l b h → b.regs.idle ≡ false → (u : Input)
      → Outcome x t (moved (code x) u b) (after_main u h)
  place_moves l b h f holds i u = place_ended (moved (code x) u b) (after_main u h) (main-fits x.interpreter.rom sound.rom u.efx u.held b f) (holds.moves i u)

  -- a tick keeps the rows at a place
  pub place_ticks : (l : t.Place) (b c : Machine) (h : Since) → FitsMachine b → Tick (code x).low b c → t.At l b h → RunsPlace x t l b h → Row x t c (after_tick h)
  place_ticks l b c h f k at holds = go b.regs.idle refl
    where
      more : h.ticks + 1 ≡ suc h.ticks
      more = omega arith

      go : (i : Bool) → b.regs.idle ≡ i → Row x t c (after_tick h)
      go false e =
          Alone l (subst (λ m. t.At l c (record h { ticks = m })) more
          (holds.later e 1 c (later_tick (code x).low 0 b b c e (after_none (code x).low b) k)))
      go true e = starts_row c (after_tick h) (tick_fits (code x).low b c f k) (holds.wakes e c k)

module _ (x : Program) (t : Pieces) (proved : Proved x t) where
  abbrev sound : Sound x t
  sound = sound_of x t proved

  comes : {l : t.Block} {b : Machine} {h : Since} (r : InBlock x t l b h) → RunsBlock x t l r.start r.since
  comes r = proved.blocks _ r.start r.since r.fits r.head

  pub row_starts : (b : Machine) (h : Since) → FitsMachine b → Starts t b h → Row x t b h
  row_starts = starts_row x t sound

  -- every main move keeps the rows
  pub row_moves : (u : Input) (b : Machine) (h : Since) → FitsMachine b → b.regs.idle ≡ false → Row x t b h → Outcome x t (moved (code x) u b) (after_main u h)
  row_moves u b h f i (Inside l r) = block_moves x t sound r (comes r) u
  row_moves u b h f i (Alone l at) = place_moves x t sound l b h f (proved.places l b h f at) i u

  -- and so does every tick
  pub row_ticks : (b c : Machine) (h : Since) → FitsMachine b → Tick (code x).low b c → Row x t b h → Row x t c (after_tick h)
  row_ticks b c h f k (Inside l r) = block_ticks x t sound r (comes r) c k
  row_ticks b c h f k (Alone l at) = place_ticks x t sound l b c h f k at (proved.places l b h f at)

  -- main code runs inside a block
  pub block_awake : {l : t.Block} {b : Machine} {h : Since} → InBlock x t l b h → b.regs.idle ≡ false
  block_awake r = awake_in x t sound r (comes r)

  -- in every row main code runs or waits, and the instruction takes two cycles
  pub row_runs : (b : Machine) (h : Since) → FitsMachine b → Row x t b h → Ready x b
  row_runs b h f (Inside l r) = block_runs x t sound r (comes r)
  row_runs b h f (Alone l at) = (proved.places l b h f at).runs

  pub row_cycles : (b : Machine) (h : Since) → FitsMachine b → b.regs.idle ≡ false → Row x t b h → cycles_of (opcode_of x.interpreter.rom b) ≡ 2
  row_cycles b h f i (Inside l r) = block_cycles x t sound r (comes r)
  row_cycles b h f i (Alone l at) = (proved.places l b h f at).cycles i
