-- In each row main code has spent so little since the dispatch point that the next event comes within the bound of the instruction.
use Rattle.std.proofs.Common.{◌≡◌, ℕ, ◌+◌, ◌*◌, ◌≤◌, ◌⊎◌, inl, inr, sym, ◌∙◌, ap, subst, arith, true, List}
use Rattle.std.specs.Prelude.{Option, Some, None}
use Rattle.machine.specs.Board.{Machine}
use Rattle.machine.specs.Keys.{Event}
use Rattle.chip8_lang.specs.declared.instr.Instr.{Instr}
use Rattle.chip8_lang.specs.declared.instr.Instr.TheVariants.{Clear as IsClear, Draw as IsDraw, WaitKey as IsWaitKey, Decimal as IsDecimal, Store as IsStore, Fetch as IsFetch}
use Rattle.chip8_lang.specs.declared.view.Edition.{Edition}
use Rattle.chip8_lang.specs.declared.view.Stop.{Stop}
use Rattle.chip8_lang.specs.Bounds.{bound_of, bound_by}
use Rattle.rom_law.specs.Program.{Program}
use Rattle.rom_law.specs.Rows.{Since, Row, now}
use Rattle.rom_law.specs.Rows.Row.{Inside as InRow, Alone}
use Rattle.rom_law.proofs.Kept.{block_awake}
use Rattle.rom_rows.specs.Rom.{vip}
use Rattle.rom_rows.specs.Table.{moves, pieces, waited_pieces}
use Rattle.rom_rows.specs.Table.Block.{OfSprite}
use Rattle.rom_rows.specs.Table.Place.{AtTimer, AtKey, AtSprite}
use Rattle.rom_rows.proofs.Haste.{Slow, Haste}
use Rattle.rom_rows.proofs.Haste.Slow.{Clearing, Drawing}
use Rattle.rom_rows.proofs.Haste.Haste.{Brief, Copying, Slowly, Boundless}
use Rattle.rom_rows.proofs.PlaceFacts.{place_facts, wait_slow}
use Rattle.rom_rows.proofs.SpriteFacts.{waited_slow}
use Rattle.rom_rows.proofs.Table.{block_facts}
use Rattle.rom_run.specs.Time.{Suffices, Spends, Timed, most_wait}
use Rattle.rom_run.specs.Running.{Interval}
use Rattle.rom_run.specs.Time.Timed.{Before, Waiting, Behind}
use Rattle.rom_run.proofs.Ticks.{waits_most}
use Rattle.rom_run.proofs.Proved.{proved}
use Rattle.rom_run.proofs.Waits.{sleeps, timer_awake, key_awake}

-- ---- bounds

some_is : {a b : ℕ} → Some a ≡ Some b → a ≡ b
some_is k = cc

-- each one that there is, is 2,200 cycles at least
least_by : (o : Option Stop) (i : Instr) (bound : ℕ) → bound_by o i ≡ Some bound → 2200 ≤ bound
least_by (Some stop) i bound h = omega (arith, some_is h)
least_by None IsClear bound h = omega (arith, some_is h)
least_by None (IsDraw x y n) bound h = omega (arith, some_is h)
least_by None (IsWaitKey x) bound h = cc
least_by None (IsDecimal x) bound h = omega (arith, some_is h)
least_by None (IsStore x) bound h = omega (arith, some_is h)
least_by None (IsFetch x) bound h = omega (arith, some_is h)
least_by None _ bound h = omega (arith, some_is h)

-- ---- budgets

-- The main cycles so far, those of m moves more, and n cycles of waiting leave time enough.
abbrev pub Budget : Edition → Since → ℕ → ℕ → Type 0
Budget e h n m = (bound : ℕ) → bound_of e h.state ≡ Some bound → Suffices bound (h.spent + 2 * m + n)

pub fewer : (bound m k : ℕ) → k ≤ m → Suffices bound m → Suffices bound k
fewer bound m k l s = record { interrupts = s.interrupts; few = omega (arith, s.few, l); all = omega (arith, s.all, l) }

no_bound : {bound : ℕ} {o : Option ℕ} → o ≡ None → o ≡ Some bound → ⊥
no_bound k l = cc

module _ (e : Edition) where
  abbrev x : Program
  x = vip e

  by_bound : (h : Since) (n m : ℕ) {b : ℕ} → bound_of e h.state ≡ Some b → Suffices b (h.spent + 2 * m + n) → Budget e h n m
  by_bound h n m is s bound k = subst (λ z. Suffices z (h.spent + 2 * m + n)) (some_is (sym is ∙ k)) s

  -- also where main code has waited
  slow_budget : {h : Since} {m : ℕ} (n : ℕ) → n ≤ most_wait → Slow e h m → Budget e h n m
  slow_budget {h = h} {m = m} n w (Clearing is l) = by_bound h n m is (record { interrupts = 2; few = omega (arith, l, w); all = omega (arith, l, w) })
  slow_budget {h = h} {m = m} n w (Drawing is l) = by_bound h n m is (record { interrupts = 3; few = omega (arith, l, w); all = omega (arith, l, w) })

  budget : {Endless : Type 0} {h : Since} {m : ℕ} → Haste e Endless h m → Budget e h 0 m
  budget (Brief l) bound k = record { interrupts = 1; few = omega (arith, l); all = omega (arith, l, least_by _ _ bound k) }
  budget {h = h} {m = m} (Copying is l) bound k = by_bound h 0 m is (record { interrupts = 1; few = omega (arith, l); all = omega (arith, l) }) bound k
  budget (Slowly s) bound k = slow_budget 0 (omega arith) s bound k
  budget (Boundless is o) bound k = absurd (no_bound is k)

  -- ---- where there is no bound

  pub slow_bounded : {h : Since} {m : ℕ} → Slow e h m → bound_of e h.state ≡ None → ⊥
  slow_bounded (Clearing is l) k = no_bound k is
  slow_bounded (Drawing is l) k = no_bound k is

  pub is_free : {Endless : Type 0} {h : Since} {m : ℕ} → Haste e Endless h m → bound_of e h.state ≡ None → (h.spent + 2 * m ≤ 354) ⊎ Endless
  is_free (Brief l) k = inl l
  is_free (Copying is l) k = absurd (no_bound k is)
  is_free (Slowly s) k = absurd (slow_bounded s k)
  is_free (Boundless is o) k = inr o

  -- ---- rows

  -- where main code doesn't wait and hasn't waited
  pub row_soon : (b : Machine) (h : Since) → Row x (pieces x) b h → Budget e h 0 1
  row_soon b h (InRow l r) bound k =
      fewer bound _ _ (omega (arith, r.grows.spent, r.inside))
      (budget ((block_facts l).haste x r.start r.since r.fits r.head) bound (ap (bound_of e) (sym r.grows.state) ∙ k))
  row_soon b h (Alone l o) bound k = budget ((place_facts l).haste x b h o) bound k

  -- where it waits
  pub idle_slow : (b : Machine) (h : Since) → b.regs.idle ≡ true → Row x (pieces x) b h → Slow e h 1
  idle_slow b h i (InRow l r) = absurd (sleeps (sym i ∙ block_awake x (pieces x) (proved e) r))
  idle_slow b h i (Alone (AtTimer l) o) = absurd (sleeps (sym i ∙ timer_awake x b (now h) h.keys l o.0))
  idle_slow b h i (Alone (AtKey l) o) = absurd (sleeps (sym i ∙ key_awake x b (now h) h.keys l o.0))
  idle_slow b h i (Alone (AtSprite l) o) = wait_slow l x b h o

  -- and behind a wait
  pub waited_row_slow : (b : Machine) (h : Since) → Row x (waited_pieces x) b h → Slow e h 1
  waited_row_slow b h (InRow l r) = go (waited_slow l.0 l.1 x r.start r.since r.head)
    where
      go : Slow e r.since (moves (OfSprite l.0)) → Slow e h 1
      go (Clearing is few) = Clearing (ap (bound_of e) r.grows.state ∙ is) (omega (arith, few, r.grows.spent, r.inside))
      go (Drawing is few) = Drawing (ap (bound_of e) r.grows.state ∙ is) (omega (arith, few, r.grows.spent, r.inside))
  waited_row_slow b h (Alone l o) = absurd o

-- a machine at a row: how long it has waited, and that a main move more leaves time enough
pub record Soon (e : Edition) (b : Machine) (h : Since) : Type 0 where
  pub waited : ℕ
  pub spends : Spends b h waited
  pub suffices : Budget e h waited 1

pub row_in_time : (e : Edition) (script : List Event) (b : Machine) (h : Since) → Interval e script b h → Row (vip e) (pieces (vip e)) b h
    → Timed e b h → Soon e b h
row_in_time e script b h t row (Before s z) = record { waited = 0; spends = s; suffices = row_soon e b h row }
row_in_time e script b h t row (Waiting n s l i z) =
    record { waited = n; spends = s; suffices = slow_budget e n (omega (arith, l.most, waits_most b.cycle t.outside)) (idle_slow e b h i row) }
row_in_time e script b h t row (Behind n s l r w) = record { waited = n; spends = s; suffices = slow_budget e n l (waited_row_slow e b h r) }
