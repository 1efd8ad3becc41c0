-- The board's own move that goes to a routine ends DISPATCH main cycles after the dispatch point.
use Rattle.std.proofs.Common.{◌≡◌, ℕ, ◌+◌, ◌/◌, sym, ◌∙◌, ap, arith, true, List}
use Rattle.machine.specs.Board.{Machine, move, main_move}
use Rattle.machine.specs.Keys.{Event, Keys, held_at}
use Rattle.machine.specs.Pictures.{interrupt_at}
use Rattle.machine.specs.Signals.{efx_at}
use Rattle.chip8_image.specs.declared.TheConstants.{DISPATCH}
use Rattle.chip8_image.specs.declared.parts.Part.TheVariants.{Fetch, Timer as IsTimer}
use Rattle.chip8_lang.specs.declared.view.Edition.{Edition}
use Rattle.chip8_lang.specs.State.{is_fetchable}
use Rattle.rom_law.specs.Rows.{Since, InBlock, Row}
use Rattle.rom_law.specs.Runs.{carried}
use Rattle.rom_law.proofs.Kept.{row_runs}
use Rattle.rom_rows.specs.FetchBlocks.{FetchBlock}
use Rattle.rom_rows.specs.Rom.{image, vip}
use Rattle.rom_rows.specs.Table.{pieces}
use Rattle.rom_rows.specs.Table.Block.{OfFetch}
use Rattle.rom_run.proofs.Image.{parts}
use Rattle.rom_parts.specs.timer.Frame.{Makes}
use Rattle.rom_parts.specs.timer.Frame.Makes.{Runs, Waits, Accepts}
use Rattle.rom_parts.proofs.timer.Frame.{every_move}
use Rattle.rom_run.specs.Laws.{IsIn, DispatchIn}
use Rattle.rom_run.specs.Running.{Interval, Outside, Running}
use Rattle.rom_run.specs.Running.Outside.{AtRow, AtEvent}
use Rattle.rom_run.specs.Running.Running.{InMain, InRoutine}
use Rattle.rom_run.proofs.Apart.{fetch_row}
use Rattle.rom_run.proofs.Moves.{interrupted, counts_main}
use Rattle.rom_run.proofs.Proved.{proved}

module _ (e : Edition) (script : List Event) where
  abbrev held : ℕ → Keys
  held = held_at script

  differ : {X : Type 0} {n m k : ℕ} → n ≡ m → n ≡ k → (m ≡ k → ⊥) → X
  differ a b d = absurd (d (sym a ∙ b))

  -- the interrupt sets P to 1
  after_interrupt : (b : Machine) (h : Since) (m : ℕ) → Outside e script b h → b.cycle ≡ interrupt_at m → (move (image e) held b).regs.p ≡ 1
  after_interrupt b h m o i = (((parts IsTimer).laws.own.tick e m b held (interrupted e script b h m o i)).inside 1 (omega arith) (omega arith)).by_r1

  block_time : (b : Machine) (h : Since) → (l : FetchBlock) × InBlock (vip e) (pieces (vip e)) (OfFetch l) b h → is_fetchable e h.state ≡ true
      → b.regs.p ≡ 4 → (main_move (image e) (efx_at (b.cycle + 1) true) (held (b.cycle + 1)) b).regs.p ≡ 3 → h.spent + 2 ≡ DISPATCH
  block_time b h (l, r) inside p q = (parts Fetch).laws.own.dispatch e l (record { efx = efx_at (b.cycle + 1) true; held = held (b.cycle + 1) }) b h r inside p q

  abbrev IsTimed : Machine → Since → Type 0
  IsTimed b h = (carried (image e) held b h).spent ≡ DISPATCH

  row_time : (b : Machine) (h : Since) (o : Outside e script b h) → Interval e script b h → Row (vip e) (pieces (vip e)) b h → IsIn Fetch b
      → is_fetchable e h.state ≡ true → b.regs.p ≡ 4 → (move (image e) held b).regs.p ≡ 3 → Makes (image e) held b (move (image e) held b)
      → IsTimed b h
  row_time b h o t row at inside p q (Runs d i m) =
      ap (λ (z : Since). z.spent) (counts_main e script b h t row d i)
      ∙ block_time b h (fetch_row e b h row at) inside p (sym (ap (λ (z : Machine). z.regs.p) m) ∙ q)
  row_time b h o t row at inside p q (Waits d i m) = differ (sym (ap (λ (z : Machine). z.regs.p) m) ∙ q) p (λ k. omega (arith, k))
  row_time b h o t row at inside p q (Accepts i m) = differ (after_interrupt b h _ o i) q (λ k. omega (arith, k))

  time : (b : Machine) (h : Since) → Running e script b h → IsIn Fetch b → is_fetchable e h.state ≡ true → b.regs.p ≡ 4
      → (move (image e) held b).regs.p ≡ 3 → IsTimed b h
  time b h (InMain (AtRow t row n z)) at inside p q =
      let ready = row_runs (vip e) (pieces (vip e)) (proved e) b h t.fits row in
      row_time b h (AtRow t row n z) t row at inside p q (every_move (image e) held b ready.on ready.enabled t.outside)
  time b h (InMain (AtEvent t i d s y)) at inside p q = differ (after_interrupt b h (b.cycle / 3668) (AtEvent t i d s y) there) q (λ k. omega (arith, k))
    where
      there : b.cycle ≡ interrupt_at (b.cycle / 3668)
      there = omega (arith, i)
  time b h (InRoutine s) at inside p q =
      differ (((parts IsTimer).laws.own.tick e s.m s.start held (interrupted e script s.start s.before s.m s.outside s.cycle)).inside s.k s.some s.inside).by_r1
      (sym (ap (λ (z : Machine). z.regs.p) s.is) ∙ p) (λ k. omega (arith, k))

pub dispatch_in : DispatchIn
dispatch_in e script b h r at inside p q = time e script b h r at inside p q
