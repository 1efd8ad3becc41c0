-- Each move of the board ends within the bound of the instruction at the last dispatch point.
use Rattle.std.proofs.Common.{◌≡◌, ℕ, suc, ◌+◌, ◌*◌, ◌/◌, ◌%◌, ◌<◌, ◌≤◌, inr, sym, ◌∙◌, ap, subst, subst₂, arith, List}
use Rattle.std.specs.Prelude.{Some}
use Rattle.machine.specs.Board.{Machine, move}
use Rattle.machine.specs.Keys.{Keys, Event, held_at}
use Rattle.machine.specs.Pictures.{interrupt_at, place, interrupt_place}
use Rattle.machine.specs.Run.{after_moves}
use Rattle.chip8_image.specs.declared.parts.Part.TheVariants.{Timer as IsTimer}
use Rattle.chip8_lang.specs.declared.view.Edition.{Edition}
use Rattle.chip8_lang.specs.Between.{ticks_between}
use Rattle.chip8_lang.specs.Bounds.{bound_of}
use Rattle.chip8_lang.specs.Timed.{routine_cycles}
use Rattle.rom_law.specs.Program.{Program}
use Rattle.rom_law.specs.Rows.{Since, Row}
use Rattle.rom_law.proofs.Kept.{row_runs, row_cycles}
use Rattle.rom_law.proofs.Ahead.{later_cycle}
use Rattle.rom_rows.specs.Rom.{image, vip}
use Rattle.rom_rows.specs.Table.{pieces}
use Rattle.rom_parts.specs.timer.Frame.{Makes}
use Rattle.rom_parts.specs.timer.Frame.Makes.{Runs, Waits, Accepts}
use Rattle.rom_parts.specs.timer.Routine.{routine_moves}
use Rattle.rom_parts.proofs.timer.Frame.{every_move, keeps_place, keeps_waiting}
use Rattle.rom_parts.proofs.timer.Interval.{ticks_main, ticks_wait, ticks_served}
use Rattle.rom_run.proofs.Image.{parts}
use Rattle.rom_run.specs.Time.{Spends, Suffices, Timed}
use Rattle.rom_run.specs.Running.{Interval, Counted, Outside, Running}
use Rattle.rom_run.specs.Running.Outside.{AtRow, AtEvent}
use Rattle.rom_run.specs.Running.Running.{InMain, InRoutine}
use Rattle.rom_run.proofs.Moves.{interrupted}
use Rattle.rom_run.proofs.Proved.{proved}
use Rattle.rom_run.proofs.Ticks.{within}
use Rattle.rom_run.proofs.Time.{fewer, row_in_time}

chain : {a b c d : ℕ} → a ≤ b → b ≡ c → c ≤ d → a ≤ d
chain l e m = omega (arith, l, e, m)

module _ (e : Edition) (script : List Event) where
  abbrev x : Program
  x = vip e

  abbrev held : ℕ → Keys
  held = held_at script

  module _ (b : Machine) (h : Since) (t : Interval e script b h) (n bound : ℕ) (s : Spends b h n) where
    -- at the end of the routine
    after_routine : (m : ℕ) → b.cycle ≡ interrupt_at m → Suffices bound (h.spent + n) → interrupt_at m + routine_cycles ≤ h.from + bound
    after_routine m i most =
        within h.from (interrupt_at m + routine_cycles) (suc h.ticks) (h.spent + n) bound
        (ap suc (t.covers.ticks ∙ ap (ticks_between h.from) i) ∙ sym (ticks_served h.from m (omega (arith, t.from, i, t.begun))))
        (inr (omega arith)) (omega (arith, s, i)) most

    -- after a main move, and after an idle cycle
    after_main : (place b.cycle ≡ interrupt_place → ⊥) → b.cycle % 2 ≡ 0 → Suffices bound (h.spent + 2 * 1 + n) → b.cycle + 2 ≤ h.from + bound
    after_main d even most =
        within h.from (b.cycle + 2) h.ticks (h.spent + 2 * 1 + n) bound (t.covers.ticks ∙ sym (ticks_main h.from b.cycle even d))
        (keeps_place b.cycle (record { outside = t.outside; even = even }) d).outside (omega (arith, s)) most

    after_idle : (place b.cycle ≡ interrupt_place → ⊥) → Suffices bound (h.spent + 2 * 1 + n) → b.cycle + 1 ≤ h.from + bound
    after_idle d most =
        within h.from (b.cycle + 1) h.ticks (h.spent + n + 1) bound (t.covers.ticks ∙ sym (ticks_wait h.from b.cycle d))
        (keeps_waiting b.cycle t.outside d) (omega (arith, s)) (fewer bound _ _ (omega arith) most)

  served : (b : Machine) (h : Since) (m bound : ℕ) → Outside e script b h → b.cycle ≡ interrupt_at m → bound_of e h.state ≡ Some bound
      → interrupt_at m + routine_cycles ≤ h.from + bound
  served b h m bound (AtRow t row n time) i k =
      let s = row_in_time e script b h t row time in
      after_routine b h t s.waited bound s.spends m i (fewer bound _ _ (omega arith) (s.suffices bound k))
  served b h m bound (AtEvent t p d soon y) i k = after_routine b h t soon.waited bound soon.spends m i (soon.suffices bound k)

  -- a move of the routine
  in_routine : (b : Machine) (h : Since) (m k bound : ℕ) → Outside e script b h → b.cycle ≡ interrupt_at m → k < routine_moves
      → bound_of e h.state ≡ Some bound → (after_moves (image e) held b (suc k)).cycle ≤ h.from + bound
  in_routine b h m k bound o i l known =
      chain (later_cycle (image e) held b (suc k) routine_moves (omega (arith, l))) ((parts IsTimer).laws.own.tick e m b held (interrupted e script b h m o i)).cycle
      (served b h m bound o i known)

  row_timely : (b : Machine) (h : Since) (bound : ℕ) (t : Interval e script b h) (row : Row x (pieces x) b h) (n : Counted e b) (time : Timed e b h)
      → bound_of e h.state ≡ Some bound → Makes (image e) held b (move (image e) held b) → (move (image e) held b).cycle ≤ h.from + bound
  row_timely b h bound t row n time k (Runs d i m) =
      let s = row_in_time e script b h t row time in
      subst (λ z. z ≤ h.from + bound)
      (sym (ap (λ (z : Machine). z.cycle) m ∙ ap (λ z. b.cycle + z) (row_cycles x (pieces x) (proved e) b h t.fits i row)))
      (after_main b h t s.waited bound s.spends d (t.even i) (s.suffices bound k))
  row_timely b h bound t row n time k (Waits d i m) =
      let s = row_in_time e script b h t row time in
      subst (λ z. z ≤ h.from + bound) (sym (ap (λ (z : Machine). z.cycle) m)) (after_idle b h t s.waited bound s.spends d (s.suffices bound k))
  row_timely b h bound t row n time k (Accepts i m) = in_routine b h _ 0 bound (AtRow t row n time) i (omega arith) k

  pub timely : (b : Machine) (h : Since) (bound : ℕ) → Running e script b h → bound_of e h.state ≡ Some bound → (move (image e) held b).cycle ≤ h.from + bound
  timely b h bound (InMain (AtRow t row n time)) k =
      let ready = row_runs x (pieces x) (proved e) b h t.fits row in
      row_timely b h bound t row n time k (every_move (image e) held b ready.on ready.enabled t.outside)
  timely b h bound (InMain (AtEvent t p d soon y)) k = in_routine b h (b.cycle / 3668) 0 bound (AtEvent t p d soon y) at (omega arith) k
    where
      at : b.cycle ≡ interrupt_at (b.cycle / 3668)
      at = omega (arith, p)
  timely b h bound (InRoutine s) k =
      subst₂ (λ z (y : Since). (move (image e) held z).cycle ≤ y.from + bound) (sym s.is) (sym s.counted)
      (in_routine s.start s.before s.m s.k bound s.outside s.cycle s.inside (ap (λ (z : Since). bound_of e z.state) (sym s.counted) ∙ k))
