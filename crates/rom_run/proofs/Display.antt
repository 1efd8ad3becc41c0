-- The display: no interrupt comes while the screen is changed, and how long 00E0 and DXYN prepare their work.
use Rattle.std.proofs.Common.{◌≡◌, ℕ, ◌+◌, ◌≤◌, ◌⊎◌, inl, inr, sym, ◌∙◌, arith, true, List}
use Rattle.machine.specs.Board.{Machine}
use Rattle.machine.specs.Keys.{Event}
use Rattle.chip8_lang.specs.declared.view.Edition.{Edition}
use Rattle.chip8_lang.specs.Timed.{routine_cycles}
use Rattle.rom_law.specs.Rows.{Since, Row}
use Rattle.rom_rows.specs.Rom.{vip}
use Rattle.rom_rows.specs.Table.{calm_pieces}
use Rattle.machine.specs.Pictures.{place, interrupt_place}
use Rattle.rom_run.specs.Display.{Display}
use Rattle.rom_run.specs.Laws.{Undisturbed, WaitsSoon}
use Rattle.rom_run.specs.Time.{Timed, Woken, wait_time, since_return, most_changing}
use Rattle.rom_run.specs.Running.{Due, Outside, Running, Serving, Showing}
use Rattle.rom_run.specs.Running.Due.{Arrives, Ends}
use Rattle.rom_run.specs.Time.Timed.{Before, Waiting, Behind}
use Rattle.rom_run.specs.Running.Outside.{AtRow, AtEvent}
use Rattle.rom_run.specs.Running.Running.{InMain, InRoutine}
use Rattle.rom_run.proofs.Calm.{calm_shows}
use Rattle.rom_run.proofs.Room.{row_room}
use Rattle.rom_run.proofs.WholeTick.{main_there, served_disabled}
use Rattle.rom_run.proofs.Waits.{sleeps}
use Rattle.rom_run.proofs.Woken.{row_waits, woken_apart, woken_few}
use Rattle.rom_law.proofs.Places.{variables_below}

module _ (e : Edition) (script : List Event) where
  -- ---- the screen, at an interrupt and elsewhere

  -- it is that of the last dispatch point, or main code is behind a wait
  outside_where : (b : Machine) (h : Since) → Outside e script b h → Showing e b h ⊎ Woken e b h
  outside_where b h (AtRow t row n time) = go time
    where
      calm : Row (vip e) (calm_pieces (vip e)) b h → Showing e b h
      calm r = calm_shows e b h t.fits (omega (arith, (row_room e b h row).high, variables_below e)) r

      go : Timed e b h → Showing e b h ⊎ Woken e b h
      go (Before s r) = inl (calm r)
      go (Waiting k s l i r) = inl (calm r)
      go (Behind k s l r w) = inr w
  outside_where b h (AtEvent t q d late y) = inl y

  -- no interrupt comes behind one
  pub outside_shows : (b : Machine) (h : Since) → Outside e script b h → place b.cycle ≡ interrupt_place → Showing e b h
  outside_shows b h o p = go (outside_where b h o)
    where
      go : Showing e b h ⊎ Woken e b h → Showing e b h
      go (inl shows) = shows
      go (inr w) = absurd (woken_apart e b h 0 (omega arith) w (omega (arith, p)))

  -- behind a wait the routine returned in the cycle `woke`
  pub woken_since : (b : Machine) (h : Since) (w : Woken e b h) → since_return b.cycle ≤ most_changing
  woken_since b h w = since b.cycle (wait_time e h.state) w.woke h.spent w.return w.since w.least (woken_few e b h w)
    where
      since : (cycle base woke late : ℕ) → place woke ≡ interrupt_place + routine_cycles → cycle + base ≡ woke + late → base ≤ late
          → late ≤ base + most_changing → since_return cycle ≤ most_changing
      since cycle base woke late r s l m = omega (arith, r, s, l, m)

  -- ---- a wait

  pub due_awake : (b : Machine) (h : Since) → b.regs.idle ≡ true → Due e b h → ⊥
  due_awake b h i (Arrives s st makes) = sleeps (sym i ∙ st.stands.keeps.lies.awake)
  due_awake b h i (Ends stop st) = sleeps (sym i ∙ st.halts.keeps.lies.awake)

  outside_soon : (b : Machine) (h : Since) → b.regs.idle ≡ true → Outside e script b h → Display h (λ most. (h.spent ≡ wait_time e h.state) × (h.spent ≤ most))
  outside_soon b h i (AtRow t row n time) = let w = row_waits e b h i row in record { most = w.most; waits = w.waits; here = (w.exact, w.soon) }
  outside_soon b h i (AtEvent t q d late y) = absurd (due_awake b h i d)

  -- ---- in the interrupt routine interrupts are disabled

  apart_from : (b : Machine) (h : Since) → Serving e script b h → b.regs.ie ≡ true → ⊥
  apart_from b h s enabled =
      sleeps (sym enabled ∙ served_disabled e script b h s)

  soon : (b : Machine) (h : Since) → Running e script b h → b.regs.ie ≡ true → b.regs.idle ≡ true → Display h (λ most. (h.spent ≡ wait_time e h.state) × (h.spent ≤ most))
  soon b h (InMain o) enabled i = outside_soon b h i o
  soon b h (InRoutine s) enabled i = absurd (apart_from b h s enabled)

-- ---- the laws

pub undisturbed : Undisturbed
undisturbed e script b h r p = outside_shows e script b h (main_there e script b h r p) p

pub waits_soon : WaitsSoon
waits_soon e script b h r enabled i = soon e script b h r enabled i
