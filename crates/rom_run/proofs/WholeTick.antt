-- A run of the interrupt routine, as a whole: one tick, after which what is known of the running interpreter holds.
use Rattle.std.proofs.Common.{◌≡◌, ℕ, suc, ◌+◌, ◌<◌, ◌≤◌, ◌⊎◌, inl, inr, sym, ◌∙◌, ap, subst, arith, false, List}
use Rattle.std.proofs.lemmas.Bool.{cases_lt}
use Rattle.machine.specs.Board.{Machine, move}
use Rattle.machine.specs.Keys.{Event, Keys, held_at}
use Rattle.machine.specs.Pictures.{interrupt_at, window_end, place, interrupt_place}
use Rattle.machine.specs.Run.{after_moves}
use Rattle.machine.proofs.Runs.{later-move}
use Rattle.chip8_image.specs.declared.parts.Part.TheVariants.{Timer as IsTimer}
use Rattle.chip8_lang.specs.declared.view.Edition.{Edition}
use Rattle.chip8_lang.specs.Timed.{routine_cycles}
use Rattle.rom_law.specs.Rows.{Since, after_tick}
use Rattle.rom_law.specs.Runs.{Moves}
use Rattle.rom_law.proofs.Ahead.{later_cycle}
use Rattle.rom_rows.specs.Rom.{image, vip}
use Rattle.rom_parts.specs.timer.Routine.{IsTick, routine_moves, window_moves}
use Rattle.rom_run.proofs.Image.{parts}
use Rattle.rom_run.specs.Running.{Outside, Running, Serving}
use Rattle.rom_run.specs.Running.Running.{InMain, InRoutine}
use Rattle.rom_run.proofs.Moves.{interrupted, routine_comes}

-- a cycle between the interrupt and the return isn't that of an interrupt
not_there : {a b c d e : ℕ} (m : ℕ) → a ≡ interrupt_at m → a < b → b ≤ c → c ≤ d → d ≡ interrupt_at m + routine_cycles → e ≡ c → place e ≡ interrupt_place → ⊥
not_there m h k l n o q p = omega (arith, h, k, l, n, o, q, p)

module _ (e : Edition) (script : List Event) where
  abbrev held : ℕ → Keys
  held = held_at script

  tick_of : (b : Machine) (h : Since) (m : ℕ) → Outside e script b h → b.cycle ≡ interrupt_at m → IsTick e (image e) m b held
  tick_of b h m o i = (parts IsTimer).laws.own.tick e m b held (interrupted e script b h m o i)

  -- where the cycle is that of an interrupt, main code runs or waits
  pub main_there : (b : Machine) (h : Since) → Running e script b h → place b.cycle ≡ interrupt_place → Outside e script b h
  main_there b h (InMain o) p = o
  main_there b h (InRoutine s) p =
      absurd (not_there s.m s.cycle (later-move (image e) held s.start) (later_cycle (image e) held s.start 1 s.k s.some)
      (later_cycle (image e) held s.start s.k routine_moves (less s.k s.inside)) (tick_of s.start s.before s.m s.outside s.cycle).cycle
      (ap (λ (z : Machine). z.cycle) s.is) p)
    where
      less : (k : ℕ) → k < routine_moves → k ≤ routine_moves
      less k l = omega (arith, l)

  pub whole_tick : (b : Machine) (h : Since) (m : ℕ) → Running e script b h → b.cycle ≡ interrupt_at m → IsTick e (image e) m b held
  whole_tick b h m r i = tick_of b h m (main_there b h r (omega (arith, i))) i

  pub tick_comes : (b : Machine) (h : Since) (m : ℕ) → Running e script b h → b.cycle ≡ interrupt_at m
      → Moves (vip e) script (Running e script) (after_tick h) (after_moves (image e) held b routine_moves)
  tick_comes b h m r i = routine_comes e script b h m (main_there b h r (omega (arith, i))) i 1434 (omega arith)

  -- a state of the routine and the next one, in the time from the interrupt to the return
  pub served_within : (b : Machine) (h : Since) (s : Serving e script b h)
      → (interrupt_at s.m < b.cycle) × ((move (image e) held b).cycle ≤ interrupt_at s.m + routine_cycles)
  served_within b h s =
      subst (λ (z : Machine). (interrupt_at s.m < z.cycle) × ((move (image e) held z).cycle ≤ interrupt_at s.m + routine_cycles)) (sym s.is) (
        omega (
          arith,
          s.cycle,
          later-move (image e) held s.start,
          later_cycle (image
              e) held s.start 1 s.k s.some,
        ),
        omega (
          arith,
          later_cycle (image e) held s.start (suc s.k) routine_moves (omega
              (arith, s.inside)),
          (tick_of s.start s.before s.m s.outside s.cycle).cycle,
        ),
      )

  -- no move of the routine goes past the end of the window
  pub served_meets : (b : Machine) (h : Since) (s : Serving e script b h) (m : ℕ) → b.cycle < window_end m → (move (image e) held b).cycle ≤ window_end m
  served_meets b h s m l = subst (λ (z : Machine). z.cycle < window_end m → (move (image e) held z).cycle ≤ window_end m) (sym s.is) met l
    where
      tick : IsTick e (image e) s.m s.start held
      tick = tick_of s.start s.before s.m s.outside s.cycle

      met : (after_moves (image e) held s.start s.k).cycle < window_end m → (after_moves (image e) held s.start (suc s.k)).cycle ≤ window_end m
      met open_yet = go (cases_lt s.k window_moves)
        where
          go : (s.k < window_moves) ⊎ (window_moves ≤ s.k) → (after_moves (image e) held s.start (suc s.k)).cycle ≤ window_end m
          go (inl k) =
              omega (
                arith,
                tick.window,
                later_cycle (image e) held s.start (suc s.k) window_moves (omega
                    (arith, k)),
                s.cycle,
                later_cycle (image e) held s.start 0 s.k (omega arith),
                open_yet,
              )
          go (inr k) =
              omega (
                arith,
                tick.window,
                tick.cycle,
                later_cycle (image e) held s.start window_moves s.k k,
                later_cycle (image e) held s.start (suc
                    s.k) routine_moves (omega (arith, s.inside)),
                open_yet,
              )

  pub served_disabled : (b : Machine) (h : Since) → Serving e script b h → b.regs.ie ≡ false
  served_disabled b h s = ap (λ (z : Machine). z.regs.ie) s.is ∙ ((tick_of s.start s.before s.m s.outside s.cycle).inside s.k s.some s.inside).disabled

  pub served_awake : (b : Machine) (h : Since) → Serving e script b h → b.regs.idle ≡ false
  served_awake b h s = ap (λ (z : Machine). z.regs.idle) s.is ∙ ((tick_of s.start s.before s.m s.outside s.cycle).inside s.k s.some s.inside).awake
