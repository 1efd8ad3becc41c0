-- The interrupt routine is one timer tick.
use Rattle.std.proofs.Common.{inl, inr, ◌⊎◌, ◌≡◌, ℕ, ◌+◌, ◌-◌, ◌*◌, ◌/◌, ◌%◌, ◌<◌, ◌≤◌, sym, ◌∙◌, ap, ap₂, subst, arith, false, not, List, slice_index, length}
use Rattle.std.specs.Prelude.{◌==◌}
use Rattle.std.proofs.lemmas.Bool.{cases_lt}
use Rattle.machine.specs.Bank.{Word, word, word_of, value, up, down}
use Rattle.machine.specs.Memory.{read, written}
use Rattle.machine.specs.Board.{Machine, move}
use Rattle.machine.specs.Keys.{Keys}
use Rattle.machine.specs.Run.{after_moves}
use Rattle.machine.specs.Schedule.{Tick, IsFree, fallen}
use Rattle.machine.specs.Pictures.{interrupt_at, window_end}
use Rattle.machine.specs.Ranges.{FitsWord}
use Rattle.chip8_lang.specs.declared.view.Edition.{Edition}
use Rattle.chip8_lang.specs.Editions.{memory_end}
use Rattle.chip8_image.specs.declared.image.labels.TheConstants.{AT_DELAY, AT_RESUME}
use Rattle.rom_law.specs.Program.{code}
use Rattle.rom_rows.proofs.Bytes.{memory_end_is, variables_is, page_fits, page_low}
use Rattle.rom_parts.specs.timer.Frame.{IsMainPlace}
use Rattle.rom_parts.specs.timer.Routine.{IsInterrupted, RunsRoutine, RunTick, routine_moves, window_moves}
use Rattle.rom_parts.specs.timer.Code.{timer_code}
use Rattle.rom_parts.specs.Parts.{rom_of}
use Rattle.rom_parts.proofs.Rom.{both, both_is, quick}
use Rattle.rom_parts.proofs.timer.Frame.{accepted}
use Rattle.rom_parts.proofs.timer.Board.{timed, at_byte, Serves, serves_join, serves_to, moves_more}
use Rattle.rom_parts.proofs.timer.Pushed.{pushed, as_long, read_low, read_high, others, bytes_fit}
use Rattle.rom_parts.proofs.timer.Window.{scanning, shown, left, window, shown_fits}
use Rattle.rom_parts.proofs.timer.Serving.{taken, entered, serving, opens, Delays, delays, sounds, resumed, resumes}

module _ (e : Edition) (m : ℕ) (b : Machine) (held : ℕ → Keys) (o : IsInterrupted e m b) where
  -- ---- where the two bytes lie

  a : ℕ
  a = value b.regs.r.r2 - 2

  above : memory_end e ≤ a
  unfolding a
  above = omega (arith, o.room)

  room : a + 1 < 0x1000
  unfolding a
  room = omega (arith, o.top, variables_is e, page_fits e, o.room)

  at_high : value (down b.regs.r.r2) ≡ a + 1
  unfolding a
  at_high = omega (arith, o.fits.regs.r.r2.hi, o.fits.regs.r.r2.lo, o.room)

  at_low : value (down (down b.regs.r.r2)) ≡ a
  unfolding a
  at_low = omega (arith, o.fits.regs.r.r2.hi, o.fits.regs.r.r2.lo, o.room, memory_end_is e, page_low e)

  again_high : value (up (down (down b.regs.r.r2))) ≡ a + 1
  unfolding a
  again_high = omega (arith, o.fits.regs.r.r2.hi, o.fits.regs.r.r2.lo, o.room, memory_end_is e, page_low e)

  r2_back : up (up (down (down b.regs.r.r2))) ≡ b.regs.r.r2
  r2_back = ap₂ word (omega (arith, o.fits.regs.r.r2.hi, o.fits.regs.r.r2.lo)) (omega (arith, o.fits.regs.r.r2.hi, o.fits.regs.r.r2.lo))

  xp : ℕ
  xp = b.regs.x * 16 + b.regs.p

  xp_fits : xp < 256
  unfolding xp
  xp_fits = omega (arith, o.fits.regs.x, o.fits.regs.p)

  ram_is : (entered b).ram ≡ pushed b.ram a xp b.regs.d
  unfolding xp
  ram_is = ap₂ (λ h l. written false (written false b.ram h (b.regs.x * 16 + b.regs.p)) l b.regs.d) at_high at_low

  -- ---- the whole run

  delayed : Delays e held m (at_byte (word_of (shown e 32)) (entered b)) (left e held 0 32) b.regs.r.rf b.regs.r.r8 b.regs.q
  delayed = delays e held m (at_byte (word_of (shown e 32)) (entered b)) (left e held 0 32) b.regs.r.rf b.regs.r.r8 b.regs.q o.fits.regs.r.rf o.fits.regs.r.r8

  rf : Word
  rf = word b.regs.r.rf.hi delayed.f

  r8 : Word
  r8 = word (b.regs.r.r8.hi - 1) b.regs.r.r8.lo

  rf_fits : FitsWord rf
  unfolding rf
  rf_fits = record { hi = o.fits.regs.r.rf.hi; lo = delayed.fits }

  r8_fits : FitsWord r8
  unfolding r8
  r8_fits = record { hi = omega (arith, o.fits.regs.r.r8.hi); lo = o.fits.regs.r.r8.lo }

  c0 : Machine
  c0 = at_byte (word_of (shown e 32)) (entered b)

  end : Machine
  end =
      timed (3668 * m + 2938) (resumed e held
      (serving e held c0 AT_RESUME b.regs.r.r8.lo rf (word (b.regs.r.r8.hi - 1) (b.regs.r.r8.lo - 1)) (not (b.regs.r.r8.lo == 0))))

  to_window : Serves (code (quick timer_code e)) held 1421 (timed (3668 * m + 1093) (taken b))
      (timed (3668 * m + 2912) (scanning (entered b) AT_DELAY (shown e 32) (left e held 0 32)))
  to_window =
      serves_join (code (quick timer_code e)) held (opens e held m b)
      (serves_to (code (quick timer_code e)) held (ap (λ t. timed t (scanning (entered b) AT_DELAY (shown e 32) (left e held 0 32))) time)
      (window e held (entered b) (262 * m + 80) 0 line))
    where
      line : (262 * m + 80) % 262 ≡ 80
      line = omega arith

      time : 14 * (262 * m + 80 + 128) ≡ 3668 * m + 2912
      time = omega arith

  serves : Serves (code (quick timer_code e)) held 1434 (timed (3668 * m + 1093) (taken b)) end
  unfolding end c0 rf r8 rf_fits r8_fits delayed
  serves =
      serves_join (code (quick timer_code e)) held
      (serves_join (code (quick timer_code e)) held
      (serves_join (code (quick timer_code e)) held
      to_window
      delayed.serves)
      (sounds e held m (at_byte (word_of (shown e 32)) (entered b)) delayed.d' rf r8 b.regs.q rf_fits r8_fits))
      (resumes e held m (at_byte (word_of (shown e 32)) (entered b)) b.regs.r.r8.lo rf (word (b.regs.r.r8.hi - 1) (b.regs.r.r8.lo - 1))
      (not (b.regs.r.r8.lo == 0)))

  pub first : move (both timer_code e) held b ≡ timed (3668 * m + 1093) (taken b)
  first =
      accepted (both timer_code e) held b o.on o.enabled (omega (arith, o.cycle))
      ∙ (λ i. record b {
        regs = record b.regs {
          r = record b.regs.r { r1 = o.entry i };
          t = b.regs.x * 16 + b.regs.p;
          p = 1;
          x = 2;
          ie = false;
          idle = false;
        };
        latch = o.latch i;
        on = o.on i;
        cycle = time i;
      })
    where
      time : b.cycle + 1 ≡ 3668 * m + 1093
      time = omega (arith, o.cycle)

  ends : after_moves (both timer_code e) held b routine_moves ≡ end
  ends = moves_more (code (quick timer_code e)) held 1434 1 b (timed (3668 * m + 1093) (taken b)) first ∙ serves.ends

  -- the move that ends where the window does
  meets : (after_moves (both timer_code e) held b window_moves).cycle ≡ window_end m
  meets = ap (λ (z : Machine). z.cycle) (moves_more (code (quick timer_code e)) held 1421 1 b (timed (3668 * m + 1093) (taken b)) first ∙ to_window.ends)
      ∙ omega arith

  inside : (k : ℕ) → 0 < k → k < routine_moves → RunsRoutine (after_moves (both timer_code e) held b k)
  inside k l h =
      subst RunsRoutine (sym (ap (after_moves (both timer_code e) held b) split
      ∙ moves_more (code (quick timer_code e)) held (k - 1) 1 b (timed (3668 * m + 1093) (taken b)) first)) (serves.inside (k - 1) (omega arith))
    where
      split : k ≡ 1 + (k - 1)
      split = omega arith

  -- ---- it is a tick

  xp_back : read (both timer_code e) false (entered b).ram (value (up (down (down b.regs.r.r2)))) ≡ xp
  xp_back = ap₂ (read (both timer_code e) false) ram_is again_high ∙ read_high b.ram a xp b.regs.d o.fits.size room (both timer_code e)

  d_back : read (both timer_code e) false (entered b).ram (value (down (down b.regs.r.r2))) ≡ b.regs.d
  d_back = ap₂ (read (both timer_code e) false) ram_is at_low ∙ read_low b.ram a xp b.regs.d o.fits.size room (both timer_code e)

  p_back : read (both timer_code e) false (entered b).ram (value (up (down (down b.regs.r.r2)))) % 16 ≡ b.regs.p
  unfolding xp xp_back
  p_back = ap (λ z. z % 16) xp_back ∙ omega (arith, o.fits.regs.p)

  x_back : read (both timer_code e) false (entered b).ram (value (up (down (down b.regs.r.r2)))) / 16 ≡ b.regs.x
  unfolding xp xp_back
  x_back = ap (λ z. z / 16) xp_back ∙ omega (arith, o.fits.regs.p)

  pub kept : (j : ℕ) → (IsFree (memory_end e) b j → ⊥) → slice_index (entered b).ram j ≡ slice_index b.ram j
  unfolding a
  kept j h = ap (λ l. slice_index l j) ram_is ∙ others b.ram a xp b.regs.d o.fits.size room j (outside j h)
    where
      outside : (j : ℕ) → (IsFree (memory_end e) b j → ⊥) → a ≤ j → a + 1 < j
      outside j h l = go (cases_lt j (value b.regs.r.r2))
        where
          go : (j < value b.regs.r.r2) ⊎ (value b.regs.r.r2 ≤ j) → a + 1 < j
          go (inl k) = absurd (h (omega (arith, o.room), k))
          go (inr k) = omega (arith, o.room)

  is_tick : Tick (memory_end e) b end
  unfolding end c0 rf r8
  is_tick =
      record {
        is = λ i. record b {
          regs = record b.regs {
            r = record b.regs.r { r0 = word_of (shown e 32); r1 = sym o.entry i; r2 = r2_back i; r8 = fallen b.regs.r.r8; r9 = up b.regs.r.r9; rf = rf };
            d = d_back i;
            p = p_back i;
            x = x_back i;
            t = b.regs.x * 16 + b.regs.p;
            q = not (b.regs.r.r8.lo == 0);
            ie = sym o.enabled i;
            idle = false;
          };
          ram = (entered b).ram;
          latch = sym o.latch i;
          on = sym o.on i;
          cycle = 3668 * m + 2938;
        };
        size = ap length ram_is ∙ as_long b.ram a xp b.regs.d o.fits.size room;
        kept = kept;
        r0_fits = shown_fits e;
        rf_fits = delayed.fits;
        t_fits = omega (arith, o.fits.regs.x, o.fits.regs.p);
        bytes_fit = λ j f. subst (λ l. slice_index l j < 256) (sym ram_is) (bytes_fit b.ram a xp b.regs.d o.fits.size room xp_fits o.fits.regs.d o.fits.ram j);
      }

  time_is : end.cycle ≡ interrupt_at m + 1846
  unfolding end
  time_is = omega arith

  place_is : IsMainPlace end.cycle
  unfolding end
  place_is = record { outside = inr (omega arith); even = omega arith }

-- ---- over the image

abbrev TickBy : Edition → ℕ → Machine → (ℕ → Keys) → List ℕ → Type 0
TickBy e m b held rom =
    Tick (memory_end e) b (after_moves rom held b routine_moves)
    × ((after_moves rom held b routine_moves).cycle ≡ interrupt_at m + 1846)
    × IsMainPlace (after_moves rom held b routine_moves).cycle
    × ((k : ℕ) → 0 < k → k < routine_moves → RunsRoutine (after_moves rom held b k))
    × ((after_moves rom held b window_moves).cycle ≡ window_end m)

tick_by : (e : Edition) (m : ℕ) (b : Machine) (held : ℕ → Keys) → IsInterrupted e m b → TickBy e m b held (both timer_code e)
tick_by e m b held o = (
  subst (Tick (memory_end e) b) (sym
      (ends e m b held o)) (is_tick e m b held o),
  ap (λ (z : Machine). z.cycle) (ends e m b held
      o) ∙ time_is e m b held o,
  subst (λ (z : Machine). IsMainPlace z.cycle) (sym
      (ends e m b held o)) (place_is e m b held o),
  inside e m b held o,
  meets e m b held o,
)

pub run_tick : RunTick (rom_of timer_code)
run_tick e m b held o =
    let t = subst (TickBy e m b held) (both_is timer_code e) (tick_by e m b held o) in
    record { tick = t.0; cycle = t.1; place = t.2; inside = t.3; window = t.4 }
