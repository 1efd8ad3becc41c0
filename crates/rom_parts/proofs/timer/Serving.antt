-- The interrupt routine before and after the window.
use Rattle.std.proofs.Common.{◌≡◌, ℕ, ◌+◌, ◌-◌, ◌*◌, ◌/◌, ◌%◌, ◌<◌, ◌≤◌, ◌⊎◌, inl, inr, refl, ap, ap₂, arith, Bool, true, false, not, cond}
use Rattle.std.specs.Prelude.{◌==◌}
use Rattle.std.proofs.lemmas.Bool.{lt-leb, le-ltb, le-leb, eq-eqb, ne_eqb, cases_eq}
use Rattle.machine.specs.Bank.{Word, word, word_of, value, up, down}
use Rattle.machine.specs.Signals.{line_of, dma_at}
use Rattle.machine.specs.Memory.{read, written}
use Rattle.machine.specs.Board.{Machine}
use Rattle.machine.specs.Keys.{Keys}
use Rattle.machine.specs.Ranges.{FitsWord}
use Rattle.chip8_lang.specs.declared.view.Edition.{Edition}
use Rattle.chip8_lang.specs.Editions.{screen_start}
use Rattle.chip8_image.specs.declared.image.labels.TheConstants.{AT_ENTRY, AT_SCAN, AT_DELAY, AT_DELAY_DOWN, AT_DELAY_NONE, AT_SOUND, AT_SOUND_DOWN, AT_SOUND_NONE, AT_RESUME}
use Rattle.rom_law.specs.Program.{code}
use Rattle.rom_rows.proofs.Bytes.{screen_word}
use Rattle.rom_parts.specs.timer.Code.{timer_code}
use Rattle.rom_parts.proofs.Rom.{both, quick}
use Rattle.rom_parts.proofs.timer.Board.{timed, at_byte, Serves, serves_join, serves_to, instructions}
use Rattle.rom_parts.proofs.timer.Window.{scanning}

-- ---- no DMA cycle is wanted outside of the window

before : (m u : ℕ) → 3668 * m + 1093 ≤ u → u < 3668 * m + 1120 → dma_at u true ≡ false
before m u l h = rw (lt-leb 80 (line_of u) (omega arith)) refl

behind : (m u : ℕ) → 3668 * m + 2912 ≤ u → u < 3668 * m + 2938 → dma_at u true ≡ false
behind m u l h = rw (le-leb 80 (line_of u) (omega arith), le-ltb (line_of u) 208 (omega arith)) refl

-- ---- up to the window

-- the interrupt was taken
abbrev pub taken : Machine → Machine
taken b =
    record b {
      regs = record b.regs {
        r = record b.regs.r { r1 = word_of AT_ENTRY };
        t = b.regs.x * 16 + b.regs.p;
        p = 1;
        x = 2;
        ie = false;
        idle = false;
      };
      latch = false;
      on = true;
    }

-- X and P and D were pushed, and the tick was counted
abbrev pub entered : Machine → Machine
entered b =
    record b {
      regs = record b.regs { r = record b.regs.r { r2 = down (down b.regs.r.r2); r9 = up b.regs.r.r9 }; t = b.regs.x * 16 + b.regs.p };
      ram = written false (written false b.ram (value (down b.regs.r.r2)) (b.regs.x * 16 + b.regs.p)) (value (down (down b.regs.r.r2))) b.regs.d;
      latch = false;
    }

module _ (e : Edition) (held : ℕ → Keys) where
  pub opens : (m : ℕ) (b : Machine)
      → Serves (code (quick timer_code e)) held 13 (timed (3668 * m + 1093) (taken b))
      (timed (14 * (262 * m + 80)) (scanning (entered b) AT_SCAN (screen_start e) 0))
  opens m b =
      serves_to (code (quick timer_code e)) held (ap₂ timed time (ap (λ w. at_byte w (scanning (entered b) AT_SCAN (screen_start e) 0)) (screen_word e)))
      (instructions (code (quick timer_code e)) held 13 (3668 * m + 1093) (taken b) refl (λ u l h. before m u l (omega arith)))
    where
      time : 3668 * m + 1093 + 27 ≡ 14 * (262 * m + 80)
      time = omega arith

  -- ---- behind the window

  -- the routine at an address, with d in D, and RF, R8 and Q
  abbrev pub serving : Machine → ℕ → ℕ → Word → Word → Bool → Machine
  serving b address d rf r8 q =
      record b {
        regs = record b.regs {
          r = record b.regs.r { r1 = word_of address; r8 = r8; rf = rf };
          d = d;
          p = 1;
          x = 2;
          q = q;
          ie = false;
          idle = false;
        };
        on = true;
      }

  abbrev sets_pc : Machine → Word → Machine
  sets_pc b w = record b { regs = record b.regs { r = record b.regs.r { r1 = w } } }

  -- a timer is 0 or not
  test : {A : Type 0} (n : ℕ) (y z : A) → (n ≡ 0 → ⊥) → cond (n == 0) y z ≡ z
  test n y z h = rw (ne_eqb n 0 h) refl

  test_0 : {A : Type 0} (n : ℕ) (y z : A) → n ≡ 0 → cond (n == 0) y z ≡ y
  test_0 n y z h = rw (eq-eqb n 0 h) refl

  -- the delay timer
  pub record Delays (m : ℕ) (b : Machine) (d : ℕ) (rf r8 : Word) (q : Bool) : Type 0 where
    pub d' : ℕ
    pub f : ℕ
    pub serves : Serves (code (quick timer_code e)) held 6 (timed (3668 * m + 2912) (serving b AT_DELAY d rf r8 q))
        (timed (3668 * m + 2924) (serving b AT_SOUND d' (word rf.hi f) (word (r8.hi - 1) r8.lo) q))
    pub fits : f < 256

  module _ (m : ℕ) (b : Machine) (d : ℕ) (rf r8 : Word) (q : Bool) (frf : FitsWord rf) (fr8 : FitsWord r8) where
    delay_none : r8.hi ≡ 0 → Delays m b d rf r8 q
    delay_none h =
        record {
          d' = r8.hi;
          f = rf.lo;
          serves =
              serves_join (code (quick timer_code e)) held
              (serves_to (code (quick timer_code e)) held
              (ap₂ timed time (ap (sets_pc (serving b AT_DELAY r8.hi rf r8 q))
              (test_0 r8.hi (word_of AT_DELAY_NONE) (word_of AT_DELAY_DOWN) h)))
              (instructions (code (quick timer_code e)) held 2 (3668 * m + 2912) (serving b AT_DELAY d rf r8 q) refl
              (λ u l k. behind m u l (omega arith))))
              (serves_to (code (quick timer_code e)) held (ap₂ timed time' (ap (λ z. serving b AT_SOUND r8.hi rf (word z r8.lo) q) none))
              (instructions (code (quick timer_code e)) held 4 (3668 * m + 2916) (serving b AT_DELAY_NONE r8.hi rf r8 q) refl
              (λ u l k. behind m u (omega arith) (omega arith))));
          fits = frf.lo;
        }
      where
        time : 3668 * m + 2912 + 4 ≡ 3668 * m + 2916
        time = omega arith

        time' : 3668 * m + 2916 + 8 ≡ 3668 * m + 2924
        time' = omega arith

        none : r8.hi ≡ r8.hi - 1
        none = omega arith

    delay_down : (r8.hi ≡ 0 → ⊥) → Delays m b d rf r8 q
    delay_down h =
        record {
          d' = r8.hi - 1;
          f = r8.hi - 1;
          serves =
              serves_join (code (quick timer_code e)) held
              (serves_to (code (quick timer_code e)) held
              (ap₂ timed time (ap (sets_pc (serving b AT_DELAY r8.hi rf r8 q))
              (test r8.hi (word_of AT_DELAY_NONE) (word_of AT_DELAY_DOWN) h)))
              (instructions (code (quick timer_code e)) held 2 (3668 * m + 2912) (serving b AT_DELAY d rf r8 q) refl
              (λ u l k. behind m u l (omega arith))))
              (serves_to (code (quick timer_code e)) held (ap₂ timed time' (λ i. serving b AT_SOUND (low i) (word (high i) (low i)) (word (low i) r8.lo) q))
              (instructions (code (quick timer_code e)) held 4 (3668 * m + 2916) (serving b AT_DELAY_DOWN r8.hi rf r8 q) refl
              (λ u l k. behind m u (omega arith) (omega arith))));
          fits = omega (arith, fr8.hi);
        }
      where
        time : 3668 * m + 2912 + 4 ≡ 3668 * m + 2916
        time = omega arith

        time' : 3668 * m + 2916 + 8 ≡ 3668 * m + 2924
        time' = omega arith

        low : (down (word rf.hi r8.hi)).lo ≡ r8.hi - 1
        low = omega (arith, h, fr8.hi)

        high : (down (word rf.hi r8.hi)).hi ≡ rf.hi
        high = omega (arith, h, fr8.hi, frf.hi)

    pub delays : Delays m b d rf r8 q
    delays = go (cases_eq r8.hi 0)
      where
        go : (r8.hi ≡ 0) ⊎ (r8.hi ≡ 0 → ⊥) → Delays m b d rf r8 q
        go (inl h) = delay_none h
        go (inr h) = delay_down h

    -- the sound timer
    abbrev pub Sounds : Type 0
    Sounds =
        Serves (code (quick timer_code e)) held 5 (timed (3668 * m + 2924) (serving b AT_SOUND d rf r8 q))
        (timed (3668 * m + 2934) (serving b AT_RESUME r8.lo rf (word r8.hi (r8.lo - 1)) (not (r8.lo == 0))))

    sound_none : r8.lo ≡ 0 → Sounds
    sound_none h =
        serves_join (code (quick timer_code e)) held
        (serves_to (code (quick timer_code e)) held
        (ap₂ timed time (ap (sets_pc (serving b AT_SOUND r8.lo rf r8 q)) (test_0 r8.lo (word_of AT_SOUND_NONE) (word_of AT_SOUND_DOWN) h)))
        (instructions (code (quick timer_code e)) held 2 (3668 * m + 2924) (serving b AT_SOUND d rf r8 q) refl
        (λ u l k. behind m u (omega arith) (omega arith))))
        (serves_to (code (quick timer_code e)) held (ap₂ timed time' (λ i. serving b AT_RESUME r8.lo rf (word r8.hi (none i)) (silent i)))
        (instructions (code (quick timer_code e)) held 3 (3668 * m + 2928) (serving b AT_SOUND_NONE r8.lo rf r8 q) refl
        (λ u l k. behind m u (omega arith) (omega arith))))
      where
        time : 3668 * m + 2924 + 4 ≡ 3668 * m + 2928
        time = omega arith

        time' : 3668 * m + 2928 + 6 ≡ 3668 * m + 2934
        time' = omega arith

        none : r8.lo ≡ r8.lo - 1
        none = omega arith

        silent : false ≡ not (r8.lo == 0)
        silent = rw (eq-eqb r8.lo 0 h) refl

    sound_down : (r8.lo ≡ 0 → ⊥) → Sounds
    sound_down h =
        serves_join (code (quick timer_code e)) held
        (serves_to (code (quick timer_code e)) held
        (ap₂ timed time (ap (sets_pc (serving b AT_SOUND r8.lo rf r8 q)) (test r8.lo (word_of AT_SOUND_NONE) (word_of AT_SOUND_DOWN) h)))
        (instructions (code (quick timer_code e)) held 2 (3668 * m + 2924) (serving b AT_SOUND d rf r8 q) refl
        (λ u l k. behind m u (omega arith) (omega arith))))
        (serves_to (code (quick timer_code e)) held (ap₂ timed time' (λ i. serving b AT_RESUME r8.lo rf (word (high i) (low i)) (sounds i)))
        (instructions (code (quick timer_code e)) held 3 (3668 * m + 2928) (serving b AT_SOUND_DOWN r8.lo rf r8 q) refl
        (λ u l k. behind m u (omega arith) (omega arith))))
      where
        time : 3668 * m + 2924 + 4 ≡ 3668 * m + 2928
        time = omega arith

        time' : 3668 * m + 2928 + 6 ≡ 3668 * m + 2934
        time' = omega arith

        low : (down r8).lo ≡ r8.lo - 1
        low = omega (arith, h, fr8.lo)

        high : (down r8).hi ≡ r8.hi
        high = omega (arith, h, fr8.lo, fr8.hi)

        sounds : true ≡ not (r8.lo == 0)
        sounds = rw (ne_eqb r8.lo 0 h) refl

    pub sounds : Sounds
    sounds = go (cases_eq r8.lo 0)
      where
        go : (r8.lo ≡ 0) ⊎ (r8.lo ≡ 0 → ⊥) → Sounds
        go (inl h) = sound_none h
        go (inr h) = sound_down h

  -- D, X and P are read again, and interrupts enabled
  abbrev pub resumed : Machine → Machine
  resumed b =
      record b {
        regs = record b.regs {
          r = record b.regs.r { r1 = word_of AT_ENTRY; r2 = up (up b.regs.r.r2) };
          d = read (both timer_code e) b.latch b.ram (value b.regs.r.r2);
          p = read (both timer_code e) b.latch b.ram (value (up b.regs.r.r2)) % 16;
          x = read (both timer_code e) b.latch b.ram (value (up b.regs.r.r2)) / 16;
          ie = true;
        };
      }

  pub resumes : (m : ℕ) (b : Machine) (d : ℕ) (rf r8 : Word) (q : Bool)
      → Serves (code (quick timer_code e)) held 2 (timed (3668 * m + 2934) (serving b AT_RESUME d rf r8 q))
      (timed (3668 * m + 2938) (resumed (serving b AT_RESUME d rf r8 q)))
  resumes m b d rf r8 q =
      serves_to (code (quick timer_code e)) held (ap (λ t. timed t (resumed (serving b AT_RESUME d rf r8 q))) time)
      (instructions (code (quick timer_code e)) held 2 (3668 * m + 2934) (serving b AT_RESUME d rf r8 q) refl
      (λ u l k. behind m u (omega arith) (omega arith)))
    where
      time : 3668 * m + 2934 + 4 ≡ 3668 * m + 2938
      time = omega arith
