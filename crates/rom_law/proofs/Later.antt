-- Ticks of the machine are ticks of the language.
use Rattle.std.proofs.Common.{◌≡◌, ℕ, zero, suc, ◌+◌, ◌-◌, ◌*◌, ◌/◌, ◌%◌, ◌<◌, ◌≤◌, refl, sym, ◌∙◌, ap, subst, arith, slice_index, slice_range, length}
use Rattle.machine.specs.Bank.{Word, value, up}
use Rattle.machine.specs.Board.{Machine}
use Rattle.machine.specs.Ranges.{FitsWord, FitsMachine}
use Rattle.chip8_lang.specs.declared.view.Edition.{Edition}
use Rattle.chip8_lang.specs.declared.view.Stop.{Stop}
use Rattle.chip8_lang.specs.Editions.{memory_start, memory_end, stack_top, variables, screen_start, rows_of, random_cell, stop_cell}
use Rattle.chip8_lang.specs.State.{Lang}
use Rattle.chip8_lang.specs.Ticks.{tick, ticks}
use Rattle.chip8_lang.specs.Places.{pixels, addresses, most_addresses}
use Rattle.rom_law.specs.Later.{After, falls, ups, tones}
use Rattle.rom_law.specs.Program.{Program, code, KeepsState, Dispatches, Halts}
use Rattle.rom_law.proofs.Places.{Places, places, depth, lies_in, Holding, holding, keeping, range_same, addresses_same, stack_below, variables_below, memory_above, stack_room, most}

ups_fit : (n : ℕ) (w : Word) → FitsWord w → FitsWord (ups n w)
ups_fit zero w f = f
ups_fit (suc n) w f = record { hi = omega arith; lo = omega arith }

up_value : (w : Word) → FitsWord w → (value w + 1) % 65536 ≡ value (up w)
up_value w f = omega (arith, f.hi, f.lo)

-- the places after n ticks that left this RAM
abbrev later_places : ℕ → Places → Places
later_places n p = record p { r8 = falls n p.r8; r9 = ups n p.r9; q = tones n p.r8 p.q }

lies_ticks : (e : Edition) (n : ℕ) (p : Places) → FitsWord p.r9 → lies_in e (later_places n p) ≡ ticks n (lies_in e p)
lies_ticks e zero p f = refl
lies_ticks e (suc n) p f =
    (λ i. record (lies_in e (later_places (suc n) p)) { n = sym (up_value (ups n p.r9) (ups_fit n p.r9 f)) i }) ∙ ap tick (lies_ticks e n p f)

ticks_stack : (n : ℕ) (s : Lang) → (ticks n s).stack ≡ s.stack
ticks_stack zero s = refl
ticks_stack (suc n) s = ticks_stack n s

module _ (x : Program) (n : ℕ) (b c : Machine) (s : Lang) (h : After (code x).low n b c) (o : Holding x (places b) s) (r9 : FitsWord b.regs.r.r9) where
  abbrev e : Edition
  e = x.edition

  below : value b.regs.r.r2 ≤ stack_top e
  below = omega (arith, o.stack)

  -- what lies above R2, or below the end of game memory, is as it was
  same_above : (a : ℕ) → value b.regs.r.r2 < a → slice_index c.ram a ≡ slice_index b.ram a
  same_above a l = h.ram a (λ k. l)

  same_below : (a : ℕ) → a < memory_end e → slice_index c.ram a ≡ slice_index b.ram a
  same_below a l = h.ram a (λ k. omega (arith, l, k))

  v_same : slice_range c.ram (variables e) (variables e + 16) ≡ slice_range b.ram (variables e) (variables e + 16)
  v_same = range_same (variables e) (variables e + 16) b.ram c.ram h.size (λ i l g. same_above i (omega (arith, below, stack_below e, l)))

  memory_same : slice_range c.ram memory_start (memory_end e) ≡ slice_range b.ram memory_start (memory_end e)
  memory_same = range_same memory_start (memory_end e) b.ram c.ram h.size (λ i l g. same_below i g)

  screen_same : slice_range c.ram (screen_start e) 0x1000 ≡ slice_range b.ram (screen_start e) 0x1000
  screen_same = range_same (screen_start e) 0x1000 b.ram c.ram h.size (λ i l g. same_above i (omega (arith, below, stack_below e, variables_below e, l)))

  random_same : slice_index c.ram random_cell ≡ slice_index b.ram random_cell
  random_same = same_below random_cell (omega (arith, memory_above e))

  stack_same : addresses c.ram (stack_top e) (depth e (value b.regs.r.r2)) ≡ addresses b.ram (stack_top e) (depth e (value b.regs.r.r2))
  stack_same =
      addresses_same (depth e (value b.regs.r.r2)) (stack_top e) b.ram c.ram
      (omega (arith, stack_room e, most most_addresses ((stack_top e - value b.regs.r.r2) / 2))) (λ a l m. same_above a (omega (arith, l, less)))
    where
      less : 2 * depth e (value b.regs.r.r2) ≤ stack_top e - value b.regs.r.r2
      less = omega arith

  -- what lies in a state after n ticks
  lies_after : lies_in e (places c) ≡ ticks n s
  lies_after =
      ap (λ (z : Machine). lies_in e (places z)) h.is
      ∙ (λ i. record (lies_in e (record (later_places n (places b)) { ram = c.ram })) {
        v = v_same i;
        memory = memory_same i;
        b = random_same i;
        stack = stack_same i;
        screen = pixels (rows_of e) (screen_same i);
      })
      ∙ lies_ticks e n (places b) r9
      ∙ ap (ticks n) o.is

  pub holding_after : Holding x (places c) (ticks n s)
  holding_after =
      record {
        is = lies_after;
        stack =
            subst (λ (w : Word). value w + 2 * length (ticks n s).stack ≡ stack_top e) (sym (ap (λ (z : Machine). z.regs.r.r2) h.is))
            (ap (λ l. value b.regs.r.r2 + 2 * length l) (ticks_stack n s) ∙ o.stack);
        size = h.size ∙ o.size;
        latch = ap (λ (z : Machine). z.latch) h.is ∙ o.latch;
        enabled = ap (λ (z : Machine). z.regs.ie) h.is ∙ o.enabled;
        awake = ap (λ (z : Machine). z.regs.idle) h.is ∙ o.awake;
        on = ap (λ (z : Machine). z.on) h.is ∙ o.on;
        entry = ap (λ (z : Machine). z.regs.r.r1) h.is ∙ o.entry;
        page = ap (λ (z : Machine). z.regs.r.rb.hi) h.is ∙ o.page;
      }

module _ (x : Program) (n : ℕ) (b c : Machine) (h : After (code x).low n b c) (f : FitsMachine b) where
  pub keeps_after : (s : Lang) → KeepsState x b s → KeepsState x c (ticks n s)
  keeps_after s o = keeping x c (ticks n s) (holding_after x n b c s h (holding x b s f.size o) f.regs.r.r9)

  pub dispatches_after : (s : Lang) → Dispatches x b s → Dispatches x c (ticks n s)
  dispatches_after s o =
      record { keeps = keeps_after s o.keeps; p = ap (λ (z : Machine). z.regs.p) h.is ∙ o.p; r4 = ap (λ (z : Machine). z.regs.r.r4) h.is ∙ o.r4 }

  pub halts_after : (s : Lang) (stop : Stop) → Halts x b s stop → Halts x c (ticks n s) stop
  halts_after s stop o =
      record {
        keeps = keeps_after s o.keeps;
        p = ap (λ (z : Machine). z.regs.p) h.is ∙ o.p;
        r3 = ap (λ (z : Machine). z.regs.r.r3) h.is ∙ o.r3;
        number = h.ram stop_cell (λ l. omega (arith, l, memory_above x.edition)) ∙ o.number;
      }
