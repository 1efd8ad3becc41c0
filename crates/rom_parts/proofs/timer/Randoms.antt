-- CXKK.
use Rattle.std.proofs.Common.{◌≡◌, ℕ, ◌+◌, ◌%◌, refl, ◌∙◌, ap, subst, arith, List, slice_set, bit_and}
use Rattle.std.specs.Prelude.{None}
use Rattle.std.proofs.lemmas.Nat.{and_comm}
use Rattle.machine.specs.Bank.{word, word_of, value}
use Rattle.machine.specs.Memory.{read, written}
use Rattle.machine.specs.Board.{Machine}
use Rattle.machine.specs.Ranges.{FitsMachine}
use Rattle.chip8_lang.specs.declared.instr.Instr.TheVariants.{Random as RandomByte}
use Rattle.chip8_lang.specs.declared.view.Edition.{Edition}
use Rattle.chip8_lang.specs.Editions.{random_cell}
use Rattle.chip8_lang.specs.State.{Lang, instr_at}
use Rattle.chip8_lang.specs.Step.{next, random, stop_of}
use Rattle.chip8_image.specs.declared.image.labels.TheConstants.{AT_RANDOM, AT_RANDOM_COUNT, AT_RANDOM_MIX}
use Rattle.rom_law.specs.Holding.{Places, places, Holding}
use Rattle.rom_law.specs.Moments.{TicksBefore}
use Rattle.rom_law.specs.Rows.{Since, now}
use Rattle.rom_law.specs.Program.{code}
use Rattle.rom_law.proofs.Places.{read_is, v_set, random_set}
use Rattle.rom_law.proofs.Kept.{RunsBlock, RunsPlace}
use Rattle.rom_law.proofs.Moves.{quicks, reaches_in, reaches_from}
use Rattle.rom_rows.specs.Heads.{high_byte, low_byte, page_of, Entered, Enters}
use Rattle.rom_rows.specs.TimerBlocks.{Mixes}
use Rattle.rom_rows.specs.TimerBlocks.TimerBlock.{Random, RandomMix}
use Rattle.rom_rows.specs.TimerBlocks.TimerPlace.{RandomCount}
use Rattle.rom_rows.specs.Table.{At, calm_pieces, calm_top}
use Rattle.rom_rows.specs.Table.Block.{OfTimer}
use Rattle.rom_rows.specs.Table.Place.{AtTimer}
use Rattle.rom_rows.proofs.Alone.{alone, one_more, meets_now}
use Rattle.rom_rows.proofs.Bytes.{page_fits, page_low, memory_end_is, stack_top_is, variables_is}
use Rattle.rom_rows.proofs.Entry.{ready, entered, is_entered}
use Rattle.rom_rows.proofs.Follows.{to_timer, to_timer_place}
use Rattle.rom_rows.proofs.Straight.{routine}
use Rattle.rom_rows.proofs.Steps.{meets_grown, steps}
use Rattle.rom_parts.specs.timer.Code.{timer_code}
use Rattle.rom_parts.proofs.Rom.{both, quick}

module _ (e : Edition) (b : Machine) (h : Since) (f : FitsMachine b) where
  abbrev high : ℕ
  high = high_byte (now h)

  abbrev low : ℕ
  low = low_byte (now h)

  pub random_comes : Enters (quick timer_code e) AT_RANDOM 12 b (now h) → h.spent ≡ 80
      → RunsBlock (quick timer_code e) (calm_pieces (quick timer_code e)) (OfTimer Random) b h
  random_comes o spent = routine (OfTimer Random) o.entered _ (omega arith) refl
      (λ h' g. to_timer_place (quick timer_code e) g _ refl RandomCount (
        record {
          entered = record {
            holds = o.entered.holds;
            inside = o.entered.inside;
            p = refl;
            r3 = refl;
            r4 = refl;
            r6 = refl;
            r7 = refl;
            rc = refl;
          };
          digit = o.digit;
        },
        record { rd = refl; x = refl },
      ) (omega (arith, spent, g.spent)))

  -- the machine with RD at the random byte
  abbrev mixing : ℕ → Machine
  mixing a =
      record (entered e a high low b) {
        regs = record (entered e a high low b).regs { x = 13; r = record (entered e a high low b).regs.r { rd = word_of random_cell } };
      }

  is_mixing : {a : ℕ} → Entered (quick timer_code e) a b (now h) → Mixes b → b ≡ mixing a
  is_mixing {a = a} o m =
      is_entered o ∙ (λ i. record (entered e a high low b) {
        regs = record (entered e a high low b).regs { x = m.x i; r = record (entered e a high low b).regs.r { rd = m.rd i } };
      })

  pub random_count_holds : Enters (quick timer_code e) AT_RANDOM_COUNT 12 b (now h) → Mixes b → At (quick timer_code e) (AtTimer RandomCount) b h → h.spent ≡ 90
      → RunsPlace (quick timer_code e) (calm_pieces (quick timer_code e)) (AtTimer RandomCount) b h
  random_count_holds o m at spent = alone (AtTimer RandomCount) f at o.entered.holds (mixing AT_RANDOM_COUNT) (is_mixing o.entered m) refl refl refl
      (λ u. to_timer (quick timer_code e) (one_more u h) _ refl RandomMix (
        record {
          entered = record {
            holds = o.entered.holds;
            inside = o.entered.inside;
            p = refl;
            r3 = refl;
            r4 = refl;
            r6 = refl;
            r7 = refl;
            rc = refl;
          };
          digit = o.digit;
        },
        record {
          rd = refl;
          x = refl;
        },
        omega (arith, ap (λ (z : Lang). z.n) o.entered.holds.is, f.regs.r.r9.lo),
      ) (omega (arith, spent), meets_now u h 90 spent))

  -- ---- the next random byte

  random_is : Enters (quick timer_code e) AT_RANDOM_MIX 12 b (now h) → instr_at (now h) ≡ RandomByte (high % 16) low
  random_is o = rw o.digit refl

  random_runs : Enters (quick timer_code e) AT_RANDOM_MIX 12 b (now h) → stop_of e (now h) ≡ None
  random_runs o = rw (o.entered.inside, o.digit) refl

  abbrev old : ℕ
  old = read (both timer_code e) b.latch b.ram random_cell

  abbrev mixed : ℕ
  mixed = ((old + (old + (old + (old + (old + b.regs.d) % 256) % 256) % 256) % 256) % 256 + 113) % 256

  mixed_is : Enters (quick timer_code e) AT_RANDOM_MIX 12 b (now h) → b.regs.d ≡ (now h).n % 256 → mixed ≡ random (now h)
  mixed_is o d = omega (arith, d, read_is o.entered.holds random_cell (omega arith), ap (λ (z : Lang). z.b) o.entered.holds.is)

  -- RAM with it
  abbrev stored : List ℕ
  stored = written b.latch b.ram random_cell mixed

  abbrev byte : ℕ
  byte = bit_and low (read (both timer_code e) b.latch stored random_cell)

  byte_is : Enters (quick timer_code e) AT_RANDOM_MIX 12 b (now h) → b.regs.d ≡ (now h).n % 256 → byte ≡ bit_and (random (now h)) low
  byte_is o d =
      ap (bit_and low) (read_is (random_set o.entered.holds mixed) random_cell (omega arith)
      ∙ ap (λ (z : Lang). z.b) (random_set o.entered.holds mixed).is ∙ mixed_is o d) ∙ and_comm low (random (now h))

  abbrev put : Places
  put = record (places b) { ram = written b.latch stored (value (word (page_of e) (240 + high % 16))) byte }

  pub random_mix_comes : Enters (quick timer_code e) AT_RANDOM_MIX 12 b (now h) → Mixes b → b.regs.d ≡ (now h).n % 256 → h.spent ≡ 92
      → TicksBefore h.moments 90 h.ticks
      → RunsBlock (quick timer_code e) (calm_pieces (quick timer_code e)) (OfTimer RandomMix) b h
  random_mix_comes o m d spent met = record {
    runs = ready o.entered.holds;
    awake = o.entered.holds.awake;
    some = omega arith;
    end = quicks (code (quick timer_code e)) 11 (mixing AT_RANDOM_MIX);
    reaches =
        reaches_from (code (quick timer_code e)) (calm_top e) 11 b _ _ (is_mixing o.entered m)
        (reaches_in (code (quick timer_code e)) (calm_top e) 11 _ _
        (omega (arith, o.entered.holds.stack, stack_top_is e, memory_end_is e, page_fits e, page_low e)) refl);
    ends = λ h' g. steps e g (RandomByte (high % 16) low) (random_is o) refl (random_runs o) (omega (arith, spent)) (meets_grown g met) _ puts refl refl;
  }
    where
      puts : Holding (quick timer_code e) put (record (next (now h)) { v = slice_set (now h).v (high % 16) (bit_and (random (now h)) low); b = random (now h) })
      puts =
          subst (Holding (quick timer_code e) put) (λ i. record (next (now h)) { v = slice_set (now h).v (high % 16) (byte_is o d i); b = mixed_is o d i })
          (v_set (random_set o.entered.holds mixed) (value (word (page_of e) (240 + high % 16))) (high % 16) byte (omega (arith, variables_is e))
          (omega arith))
