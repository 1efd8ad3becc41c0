-- The stops: a pc outside game memory, each page's way to the stops, and the stop code.
use Rattle.std.proofs.Common.{◌≡◌, ℕ, zero, suc, ◌+◌, ◌*◌, ◌<◌, refl, sym, ◌∙◌, ap, subst, arith, false}
use Rattle.std.specs.Prelude.{Some}
use Rattle.machine.specs.Bank.{word, word_of, value, down}
use Rattle.machine.specs.Board.{Machine}
use Rattle.machine.specs.Ranges.{FitsMachine}
use Rattle.chip8_lang.specs.declared.view.Edition.{Edition}
use Rattle.chip8_lang.specs.declared.view.Stop.TheVariants.{FetchOutside}
use Rattle.chip8_lang.specs.Editions.{stop_cell}
use Rattle.chip8_lang.specs.State.{Lang, is_fetchable}
use Rattle.chip8_lang.specs.Step.{next, stop_of}
use Rattle.chip8_lang.specs.Timed.{stop_cycles}
use Rattle.chip8_image.specs.declared.image.labels.TheConstants.{AT_OUTSIDE, AT_STOP, AT_STOPPED, AT_LEAVE81}
use Rattle.rom_law.proofs.Moves.{quicks, Reaches, reaches_in, reaches_from}
use Rattle.rom_law.specs.Program.{code}
use Rattle.rom_law.specs.Holding.{places, Holding}
use Rattle.rom_law.specs.Rows.{Since, now}
use Rattle.rom_law.specs.Rows.Ends.{Fails}
use Rattle.rom_law.proofs.Places.{keeping, pc_is, pc_set, cell_set, cell_is}
use Rattle.rom_law.proofs.Steps.{now_same}
use Rattle.rom_law.proofs.Kept.{RunsBlock}
use Rattle.rom_rows.specs.Heads.{to_stop, Fetching, Leaving, Stopping}
use Rattle.rom_rows.specs.FetchBlocks.FetchBlock.{Outside, Leave, Stop, Stopped}
use Rattle.rom_rows.specs.Table.{calm_pieces, calm_top}
use Rattle.rom_rows.specs.Table.Block.{OfFetch}
use Rattle.rom_rows.proofs.Bytes.{page_low}
use Rattle.rom_rows.proofs.Entry.{ready, on_4, is_on_4, on_3, is_on_3}
use Rattle.rom_rows.proofs.Follows.{to_fetch}
use Rattle.rom_rows.proofs.Steps.{stop_ticks, stop_cycles_ticks}
use Rattle.rom_parts.specs.fetch.Code.{fetch_code}
use Rattle.rom_parts.proofs.Rom.{quick}

outside_stop : (e : Edition) (s : Lang) → is_fetchable e s ≡ false → stop_of e s ≡ Some FetchOutside
outside_stop e s h = rw h refl

module _ (e : Edition) (b : Machine) (h : Since) (f : FitsMachine b) where
  pub outside_comes : Fetching (quick fetch_code e) AT_OUTSIDE b (now h) → is_fetchable e (now h) ≡ false → h.spent + 26 ≡ to_stop (quick fetch_code e) (now h)
      → RunsBlock (quick fetch_code e) (calm_pieces (quick fetch_code e)) (OfFetch Outside) b h
  outside_comes o out spent = record {
    runs = ready o.holds;
    awake = o.holds.awake;
    some = omega arith;
    end = quicks (code (quick fetch_code e)) 7 (on_4 (word_of AT_OUTSIDE) b);
    reaches = reaches_from (code (quick fetch_code e)) (calm_top e) 7 b _ _ (is_on_4 o)
        (reaches_in (code (quick fetch_code e)) (calm_top e) 7 _ _ (omega arith) refl);
    ends =
        λ h' g. to_fetch (quick fetch_code e) g (quicks (code (quick fetch_code e)) 7 (on_4 (word_of AT_OUTSIDE) b)) refl Stopped
        (record { holds = o.holds; p = refl; r3 = refl; stop = FetchOutside; fits = outside_stop e (now h) out; number = refl })
        (omega (arith, spent, g.spent));
  }

  -- at a page's way to the stops, D goes into RE.0
  abbrev left : Machine
  left = record b { regs = record b.regs { d = 128; p = 3; r = record b.regs.r { r3 = word_of AT_STOP; re = word b.regs.r.re.hi b.regs.d } } }

  leaves : (i : ℕ) → Reaches (code (quick fetch_code e)) (calm_top e) 3 (on_3 (AT_LEAVE81 + 0x100 * i) b) left
      → Leaving (quick fetch_code e) (AT_LEAVE81 + 0x100 * i) b (now h) → h.spent + 22 ≡ to_stop (quick fetch_code e) (now h)
      → RunsBlock (quick fetch_code e) (calm_pieces (quick fetch_code e)) (OfFetch (Leave i)) b h
  leaves i reach o spent = record {
    runs = ready o.holds;
    awake = o.holds.awake;
    some = omega arith;
    end = left;
    reaches = reaches_from (code (quick fetch_code e)) (calm_top e) 3 b _ _ (is_on_3 (AT_LEAVE81 + 0x100 * i) b o.p o.r3) reach;
    ends =
        λ h' g. to_fetch (quick fetch_code e) g left refl Stop
        (record { holds = o.holds; p = refl; r3 = refl; stop = o.stop; fits = o.fits; number = o.number })
        (omega (arith, spent, g.spent));
  }

  pub leave_comes : (i : ℕ) → i < 4 → Leaving (quick fetch_code e) (AT_LEAVE81 + 0x100 * i) b (now h) → h.spent + 22 ≡ to_stop (quick fetch_code e) (now h)
      → RunsBlock (quick fetch_code e) (calm_pieces (quick fetch_code e)) (OfFetch (Leave i)) b h
  leave_comes zero l o spent = leaves 0 (reaches_in (code (quick fetch_code e)) (calm_top e) 3 _ _ (omega arith) refl) o spent
  leave_comes (suc zero) l o spent = leaves 1 (reaches_in (code (quick fetch_code e)) (calm_top e) 3 _ _ (omega arith) refl) o spent
  leave_comes (suc (suc zero)) l o spent = leaves 2 (reaches_in (code (quick fetch_code e)) (calm_top e) 3 _ _ (omega arith) refl) o spent
  leave_comes (suc (suc (suc zero))) l o spent = leaves 3 (reaches_in (code (quick fetch_code e)) (calm_top e) 3 _ _ (omega arith) refl) o spent
  leave_comes (suc (suc (suc (suc i)))) l o spent = absurd (omega (arith, l))

  -- pc goes back to the opcode
  pub stop_comes : Stopping (quick fetch_code e) AT_STOP next b (now h) → h.spent + 16 ≡ to_stop (quick fetch_code e) (now h)
      → RunsBlock (quick fetch_code e) (calm_pieces (quick fetch_code e)) (OfFetch Stop) b h
  stop_comes o spent = record {
    runs = ready o.holds;
    awake = o.holds.awake;
    some = omega arith;
    end = quicks (code (quick fetch_code e)) 2 (on_3 AT_STOP b);
    reaches =
        reaches_from (code (quick fetch_code e)) (calm_top e) 2 b _ _ (is_on_3 AT_STOP b o.p o.r3)
        (reaches_in (code (quick fetch_code e)) (calm_top e) 2 _ _ (omega arith) refl);
    ends =
        λ h' g. to_fetch (quick fetch_code e) g (quicks (code (quick fetch_code e)) 2 (on_3 AT_STOP b)) refl Stopped
        (record {
          holds = pc_set o.holds (down (down b.regs.r.r5)) (now h).pc back;
          p = refl;
          r3 = refl;
          stop = o.stop;
          fits = o.fits;
          number = o.number;
        }) (omega (arith, spent, g.spent));
  }
    where
      back : value (down (down b.regs.r.r5)) ≡ (now h).pc
      back = omega (arith, pc_is o.holds, f.regs.r.r5.hi, f.regs.r.r5.lo)

  -- the number of the stop goes into its cell
  pub stopped_comes : Stopping (quick fetch_code e) AT_STOPPED (λ z. z) b (now h) → h.spent + 12 ≡ to_stop (quick fetch_code e) (now h)
      → RunsBlock (quick fetch_code e) (calm_pieces (quick fetch_code e)) (OfFetch Stopped) b h
  stopped_comes o spent = record {
    runs = ready o.holds;
    awake = o.holds.awake;
    some = omega arith;
    end = quicks (code (quick fetch_code e)) 6 (on_3 AT_STOPPED b);
    reaches =
        reaches_from (code (quick fetch_code e)) (calm_top e) 6 b _ _ (is_on_3 AT_STOPPED b o.p o.r3)
        (reaches_in (code (quick fetch_code e)) (calm_top e) 6 _ _ (omega (arith, page_low e)) refl);
    ends = λ h' g. Fails o.stop (record {
      fits = ap (stop_of e) g.state ∙ sym (stop_ticks e h.ticks h.state) ∙ o.fits;
      time = g.spent ∙ spent ∙ stop_cycles_ticks e h.ticks h.state ∙ sym (ap (stop_cycles e) g.state);
      halts = record {
        keeps =
            keeping (quick fetch_code e) (quicks (code (quick fetch_code e)) 6 (on_3 AT_STOPPED b)) (now h')
            (subst (Holding (quick fetch_code e) (places (quicks (code (quick fetch_code e)) 6 (on_3 AT_STOPPED b)))) (sym (now_same g))
            (cell_set o.holds stop_cell b.regs.r.re.lo (omega arith) (λ n. omega (arith, n))));
        p = refl;
        r3 = refl;
        number = cell_is o.holds stop_cell b.regs.r.re.lo (omega arith) ∙ o.number;
      };
    });
  }
