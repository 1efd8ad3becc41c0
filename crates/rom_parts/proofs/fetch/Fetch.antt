-- The fetch: from the dispatch point to where pc is known to lie in game memory.
use Rattle.std.proofs.Common.{◌≡◌, ℕ, ◌+◌, ◌-◌, ◌/◌, ◌<◌, ◌≤◌, ◌⊎◌, inl, inr, refl, arith, cond, not}
use Rattle.std.specs.Prelude.{◌==◌}
use Rattle.std.proofs.lemmas.Bool.{le-leb, lt-leb, cases_lt}
use Rattle.machine.specs.Bank.{Word, word_of, value}
use Rattle.machine.specs.Board.{Machine}
use Rattle.machine.specs.Ranges.{FitsMachine}
use Rattle.chip8_lang.specs.declared.view.Edition.{Edition}
use Rattle.chip8_lang.specs.Editions.{memory_end}
use Rattle.chip8_image.specs.declared.image.labels.TheConstants.{AT_OUTSIDE, AT_FETCH, AT_UPPER, AT_INSIDE}
use Rattle.rom_law.proofs.Moves.{quicks, Reaches, reaches_in, reaches_from}
use Rattle.rom_law.specs.Program.{code}
use Rattle.rom_law.specs.Rows.{Since, now}
use Rattle.rom_law.proofs.Places.{pc_is}
use Rattle.rom_law.proofs.Kept.{RunsBlock}
use Rattle.rom_rows.specs.Heads.{page_of, Fetching}
use Rattle.rom_rows.specs.FetchBlocks.FetchBlock.{Fetch, Upper, Inside, Outside}
use Rattle.rom_rows.specs.Table.{calm_pieces, calm_top}
use Rattle.rom_rows.specs.Table.Block.{OfFetch}
use Rattle.rom_rows.proofs.Bytes.{memory_end_is, page_fits}
use Rattle.rom_rows.proofs.Entry.{ready, on_4, is_on_4}
use Rattle.rom_rows.proofs.Follows.{to_fetch}
use Rattle.rom_rows.proofs.Times.{stop_low, stop_high}
use Rattle.rom_parts.specs.fetch.Code.{fetch_code}
use Rattle.rom_parts.proofs.Rom.{quick}

-- the branch on DF = 0
taken : (n : ℕ) (a c : Word) → n ≡ 0 → cond (not (n == 1)) a c ≡ a
taken n a c e = rw e refl

passed : (n : ℕ) (a c : Word) → n ≡ 1 → cond (not (n == 1)) a c ≡ c
passed n a c e = rw e refl

-- ---- pc is 0200 at least

module _ (e : Edition) (b : Machine) (h : Since) (f : FitsMachine b) (o : Fetching (quick fetch_code e) AT_FETCH b (now h)) (spent : h.spent ≡ 0) where
  pc : value b.regs.r.r5 ≡ (now h).pc
  pc = pc_is o.holds

  end : Word → Machine
  end a = on_4 a (quicks (code (quick fetch_code e)) 3 (on_4 (word_of AT_FETCH) b))

  reaches : (a : Word) → cond (not ((b.regs.r.r5.hi + 256 - 2) / 256 == 1)) (word_of AT_OUTSIDE) (word_of AT_UPPER) ≡ a
      → Reaches (code (quick fetch_code e)) (calm_top e) 3 b (end a)
  unfolding end
  reaches a i =
      reaches_from (code (quick fetch_code e)) (calm_top e) 3 b _ _ (is_on_4 o)
      (reaches_in (code (quick fetch_code e)) (calm_top e) 3 _ _ (omega arith)
      (λ j. on_4 (i j) (quicks (code (quick fetch_code e)) 3 (on_4 (word_of AT_FETCH) b))))

  fetching : (a : ℕ) → Fetching (quick fetch_code e) a (end (word_of a)) (now h)
  unfolding end
  fetching a = record { holds = o.holds; p = refl; r4 = refl }

  pub fetch_comes : RunsBlock (quick fetch_code e) (calm_pieces (quick fetch_code e)) (OfFetch Fetch) b h
  unfolding end
  fetch_comes = go (cases_lt (now h).pc 0x200)
    where
      go : ((now h).pc < 0x200) ⊎ (0x200 ≤ (now h).pc) → RunsBlock (quick fetch_code e) (calm_pieces (quick fetch_code e)) (OfFetch Fetch) b h
      go (inl l) = record {
        runs = ready o.holds;
        awake = o.holds.awake;
        some = omega arith;
        end = end (word_of AT_OUTSIDE);
        reaches = reaches (word_of AT_OUTSIDE) (taken _ (word_of AT_OUTSIDE) (word_of AT_UPPER) (omega (arith, l, pc, f.regs.r.r5.lo, f.regs.r.r5.hi)));
        ends =
            λ h' g. to_fetch (quick fetch_code e) g (end (word_of AT_OUTSIDE)) refl Outside (fetching AT_OUTSIDE, rw (lt-leb 0x200 (now h).pc l) refl)
            (omega (arith, spent, g.spent, stop_low e (now h) l));
      }
      go (inr l) = record {
        runs = ready o.holds;
        awake = o.holds.awake;
        some = omega arith;
        end = end (word_of AT_UPPER);
        reaches = reaches (word_of AT_UPPER) (passed _ (word_of AT_OUTSIDE) (word_of AT_UPPER) (omega (arith, l, pc, f.regs.r.r5.lo, f.regs.r.r5.hi)));
        ends = λ h' g. to_fetch (quick fetch_code e) g (end (word_of AT_UPPER)) refl Upper (fetching AT_UPPER, l) (omega (arith, spent, g.spent));
      }

-- ---- pc and pc + 1 lie below the end of game memory

module _ (e : Edition) (b : Machine) (h : Since) (f : FitsMachine b) (o : Fetching (quick fetch_code e) AT_UPPER b (now h)) (low : 0x200 ≤ (now h).pc)
    (spent : h.spent ≡ 6) where
  pc2 : value b.regs.r.r5 ≡ (now h).pc
  pc2 = pc_is o.holds

  -- the carry of the last place for an opcode - pc, byte by byte
  carry : ℕ
  carry = (page_of e + 256 - b.regs.r.r5.hi - (1 - (158 + 256 - b.regs.r.r5.lo) / 256)) / 256

  checked : Word → Machine
  checked a = on_4 a (quicks (code (quick fetch_code e)) 5 (on_4 (word_of AT_UPPER) b))

  check_reaches : (a : Word) → cond (not (carry == 1)) (word_of AT_OUTSIDE) (word_of AT_INSIDE) ≡ a
      → Reaches (code (quick fetch_code e)) (calm_top e) 5 b (checked a)
  unfolding checked carry
  check_reaches a i =
      reaches_from (code (quick fetch_code e)) (calm_top e) 5 b _ _ (is_on_4 o)
      (reaches_in (code (quick fetch_code e)) (calm_top e) 5 _ _ (omega arith)
      (λ j. on_4 (i j) (quicks (code (quick fetch_code e)) 5 (on_4 (word_of AT_UPPER) b))))

  checking : (a : ℕ) → Fetching (quick fetch_code e) a (checked (word_of a)) (now h)
  unfolding checked
  checking a = record { holds = o.holds; p = refl; r4 = refl }

  too_high : memory_end e < (now h).pc + 2 → carry ≡ 0
  unfolding carry
  too_high l = omega (arith, l, pc2, memory_end_is e, page_fits e, f.regs.r.r5.lo, f.regs.r.r5.hi)

  low_enough : (now h).pc + 2 ≤ memory_end e → carry ≡ 1
  unfolding carry
  low_enough l = omega (arith, l, pc2, memory_end_is e, page_fits e, f.regs.r.r5.lo, f.regs.r.r5.hi)

  pub upper_comes : RunsBlock (quick fetch_code e) (calm_pieces (quick fetch_code e)) (OfFetch Upper) b h
  unfolding checked
  upper_comes = go (cases_lt (memory_end e) ((now h).pc + 2))
    where
      go : (memory_end e < (now h).pc + 2) ⊎ ((now h).pc + 2 ≤ memory_end e)
          → RunsBlock (quick fetch_code e) (calm_pieces (quick fetch_code e)) (OfFetch Upper) b h
      go (inl l) = record {
        runs = ready o.holds;
        awake = o.holds.awake;
        some = omega arith;
        end = checked (word_of AT_OUTSIDE);
        reaches = check_reaches (word_of AT_OUTSIDE) (taken carry (word_of AT_OUTSIDE) (word_of AT_INSIDE) (too_high l));
        ends =
            λ h' g. to_fetch (quick fetch_code e) g (checked (word_of AT_OUTSIDE)) refl Outside
            (checking AT_OUTSIDE, rw (le-leb 0x200 (now h).pc low, lt-leb ((now h).pc + 2) (memory_end e) l) refl)
            (omega (arith, spent, g.spent, stop_high e (now h) low l));
      }
      go (inr l) = record {
        runs = ready o.holds;
        awake = o.holds.awake;
        some = omega arith;
        end = checked (word_of AT_INSIDE);
        reaches = check_reaches (word_of AT_INSIDE) (passed carry (word_of AT_OUTSIDE) (word_of AT_INSIDE) (low_enough l));
        ends =
            λ h' g. to_fetch (quick fetch_code e) g (checked (word_of AT_INSIDE)) refl Inside
            (checking AT_INSIDE, rw (le-leb 0x200 (now h).pc low, le-leb ((now h).pc + 2) (memory_end e) l) refl) (omega (arith, spent, g.spent));
      }
