-- FXKK: its nine tests in turn, and the stop of an opcode that none of them finds.
use Rattle.std.proofs.Common.{◌≡◌, ℕ, zero, suc, ◌+◌, ◌*◌, ◌<◌, ◌⊎◌, inl, inr, refl, sym, subst, arith, slice_index, cond}
use Rattle.std.specs.Prelude.{◌==◌, bit_xor, Some}
use Rattle.std.proofs.lemmas.Bool.{cases_eq, ne_eqb}
use Rattle.machine.specs.Bank.{Word, word_of}
use Rattle.machine.specs.Board.{Machine}
use Rattle.machine.specs.Ranges.{FitsMachine}
use Rattle.chip8_lang.specs.declared.view.Edition.{Edition}
use Rattle.chip8_lang.specs.declared.view.Stop.TheVariants.{Unknown as UnknownOpcode}
use Rattle.chip8_lang.specs.Step.{stop_of}
use Rattle.chip8_image.specs.declared.image.labels.TheConstants.{AT_MISC_0A, AT_MISC_15, AT_MISC_18, AT_MISC_1E, AT_MISC_29, AT_MISC_33, AT_MISC_55, AT_MISC_65, AT_UNKNOWN83, AT_GET_DELAY, AT_WAIT_KEY, AT_SET_DELAY, AT_SET_SOUND, AT_ADD_INDEX, AT_DIGIT, AT_DECIMAL, AT_STORE, AT_RESTORE}
use Rattle.rom_law.proofs.Moves.{quicks, Reaches, reaches_in, reaches_from}
use Rattle.rom_law.specs.Program.{code}
use Rattle.rom_law.specs.Rows.{Since, Grows, Ends, now}
use Rattle.rom_law.proofs.Kept.{RunsBlock}
use Rattle.rom_rows.specs.Heads.{to_stop, high_byte, low_byte, Enters}
use Rattle.rom_rows.specs.FetchBlocks.{NoneOf, misc_labels, misc_codes}
use Rattle.rom_rows.specs.FetchBlocks.FetchBlock.{Misc, Unknown83, Leave}
use Rattle.rom_rows.specs.MemoryBlocks.MemoryBlock.{AddIndex, Digit, Decimal, Store, Restore}
use Rattle.rom_rows.specs.TimerBlocks.TimerBlock.{SetDelay, SetSound}
use Rattle.rom_rows.specs.TimerBlocks.TimerPlace.{GetDelay}
use Rattle.rom_rows.specs.KeyBlocks.KeyBlock.{WaitKey}
use Rattle.rom_rows.specs.Table.{calm_pieces, calm_top}
use Rattle.rom_rows.specs.Table.Block.{OfFetch}
use Rattle.rom_rows.proofs.Bits.{same_xor, other_xor, taken, passed}
use Rattle.rom_rows.proofs.Entry.{ready, entered, is_entered}
use Rattle.rom_rows.proofs.Follows.{to_fetch, to_memory, to_timer, to_timer_place, to_key}
use Rattle.rom_parts.specs.fetch.Code.{fetch_code}
use Rattle.rom_parts.proofs.Rom.{quick}

-- one code more wasn't met
none_more : (i kk : ℕ) → NoneOf i kk → (kk ≡ slice_index misc_codes i → ⊥) → NoneOf (suc i) kk
none_more i kk none other j l = go (cases_eq j i)
  where
    go : (j ≡ i) ⊎ (j ≡ i → ⊥) → kk ≡ slice_index misc_codes j → ⊥
    go (inl e) = subst (λ n. kk ≡ slice_index misc_codes n → ⊥) (sym e) other
    go (inr d) = none j (omega (arith, l, d))

-- ---- one test

module _ (e : Edition) (b : Machine) (h : Since) (f : FitsMachine b) where
  abbrev high : ℕ
  high = high_byte (now h)

  abbrev low : ℕ
  low = low_byte (now h)

  -- behind a test that looks for k, at w
  tested : ℕ → Word → Machine
  tested k w =
      record (entered e 0 high low b) {
        regs = record (entered e 0 high low b).regs { d = bit_xor low k; r = record (entered e 0 high low b).regs.r { r3 = w } };
      }

  goes : {a : ℕ} (k : ℕ) → Enters (quick fetch_code e) a 15 b (now h) → (w : ℕ) → Enters (quick fetch_code e) w 15 (tested k (word_of w)) (now h)
  unfolding tested
  goes k o w =
      record {
        entered = record {
          holds = o.entered.holds;
          inside = o.entered.inside;
          p = refl;
          r3 = refl;
          r4 = refl;
          r6 = refl;
          r7 = refl;
          rc = refl;
        };
        digit = o.digit;
      }

  module _ (i target other : ℕ) (o : Enters (quick fetch_code e) (slice_index misc_labels i) 15 b (now h))
      (reach : (w : Word) → cond (bit_xor low (slice_index misc_codes i) == 0) (word_of target) (word_of other) ≡ w
      → Reaches (code (quick fetch_code e)) (calm_top e) 3 (entered e (slice_index misc_labels i) high low b) (tested (slice_index misc_codes i) w)) where
    test : (low ≡ slice_index misc_codes i → (h' : Since) → Grows h 3 0 h'
        → Ends (quick fetch_code e) (calm_pieces (quick fetch_code e)) (tested (slice_index misc_codes i) (word_of target)) h')
        → ((low ≡ slice_index misc_codes i → ⊥) → (h' : Since) → Grows h 3 0 h'
        → Ends (quick fetch_code e) (calm_pieces (quick fetch_code e)) (tested (slice_index misc_codes i) (word_of other)) h')
        → RunsBlock (quick fetch_code e) (calm_pieces (quick fetch_code e)) (OfFetch (Misc i)) b h
    test found missed = go (cases_eq low (slice_index misc_codes i))
      where
        go : (low ≡ slice_index misc_codes i) ⊎ (low ≡ slice_index misc_codes i → ⊥)
            → RunsBlock (quick fetch_code e) (calm_pieces (quick fetch_code e)) (OfFetch (Misc i)) b h
        go (inl is) = record {
          runs = ready o.entered.holds;
          awake = o.entered.holds.awake;
          some = omega arith;
          end = tested (slice_index misc_codes i) (word_of target);
          reaches =
              reaches_from (code (quick fetch_code e)) (calm_top e) 3 b _ _ (is_entered o.entered)
              (reach (word_of target) (taken _ (word_of target) (word_of other) (same_xor low (slice_index misc_codes i) is)));
          ends = found is;
        }
        go (inr d) = record {
          runs = ready o.entered.holds;
          awake = o.entered.holds.awake;
          some = omega arith;
          end = tested (slice_index misc_codes i) (word_of other);
          reaches =
              reaches_from (code (quick fetch_code e)) (calm_top e) 3 b _ _ (is_entered o.entered)
              (reach (word_of other) (passed _ (word_of target) (word_of other) (other_xor low (slice_index misc_codes i) d)));
          ends = missed d;
        }

  -- ---- the tests

  pub misc_comes : (i : ℕ) → i < 9 → Enters (quick fetch_code e) (slice_index misc_labels i) 15 b (now h) → NoneOf i low → h.spent ≡ 80 + 6 * i
      → RunsBlock (quick fetch_code e) (calm_pieces (quick fetch_code e)) (OfFetch (Misc i)) b h
  unfolding tested
  misc_comes zero l o none spent =
      test 0 AT_GET_DELAY AT_MISC_0A o (λ w q. reaches_in (code (quick fetch_code e)) (calm_top e) 3 _ _ (omega arith) (λ j. tested 0x07 (q j)))
      (λ is h' g. to_timer_place (quick fetch_code e) g (tested 0x07 (word_of AT_GET_DELAY)) refl GetDelay (goes 0x07 o AT_GET_DELAY, is)
      (omega (arith, spent, g.spent)))
      (λ d h' g. to_fetch (quick fetch_code e) g (tested 0x07 (word_of AT_MISC_0A)) refl (Misc 1) (goes 0x07 o AT_MISC_0A, none_more 0 low none d, omega arith)
      (omega (arith, spent, g.spent)))
  misc_comes (suc zero) l o none spent =
      test 1 AT_WAIT_KEY AT_MISC_15 o (λ w q. reaches_in (code (quick fetch_code e)) (calm_top e) 3 _ _ (omega arith) (λ j. tested 0x0a (q j)))
      (λ is h' g. to_key (quick fetch_code e) g (tested 0x0a (word_of AT_WAIT_KEY)) refl WaitKey (goes 0x0a o AT_WAIT_KEY, is) (omega (arith, spent, g.spent)))
      (λ d h' g. to_fetch (quick fetch_code e) g (tested 0x0a (word_of AT_MISC_15)) refl (Misc 2) (goes 0x0a o AT_MISC_15, none_more 1 low none d, omega arith)
      (omega (arith, spent, g.spent)))
  misc_comes (suc (suc zero)) l o none spent =
      test 2 AT_SET_DELAY AT_MISC_18 o (λ w q. reaches_in (code (quick fetch_code e)) (calm_top e) 3 _ _ (omega arith) (λ j. tested 0x15 (q j)))
      (λ is h' g. to_timer (quick fetch_code e) g (tested 0x15 (word_of AT_SET_DELAY)) refl SetDelay (goes 0x15 o AT_SET_DELAY, is)
      (omega (arith, spent, g.spent)))
      (λ d h' g. to_fetch (quick fetch_code e) g (tested 0x15 (word_of AT_MISC_18)) refl (Misc 3) (goes 0x15 o AT_MISC_18, none_more 2 low none d, omega arith)
      (omega (arith, spent, g.spent)))
  misc_comes (suc (suc (suc zero))) l o none spent =
      test 3 AT_SET_SOUND AT_MISC_1E o (λ w q. reaches_in (code (quick fetch_code e)) (calm_top e) 3 _ _ (omega arith) (λ j. tested 0x18 (q j)))
      (λ is h' g. to_timer (quick fetch_code e) g (tested 0x18 (word_of AT_SET_SOUND)) refl SetSound (goes 0x18 o AT_SET_SOUND, is)
      (omega (arith, spent, g.spent)))
      (λ d h' g. to_fetch (quick fetch_code e) g (tested 0x18 (word_of AT_MISC_1E)) refl (Misc 4) (goes 0x18 o AT_MISC_1E, none_more 3 low none d, omega arith)
      (omega (arith, spent, g.spent)))
  misc_comes (suc (suc (suc (suc zero)))) l o none spent =
      test 4 AT_ADD_INDEX AT_MISC_29 o (λ w q. reaches_in (code (quick fetch_code e)) (calm_top e) 3 _ _ (omega arith) (λ j. tested 0x1e (q j)))
      (λ is h' g. to_memory (quick fetch_code e) g (tested 0x1e (word_of AT_ADD_INDEX)) refl AddIndex (goes 0x1e o AT_ADD_INDEX, is)
      (omega (arith, spent, g.spent)))
      (λ d h' g. to_fetch (quick fetch_code e) g (tested 0x1e (word_of AT_MISC_29)) refl (Misc 5) (goes 0x1e o AT_MISC_29, none_more 4 low none d, omega arith)
      (omega (arith, spent, g.spent)))
  misc_comes (suc (suc (suc (suc (suc zero))))) l o none spent =
      test 5 AT_DIGIT AT_MISC_33 o (λ w q. reaches_in (code (quick fetch_code e)) (calm_top e) 3 _ _ (omega arith) (λ j. tested 0x29 (q j)))
      (λ is h' g. to_memory (quick fetch_code e) g (tested 0x29 (word_of AT_DIGIT)) refl Digit (goes 0x29 o AT_DIGIT, is) (omega (arith, spent, g.spent)))
      (λ d h' g. to_fetch (quick fetch_code e) g (tested 0x29 (word_of AT_MISC_33)) refl (Misc 6) (goes 0x29 o AT_MISC_33, none_more 5 low none d, omega arith)
      (omega (arith, spent, g.spent)))
  misc_comes (suc (suc (suc (suc (suc (suc zero)))))) l o none spent =
      test 6 AT_DECIMAL AT_MISC_55 o (λ w q. reaches_in (code (quick fetch_code e)) (calm_top e) 3 _ _ (omega arith) (λ j. tested 0x33 (q j)))
      (λ is h' g. to_memory (quick fetch_code e) g (tested 0x33 (word_of AT_DECIMAL)) refl Decimal (goes 0x33 o AT_DECIMAL, is) (omega (arith, spent, g.spent)))
      (λ d h' g. to_fetch (quick fetch_code e) g (tested 0x33 (word_of AT_MISC_55)) refl (Misc 7) (goes 0x33 o AT_MISC_55, none_more 6 low none d, omega arith)
      (omega (arith, spent, g.spent)))
  misc_comes (suc (suc (suc (suc (suc (suc (suc zero))))))) l o none spent =
      test 7 AT_STORE AT_MISC_65 o (λ w q. reaches_in (code (quick fetch_code e)) (calm_top e) 3 _ _ (omega arith) (λ j. tested 0x55 (q j)))
      (λ is h' g. to_memory (quick fetch_code e) g (tested 0x55 (word_of AT_STORE)) refl Store (goes 0x55 o AT_STORE, is) (omega (arith, spent, g.spent)))
      (λ d h' g. to_fetch (quick fetch_code e) g (tested 0x55 (word_of AT_MISC_65)) refl (Misc 8) (goes 0x55 o AT_MISC_65, none_more 7 low none d, omega arith)
      (omega (arith, spent, g.spent)))
  misc_comes (suc (suc (suc (suc (suc (suc (suc (suc zero)))))))) l o none spent =
      test 8 AT_RESTORE AT_UNKNOWN83 o (λ w q. reaches_in (code (quick fetch_code e)) (calm_top e) 3 _ _ (omega arith) (λ j. tested 0x65 (q j)))
      (λ is h' g. to_memory (quick fetch_code e) g (tested 0x65 (word_of AT_RESTORE)) refl Restore (goes 0x65 o AT_RESTORE, is) (omega (arith, spent, g.spent)))
      (λ d h' g. to_fetch (quick fetch_code e) g (tested 0x65 (word_of AT_UNKNOWN83)) refl Unknown83 (goes 0x65 o AT_UNKNOWN83, none_more 8 low none d)
      (omega (arith, spent, g.spent)))
  misc_comes (suc (suc (suc (suc (suc (suc (suc (suc (suc i))))))))) l o none spent = absurd (omega (arith, l))

  -- ---- no test was met

  unknown_stop : Enters (quick fetch_code e) AT_UNKNOWN83 15 b (now h) → NoneOf 9 low → stop_of e (now h) ≡ Some UnknownOpcode
  unknown_stop o none =
      rw (
        o.entered.inside,
        o.digit,
        ne_eqb low 0x07 (none 0 (omega arith)),
        ne_eqb low 0x0a (none 1 (omega arith)),
        ne_eqb low 0x15 (none 2
            (omega arith)),
        ne_eqb low 0x18 (none 3 (omega arith)),
        ne_eqb low 0x1e (none 4 (omega arith)),
        ne_eqb low 0x29 (none 5
            (omega arith)),
        ne_eqb low 0x33 (none 6 (omega arith)),
        ne_eqb low 0x55 (none 7 (omega arith)),
        ne_eqb low 0x65 (none 8 (omega arith)),
      )
      refl

  unknown_time : Enters (quick fetch_code e) AT_UNKNOWN83 15 b (now h) → NoneOf 9 low → to_stop (quick fetch_code e) (now h) ≡ 160
  unknown_time o none =
      rw (
        o.entered.inside,
        o.digit,
        ne_eqb low 0x07 (none 0 (omega arith)),
        ne_eqb low 0x0a (none 1 (omega arith)),
        ne_eqb low 0x15 (none 2
            (omega arith)),
        ne_eqb low 0x18 (none 3 (omega arith)),
        ne_eqb low 0x1e (none 4 (omega arith)),
        ne_eqb low 0x29 (none 5
            (omega arith)),
        ne_eqb low 0x33 (none 6 (omega arith)),
        ne_eqb low 0x55 (none 7 (omega arith)),
        ne_eqb low 0x65 (none 8 (omega arith)),
        o.digit,
      )
      refl

  pub unknown_comes : Enters (quick fetch_code e) AT_UNKNOWN83 15 b (now h) → NoneOf 9 low → h.spent ≡ 134
      → RunsBlock (quick fetch_code e) (calm_pieces (quick fetch_code e)) (OfFetch Unknown83) b h
  unknown_comes o none spent = record {
    runs = ready o.entered.holds;
    awake = o.entered.holds.awake;
    some = omega arith;
    end = quicks (code (quick fetch_code e)) 2 (entered e AT_UNKNOWN83 high low b);
    reaches = reaches_from (code (quick fetch_code e)) (calm_top e) 2 b _ _ (is_entered o.entered)
        (reaches_in (code (quick fetch_code e)) (calm_top e) 2 _ _ (omega arith) refl);
    ends =
        λ h' g. to_fetch (quick fetch_code e) g (quicks (code (quick fetch_code e)) 2 (entered e AT_UNKNOWN83 high low b)) refl (Leave 2)
        (record { holds = o.entered.holds; p = refl; r3 = refl; stop = UnknownOpcode; fits = unknown_stop o none; number = refl }, omega arith)
        (omega (arith, spent, g.spent, unknown_time o none));
  }
