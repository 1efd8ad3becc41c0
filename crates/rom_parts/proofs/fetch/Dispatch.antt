-- The opcode is read, and its routine entered by the table.
use Rattle.std.proofs.Common.{◌≡◌, ℕ, ◌+◌, ◌*◌, ◌/◌, ◌%◌, ◌<◌, refl, ◌∙◌, ap, ap₂, arith, true, false, bit_and, slice_index, List, [], ◌∷◌}
use Rattle.std.specs.Prelude.{◌==◌}
use Rattle.std.proofs.lemmas.Bool.{agree_below_at, eqb-true}
use Rattle.std.proofs.lemmas.Nat.{and_mask}
use Rattle.machine.specs.Bank.{Word, word, word_of, value, up}
use Rattle.machine.specs.Memory.{read}
use Rattle.machine.specs.Board.{Machine}
use Rattle.machine.specs.Ranges.{FitsMachine}
use Rattle.chip8_lang.specs.declared.view.Edition.{Edition}
use Rattle.chip8_lang.specs.State.{is_fetchable}
use Rattle.chip8_image.specs.declared.image.labels.TheConstants.{AT_INSIDE, AT_TABLE, AT_HALT, AT_SYSTEM, AT_JUMP, AT_CALL, AT_SKIP_EQ, AT_SKIP_NE, AT_SKIP_SAME, AT_LOAD, AT_ADD, AT_ARITH, AT_SKIP_DIFFER, AT_INDEX, AT_JUMP_PLUS, AT_RANDOM, AT_DRAW, AT_KEY_SKIP, AT_MISC}
use Rattle.rom_law.specs.Code.{is_event}
use Rattle.rom_law.proofs.Moves.{quicks, Reaches, reaches_in, reaches_from, rom_at, read_rom}
use Rattle.rom_law.specs.Program.{code}
use Rattle.rom_law.specs.Rows.{Since, Grows, Ends, now}
use Rattle.rom_law.proofs.Places.{pc_is, pc_set, memory_get, memory_fits}
use Rattle.rom_law.proofs.Kept.{RunsBlock}
use Rattle.rom_rows.specs.Heads.{high_byte, low_byte, page_of, Fetching, Enters}
use Rattle.rom_rows.specs.FetchBlocks.FetchBlock.{Inside, Misc}
use Rattle.rom_rows.specs.ArithBlocks.ArithBlock.{System, JumpTo, Call, JumpPlus}
use Rattle.rom_rows.specs.ArithBlocks.ArithBlock.{Load, Add, SkipEq, SkipNe, SkipSame, SkipDiffer, Arith}
use Rattle.rom_rows.specs.MemoryBlocks.MemoryBlock.{Index}
use Rattle.rom_rows.specs.SpriteBlocks.SpriteBlock.{Draw}
use Rattle.rom_rows.specs.TimerBlocks.TimerBlock.{Random}
use Rattle.rom_rows.specs.KeyBlocks.KeyBlock.{KeySkip}
use Rattle.rom_rows.specs.Table.{calm_pieces, calm_top}
use Rattle.rom_rows.specs.Table.Block.{OfFetch}
use Rattle.rom_rows.proofs.Digits.{by_digit}
use Rattle.rom_rows.proofs.Bytes.{memory_end_is, stack_top_is, page_fits}
use Rattle.rom_rows.proofs.Entry.{ready, on_4, is_on_4, is_inside}
use Rattle.rom_rows.proofs.Follows.{to_fetch, to_arith, to_arith, to_memory, to_sprite, to_timer, to_key}
use Rattle.rom_parts.specs.fetch.Code.{fetch_code}
use Rattle.rom_parts.proofs.Rom.{both, quick}

-- ---- the table

-- the routines by the opcode's first digit
abbrev routines : List ℕ
routines =
    AT_SYSTEM ∷ AT_JUMP ∷ AT_CALL ∷ AT_SKIP_EQ ∷ AT_SKIP_NE ∷ AT_SKIP_SAME ∷ AT_LOAD ∷ AT_ADD ∷ AT_ARITH ∷ AT_SKIP_DIFFER ∷ AT_INDEX ∷ AT_JUMP_PLUS
    ∷ AT_RANDOM ∷ AT_DRAW ∷ AT_KEY_SKIP ∷ AT_MISC ∷ []

module _ (e : Edition) where
  -- the address of the routine of a first digit, in the table
  abbrev routine : ℕ → Word
  routine d = word (rom_at (both fetch_code e) (AT_TABLE + 2 * d + 0)) (rom_at (both fetch_code e) (AT_TABLE + 2 * d + 1))

  table_is : (d : ℕ) → d < 16 → routine d ≡ word_of (slice_index routines d)
  table_is d l = ap₂ word
      (eqb-true _ _ (agree_below_at (λ k. (routine k).hi == slice_index routines k / 256) (λ k. true) 16 d refl l))
      (eqb-true _ _ (agree_below_at (λ k. (routine k).lo == slice_index routines k % 256) (λ k. true) 16 d refl l))

-- no routine is the stop
no_halt : (d : ℕ) → d < 16 → (value (word_of (slice_index routines d)) == AT_HALT) ≡ false
no_halt d l = agree_below_at (λ k. value (word_of (slice_index routines k)) == AT_HALT) (λ k. false) 16 d refl l

-- ---- the block

module _ (e : Edition) (b : Machine) (h : Since) (f : FitsMachine b) (o : Fetching (quick fetch_code e) AT_INSIDE b (now h))
    (ins : is_fetchable e (now h) ≡ true) (spent : h.spent ≡ 16) where
  abbrev high : ℕ
  high = high_byte (now h)

  abbrev low : ℕ
  low = low_byte (now h)

  pc : value b.regs.r.r5 ≡ (now h).pc
  pc = pc_is o.holds

  one_on : value (up b.regs.r.r5) ≡ (now h).pc + 1
  one_on = omega (arith, pc, is_inside e (now h) ins, memory_end_is e, page_fits e, f.regs.r.r5.hi, f.regs.r.r5.lo)

  two_on : value (up (up b.regs.r.r5)) ≡ (now h).pc + 2
  two_on = omega (arith, pc, is_inside e (now h) ins, memory_end_is e, page_fits e, f.regs.r.r5.hi, f.regs.r.r5.lo)

  byte1 : read (both fetch_code e) b.latch b.ram (value b.regs.r.r5) ≡ high
  byte1 = ap (read (both fetch_code e) b.latch b.ram) pc ∙ memory_get o.holds (now h).pc (is_inside e (now h) ins).0 (omega (arith, is_inside e (now h) ins))

  byte2 : read (both fetch_code e) b.latch b.ram (value (up b.regs.r.r5)) ≡ low
  byte2 =
      ap (read (both fetch_code e) b.latch b.ram) one_on
      ∙ memory_get o.holds ((now h).pc + 1) (omega (arith, is_inside e (now h) ins)) (omega (arith, is_inside e (now h) ins))

  high_fits : high < 256
  high_fits = memory_fits o.holds f.ram (now h).pc (is_inside e (now h) ins).0 (omega (arith, is_inside e (now h) ins))

  low_fits : low < 256
  low_fits = memory_fits o.holds f.ram ((now h).pc + 1) (omega (arith, is_inside e (now h) ins)) (omega (arith, is_inside e (now h) ins))

  entered : Machine
  entered = quicks (code (quick fetch_code e)) 32 (on_4 (word_of AT_INSIDE) b)

  reaches : Reaches (code (quick fetch_code e)) (calm_top e) 32 b entered
  unfolding entered
  reaches =
      reaches_from (code (quick fetch_code e)) (calm_top e) 32 b _ _ (is_on_4 o)
      (reaches_in (code (quick fetch_code e)) (calm_top e) 32 _ _
      (omega (arith, o.holds.stack, stack_top_is e, page_fits e, pc, one_on, is_inside e (now h) ins)) refl)

  -- RD.0 at the table
  offset : ℕ
  offset = (read (both fetch_code e) b.latch b.ram (value b.regs.r.r5) / 2 / 2 / 2 / 2 * 2 % 256 + 100) % 256

  offset_is : offset ≡ 100 + 2 * (high / 16)
  unfolding offset
  offset_is = rw byte1 (omega (arith, high_fits))

  digit_fits : high / 16 < 16
  digit_fits = omega (arith, high_fits)

  from_table : (a k : ℕ) → a ≡ AT_TABLE + 2 * (high / 16) + k → k < 2
      → read (both fetch_code e) b.latch b.ram a ≡ rom_at (both fetch_code e) (AT_TABLE + 2 * (high / 16) + k)
  from_table a k at small =
      ap (read (both fetch_code e) b.latch b.ram) at
      ∙ read_rom (both fetch_code e) b.latch b.ram (AT_TABLE + 2 * (high / 16) + k) (omega arith) (omega (arith, high_fits, small))

  r3_is : entered.regs.r.r3 ≡ routine e (high / 16)
  unfolding entered offset
  r3_is =
      ap₂ word (from_table (value (word 128 offset)) 0 (omega (arith, offset_is)) (omega arith))
      (from_table (value (up (word 128 offset))) 1 (omega (arith, offset_is, high_fits)) (omega arith))

  -- the places of VX and VY
  x_is : (bit_and (read (both fetch_code e) b.latch b.ram (value b.regs.r.r5)) 15 + 240) % 256 ≡ 240 + high % 16
  x_is = rw (byte1, and_mask high 4) (omega arith)

  y_is : (read (both fetch_code e) b.latch b.ram (value (up b.regs.r.r5)) / 2 / 2 / 2 / 2 + 240) % 256 ≡ 240 + low / 16
  y_is = rw byte2 (omega (arith, low_fits))

  enters : (d : ℕ) → high / 16 ≡ d → Enters (quick fetch_code e) (slice_index routines d) d entered (now h)
  unfolding entered
  enters d is =
      record {
        entered = record {
          holds = pc_set o.holds (up (up b.regs.r.r5)) ((now h).pc + 2) two_on;
          inside = ins;
          p = refl;
          r3 = r3_is ∙ table_is e (high / 16) digit_fits ∙ ap (λ k. word_of (slice_index routines k)) is;
          r4 = refl;
          r6 = ap (word (page_of e)) x_is;
          r7 = ap (word (page_of e)) y_is;
          rc = ap₂ word byte1 byte2;
        };
        digit = is;
      }

  calm : is_event (code (quick fetch_code e)) entered ≡ false
  calm = let o = enters (high / 16) refl in rw (o.entered.p, o.entered.r3) (no_halt (high / 16) digit_fits)

  ends : (h' : Since) → Grows h 32 0 h' → Ends (quick fetch_code e) (calm_pieces (quick fetch_code e)) entered h'
  ends h' g = by_digit (λ d. high / 16 ≡ d → Ends (quick fetch_code e) (calm_pieces (quick fetch_code e)) entered h')
      (λ is. to_arith (quick fetch_code e) g entered calm System (enters 0 is) (omega (arith, spent, g.spent)))
      (λ is. to_arith (quick fetch_code e) g entered calm JumpTo (enters 1 is) (omega (arith, spent, g.spent)))
      (λ is. to_arith (quick fetch_code e) g entered calm Call (enters 2 is) (omega (arith, spent, g.spent)))
      (λ is. to_arith (quick fetch_code e) g entered calm SkipEq (enters 3 is) (omega (arith, spent, g.spent)))
      (λ is. to_arith (quick fetch_code e) g entered calm SkipNe (enters 4 is) (omega (arith, spent, g.spent)))
      (λ is. to_arith (quick fetch_code e) g entered calm SkipSame (enters 5 is) (omega (arith, spent, g.spent)))
      (λ is. to_arith (quick fetch_code e) g entered calm Load (enters 6 is) (omega (arith, spent, g.spent)))
      (λ is. to_arith (quick fetch_code e) g entered calm Add (enters 7 is) (omega (arith, spent, g.spent)))
      (λ is. to_arith (quick fetch_code e) g entered calm Arith (enters 8 is) (omega (arith, spent, g.spent)))
      (λ is. to_arith (quick fetch_code e) g entered calm SkipDiffer (enters 9 is) (omega (arith, spent, g.spent)))
      (λ is. to_memory (quick fetch_code e) g entered calm Index (enters 10 is) (omega (arith, spent, g.spent)))
      (λ is. to_arith (quick fetch_code e) g entered calm JumpPlus (enters 11 is) (omega (arith, spent, g.spent)))
      (λ is. to_timer (quick fetch_code e) g entered calm Random (enters 12 is) (omega (arith, spent, g.spent)))
      (λ is. to_sprite (quick fetch_code e) g entered calm Draw tt (enters 13 is) (omega (arith, spent, g.spent)))
      (λ is. to_key (quick fetch_code e) g entered calm KeySkip (enters 14 is) (omega (arith, spent, g.spent)))
      (λ is. to_fetch (quick fetch_code e) g entered calm (Misc 0) (enters 15 is, λ j k. absurd (omega (arith, k)), omega arith)
      (omega (arith, spent, g.spent)))
      (high / 16) digit_fits refl

  pub inside_comes : RunsBlock (quick fetch_code e) (calm_pieces (quick fetch_code e)) (OfFetch Inside) b h
  inside_comes = record { runs = ready o.holds; awake = o.holds.awake; some = omega arith; end = entered; reaches = reaches; ends = ends }
