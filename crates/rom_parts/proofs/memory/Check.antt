-- The range check.
use Rattle.std.proofs.Common.{◌≡◌, ℕ, ◌+◌, ◌-◌, ◌/◌, ◌%◌, ◌<◌, ◌≤◌, ◌⊎◌, inl, inr, refl, sym, ◌∙◌, ap, arith, true, false, slice_index}
use Rattle.std.specs.Prelude.{◌==◌, not, bit_xor}
use Rattle.std.proofs.lemmas.Bool.{eq-eqb, eqb-true, eqb-false, le-leb, lt-leb, cases_lt}
use Rattle.machine.specs.Bank.{Word, word, word_of, value}
use Rattle.machine.specs.Memory.{read}
use Rattle.machine.specs.Board.{Machine}
use Rattle.machine.specs.Ranges.{FitsMachine}
use Rattle.chip8_lang.specs.declared.view.Edition.{Edition}
use Rattle.chip8_lang.specs.Editions.{memory_start, memory_end, stack_top, variables, sprite_work}
use Rattle.chip8_lang.specs.State.{Lang, is_in_memory, is_in_font}
use Rattle.chip8_image.specs.declared.image.labels.TheConstants.{AT_HALT, AT_CHECK, AT_CHECK_GAME, AT_CHECK_FONT, AT_CHECK_LOW, AT_IN_GAME, AT_IN_FONT, AT_NOWHERE}
use Rattle.rom_law.specs.Code.{is_event}
use Rattle.rom_law.proofs.Moves.{quicks, Reaches, reaches_in}
use Rattle.rom_law.specs.Program.{Program, code}
use Rattle.rom_law.specs.Rows.{Since, Grows, Ends, now}
use Rattle.rom_law.proofs.Places.{i_is, read_is, work_set, work_is}
use Rattle.rom_law.proofs.Kept.{RunsBlock}
use Rattle.rom_rows.specs.Heads.{page_of}
use Rattle.rom_rows.specs.Checks.{answer_time, Caller, Calls, count_of, return_of, call_time, Answer, answer_number, IsAnswer, Checking, Comparing, Checked}
use Rattle.rom_rows.specs.Checks.Caller.{ForDecimal, ForStore, ForRestore, ForDraw}
use Rattle.rom_rows.specs.Checks.Answer.{InGame, InFont, Nowhere}
use Rattle.rom_rows.specs.MemoryBlocks.{answer_label}
use Rattle.rom_rows.specs.MemoryBlocks.MemoryBlock.{Check, CheckGame, CheckFont, CheckLow, Answering, DecimalFound, StoreFound, RestoreFound}
use Rattle.rom_rows.specs.SpriteBlocks.SpriteBlock.{DrawFound}
use Rattle.rom_rows.specs.Table.{calm_pieces, calm_top}
use Rattle.rom_rows.specs.Table.Block.{OfMemory}
use Rattle.rom_rows.proofs.Bits.{same_xor, xor_same, nonzero, is_zero, borrowed, not_borrowed}
use Rattle.rom_rows.proofs.Bytes.{memory_end_is, variables_is, stack_top_is, page_fits, work_is as sprite_work_is}
use Rattle.rom_rows.proofs.Times.{outside_low, outside_page, outside_other}
use Rattle.rom_rows.proofs.Follows.{to_memory, to_sprite}
use Rattle.rom_rows.proofs.Ways.{reached, forks}
use Rattle.rom_parts.specs.memory.Code.{memory_code}
use Rattle.rom_parts.proofs.Rom.{both, quick}

-- ---- a range of addresses

-- 1 to 16 bytes are asked for
some_asked : (c : Caller) (s : Lang) → Calls c s → (0 < count_of c s) × (count_of c s ≤ 16)
some_asked ForDecimal s k = (omega arith, omega arith)
some_asked ForStore s k = (omega arith, omega arith)
some_asked ForRestore s k = (omega arith, omega arith)
some_asked ForDraw s k = (k.1, omega arith)

in_memory : (e : Edition) (a n : ℕ) → memory_start ≤ a → a + n ≤ memory_end e → is_in_memory e a n ≡ true
in_memory e a n low high = rw (le-leb memory_start a low, le-leb (a + n) (memory_end e) high) refl

past_memory : (e : Edition) (a n : ℕ) → memory_start ≤ a → memory_end e < a + n → is_in_memory e a n ≡ false
past_memory e a n low high = rw (le-leb memory_start a low, lt-leb (a + n) (memory_end e) high) refl

in_font : (a n : ℕ) → 0x8700 ≤ a → a + n ≤ 0x8750 → is_in_font a n ≡ true
in_font a n low high = rw (le-leb 0x8700 a low, le-leb (a + n) 0x8750 high) refl

past_font : (a n : ℕ) → 0x8700 ≤ a → 0x8750 < a + n → is_in_font a n ≡ false
past_font a n low high = rw (le-leb 0x8700 a low, lt-leb (a + n) 0x8750 high) refl

below_font : (a n : ℕ) → a < 0x8700 → is_in_font a n ≡ false
below_font a n low = rw (lt-leb 0x8700 a low) refl

below_all : (e : Edition) (a n : ℕ) → a < memory_start → IsAnswer e Nowhere a n
below_all e a n low = (rw (lt-leb memory_start a low) refl, below_font a n (omega (arith, low)))

-- not in the font's page
other_page : (a n : ℕ) → 0 < n → (a / 256 ≡ 0x87 → ⊥) → is_in_font a n ≡ false
other_page a n some other = go (cases_lt a 0x8700)
  where
    go : (a < 0x8700) ⊎ (0x8700 ≤ a) → is_in_font a n ≡ false
    go (inl l) = below_font a n l
    go (inr l) = past_font a n l (omega (arith, l, other, some))

-- ---- behind the check

-- the caller goes on
found : {e : Edition} {h h' : Since} {d : Machine} (c : Caller) (answer : Answer) → Grows h 2 0 h' → Checked (quick memory_code e) c answer d (now h)
    → h'.spent ≡ call_time c + answer_time answer (now h).i + 4 → is_event (code (quick memory_code e)) d ≡ false
    → Ends (quick memory_code e) (calm_pieces (quick memory_code e)) d h'
found {e = e} ForDecimal answer g o spent calm = to_memory (quick memory_code e) g _ calm (DecimalFound answer) o (omega (arith, spent))
found {e = e} ForStore answer g o spent calm = to_memory (quick memory_code e) g _ calm (StoreFound answer) o (omega (arith, spent))
found {e = e} ForRestore answer g o spent calm = to_memory (quick memory_code e) g _ calm (RestoreFound answer) o (omega (arith, spent))
found {e = e} ForDraw answer g o spent calm = to_sprite (quick memory_code e) g _ calm (DrawFound answer) tt o (omega (arith, spent))

-- none of them is at the stop
no_halt : (c : Caller) → (value (word_of (return_of c)) == AT_HALT) ≡ false
no_halt ForDecimal = refl
no_halt ForStore = refl
no_halt ForRestore = refl
no_halt ForDraw = refl

-- ---- the machine in the check

abbrev pub checking : ℕ → Machine → Machine
checking a b = record b { regs = record b.regs { p = 13; r = record b.regs.r { rd = word_of a } } }

abbrev pub comparing : Edition → ℕ → Machine → Machine
comparing e a b = record b { regs = record b.regs { p = 13; x = 12; r = record b.regs.r { rc = word (page_of e) 0xd0; rd = word_of a } } }

pub is_checking : {x : Program} {c : Caller} {a : ℕ} {b : Machine} {s : Lang} → Checking x c a b s → b ≡ checking a b
is_checking {b = b} o = λ j. record b { regs = record b.regs { p = o.p j; r = record b.regs.r { rd = o.rd j } } }

pub is_comparing : {e : Edition} {c : Caller} {a : ℕ} {b : Machine} {s : Lang} → Comparing (quick memory_code e) c a b s → b ≡ comparing e a b
is_comparing {b = b} o =
    λ j. record b { regs = record b.regs { p = o.checking.p j; x = o.pointer j; r = record b.regs.r { rc = o.rc j; rd = o.checking.rd j } } }

-- RD is changed
abbrev on_at : Machine → Word → Machine
on_at b w = record b { regs = record b.regs { r = record b.regs.r { rd = w } } }

module _ (e : Edition) (b : Machine) (h : Since) (f : FitsMachine b) (c : Caller) where
  abbrev i : ℕ
  i = (now h).i

  abbrev asked : ℕ
  asked = count_of c (now h)

  abbrev work : ℕ
  work = value (word (page_of e) 0xd0)

  above : stack_top e < work
  above = omega (arith, stack_top_is e)

  below : work < variables e
  below = omega (arith, variables_is e)

  work_there : sprite_work e ≡ work
  work_there = sprite_work_is e

  -- ---- is I at least FIRST

  -- DF where FIRST is taken from I
  abbrev first_df : ℕ
  first_df = (b.regs.r.ra.hi + 256 - 2) / 256

  abbrev compared : Word → Machine
  compared = on_at (quicks (code (quick memory_code e)) 10 (checking AT_CHECK b))

  module _ (o : Checking (quick memory_code e) c AT_CHECK b (now h)) where
    checked_on : (a : ℕ) → Checking (quick memory_code e) c a (compared (word_of a)) (now h)
    checked_on a =
        record {
          called = record {
            holds = work_set o.called.holds work b.regs.r.ra.lo above below;
            inside = o.called.inside;
            calls = o.called.calls;
            r4 = o.called.r4;
            r6 = o.called.r6;
            r7 = o.called.r7;
          };
          p = refl;
          rd = refl;
          r3 = o.r3;
          count = o.count;
        }

    pub check_comes : h.spent ≡ call_time c → RunsBlock (quick memory_code e) (calm_pieces (quick memory_code e)) (OfMemory (Check c)) b h
    check_comes spent =
        forks (OfMemory (Check c)) o.called.holds (checking AT_CHECK b) (is_checking o) compared (not (first_df == 1)) AT_NOWHERE AT_CHECK_GAME
        (omega arith) refl
        (λ k h' g. to_memory (quick memory_code e) g _ refl (Answering c Nowhere)
        (checked_on AT_NOWHERE, below_all e i asked (low k)) (omega (arith, spent, g.spent, outside_low i (low k))))
        (λ k h' g. to_memory (quick memory_code e) g _ refl (CheckGame c) (
          record {
            checking = checked_on AT_CHECK_GAME;
            pointer = refl;
            rc = refl;
            low = ap (slice_index (compared (word_of AT_CHECK_GAME)).ram) work_there
                ∙ work_is o.called.holds work b.regs.r.ra.lo below;
          },
          omega (arith, not_borrowed first_df k, i_is o.called.holds),
        )
        (omega (arith, spent, g.spent)))
      where
        low : not (first_df == 1) ≡ true → i < memory_start
        low k = omega (arith, borrowed first_df k, i_is o.called.holds, f.regs.r.ra.hi, f.regs.r.ra.lo)

  -- ---- do the bytes lie in game memory, or in the font

  module _ {a : ℕ} (o : Comparing (quick memory_code e) c a b (now h)) where
    -- the byte in the sprite work is read
    low_is : read (both memory_code e) b.latch b.ram work ≡ b.regs.r.ra.lo
    low_is = read_is o.checking.called.holds work (omega (arith, page_fits e)) ∙ ap (slice_index b.ram) (sym work_there) ∙ o.low

    steady : value b.regs.r.r2 < work
    steady = omega (arith, o.checking.called.holds.stack, stack_top_is e)

    few : (0 < asked) × (asked ≤ 16)
    few = some_asked c (now h) o.checking.called.calls

    place : value b.regs.r.ra ≡ i
    place = i_is o.checking.called.holds

    -- D and DF alone have changed
    abbrev left : ℕ → ℕ → Word → Machine
    left d df w = record (comparing e a b) { regs = record (comparing e a b).regs { d = d; df = df; r = record (comparing e a b).regs.r { rd = w } } }

    leaves : (d df t : ℕ) → Comparing (quick memory_code e) c t (left d df (word_of t)) (now h)
    leaves d df t =
        record {
          checking = record {
            called = record {
              holds = o.checking.called.holds;
              inside = o.checking.called.inside;
              calls = o.checking.called.calls;
              r4 = o.checking.called.r4;
              r6 = o.checking.called.r6;
              r7 = o.checking.called.r7;
            };
            p = refl;
            rd = refl;
            r3 = o.checking.r3;
            count = o.checking.count;
          };
          pointer = refl;
          rc = refl;
          low = o.low;
        }

  -- I is taken from END - n: the low bytes, and the high bytes
  abbrev game_low : ℕ
  game_low = (0xa0 + 256 - b.regs.r.re.lo) % 256 + 256 - read (both memory_code e) b.latch b.ram work

  abbrev game_high : ℕ
  game_high = page_of e + 256 - b.regs.r.ra.hi - (1 - game_low / 256)

  pub check_game_comes : (o : Comparing (quick memory_code e) c AT_CHECK_GAME b (now h)) → memory_start ≤ i → h.spent ≡ call_time c + 20
      → RunsBlock (quick memory_code e) (calm_pieces (quick memory_code e)) (OfMemory (CheckGame c)) b h
  check_game_comes o first spent =
      forks (OfMemory (CheckGame c)) o.checking.called.holds _ (is_comparing o) (left o (game_high % 256) (game_high / 256))
      (game_high / 256 == 1) AT_IN_GAME AT_CHECK_FONT (omega (arith, steady o)) refl
      (λ k h' g. to_memory (quick memory_code e) g _ refl (Answering c InGame) (
        (leaves o (game_high % 256) (game_high / 256) AT_IN_GAME).checking,
        in_memory e i asked first (omega (
          arith,
          eqb-true (game_high
              / 256) 1 k,
          low_is o,
          o.checking.count,
          few o,
          place o,
          memory_end_is e,
          page_fits e,
          f.regs.r.ra.hi,
          f.regs.r.ra.lo,
        )),
      )
      (omega (arith, spent, g.spent)))
      (λ k h' g. to_memory (quick memory_code e) g _ refl (CheckFont c) (
        leaves o (game_high % 256) (game_high
            / 256) AT_CHECK_FONT,
        past_memory e i asked first (omega (
          arith,
          eqb-false (game_high
              / 256) 1 k,
          low_is o,
          o.checking.count,
          few o,
          place o,
          memory_end_is e,
          page_fits e,
          f.regs.r.ra.hi,
          f.regs.r.ra.lo,
        )),
        first,
      )
      (omega (arith, spent, g.spent)))

  -- is I in the font's page
  abbrev page_xor : ℕ
  page_xor = bit_xor b.regs.r.ra.hi 0x87

  high_is : (o : Comparing (quick memory_code e) c AT_CHECK_FONT b (now h)) → i / 256 ≡ b.regs.r.ra.hi
  high_is o = omega (arith, place o, f.regs.r.ra.lo)

  pub check_font_comes : (o : Comparing (quick memory_code e) c AT_CHECK_FONT b (now h)) → is_in_memory e i asked ≡ false → memory_start ≤ i
      → h.spent ≡ call_time c + 32
      → RunsBlock (quick memory_code e) (calm_pieces (quick memory_code e)) (OfMemory (CheckFont c)) b h
  check_font_comes o outside first spent =
      forks (OfMemory (CheckFont c)) o.checking.called.holds _ (is_comparing o) (left o page_xor b.regs.df)
      (not (page_xor == 0)) AT_NOWHERE AT_CHECK_LOW (omega arith) refl
      (λ k h' g. to_memory (quick memory_code e) g _ refl (Answering c Nowhere) (
        (leaves o page_xor b.regs.df AT_NOWHERE).checking,
        (outside, other_page i asked (few o).0 (other k)),
      )
      (omega (arith, spent, g.spent, outside_other i first (other k))))
      (λ k h' g. to_memory (quick memory_code e) g _ refl (CheckLow c)
      (leaves o page_xor b.regs.df AT_CHECK_LOW, outside, high_is o ∙ xor_same b.regs.r.ra.hi 0x87 (eq-eqb page_xor 0 (is_zero page_xor k)))
      (omega (arith, spent, g.spent)))
    where
      other : not (page_xor == 0) ≡ true → i / 256 ≡ 0x87 → ⊥
      other k z = nonzero page_xor k (omega (arith, eqb-true page_xor 0 (same_xor b.regs.r.ra.hi 0x87 (sym (high_is o) ∙ z))))

  -- the low byte of I is taken from that of FONT_END - n
  abbrev font_low : ℕ
  font_low = (0x50 + 256 - b.regs.r.re.lo) % 256 + 256 - read (both memory_code e) b.latch b.ram work

  pub check_low_comes : (o : Comparing (quick memory_code e) c AT_CHECK_LOW b (now h)) → is_in_memory e i asked ≡ false → i / 256 ≡ 0x87
      → h.spent ≡ call_time c + 38 → RunsBlock (quick memory_code e) (calm_pieces (quick memory_code e)) (OfMemory (CheckLow c)) b h
  check_low_comes o outside page spent =
      forks (OfMemory (CheckLow c)) o.checking.called.holds _ (is_comparing o) (left o (font_low % 256) (font_low / 256))
      (not (font_low / 256 == 1)) AT_NOWHERE AT_IN_FONT (omega (arith, steady o)) refl
      (λ k h' g. to_memory (quick memory_code e) g _ refl (Answering c Nowhere) (
        (leaves o (font_low % 256) (font_low / 256)
            AT_NOWHERE).checking,
        (
          outside,
          past_font i asked (omega (arith, page)) (omega
              (arith, borrowed (font_low / 256) k, low_is o, o.checking.count, few o, place o, page, f.regs.r.ra.lo)),
        ),
      )
      (omega (arith, spent, g.spent, outside_page i page)))
      (λ k h' g. to_memory (quick memory_code e) g _ refl (Answering c InFont) (
        (leaves o (font_low % 256) (font_low / 256)
            AT_IN_FONT).checking,
        (
          outside,
          in_font i asked (omega (arith, page)) (omega
              (arith, not_borrowed (font_low / 256) k, low_is o, o.checking.count, few o, place o, page, f.regs.r.ra.lo)),
        ),
      )
      (omega (arith, spent, g.spent)))

  -- ---- the answers: back to the caller

  abbrev answering : ℕ → Machine
  answering a = record b { regs = record b.regs { p = 13; r = record b.regs.r { r3 = word_of (return_of c); rd = word_of a } } }

  abbrev back : Answer → Machine
  back answer = record (answering (answer_label answer + 3)) { regs = record (answering (answer_label answer + 3)).regs { d = answer_number answer; p = 3 } }

  goes_back : (answer : Answer) → Reaches (code (quick memory_code e)) (calm_top e) 2 (answering (answer_label answer)) (back answer)
  goes_back InGame = reaches_in (code (quick memory_code e)) (calm_top e) 2 _ _ (omega arith) refl
  goes_back InFont = reaches_in (code (quick memory_code e)) (calm_top e) 2 _ _ (omega arith) refl
  goes_back Nowhere = reaches_in (code (quick memory_code e)) (calm_top e) 2 _ _ (omega arith) refl

  pub answering_comes : (answer : Answer) → Checking (quick memory_code e) c (answer_label answer) b (now h) → IsAnswer e answer i asked
      → h.spent ≡ call_time c + answer_time answer i → RunsBlock (quick memory_code e) (calm_pieces (quick memory_code e)) (OfMemory (Answering c answer)) b h
  answering_comes answer o is spent =
      reached (OfMemory (Answering c answer)) o.called.holds (answering (answer_label answer))
      (λ j. record b { regs = record b.regs { p = o.p j; r = record b.regs.r { r3 = o.r3 j; rd = o.rd j } } }) (back answer) (goes_back answer)
      (λ h' g. found c answer g there (omega (arith, spent, g.spent)) (no_halt c))
    where
      there : Checked (quick memory_code e) c answer (back answer) (now h)
      there =
          record {
            called = record {
              holds = o.called.holds;
              inside = o.called.inside;
              calls = o.called.calls;
              r4 = o.called.r4;
              r6 = o.called.r6;
              r7 = o.called.r7;
            };
            p = refl;
            r3 = refl;
            d = refl;
            count = o.count;
            is = is;
          }
