-- The rows of a sprite are prepared, one a turn.
use Rattle.std.proofs.Common.{◌≡◌, ℕ, zero, suc, ◌+◌, ◌-◌, ◌*◌, ◌/◌, ◌%◌, ◌^◌, ◌<◌, ◌≤◌, ◌⊎◌, inl, inr, refl, sym, ◌∙◌, ap, ap₂, subst, arith, Bool, true, false, List, length, slice_index, bit_and, get_or-set_same, get_or-set_other}
use Rattle.std.specs.Prelude.{◌==◌, ◌||◌, nat_le, bit_xor}
use Rattle.std.proofs.lemmas.Bool.{eqb-true, eqb-false, eq-eqb, ne_eqb, cases_eq, or_cases, and_parts, leb-true}
use Rattle.std.proofs.lemmas.Nat.{and_mask, shr-shr}
use Rattle.machine.specs.Bank.{Word, word, word_of, value}
use Rattle.machine.specs.Memory.{read, written}
use Rattle.machine.specs.Board.{Machine}
use Rattle.machine.specs.Ranges.{FitsMachine}
use Rattle.chip8_lang.specs.declared.view.Edition.{Edition}
use Rattle.chip8_lang.specs.Editions.{memory_start, memory_end, font_start, font_end, sprite_work}
use Rattle.chip8_lang.specs.State.{Lang, is_in_memory, is_in_font}
use Rattle.chip8_lang.specs.Step.{sprite_row}
use Rattle.chip8_lang.specs.Timed.{row_cycles}
use Rattle.chip8_image.specs.declared.image.labels.TheConstants.{AT_FETCH, AT_HALT, AT_ROW, AT_ROW_BYTE, AT_SHIFT7, AT_SHIFTED, AT_ROW_RIGHT, AT_ROW_STORE, AT_READY}
use Rattle.rom_law.specs.Code.{is_event}
use Rattle.rom_law.proofs.Moves.{AllGood, quicks, written_is}
use Rattle.rom_law.specs.Program.{code}
use Rattle.rom_law.specs.Rows.{Since, Grows, Ends, now}
use Rattle.rom_law.proofs.Places.{work_set}
use Rattle.rom_law.proofs.Kept.{RunsBlock}
use Rattle.rom_rows.specs.Heads.{page_of}
use Rattle.rom_rows.specs.Dots.{left, right, shifted}
use Rattle.rom_rows.specs.SpriteBlocks.{aim_time, edge_time, rows_time, Preparing, Shifting, column, asked, height}
use Rattle.rom_rows.specs.SpriteBlocks.SpriteBlock.{Row, RowByte, Shift, Shifted, RowRight, RowStore, Ready}
use Rattle.rom_rows.specs.Table.{calm_pieces, calm_top}
use Rattle.rom_rows.specs.Table.Block.{OfSprite}
use Rattle.rom_rows.proofs.Bits.{xor_same, xor_other}
use Rattle.rom_rows.proofs.Bytes.{memory_end_is, variables_is, stack_top_is, page_fits, screen_is, work_is}
use Rattle.rom_rows.proofs.Entry.{on_3, is_on_3}
use Rattle.rom_rows.proofs.Times.{row_last, row_other, rows_next}
use Rattle.rom_rows.proofs.Follows.{to_sprite}
use Rattle.rom_rows.proofs.Font.{HasFont, Readable, readable_get}
use Rattle.rom_rows.proofs.Ways.{straight, forks}
use Rattle.rom_parts.specs.sprite.Code.{sprite_code}
use Rattle.rom_parts.proofs.Rom.{both, quick}
use Rattle.rom_parts.proofs.sprite.Aim.{on_at}

pub has_font : (e : Edition) → HasFont (both sprite_code e)
has_font e = refl

-- what is read after a write to RAM
pub get_same : (latch : Bool) (ram : List ℕ) (i a y : ℕ) → latch ≡ false → length ram ≡ 4096 → a < 4096 → i ≡ a → slice_index (written latch ram a y) i ≡ y
get_same latch ram i a y e full l f = rw (e, f, written_is ram a y l) (get_or-set_same ram a y 0 (omega (arith, full, l)))

pub get_other : (latch : Bool) (ram : List ℕ) (i a y : ℕ) → latch ≡ false → a < 4096 → (i ≡ a → ⊥) → slice_index (written latch ram a y) i ≡ slice_index ram i
get_other latch ram i a y e l f = rw (e, written_is ram a y l) (get_or-set_other ram a i y 0 f)

-- ---- the bytes of a sprite

pub readable_row : (e : Edition) (a n r : ℕ) → r < n → (n == 0 || (is_in_memory e a n || is_in_font a n)) ≡ true → Readable e (a + r)
readable_row e a n r l h = some (or_cases (n == 0) _ h)
  where
    lies : (is_in_memory e a n ≡ true) ⊎ (is_in_font a n ≡ true) → Readable e (a + r)
    lies (inl y) =
        let p = and_parts (nat_le memory_start a) (nat_le (a + n) (memory_end e)) y in
        inl (omega (arith, leb-true memory_start a p.0), omega (arith, leb-true (a + n) (memory_end e) p.1, l))
    lies (inr y) =
        let p = and_parts (nat_le font_start a) (nat_le (a + n) font_end) y in
        inr (omega (arith, leb-true font_start a p.0), omega (arith, leb-true (a + n) font_end p.1, l))

    some : ((n == 0) ≡ true) ⊎ ((is_in_memory e a n || is_in_font a n) ≡ true) → Readable e (a + r)
    some (inl z) = absurd (omega (arith, eqb-true n 0 z, l))
    some (inr z) = lies (or_cases (is_in_memory e a n) (is_in_font a n) z)

-- ---- the machine

abbrev pub preparing : Edition → ℕ → ℕ → Machine → Machine
preparing e a w b = record b { regs = record b.regs { p = 3; r = record b.regs.r { r3 = word_of a; r4 = word_of AT_FETCH; r7 = word (page_of e) (0xd0 + w) } } }

pub is_preparing : {e : Edition} {a l r n : ℕ} {b : Machine} {s : Lang} → Preparing (quick sprite_code e) a l r n b s → b ≡ preparing e a (l + r) b
is_preparing {e = e} {l = l} {r = r} {b = b} o =
    λ i. record b {
      regs = record b.regs { p = o.p i; r = record b.regs.r { r3 = o.r3 i; r4 = o.r4 i; r7 = (o.r7 ∙ ap (word (page_of e)) place) i } };
    }
  where
    place : 0xd0 + l + r ≡ 0xd0 + (l + r)
    place = omega arith

module _ (e : Edition) (b : Machine) (h : Since) (f : FitsMachine b) (r : ℕ) where
  abbrev rows : ℕ
  rows = height e (now h)

  few_rows_drawn : rows ≤ 15
  few_rows_drawn = omega arith

  abbrev byte_of : ℕ
  byte_of = sprite_row (now h) r

  -- ---- are all rows prepared

  pub row_comes : Preparing (quick sprite_code e) AT_ROW r r r b (now h) → r ≤ rows
      → h.spent ≡ 194 + aim_time e (now h) + edge_time e (now h) + rows_time (now h) r
      → RunsBlock (quick sprite_code e) (calm_pieces (quick sprite_code e)) (OfSprite (Row r)) b h
  row_comes o inside spent =
      forks (OfSprite (Row r)) o.holds (on_3 AT_ROW b) (is_on_3 AT_ROW b o.p o.r3) (on_at (quicks (code (quick sprite_code e)) 2 (on_3 AT_ROW b)))
      (b.regs.r.re.lo == 0) AT_READY AT_ROW_BYTE (omega arith) refl
      (λ k h' g. to_sprite (quick sprite_code e) g _ refl Ready tt
      (subst (λ z. Preparing (quick sprite_code e) AT_READY z z z (on_at (quicks (code (quick sprite_code e)) 2 (on_3 AT_ROW b)) (word_of AT_READY)) (now h))
      (all k)
      (goes AT_READY)) (omega (arith, spent, g.spent, ap (rows_time (now h)) (all k))))
      (λ k h' g. to_sprite (quick sprite_code e) g _ refl (RowByte r) tt (goes AT_ROW_BYTE, more k) (omega (arith, spent, g.spent)))
    where
      all : (b.regs.r.re.lo == 0) ≡ true → r ≡ rows
      all k = omega (arith, eqb-true b.regs.r.re.lo 0 k, o.count, inside)

      more : (b.regs.r.re.lo == 0) ≡ false → r < rows
      more k = omega (arith, eqb-false b.regs.r.re.lo 0 k, o.count, inside)

      goes : (a : ℕ) → Preparing (quick sprite_code e) a r r r (on_at (quicks (code (quick sprite_code e)) 2 (on_3 AT_ROW b)) (word_of a)) (now h)
      goes a =
          record {
            draws = o.draws;
            holds = o.holds;
            prepared = record { lefts = o.prepared.lefts; rights = o.prepared.rights };
            p = refl;
            r3 = refl;
            r4 = o.r4;
            entry = o.entry;
            place = o.place;
            rows = o.rows;
            count = o.count;
            r7 = o.r7;
            rd = o.rd;
          }

  -- ---- the byte of the row, and the entry of the shifts

  abbrev k : ℕ
  k = column (now h) % 8

  abbrev loaded : Word → Machine
  loaded = on_at (quicks (code (quick sprite_code e)) 7 (on_3 AT_ROW_BYTE b))

  module _ (o : Preparing (quick sprite_code e) AT_ROW_BYTE r r r b (now h)) (inside : r < rows) where
    readable : Readable e ((now h).i + r)
    readable = readable_row e (now h).i (asked (now h)) r (omega (arith, inside)) o.draws.readable

    byte_is : read (both sprite_code e) b.latch b.ram (value b.regs.r.rd) ≡ byte_of
    byte_is = ap (read (both sprite_code e) b.latch b.ram) o.rd ∙ readable_get (has_font e) o.holds ((now h).i + r) readable

    goes_on : (a : ℕ) → Preparing (quick sprite_code e) a r r (r + 1) (loaded (word_of a)) (now h)
    goes_on a =
        record {
          draws = o.draws;
          holds = o.holds;
          prepared = record { lefts = o.prepared.lefts; rights = o.prepared.rights };
          p = refl;
          r3 = refl;
          r4 = o.r4;
          entry = o.entry;
          place = o.place;
          rows = omega (arith, o.rows, o.count, inside, f.regs.r.re.hi, f.regs.r.re.lo);
          count = omega (arith, o.count, inside, few_rows_drawn);
          r7 = o.r7;
          rd = omega (arith, o.rd, readable, memory_end_is e, page_fits e, f.regs.r.rd.hi, f.regs.r.rd.lo);
        }

    none_yet : (a : ℕ) → Shifting r k (loaded (word_of a)) (now h)
    none_yet a = whole ∙ ap (λ z. byte_of * 256 / 2 ^ z) none
      where
        none : 0 ≡ k - k
        none = omega arith

        whole : read (both sprite_code e) b.latch b.ram (value b.regs.r.rd) * 256 + 0 ≡ byte_of * 256 / 2 ^ 0
        whole = omega (arith, byte_is)

    entered_at : (a : ℕ) → a ≡ AT_SHIFT7 + 6 * (7 - k) → quicks (code (quick sprite_code e)) 7 (on_3 AT_ROW_BYTE b) ≡ loaded (word_of a)
    entered_at a is = ap loaded (ap₂ word page low)
      where
        page : 0x84 ≡ a / 256
        page = omega (arith, is)

        low : b.regs.r.r6.lo ≡ a % 256
        low = omega (arith, is, o.entry)

    no_stop : (a : ℕ) → a ≡ AT_SHIFT7 + 6 * (7 - k) → is_event (code (quick sprite_code e)) (loaded (word_of a)) ≡ false
    no_stop a is = rw (ne_eqb (value (word_of a)) AT_HALT (λ z. omega (arith, z, is))) refl

    pub row_byte_comes : h.spent ≡ 198 + aim_time e (now h) + edge_time e (now h) + rows_time (now h) r
        → RunsBlock (quick sprite_code e) (calm_pieces (quick sprite_code e)) (OfSprite (RowByte r)) b h
    row_byte_comes spent = go (cases_eq k 0)
      where
        steady : AllGood (code (quick sprite_code e)) (calm_top e) 7 (on_3 AT_ROW_BYTE b)
        steady = omega (arith, o.holds.stack, stack_top_is e, memory_end_is e, page_fits e, o.rd, readable)

        go : (k ≡ 0) ⊎ (k ≡ 0 → ⊥) → RunsBlock (quick sprite_code e) (calm_pieces (quick sprite_code e)) (OfSprite (RowByte r)) b h
        go (inl z) =
            straight (OfSprite (RowByte r)) o.holds (on_3 AT_ROW_BYTE b) (is_on_3 AT_ROW_BYTE b o.p o.r3) (loaded (word_of AT_SHIFTED)) steady
            (entered_at AT_SHIFTED (omega (arith, z)))
            (λ h' g. to_sprite (quick sprite_code e) g _ refl (Shifted r) tt
            (goes_on AT_SHIFTED, inside, subst (λ j. Shifting r j (loaded (word_of AT_SHIFTED)) (now h)) z (none_yet AT_SHIFTED))
            (omega (arith, spent, g.spent, z)))
        go (inr z) =
            straight (OfSprite (RowByte r)) o.holds (on_3 AT_ROW_BYTE b) (is_on_3 AT_ROW_BYTE b o.p o.r3)
            (loaded (word_of (AT_SHIFT7 + 6 * (7 - k)))) steady (entered_at (AT_SHIFT7 + 6 * (7 - k)) refl)
            (λ h' g. to_sprite (quick sprite_code e) g _ (no_stop (AT_SHIFT7 + 6 * (7 - k)) refl) (Shift r k) tt
            (goes_on (AT_SHIFT7 + 6 * (7 - k)), inside, none_yet (AT_SHIFT7 + 6 * (7 - k)), omega (arith, z), omega arith)
            (omega (arith, spent, g.spent)))

  -- ---- a shift

  abbrev hi : ℕ
  hi = b.regs.r.rc.hi

  abbrev lo : ℕ
  lo = b.regs.r.rc.lo

  -- the machine after it
  abbrev halved : ℕ → Machine
  halved a =
      record (on_3 a b) {
        regs = record (on_3 a b).regs {
          d = lo / 2 + 128 * (hi % 2);
          df = lo % 2;
          r = record (on_3 a b).regs.r { rc = word (hi / 2) (lo / 2 + 128 * (hi % 2)) };
        };
      }

  module _ (j : ℕ) (o : Preparing (quick sprite_code e) (AT_SHIFT7 + 6 * (7 - suc j)) r r (r + 1) b (now h)) (inside : r < rows)
      (shifts : Shifting r (suc j) b (now h)) (few : suc j ≤ k)
      (spent : h.spent ≡ 212 + aim_time e (now h) + edge_time e (now h) + rows_time (now h) r + 12 * (k - suc j)) where
    one_less : Shifting r j (halved AT_SHIFTED) (now h)
    one_less = half ∙ ap (λ m. m / 2 ^ 1) shifts ∙ shr-shr (byte_of * 256) (k - suc j) 1 ∙ ap (λ z. byte_of * 256 / 2 ^ z) fewer
      where
        half : hi / 2 * 256 + (lo / 2 + 128 * (hi % 2)) ≡ (hi * 256 + lo) / 2 ^ 1
        half = omega (arith, f.regs.r.rc.lo)

        fewer : k - suc j + 1 ≡ k - j
        fewer = omega (arith, few)

    moves_on : (a : ℕ) → Preparing (quick sprite_code e) a r r (r + 1) (halved a) (now h)
    moves_on a =
        record {
          draws = o.draws;
          holds = o.holds;
          prepared = record { lefts = o.prepared.lefts; rights = o.prepared.rights };
          p = refl;
          r3 = refl;
          r4 = o.r4;
          entry = o.entry;
          place = o.place;
          rows = o.rows;
          count = o.count;
          r7 = o.r7;
          rd = o.rd;
        }

    -- where a shift is computed
    shifting : AllGood (code (quick sprite_code e)) (calm_top e) 6 (on_3 (AT_SHIFT7 + 6 * (7 - suc j)) b)
        → quicks (code (quick sprite_code e)) 6 (on_3 (AT_SHIFT7 + 6 * (7 - suc j)) b) ≡ halved (AT_SHIFT7 + 6 * (7 - j))
        → is_event (code (quick sprite_code e)) (halved (AT_SHIFT7 + 6 * (7 - j))) ≡ false
        → RunsBlock (quick sprite_code e) (calm_pieces (quick sprite_code e)) (OfSprite (Shift r (suc j))) b h
    shifting good runs calm =
        straight (OfSprite (Shift r (suc j))) o.holds (on_3 (AT_SHIFT7 + 6 * (7 - suc j)) b) (is_on_3 (AT_SHIFT7 + 6 * (7 - suc j)) b o.p o.r3)
        (halved (AT_SHIFT7 + 6 * (7 - j))) good runs
        (λ h' g. go (cases_eq j 0) h' g)
      where
        go : (j ≡ 0) ⊎ (j ≡ 0 → ⊥) → (h' : Since) → Grows h 6 0 h'
            → Ends (quick sprite_code e) (calm_pieces (quick sprite_code e)) (halved (AT_SHIFT7 + 6 * (7 - j))) h'
        go (inl z) h' g =
            to_sprite (quick sprite_code e) g _ calm (Shifted r) tt (
              subst (λ i. Preparing (quick sprite_code e) AT_SHIFTED r r (r + 1) (halved i)
                  (now h)) last (moves_on AT_SHIFTED),
              inside,
              subst (λ i. Shifting r i (halved AT_SHIFTED) (now h)) z one_less,
            )
            (omega (arith, spent, g.spent, z, few))
          where
            last : AT_SHIFTED ≡ AT_SHIFT7 + 6 * (7 - j)
            last = omega (arith, z)
        go (inr z) h' g =
            to_sprite (quick sprite_code e) g _ calm (Shift r j) tt (moves_on (AT_SHIFT7 + 6 * (7 - j)), inside, one_less, omega (arith, z), omega (arith, few))
            (omega (arith, spent, g.spent, few))

  pub shift_comes : (j : ℕ) → Preparing (quick sprite_code e) (AT_SHIFT7 + 6 * (7 - j)) r r (r + 1) b (now h) → r < rows → Shifting r j b (now h) → 0 < j
      → j ≤ k
      → h.spent ≡ 212 + aim_time e (now h) + edge_time e (now h) + rows_time (now h) r + 12 * (k - j)
      → RunsBlock (quick sprite_code e) (calm_pieces (quick sprite_code e)) (OfSprite (Shift r j)) b h
  shift_comes zero o inside s some few spent = absurd (omega (arith, some))
  shift_comes (suc zero) o inside s some few spent = shifting 0 o inside s few spent (omega arith) refl refl
  shift_comes (suc (suc zero)) o inside s some few spent = shifting 1 o inside s few spent (omega arith) refl refl
  shift_comes (suc (suc (suc zero))) o inside s some few spent = shifting 2 o inside s few spent (omega arith) refl refl
  shift_comes (suc (suc (suc (suc zero)))) o inside s some few spent = shifting 3 o inside s few spent (omega arith) refl refl
  shift_comes (suc (suc (suc (suc (suc zero))))) o inside s some few spent = shifting 4 o inside s few spent (omega arith) refl refl
  shift_comes (suc (suc (suc (suc (suc (suc zero)))))) o inside s some few spent = shifting 5 o inside s few spent (omega arith) refl refl
  shift_comes (suc (suc (suc (suc (suc (suc (suc zero))))))) o inside s some few spent = shifting 6 o inside s few spent (omega arith) refl refl
  shift_comes (suc (suc (suc (suc (suc (suc (suc (suc j)))))))) o inside s some few spent = absurd (omega (arith, few))

  -- ---- the two bytes of the row

  abbrev first : ℕ
  first = value (word (page_of e) (0xd0 + (r + r)))

  abbrev last_column : ℕ
  last_column = bit_xor (bit_and b.regs.r.rb.lo 7) 7

  abbrev stored : Word → Machine
  stored = on_at (quicks (code (quick sprite_code e)) 7 (preparing e AT_SHIFTED (r + r) b))

  module _ (o : Preparing (quick sprite_code e) AT_SHIFTED r r (r + 1) b (now h)) (inside : r < rows) (shifts : Shifting r 0 b (now h)) where
    word_is : hi * 256 + lo ≡ shifted (column (now h)) byte_of
    word_is = shifts ∙ ap (λ z. byte_of * 256 / 2 ^ z) all
      where
        all : k - 0 ≡ k
        all = omega arith

    left_is : hi ≡ left (column (now h)) byte_of
    left_is = omega (arith, word_is, f.regs.r.rc.lo)

    column_is : bit_and b.regs.r.rb.lo 7 ≡ column (now h) / 8
    column_is = and_mask b.regs.r.rb.lo 3 ∙ omega (arith, o.place, screen_is e)

    at_edge_of : (last_column == 0) ≡ true → column (now h) / 8 ≡ 7
    at_edge_of z = sym column_is ∙ xor_same (bit_and b.regs.r.rb.lo 7) 7 z

    before_edge : (last_column == 0) ≡ false → column (now h) / 8 ≡ 7 → ⊥
    before_edge z y = xor_other (bit_and b.regs.r.rb.lo 7) 7 z (column_is ∙ y)

    right_none : (last_column == 0) ≡ true → last_column ≡ right (column (now h)) byte_of
    right_none z = rw (eq-eqb (column (now h) / 8) 7 (at_edge_of z)) (eqb-true last_column 0 z)

    right_is : (last_column == 0) ≡ false → lo ≡ right (column (now h)) byte_of
    right_is z = rw (ne_eqb (column (now h) / 8) 7 (before_edge z)) (omega (arith, word_is, f.regs.r.rc.lo))

    first_there : first ≡ sprite_work e + 2 * r
    first_there = omega (arith, work_is e)

    first_small : first < 4096
    first_small = omega (arith, inside, few_rows_drawn, page_fits e)

    goes_left : (a : ℕ) → Preparing (quick sprite_code e) a (r + 1) r (r + 1) (stored (word_of a)) (now h)
    goes_left a =
        record {
          draws = o.draws;
          holds = work_set o.holds first hi (omega (arith, stack_top_is e))
              (omega (arith, variables_is e, inside, few_rows_drawn));
          prepared = record {
            lefts = lefts;
            rights = λ j l. get_other b.latch b.ram _ first hi o.holds.latch first_small (λ z. omega (arith, z, first_there))
                ∙ o.prepared.rights j l;
          };
          p = refl;
          r3 = refl;
          r4 = refl;
          entry = o.entry;
          place = o.place;
          rows = o.rows;
          count = o.count;
          r7 = ap₂ word (omega (arith, inside, few_rows_drawn, page_fits e)) (omega (arith, inside, few_rows_drawn));
          rd = o.rd;
        }
      where
        lefts : (j : ℕ) → j < r + 1 → slice_index (stored (word_of a)).ram (sprite_work e + 2 * j) ≡ left (column (now h)) (sprite_row (now h) j)
        lefts j l = go (cases_eq j r)
          where
            go : (j ≡ r) ⊎ (j ≡ r → ⊥) → slice_index (stored (word_of a)).ram (sprite_work e + 2 * j) ≡ left (column (now h)) (sprite_row (now h) j)
            go (inl z) =
                get_same b.latch b.ram (sprite_work e + 2 * j) first hi o.holds.latch o.holds.size first_small (omega (arith, z, first_there))
                ∙ left_is ∙ ap (λ i. left (column (now h)) (sprite_row (now h) i)) (sym z)
            go (inr z) =
                get_other b.latch b.ram (sprite_work e + 2 * j) first hi o.holds.latch first_small (λ y. omega (arith, z, y, first_there))
                ∙ o.prepared.lefts j (omega (arith, z, l))

    pub shifted_comes : h.spent ≡ 212 + aim_time e (now h) + edge_time e (now h) + rows_time (now h) r + 12 * k
        → RunsBlock (quick sprite_code e) (calm_pieces (quick sprite_code e)) (OfSprite (Shifted r)) b h
    shifted_comes spent =
        forks (OfSprite (Shifted r)) o.holds (preparing e AT_SHIFTED (r + r) b) (is_preparing o) stored (last_column == 0) AT_ROW_STORE AT_ROW_RIGHT
        (omega (arith, o.holds.stack, stack_top_is e)) refl
        (λ z h' g. to_sprite (quick sprite_code e) g _ refl (RowStore r) tt (goes_left AT_ROW_STORE, inside, right_none z)
        (omega (arith, spent, g.spent, row_last (now h) (at_edge_of z))))
        (λ z h' g. to_sprite (quick sprite_code e) g _ refl (RowRight r) tt (goes_left AT_ROW_RIGHT, inside, right_is z, before_edge z)
        (omega (arith, spent, g.spent)))

  pub row_right_comes : Preparing (quick sprite_code e) AT_ROW_RIGHT (r + 1) r (r + 1) b (now h) → r < rows → lo ≡ right (column (now h)) byte_of
      → (column (now h) / 8 ≡ 7 → ⊥)
      → h.spent ≡ 226 + aim_time e (now h) + edge_time e (now h) + rows_time (now h) r + 12 * k
      → RunsBlock (quick sprite_code e) (calm_pieces (quick sprite_code e)) (OfSprite (RowRight r)) b h
  row_right_comes o inside is before spent = straight (OfSprite (RowRight r)) o.holds (on_3 AT_ROW_RIGHT b) (is_on_3 AT_ROW_RIGHT b o.p o.r3) _ (omega arith) refl
      (λ h' g. to_sprite (quick sprite_code e) g _ refl (RowStore r) tt (
        record {
          draws = o.draws;
          holds = o.holds;
          prepared = record { lefts = o.prepared.lefts; rights = o.prepared.rights };
          p = refl;
          r3 = refl;
          r4 = o.r4;
          entry = o.entry;
          place = o.place;
          rows = o.rows;
          count = o.count;
          r7 = o.r7;
          rd = o.rd;
        },
        inside,
        is,
      )
      (omega (arith, spent, g.spent, row_other (now h) before)))

  -- ---- the second one is stored

  abbrev second : ℕ
  second = value (word (page_of e) (0xd0 + (r + 1 + r)))

  pub row_store_comes : Preparing (quick sprite_code e) AT_ROW_STORE (r + 1) r (r + 1) b (now h) → r < rows → b.regs.d ≡ right (column (now h)) byte_of
      → h.spent ≡ 188 + aim_time e (now h) + edge_time e (now h) + rows_time (now h) r + row_cycles (column (now h))
      → RunsBlock (quick sprite_code e) (calm_pieces (quick sprite_code e)) (OfSprite (RowStore r)) b h
  row_store_comes o inside is spent =
      straight (OfSprite (RowStore r)) o.holds (preparing e AT_ROW_STORE (r + 1 + r) b) (is_preparing o) ended (omega arith) refl
      (λ h' g. to_sprite (quick sprite_code e) g ended refl (Row (r + 1)) tt (
        record {
          draws = o.draws;
          holds = work_set o.holds second b.regs.d (omega (arith, stack_top_is e))
              (omega (arith, variables_is e, inside, few_rows_drawn));
          prepared = record {
            lefts = λ j l. get_other b.latch b.ram _ second b.regs.d o.holds.latch second_small
                (λ z. omega (arith, z, second_there)) ∙ o.prepared.lefts j l;
            rights = rights;
          };
          p = refl;
          r3 = refl;
          r4 = refl;
          entry = o.entry;
          place = o.place;
          rows = o.rows;
          count = o.count;
          r7 = ap₂ word (omega (arith, inside, few_rows_drawn, page_fits e)) (omega (arith, inside, few_rows_drawn));
          rd = o.rd;
        },
        omega (arith, inside),
      ) (omega (arith, spent, g.spent, rows_next (now h) r)))
    where
      ended : Machine
      ended = quicks (code (quick sprite_code e)) 3 (preparing e AT_ROW_STORE (r + 1 + r) b)

      second_there : second ≡ sprite_work e + 2 * r + 1
      second_there = omega (arith, work_is e)

      second_small : second < 4096
      second_small = omega (arith, inside, few_rows_drawn, page_fits e)

      rights : (j : ℕ) → j < r + 1 → slice_index ended.ram (sprite_work e + 2 * j + 1) ≡ right (column (now h)) (sprite_row (now h) j)
      rights j l = go (cases_eq j r)
        where
          go : (j ≡ r) ⊎ (j ≡ r → ⊥) → slice_index ended.ram (sprite_work e + 2 * j + 1) ≡ right (column (now h)) (sprite_row (now h) j)
          go (inl z) =
              get_same b.latch b.ram (sprite_work e + 2 * j + 1) second b.regs.d o.holds.latch o.holds.size second_small
              (omega (arith, z, second_there)) ∙ is ∙ ap (λ i. right (column (now h)) (sprite_row (now h) i)) (sym z)
          go (inr z) =
              get_other b.latch b.ram (sprite_work e + 2 * j + 1) second b.regs.d o.holds.latch second_small (λ y. omega (arith, z, y, second_there))
              ∙ o.prepared.rights j (omega (arith, z, l))
