-- The wait of DXYN, and the drawing of its rows, one a turn.
use Rattle.std.proofs.Common.{◌≡◌, ℕ, suc, ◌+◌, ◌-◌, ◌*◌, ◌/◌, ◌%◌, ◌<◌, ◌≤◌, inl, inr, refl, sym, ◌∙◌, ap, ap₂, subst, arith, Bool, true, false, List, ◌||◌, not, slice_index, slice_set, bit_and, bit_xor}
use Rattle.std.specs.Prelude.{◌==◌, None}
use Rattle.std.proofs.lemmas.Bool.{eqb-true, eqb-false}
use Rattle.std.proofs.lemmas.Nat.{and_le_l}
use Rattle.machine.specs.Bank.{word, word_of, value}
use Rattle.machine.specs.Bit.{bit}
use Rattle.machine.specs.Memory.{read, written}
use Rattle.machine.specs.Board.{Machine}
use Rattle.machine.specs.Ranges.{FitsMachine, FitsRom}
use Rattle.machine.specs.Schedule.{Tick}
use Rattle.chip8_lang.specs.declared.instr.Instr.TheVariants.{Draw as IsDraw}
use Rattle.chip8_lang.specs.declared.view.Edition.{Edition}
use Rattle.chip8_lang.specs.Editions.{screen_start, rows_of, sprite_work}
use Rattle.chip8_lang.specs.Screen.{Pixels, difference, either, meets, dots}
use Rattle.chip8_lang.specs.State.{Lang, instr_at, readable_byte}
use Rattle.chip8_lang.specs.Step.{next, stop_of, sprite_row}
use Rattle.chip8_lang.specs.Ticks.{tick}
use Rattle.chip8_image.specs.declared.image.labels.TheConstants.{AT_FETCH, AT_READY, AT_DRAW_WAIT, AT_LINE, AT_LINE_LEFT, AT_LINE_RIGHT, AT_DRAWN}
use Rattle.rom_law.proofs.Moves.{quicks, read_rom}
use Rattle.rom_law.proofs.Ticks.{after_wait}
use Rattle.rom_law.specs.Program.{code}
use Rattle.rom_law.specs.Holding.{Places, places, Holding}
use Rattle.rom_law.specs.Rows.{Since, Starts, now, after_tick}
use Rattle.rom_law.specs.Rows.Starts.{Enters}
use Rattle.rom_law.proofs.Places.{read_is, v_set, screen_ends}
use Rattle.rom_law.proofs.Kept.{RunsBlock, RunsPlace}
use Rattle.rom_rows.specs.Heads.{high_byte, low_byte, page_of}
use Rattle.rom_rows.specs.Dots.{left, right, dots_of_byte}
use Rattle.rom_rows.specs.SpriteBlocks.{aim_time, edge_time, rows_time, draw_time, Draws, Preparing, Painting, painted, column, top, asked, height, corner, lit, half_lit, woken}
use Rattle.rom_rows.specs.SpriteBlocks.SpriteBlock.{Ready, Line, LineLeft, LineRight, Drawn}
use Rattle.rom_rows.specs.SpriteBlocks.SpritePlace.{DrawWait, DrawIdle}
use Rattle.rom_rows.specs.Table.{At, pieces, waited_pieces, calm_pieces}
use Rattle.rom_rows.specs.Table.Block.{OfSprite}
use Rattle.rom_rows.specs.Table.Place.{AtSprite}
use Rattle.rom_rows.proofs.Alone.{alone, one_more}
use Rattle.rom_rows.proofs.Bits.{nonzero, is_zero}
use Rattle.rom_rows.proofs.Bytes.{memory_end_is, variables_is, stack_top_is, page_fits, page_low, screen_is, work_is, with_part_fits}
use Rattle.rom_rows.proofs.Entry.{on_3, is_on_3}
use Rattle.rom_rows.proofs.Follows.{to_sprite_place}
use Rattle.rom_rows.proofs.Font.{Readable, readable_get}
use Rattle.rom_rows.proofs.Later.{painting_later}
use Rattle.rom_rows.proofs.Steps.{draws}
use Rattle.rom_rows.proofs.Waited.{to_waited, starts_joined}
use Rattle.rom_rows.proofs.Ways.{straight, straight_on, forks_on}
use Rattle.rom_parts.specs.sprite.Code.{sprite_code}
use Rattle.rom_parts.proofs.Rom.{both, quick}
use Rattle.rom_parts.proofs.sprite.Aim.{on_at}
use Rattle.rom_parts.proofs.sprite.Bytes.{Apart, difference_either, meets_either}
use Rattle.rom_parts.proofs.sprite.Dots.{apart_left, apart_right, left_small, right_small, right_last, rows_grow, bottom}
use Rattle.rom_parts.proofs.sprite.Pixels.{screen_hit, screen_put, kept_below, none_drawn, none_met, counted}
use Rattle.rom_parts.proofs.sprite.Prepare.{preparing, is_preparing, readable_row}
use Rattle.rom_parts.proofs.sprite.Waits.{waking, woken_fits, waits}
use Rattle.rom_parts.proofs.sprite.Prepare.{has_font}

pub fits : (e : Edition) → FitsRom (both sprite_code e)
fits = with_part_fits sprite_code refl

-- the machine while the rows are drawn
abbrev pub painting : Edition → ℕ → ℕ → Machine → Machine
painting e a w b =
    record b {
      regs = record b.regs { p = 3; x = 13; r = record b.regs.r { r3 = word_of a; r4 = word_of AT_FETCH; r7 = word (page_of e) (0xd0 + w) } };
    }

pub is_painting : {e : Edition} {a w m n : ℕ} {d : Pixels} {b : Machine} {s : Lang} → Painting (quick sprite_code e) a w m n d b s → b ≡ painting e a w b
is_painting {b = b} o = λ i. record b { regs = record b.regs { p = o.p i; x = o.pointer i; r = record b.regs.r { r3 = o.r3 i; r4 = o.r4 i; r7 = o.r7 i } } }

module _ (e : Edition) (b : Machine) (h : Since) (f : FitsMachine b) where
  abbrev rows : ℕ
  rows = height e (now h)

  few : rows ≤ 15
  few = omega arith

  -- ---- up to the wait

  no_more : (n : ℕ) → n ≡ n + 0
  no_more n = omega arith

  no_less : (n : ℕ) → n ≡ n - 0
  no_less n = omega arith

  pub ready_comes : Preparing (quick sprite_code e) AT_READY rows rows rows b (now h)
      → h.spent ≡ 198 + aim_time e (now h) + edge_time e (now h) + rows_time (now h) rows
      → RunsBlock (quick sprite_code e) (calm_pieces (quick sprite_code e)) (OfSprite Ready) b h
  ready_comes o spent = straight (OfSprite Ready) o.holds (preparing e AT_READY (rows + rows) b) (is_preparing o) _ (omega arith) refl
      (λ h' g. to_sprite_place (quick sprite_code e) g _ refl DrawWait (record {
        draws = o.draws;
        holds =
            subst (λ z. Holding (quick sprite_code e) (places b) (record (next (now h)) { screen = z }))
            (none_drawn (rows_of e) (sprite_row (now h)) (column (now h)) (top e (now h)) (now h).screen) o.holds;
        prepared = record { lefts = o.prepared.lefts; rights = o.prepared.rights };
        p = refl;
        r3 = refl;
        r4 = refl;
        pointer = refl;
        r7 = ap₂ word (omega (arith, few, page_fits e)) refl;
        rd = o.place ∙ no_more (corner e (now h));
        count = o.rows;
        few = omega arith;
        hit = none_met (rows_of e) (sprite_row (now h)) (column (now h)) (top e (now h)) (now h).screen;
      }) (omega (arith, spent, g.spent)))

  -- ---- the wait

  pub draw_wait_holds : Painting (quick sprite_code e) AT_DRAW_WAIT 0 0 rows (lit e 0 (now h)) b (now h) → At (quick sprite_code e) (AtSprite DrawWait) b h
      → h.spent ≡ draw_time e (now h) - 2
      → RunsPlace (quick sprite_code e) (calm_pieces (quick sprite_code e)) (AtSprite DrawWait) b h
  draw_wait_holds o at spent = alone (AtSprite DrawWait) f at o.holds (painting e AT_DRAW_WAIT 0 b) (is_painting o) refl refl refl
      (λ u. to_sprite_place (quick sprite_code e) (one_more u h) _ refl DrawIdle (
        record {
          draws = o.draws;
          holds = waking o.holds;
          prepared = record { lefts = o.prepared.lefts; rights = o.prepared.rights };
          p = refl;
          r3 = refl;
          r4 = refl;
          pointer = refl;
          r7 = refl;
          rd = o.rd;
          count = o.count;
          few = o.few;
          hit = o.hit;
        },
        refl,
      )
      (omega (arith, spent)))

  pub draw_wakes : Painting (quick sprite_code e) AT_LINE 0 0 rows (lit e 0 (now h)) (woken b) (now h) → h.spent ≡ draw_time e (now h) → (c : Machine)
      → Tick (code (quick sprite_code e)).low b c → Starts (waited_pieces (quick sprite_code e)) c (after_tick h)
  draw_wakes o spent c k =
      Enters (Line 0, tt) (
        (
          subst (λ n. Painting (quick sprite_code e) AT_LINE 0 0 n (lit e 0 (tick (now h))) c (tick (now h))) (no_less
              (height e (tick (now h)))) (painting_later (quick sprite_code e) 1 (after_wait (code (quick sprite_code e)).low b c k) (woken_fits b f)
              (now h) AT_LINE o),
          omega arith,
        ),
        (omega (arith, spent), omega arith),
      )

  pub draw_idle_holds : Painting (quick sprite_code e) AT_LINE 0 0 rows (lit e 0 (now h)) (woken b) (now h) → b.regs.idle ≡ true → h.spent ≡ draw_time e (now h)
      → RunsPlace (quick sprite_code e) (pieces (quick sprite_code e)) (AtSprite DrawIdle) b h
  draw_idle_holds o idle spent = waits (AtSprite DrawIdle) o.holds idle
      (λ c k. starts_joined (quick sprite_code e) c (after_tick h) (draw_wakes o spent c k))

  -- ---- are all rows drawn

  pub line_comes : (r : ℕ) → Painting (quick sprite_code e) AT_LINE (2 * r) (8 * r) (rows - r) (lit e r (now h)) b (now h) → r ≤ rows
      → h.spent ≡ draw_time e (now h) + 58 * r
      → 1 ≤ h.ticks → RunsBlock (quick sprite_code e) (waited_pieces (quick sprite_code e)) (Line r, tt) b h
  line_comes r o inside spent tick =
      forks_on (Line r) tt o.holds (on_3 AT_LINE b) (is_on_3 AT_LINE b o.p o.r3) (on_at (quicks (code (quick sprite_code e)) 2 (on_3 AT_LINE b)))
      (b.regs.r.re.lo == 0) AT_DRAWN AT_LINE_LEFT (omega arith) refl
      (λ k h' g. to_waited (quick sprite_code e) g _ refl Drawn tt
      (subst (λ z. Painting (quick sprite_code e) AT_DRAWN (2 * z) (8 * z) 0 (lit e z (now h))
      (on_at (quicks (code (quick sprite_code e)) 2 (on_3 AT_LINE b)) (word_of AT_DRAWN)) (now h)) (all k)
      (goes AT_DRAWN 0 (eqb-true b.regs.r.re.lo 0 k))) (omega (arith, spent, g.spent, few, all k), omega (arith, tick, g.ticks)))
      (λ k h' g. to_waited (quick sprite_code e) g _ refl (LineLeft r) tt (goes AT_LINE_LEFT (rows - r) o.count, more k)
      (omega (arith, spent, g.spent), omega (arith, tick, g.ticks)))
    where
      all : (b.regs.r.re.lo == 0) ≡ true → r ≡ rows
      all k = omega (arith, eqb-true b.regs.r.re.lo 0 k, o.count, inside)

      more : (b.regs.r.re.lo == 0) ≡ false → r < rows
      more k = omega (arith, eqb-false b.regs.r.re.lo 0 k, o.count, inside)

      goes : (a n : ℕ) → b.regs.r.re.lo ≡ n
          → Painting (quick sprite_code e) a (2 * r) (8 * r) n (lit e r (now h)) (on_at (quicks (code (quick sprite_code e)) 2 (on_3 AT_LINE b)) (word_of a))
          (now h)
      goes a n count =
          record {
            draws = o.draws;
            holds = o.holds;
            prepared = record { lefts = o.prepared.lefts; rights = o.prepared.rights };
            p = refl;
            r3 = refl;
            r4 = o.r4;
            pointer = o.pointer;
            r7 = o.r7;
            rd = o.rd;
            count = count;
            few = o.few;
            hit = o.hit;
          }

  -- ---- a byte is drawn

  -- the byte of the work, and that of the screen
  abbrev mine : ℕ → ℕ
  mine w = read (both sprite_code e) b.latch b.ram (value (word (page_of e) (0xd0 + w)))

  abbrev theirs : ℕ
  theirs = read (both sprite_code e) b.latch b.ram (value b.regs.r.rd)

  abbrev changed : ℕ → List ℕ
  changed w = written b.latch b.ram (value b.regs.r.rd) (bit_xor (mine w) theirs)

  abbrev count_after : ℕ → ℕ
  count_after w = (0 + b.regs.r.rc.lo + (bit_and (mine w) theirs + 255) / 256) % 256

  -- q is byte w of the work, and goes to byte m of the screen, where the dots d are drawn
  module _ {a w past n m q : ℕ} {d : Pixels} (o : Painting (quick sprite_code e) a w past n d b (now h)) (at : value b.regs.r.rd ≡ screen_start e + m)
      (is : mine w ≡ q) (near : m ≤ 8 * rows_of e) (small : q < 256) (last : m ≡ 8 * rows_of e → q ≡ 0) (room : w ≤ 29)
      (apart : Apart d (dots_of_byte (rows_of e) m q)) where
    abbrev more_dots : Pixels
    more_dots = either d (dots_of_byte (rows_of e) m q)

    byte_holds : Holding (quick sprite_code e) (record (places b) { ram = changed w }) (painted more_dots (now h))
    byte_holds =
        subst (λ k. Holding (quick sprite_code e)
        (record (places b) { ram = written b.latch b.ram k (bit_xor (mine w) (read (both sprite_code e) b.latch b.ram k)) })
        (painted more_dots (now h))) (sym at)
        (subst (λ k. Holding (quick sprite_code e)
        (record (places b) {
          ram = written b.latch b.ram (screen_start e + m)
              (bit_xor k (read (both sprite_code e) b.latch b.ram (screen_start e + m)));
        }) (painted more_dots (now h))) (sym is)
        (subst (λ z. Holding (quick sprite_code e)
        (record (places b) {
          ram = written b.latch b.ram (screen_start e + m)
              (bit_xor q (read (both sprite_code e) b.latch b.ram (screen_start e + m)));
        }) (record (next (now h)) { screen = z }))
        (difference_either (now h).screen d (dots_of_byte (rows_of e) m q) apart) (screen_put o.holds m q near small last)))

    bits_fit : bit_and (mine w) theirs < 256
    bits_fit = omega (arith, is, small, and_le_l (mine w) theirs)

    meeting : not (bit_and (mine w) theirs == 0) ≡ meets (rows_of e) (difference (now h).screen d) (dots_of_byte (rows_of e) m q)
    meeting = ap₂ (λ k j. not (bit_and k (read (both sprite_code e) b.latch b.ram j) == 0)) is at ∙ screen_hit o.holds m q near small last

    byte_hit : not (count_after w == 0) ≡ meets (rows_of e) (now h).screen more_dots
    byte_hit =
        counted b.regs.r.rc.lo (bit_and (mine w) theirs) (omega (arith, o.few, room)) bits_fit ∙ ap₂ (λ t u. t || u) o.hit meeting
        ∙ sym (meets_either (rows_of e) (now h).screen d (dots_of_byte (rows_of e) m q) apart)

    byte_few : count_after w ≤ w + 1
    byte_few = omega (arith, o.few, room, bits_fit)

    byte_keeps : (i : ℕ) → i < screen_start e → slice_index (changed w) i ≡ slice_index b.ram i
    byte_keeps i l = kept_below b.latch b.ram (value b.regs.r.rd) (bit_xor (mine w) theirs) i o.holds.latch (omega (arith, l, at))

    byte_lefts : (j : ℕ) → j < rows → slice_index (changed w) (sprite_work e + 2 * j) ≡ left (column (now h)) (sprite_row (now h) j)
    byte_lefts j l = byte_keeps (sprite_work e + 2 * j) (omega (arith, work_is e, screen_is e, l, few)) ∙ o.prepared.lefts j l

    byte_rights : (j : ℕ) → j < rows → slice_index (changed w) (sprite_work e + 2 * j + 1) ≡ right (column (now h)) (sprite_row (now h) j)
    byte_rights j l = byte_keeps (sprite_work e + 2 * j + 1) (omega (arith, work_is e, screen_is e, l, few)) ∙ o.prepared.rights j l

  -- ---- the bytes of row r

  -- a byte that may be read is one
  byte_small : {p : Places} {z : Lang} → Holding (quick sprite_code e) p z → ((i : ℕ) → slice_index p.ram i < 256) → (i : ℕ) → Readable e i
      → readable_byte z i < 256
  byte_small {p = p} {z = z} o bytes i k = subst (λ v. v < 256) (readable_get (has_font e) o i k) (go k)
    where
      go : Readable e i → read (both sprite_code e) p.latch p.ram i < 256
      go (inl y) = subst (λ v. v < 256) (sym (read_is o i (omega (arith, y, memory_end_is e, page_fits e)))) (bytes i)
      go (inr y) = subst (λ v. v < 256) (sym (read_rom (both sprite_code e) p.latch p.ram i (omega (arith, y)) (omega (arith, y))))
          ((fits e).bytes (i - 0x8000))

  module _ (r : ℕ) (inside : r < rows) where
    abbrev place : ℕ
    place = 8 * (top e (now h) + r) + column (now h) / 8

    near_edge : place < 8 * rows_of e
    near_edge = omega (arith, inside)

    row_small : {p : Places} (d : Pixels) → Draws (quick sprite_code e) (now h) → Holding (quick sprite_code e) p (painted d (now h))
        → ((i : ℕ) → slice_index p.ram i < 256)
        → sprite_row (now h) r < 256
    row_small d t o bytes = byte_small o bytes ((now h).i + r) (readable_row e (now h).i (asked (now h)) r (omega (arith, inside)) t.readable)

    start : column (now h) < 64
    start = omega arith

    abbrev left_byte : ℕ
    left_byte = left (column (now h)) (sprite_row (now h) r)

    abbrev right_byte : ℕ
    right_byte = right (column (now h)) (sprite_row (now h) r)

    -- ---- the first one

    abbrev painted_left : Machine
    painted_left = quicks (code (quick sprite_code e)) 11 (painting e AT_LINE_LEFT (2 * r) b)

    pub line_left_comes : Painting (quick sprite_code e) AT_LINE_LEFT (2 * r) (8 * r) (rows - r) (lit e r (now h)) b (now h)
        → h.spent ≡ draw_time e (now h) + 58 * r + 4
        → 1 ≤ h.ticks → RunsBlock (quick sprite_code e) (waited_pieces (quick sprite_code e)) (LineLeft r, tt) b h
    line_left_comes o spent tick =
        straight_on (LineLeft r) tt o.holds (painting e AT_LINE_LEFT (2 * r) b) (is_painting o) painted_left
        (omega (arith, o.holds.stack, stack_top_is e, page_low e, o.rd, screen_is e)) refl
        (λ h' g. to_waited (quick sprite_code e) g painted_left refl (LineRight r) tt (
          record {
            draws = o.draws;
            holds = byte_holds o at is near small last room apart;
            prepared = record { lefts = byte_lefts o at is near small last room apart; rights = byte_rights o at is near small last room apart };
            p = refl;
            r3 = refl;
            r4 = refl;
            pointer = refl;
            r7 = ap₂ word (omega (arith, inside, few, page_fits e)) (omega (arith, inside, few));
            rd = omega (arith, o.rd, place_below, f.regs.r.rd.hi, f.regs.r.rd.lo);
            count = omega (arith, o.count, inside, few);
            few = byte_few o at is near small last room apart;
            hit = byte_hit o at is near small last room apart;
          },
          inside,
        ) (omega (arith, spent, g.spent), omega (arith, tick, g.ticks)))
      where
        at : value b.regs.r.rd ≡ screen_start e + place
        at = omega (arith, o.rd)

        place_below : value b.regs.r.rd < 0x1000
        place_below = omega (arith, at, near_edge, screen_ends e)

        is : mine (2 * r) ≡ left_byte
        is =
            read_is o.holds (value (word (page_of e) (0xd0 + 2 * r))) (omega (arith, inside, few, page_fits e))
            ∙ ap (slice_index b.ram) (omega (arith, work_is e)) ∙ o.prepared.lefts r inside

        near : place ≤ 8 * rows_of e
        near = omega (arith, near_edge)

        small : left_byte < 256
        small = left_small (rows_of e) (sprite_row (now h)) (column (now h)) (top e (now h)) start r (row_small (lit e r (now h)) o.draws o.holds f.ram)

        last : place ≡ 8 * rows_of e → left_byte ≡ 0
        last k = absurd (omega (arith, k, near_edge))

        room : 2 * r ≤ 29
        room = omega (arith, inside, few)

        apart : Apart (lit e r (now h)) (dots_of_byte (rows_of e) place left_byte)
        apart = apart_left (rows_of e) (sprite_row (now h)) (column (now h)) (top e (now h)) start r

    -- ---- the second one

    abbrev painted_right : Machine
    painted_right = quicks (code (quick sprite_code e)) 16 (painting e AT_LINE_RIGHT (2 * r + 1) b)

    pub line_right_comes : Painting (quick sprite_code e) AT_LINE_RIGHT (2 * r + 1) (8 * r + 1) (rows - (r + 1)) (half_lit e r (now h)) b (now h)
        → h.spent ≡ draw_time e (now h) + 58 * r + 26 → 1 ≤ h.ticks
        → RunsBlock (quick sprite_code e) (waited_pieces (quick sprite_code e)) (LineRight r, tt) b h
    line_right_comes o spent tick =
        straight_on (LineRight r) tt o.holds (painting e AT_LINE_RIGHT (2 * r + 1) b) (is_painting o) painted_right
        (omega (arith, o.holds.stack, stack_top_is e, page_low e, o.rd, screen_is e)) refl
        (λ h' g. to_waited (quick sprite_code e) g painted_right refl (Line (suc r)) tt (
          subst (λ z. Painting (quick sprite_code e) AT_LINE (2 * suc r) (8 * suc r) (rows - suc r) z painted_right (now h)) grown (record {
            draws = o.draws;
            holds = byte_holds o at is near small last room apart;
            prepared = record { lefts = byte_lefts o at is near small last room apart; rights = byte_rights o at is near small last room apart };
            p = refl;
            r3 = refl;
            r4 = refl;
            pointer = refl;
            r7 = ap₂ word (omega (arith, inside, few, page_fits e)) (omega (arith, inside, few));
            rd = omega (arith, o.rd, place_below, f.regs.r.rd.hi, f.regs.r.rd.lo);
            count = omega (arith, o.count);
            few = omega (arith, byte_few o at is near small last room apart);
            hit = byte_hit o at is near small last room apart;
          }),
          omega (arith, inside),
        ) (omega (arith, spent, g.spent), omega (arith, tick, g.ticks)))
      where
        at : value b.regs.r.rd ≡ screen_start e + (place + 1)
        at = omega (arith, o.rd)

        place_below : value b.regs.r.rd ≤ 0x1000
        place_below = omega (arith, at, near_edge, screen_ends e)

        is : mine (2 * r + 1) ≡ right_byte
        is =
            read_is o.holds (value (word (page_of e) (0xd0 + (2 * r + 1)))) (omega (arith, inside, few, page_fits e))
            ∙ ap (slice_index b.ram) (omega (arith, work_is e)) ∙ o.prepared.rights r inside

        near : place + 1 ≤ 8 * rows_of e
        near = omega (arith, near_edge)

        small : right_byte < 256
        small = right_small (rows_of e) (sprite_row (now h)) (column (now h)) (top e (now h)) start r

        last : place + 1 ≡ 8 * rows_of e → right_byte ≡ 0
        last k = right_last (rows_of e) (sprite_row (now h)) (column (now h)) (top e (now h)) start r (omega (arith, k, start))

        room : 2 * r + 1 ≤ 29
        room = omega (arith, inside, few)

        apart : Apart (half_lit e r (now h)) (dots_of_byte (rows_of e) (place + 1) right_byte)
        apart = apart_right (rows_of e) (sprite_row (now h)) (column (now h)) (top e (now h)) start r

        grown : either (half_lit e r (now h)) (dots_of_byte (rows_of e) (place + 1) right_byte) ≡ lit e (suc r) (now h)
        grown = rows_grow (rows_of e) (sprite_row (now h)) (column (now h)) (top e (now h)) start r (row_small (half_lit e r (now h)) o.draws o.holds f.ram)

  -- ---- VF

  abbrev put_out : ℕ
  put_out = (0 * 2 + (b.regs.r.rc.lo + 255) / 256) % 256

  -- the dots d are drawn
  abbrev drawn_by : Pixels → Lang
  drawn_by d = record (next (now h)) { screen = difference (now h).screen d; v = slice_set (now h).v 15 (bit (meets (rows_of e) (now h).screen d)) }

  pub drawn_comes : Painting (quick sprite_code e) AT_DRAWN (2 * rows) (8 * rows) 0 (lit e rows (now h)) b (now h)
      → h.spent ≡ draw_time e (now h) + 58 * rows + 4 → 1 ≤ h.ticks → RunsBlock (quick sprite_code e) (waited_pieces (quick sprite_code e)) (Drawn, tt) b h
  drawn_comes o spent tick =
      straight_on Drawn tt o.holds (painting e AT_DRAWN (2 * rows) b) (is_painting o)
      (quicks (code (quick sprite_code e)) 10 (painting e AT_DRAWN (2 * rows) b))
      (omega (arith, o.holds.stack, stack_top_is e, page_low e)) refl
      (λ h' g. draws e g tick runs instr (omega (arith, spent)) _ puts refl refl)
    where
      instr : instr_at (now h) ≡ IsDraw (high_byte (now h) % 16) (low_byte (now h) / 16) (low_byte (now h) % 16)
      instr = rw o.draws.digit refl

      runs : stop_of e (now h) ≡ None
      runs = rw (o.draws.inside, o.draws.digit, o.draws.readable) refl

      met : (t : Bool) → not (b.regs.r.rc.lo == 0) ≡ t → put_out ≡ bit t
      met true k = omega (arith, few, o.few, f.regs.r.rc.lo, nonzero b.regs.r.rc.lo k)
      met false k = omega (arith, is_zero b.regs.r.rc.lo k)

      puts : Holding (quick sprite_code e) (record (places b) { ram = written b.latch b.ram (value (word (page_of e) 0xff)) put_out })
          (drawn_by (dots (rows_of e) (sprite_row (now h)) (column (now h)) (top e (now h)) (low_byte (now h) % 16)))
      puts =
          subst (λ d. Holding (quick sprite_code e) (record (places b) { ram = written b.latch b.ram (value (word (page_of e) 0xff)) put_out }) (drawn_by d))
          (bottom (rows_of e) (sprite_row (now h)) (column (now h)) (top e (now h)) (omega arith) (low_byte (now h) % 16))
          (subst (λ v. Holding (quick sprite_code e) (record (places b) { ram = written b.latch b.ram (value (word (page_of e) 0xff)) put_out })
          (record (painted (lit e rows (now h)) (now h)) { v = slice_set (now h).v 15 v }))
          (met (meets (rows_of e) (now h).screen (lit e rows (now h))) o.hit)
          (v_set o.holds (value (word (page_of e) 0xff)) 15 put_out (omega (arith, variables_is e)) (omega arith)))
