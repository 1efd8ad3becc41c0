-- DXYN up to its first row: the range check, the rows above the bottom edge, the place on the screen, and the entry of the shifts.
use Rattle.std.proofs.Common.{◌≡◌, ℕ, ◌+◌, ◌-◌, ◌*◌, ◌/◌, ◌%◌, ◌<◌, ◌≤◌, refl, sym, ◌∙◌, ap, arith, true, false, bit_and}
use Rattle.std.specs.Prelude.{◌==◌, ◌||◌, not, Some}
use Rattle.std.proofs.lemmas.Bool.{eqb-true, eqb-false, eq-eqb, ne_eqb, or_right}
use Rattle.std.proofs.lemmas.Nat.{and_mask}
use Rattle.machine.specs.Bank.{Word, word, word_of, value}
use Rattle.machine.specs.Memory.{read, written}
use Rattle.machine.specs.Board.{Machine}
use Rattle.machine.specs.Ranges.{FitsMachine}
use Rattle.chip8_lang.specs.declared.view.Edition.{Edition}
use Rattle.chip8_lang.specs.declared.view.Stop.TheVariants.{ReadOutside}
use Rattle.chip8_lang.specs.Editions.{rows_of}
use Rattle.chip8_lang.specs.State.{Lang, variable, is_in_memory, is_in_font, is_fetchable}
use Rattle.chip8_lang.specs.Step.{next, stop_of}
use Rattle.chip8_lang.specs.Timed.{outside_cycles}
use Rattle.chip8_image.specs.declared.image.labels.TheConstants.{AT_FETCH, AT_DRAW, AT_DRAW_CHECK, AT_DRAW_FOUND, AT_PLACE, AT_EDGE, AT_FITS, AT_ANGLE, AT_BEGIN}
use Rattle.rom_law.proofs.Moves.{quicks}
use Rattle.rom_law.specs.Program.{Program, code}
use Rattle.rom_law.specs.Holding.{Places, places, Holding}
use Rattle.rom_law.specs.Rows.{Since, now}
use Rattle.rom_law.proofs.Places.{memory_fits, v_get, i_is, work_set, work_get, few_rows}
use Rattle.rom_law.proofs.Kept.{RunsBlock}
use Rattle.rom_rows.specs.Heads.{to_stop, by_edition, high_byte, low_byte, page_of, Enters}
use Rattle.rom_rows.specs.Checks.{answer_time, Calls, Checked, Answer, answer_number}
use Rattle.rom_rows.specs.Checks.Caller.{ForDraw}
use Rattle.rom_rows.specs.Checks.Answer.{InGame, InFont, Nowhere}
use Rattle.rom_rows.specs.FetchBlocks.FetchBlock.{Leave}
use Rattle.rom_rows.specs.MemoryBlocks.MemoryBlock.{Check}
use Rattle.rom_rows.specs.SpriteBlocks.{aim_time, edge_time, Aiming, Summing, Aimed, top, asked, height, corner, entry_of}
use Rattle.rom_rows.specs.SpriteBlocks.SpriteBlock.{Draw, DrawCheck, DrawFound, Place, Edge, Fits, Angle, Begin, Row}
use Rattle.rom_rows.specs.Table.{calm_pieces}
use Rattle.rom_rows.specs.Table.Block.{OfSprite}
use Rattle.rom_rows.proofs.Bits.{borrowed, not_borrowed}
use Rattle.rom_rows.proofs.Branches.{branch}
use Rattle.rom_rows.proofs.Bytes.{variables_is, stack_top_is, page_fits, page_low, screen_is, screen_page_is, rows_byte, rows_mask, below_rows}
use Rattle.rom_rows.proofs.Entry.{entered, is_inside}
use Rattle.rom_rows.proofs.Times.{aim_none, aim_game, aim_font, edge_none, edge_some}
use Rattle.rom_rows.proofs.Follows.{to_fetch, to_memory, to_sprite}
use Rattle.rom_rows.proofs.Straight.{routine}
use Rattle.rom_rows.proofs.Ways.{straight, forks}
use Rattle.rom_parts.specs.sprite.Code.{sprite_code}
use Rattle.rom_parts.proofs.Rom.{both, quick}

-- ---- the machine

abbrev pub aiming : Edition → ℕ → ℕ → ℕ → Machine → Machine
aiming e a high low b =
    record b {
      regs = record b.regs {
        p = 3;
        r = record b.regs.r {
          r3 = word_of a;
          r4 = word_of AT_FETCH;
          r6 = word (page_of e) (240 + high % 16);
          r7 = word (page_of e) (240 + low / 16);
        };
      };
    }

abbrev pub summing : Edition → ℕ → ℕ → ℕ → Machine → Machine
summing e a high low b =
    record (aiming e a high low b) {
      regs = record (aiming e a high low b).regs { x = 13; r = record (aiming e a high low b).regs.r { rd = word (page_of e) 0xd0 } };
    }

pub is_aiming : {e : Edition} {a n : ℕ} {b : Machine} {s : Lang} → Aiming (quick sprite_code e) a n b s → b ≡ aiming e a (high_byte s) (low_byte s) b
is_aiming {b = b} o = λ i. record b { regs = record b.regs { p = o.p i; r = record b.regs.r { r3 = o.r3 i; r4 = o.r4 i; r6 = o.r6 i; r7 = o.r7 i } } }

pub is_summing : {e : Edition} {a n : ℕ} {b : Machine} {s : Lang} → Aiming (quick sprite_code e) a n b s → Summing (quick sprite_code e) b
    → b ≡ summing e a (high_byte s) (low_byte s) b
is_summing {b = b} o w =
    λ i. record b {
      regs = record b.regs {
        p = o.p i;
        x = w.pointer i;
        r = record b.regs.r { r3 = o.r3 i; r4 = o.r4 i; r6 = o.r6 i; r7 = o.r7 i; rd = w.rd i };
      };
    }

-- the machine behind the range check
abbrev pub resumed : Edition → ℕ → ℕ → ℕ → Machine → Machine
resumed e high low d b = record (aiming e AT_DRAW_FOUND high low b) { regs = record (aiming e AT_DRAW_FOUND high low b).regs { d = d } }

pub is_resumed : {e : Edition} {answer : Answer} {b : Machine} {s : Lang} → Checked (quick sprite_code e) ForDraw answer b s
    → b ≡ resumed e (high_byte s) (low_byte s) (answer_number answer) b
is_resumed {b = b} o =
    λ i. record b {
      regs = record b.regs {
        d = o.d i;
        p = o.p i;
        r = record b.regs.r { r3 = o.r3 i; r4 = o.called.r4 i; r6 = o.called.r6 i; r7 = o.called.r7 i };
      };
    }

-- R3 is changed
abbrev pub on_at : Machine → Word → Machine
on_at c w = record c { regs = record c.regs { r = record c.regs.r { r3 = w } } }

-- RB.0 plays no part in the language state
low_set : {x : Program} {p : Places} {s : Lang} → Holding x p s → (y : ℕ) → Holding x (record p { rb = word p.rb.hi y }) s
low_set o y =
    record {
      is = o.is;
      stack = o.stack;
      size = o.size;
      latch = o.latch;
      enabled = o.enabled;
      awake = o.awake;
      on = o.on;
      entry = o.entry;
      page = o.page;
    }

module _ (e : Edition) (b : Machine) (h : Since) (f : FitsMachine b) where
  abbrev high : ℕ
  high = high_byte (now h)

  abbrev low : ℕ
  low = low_byte (now h)

  -- ---- up to the range check, and behind it

  none_asked : asked (now h) ≡ 0 → (asked (now h) == 0) ≡ true
  none_asked n = eq-eqb _ _ n

  pub draw_comes : Enters (quick sprite_code e) AT_DRAW 13 b (now h) → h.spent ≡ 80
      → RunsBlock (quick sprite_code e) (calm_pieces (quick sprite_code e)) (OfSprite Draw) b h
  draw_comes o spent =
      branch (OfSprite Draw) o.entered (on_at (quicks (code (quick sprite_code e)) 4 (entered e AT_DRAW high low b))) (bit_and low 15 == 0) AT_PLACE
      AT_DRAW_CHECK
      (omega arith) refl
      (λ k h' g. to_sprite (quick sprite_code e) g _ refl Place tt
      (record {
        draws = record {
          inside = o.entered.inside;
          digit = o.digit;
          readable = rw (none_asked (sym (and_mask low 4) ∙ eqb-true _ _ k)) refl;
        };
        holds = o.entered.holds;
        p = refl;
        r3 = refl;
        r4 = refl;
        r6 = refl;
        r7 = refl;
        count = and_mask low 4;
      }) (omega (arith, spent, g.spent, aim_none e (now h) (sym (and_mask low 4) ∙ eqb-true _ _ k))))
      (λ k h' g. to_sprite (quick sprite_code e) g _ refl DrawCheck tt (
        record {
          entered = record {
            holds = o.entered.holds;
            inside = o.entered.inside;
            p = refl;
            r3 = refl;
            r4 = refl;
            r6 = refl;
            r7 = refl;
            rc = refl;
          };
          digit = o.digit;
        },
        and_mask low 4,
        some k,
      ) (omega (arith, spent, g.spent)))
    where
      some : (bit_and low 15 == 0) ≡ false → 0 < low % 16
      some k = omega (arith, and_mask low 4, eqb-false (bit_and low 15) 0 k)

  pub draw_check_comes : Enters (quick sprite_code e) AT_DRAW_CHECK 13 b (now h) → b.regs.r.re.lo ≡ asked (now h) → 0 < asked (now h) → h.spent ≡ 88
      → RunsBlock (quick sprite_code e) (calm_pieces (quick sprite_code e)) (OfSprite DrawCheck) b h
  draw_check_comes o count some spent = routine (OfSprite DrawCheck) o.entered _ (omega arith) refl
      (λ h' g. to_memory (quick sprite_code e) g _ refl (Check ForDraw)
      (record {
        called = record {
          holds = o.entered.holds;
          inside = o.entered.inside;
          calls = (o.digit, some);
          r4 = refl;
          r6 = refl;
          r7 = refl;
        };
        p = refl;
        rd = refl;
        r3 = refl;
        count = count;
      }) (omega (arith, spent, g.spent)))

  draw_stops : is_fetchable e (now h) ≡ true → Calls ForDraw (now h) → is_in_memory e (now h).i (low % 16) ≡ false
      → is_in_font (now h).i (low % 16) ≡ false → stop_of e (now h) ≡ Some ReadOutside
  draw_stops inside k game font = rw (inside, k.0, ne_eqb (low % 16) 0 (λ z. omega (arith, z, k.1)), game, font) refl

  draw_stop_time : is_fetchable e (now h) ≡ true → Calls ForDraw (now h) → to_stop (quick sprite_code e) (now h) ≡ 152 + outside_cycles (now h).i
  draw_stop_time inside k = rw (inside, k.0) refl

  -- at the first of the rows to count
  found : {answer : Answer} → Checked (quick sprite_code e) ForDraw answer b (now h)
      → (is_in_memory e (now h).i (low % 16) || is_in_font (now h).i (low % 16)) ≡ true → (c : Machine)
      → Holding (quick sprite_code e) (places c) (next (now h))
      → c.regs.p ≡ 3 → c.regs.r.r3 ≡ word_of AT_PLACE → c.regs.r.r4 ≡ word_of AT_FETCH → c.regs.r.r6 ≡ word (page_of e) (0xf0 + high % 16)
      → c.regs.r.r7 ≡ word (page_of e) (0xf0 + low / 16) → c.regs.r.re.lo ≡ b.regs.r.re.lo → Aiming (quick sprite_code e) AT_PLACE (asked (now h)) c (now h)
  found o fits c holds p r3 r4 r6 r7 re =
      record {
        draws = record { inside = o.called.inside; digit = o.called.calls.0; readable = or_right (asked (now h) == 0) _ fits };
        holds = holds;
        p = p;
        r3 = r3;
        r4 = r4;
        r6 = r6;
        r7 = r7;
        count = re ∙ o.count;
      }

  pub draw_found_comes : (answer : Answer) → Checked (quick sprite_code e) ForDraw answer b (now h) → h.spent ≡ 102 + answer_time answer (now h).i
      → RunsBlock (quick sprite_code e) (calm_pieces (quick sprite_code e)) (OfSprite (DrawFound answer)) b h
  draw_found_comes InGame o spent =
      straight (OfSprite (DrawFound InGame)) o.called.holds _ (is_resumed o) _ (omega arith) refl
      (λ h' g. to_sprite (quick sprite_code e) g _ refl Place tt (found o (rw o.is refl) _ o.called.holds refl refl refl refl refl refl)
      (omega (arith, spent, g.spent, aim_game e (now h) o.called.calls.1 o.is)))
  draw_found_comes InFont o spent =
      straight (OfSprite (DrawFound InFont)) o.called.holds _ (is_resumed o) _ (omega arith) refl
      (λ h' g. to_sprite (quick sprite_code e) g _ refl Place tt (found o (rw (o.is.0, o.is.1) refl) _ o.called.holds refl refl refl refl refl refl)
      (omega (arith, spent, g.spent, aim_font e (now h) o.called.calls.1 o.is.0)))
  draw_found_comes Nowhere o spent =
      straight (OfSprite (DrawFound Nowhere)) o.called.holds _ (is_resumed o) _ (omega arith) refl
      (λ h' g. to_fetch (quick sprite_code e) g _ refl (Leave 3) (
        record {
          holds = o.called.holds;
          p = refl;
          r3 = refl;
          stop = ReadOutside;
          fits = draw_stops o.called.inside o.called.calls o.is.0 o.is.1;
          number = refl;
        },
        omega arith,
      ) (omega (arith, spent, g.spent, draw_stop_time o.called.inside o.called.calls)))

  -- ---- VX, VY and the work

  abbrev vx : ℕ
  vx = read (both sprite_code e) b.latch b.ram (value (word (page_of e) (240 + high % 16)))

  abbrev vy : ℕ
  vy = read (both sprite_code e) b.latch b.ram (value (word (page_of e) (240 + low / 16)))

  abbrev work : ℕ
  work = value (word (page_of e) 0xd0)

  -- what is written there, and read again
  abbrev again : ℕ → ℕ
  again y = read (both sprite_code e) b.latch (written b.latch b.ram work y) work

  abbrev y0 : ℕ
  y0 = bit_and vy (by_edition e 31 63)

  -- the rows from y0 to the bottom edge
  abbrev down_to : ℕ
  down_to = (by_edition e 32 64 + 256 - y0) % 256

  module _ {a n : ℕ} (o : Aiming (quick sprite_code e) a n b (now h)) where
    y_fits : low / 16 < 16
    y_fits =
        omega (
          arith,
          memory_fits o.holds f.ram ((now h).pc
              + 1) (omega (arith, is_inside e (now h) o.draws.inside)) (omega (arith, is_inside e (now h) o.draws.inside)),
        )

    x_is : vx ≡ variable (now h) (high % 16)
    x_is = v_get o.holds (value (word (page_of e) (240 + high % 16))) (high % 16) (omega (arith, variables_is e)) (omega arith)

    y_is : vy ≡ variable (now h) (low / 16)
    y_is = v_get o.holds (value (word (page_of e) (240 + low / 16))) (low / 16) (omega (arith, variables_is e)) y_fits

    top_is : y0 ≡ top e (now h)
    top_is = rows_mask e vy ∙ ap (λ v. v % rows_of e) y_is

    down_is : down_to ≡ rows_of e - top e (now h)
    down_is = omega (arith, rows_byte e, top_is, few_rows e, below_rows e (variable (now h) (low / 16)))

    again_is : (y : ℕ) → again y ≡ y
    again_is y = work_get o.holds work y (omega (arith, variables_is e))

    works : (y : ℕ) → Holding (quick sprite_code e) (record (places b) { ram = written b.latch b.ram work y }) (next (now h))
    works y = work_set o.holds work y (omega (arith, stack_top_is e)) (omega (arith, variables_is e))

    stack_there : value b.regs.r.r2 ≤ page_of e * 256 + 0xcf
    stack_there = omega (arith, o.holds.stack, stack_top_is e)

  -- ---- the rows above the bottom edge

  -- DF where the rows down to the edge are taken from N
  abbrev more_df : ℕ
  more_df = (b.regs.r.re.lo + 256 - again down_to) / 256

  pub place_comes : Aiming (quick sprite_code e) AT_PLACE (asked (now h)) b (now h) → h.spent ≡ 88 + aim_time e (now h)
      → RunsBlock (quick sprite_code e) (calm_pieces (quick sprite_code e)) (OfSprite Place) b h
  place_comes o spent =
      forks (OfSprite Place) o.holds (aiming e AT_PLACE high low b) (is_aiming o)
      (on_at (quicks (code (quick sprite_code e)) 12 (aiming e AT_PLACE high low b)))
      (not (more_df == 1)) AT_FITS AT_EDGE (omega (arith, stack_there o, page_low e)) refl
      (λ k h' g. to_sprite (quick sprite_code e) g _ refl Fits tt (
        record {
          draws = o.draws;
          holds = works o down_to;
          p = refl;
          r3 = refl;
          r4 = refl;
          r6 = refl;
          r7 = refl;
          count = omega (arith, less k, o.count);
        },
        record { rd = refl; pointer = refl },
      ) (omega (arith, spent, g.spent, edge_none e (now h) (less k))))
      (λ k h' g. to_sprite (quick sprite_code e) g _ refl Edge tt (
        record {
          draws = o.draws;
          holds = works o down_to;
          p = refl;
          r3 = refl;
          r4 = refl;
          r6 = refl;
          r7 = refl;
          count = o.count;
        },
        record { rd = refl; pointer = refl },
        omega (arith, more k),
      ) (omega (arith, spent, g.spent)))
    where
      less : not (more_df == 1) ≡ true → asked (now h) < rows_of e - top e (now h)
      less k = omega (arith, borrowed more_df k, again_is o down_to, down_is o, o.count, f.regs.r.re.lo, few_rows e)

      more : not (more_df == 1) ≡ false → rows_of e - top e (now h) ≤ asked (now h)
      more k = omega (arith, not_borrowed more_df k, again_is o down_to, down_is o, o.count, few_rows e)

  pub edge_comes : Aiming (quick sprite_code e) AT_EDGE (asked (now h)) b (now h) → Summing (quick sprite_code e) b → rows_of e ≤ top e (now h) + asked (now h)
      → h.spent ≡ 112 + aim_time e (now h) → RunsBlock (quick sprite_code e) (calm_pieces (quick sprite_code e)) (OfSprite Edge) b h
  edge_comes o w past spent = straight (OfSprite Edge) o.holds (summing e AT_EDGE high low b) (is_summing o w) _ (omega (arith, stack_there o, page_low e)) refl
      (λ h' g. to_sprite (quick sprite_code e) g _ refl Fits tt (
        record {
          draws = o.draws;
          holds = o.holds;
          p = refl;
          r3 = refl;
          r4 = refl;
          r6 = refl;
          r7 = refl;
          count = omega (arith, down_is o, past);
        },
        record { rd = refl; pointer = refl },
      ) (omega (arith, spent, g.spent, edge_some e (now h) (omega (arith, past)))))

  -- ---- the place on the screen

  -- 8y: its low byte, and its bit 8
  abbrev y8 : ℕ
  y8 = y0 * 2 % 256 * 2 % 256 * 2 % 256

  abbrev y8_df : ℕ
  y8_df = y0 * 2 % 256 * 2 % 256 * 2 / 256

  abbrev x8 : ℕ
  x8 = bit_and vx 63 / 2 / 2 / 2

  abbrev fitted : Machine
  fitted = quicks (code (quick sprite_code e)) 20 (summing e AT_FITS high low b)

  pub fits_comes : Aiming (quick sprite_code e) AT_FITS (height e (now h)) b (now h) → Summing (quick sprite_code e) b
      → h.spent ≡ 112 + aim_time e (now h) + edge_time e (now h)
      → RunsBlock (quick sprite_code e) (calm_pieces (quick sprite_code e)) (OfSprite Fits) b h
  fits_comes o w spent = straight (OfSprite Fits) o.holds (summing e AT_FITS high low b) (is_summing o w) fitted (omega (arith, stack_there o, page_low e)) refl
      (λ h' g. to_sprite (quick sprite_code e) g fitted refl Angle tt (
        record {
          draws = o.draws;
          holds = low_set (works o x8) ((again x8 + y8) % 256);
          p = refl;
          r3 = refl;
          r4 = refl;
          r6 = refl;
          r7 = refl;
          count = o.count;
        },
        record { rd = refl; pointer = refl },
        record { rows = o.count; place = there },
      )
      (omega (arith, spent, g.spent)))
    where
      sum : (by_edition e 15 14 + 0 + y8_df) % 256 * 256 + (again x8 + y8) % 256 ≡ corner e (now h)
      sum =
          omega (
            arith,
            screen_page_is e,
            screen_is e,
            page_fits e,
            again_is o x8,
            top_is o,
            few_rows e,
            below_rows e (variable (now h)
                (low / 16)),
            and_mask vx 6,
            x_is o,
          )

      there : fitted.regs.r.rc.hi * 256 + fitted.regs.r.rb.lo ≡ corner e (now h)
      there = sum

  -- ---- the entry of the shifts

  abbrev left_out : ℕ
  left_out = (7 + 256 - bit_and vx 7) % 256

  pub angle_comes : Aiming (quick sprite_code e) AT_ANGLE (height e (now h)) b (now h) → Summing (quick sprite_code e) b → Aimed (quick sprite_code e) b (now h)
      → h.spent ≡ 152 + aim_time e (now h) + edge_time e (now h)
      → RunsBlock (quick sprite_code e) (calm_pieces (quick sprite_code e)) (OfSprite Angle) b h
  angle_comes o w z spent = straight (OfSprite Angle) o.holds (summing e AT_ANGLE high low b) (is_summing o w) _ (omega (arith, stack_there o, page_low e)) refl
      (λ h' g. to_sprite (quick sprite_code e) g _ refl Begin tt (
        record {
          draws = o.draws;
          holds = works o left_out;
          p = refl;
          r3 = refl;
          r4 = refl;
          r6 = refl;
          r7 = refl;
          count = o.count;
        },
        record { rows = z.rows; place = z.place },
        entry,
      ) (omega (arith, spent, g.spent)))
    where
      entry : ((again left_out + left_out * 2 % 256) % 256 * 2 % 256 + 0x65) % 256 ≡ entry_of (now h)
      entry = omega (arith, again_is o left_out, and_mask vx 3, x_is o)

  -- ---- the pointers

  no_more : (n : ℕ) → n ≡ n + 0
  no_more n = omega arith

  no_less : (n : ℕ) → n ≡ n - 0
  no_less n = omega arith

  pub begin_comes : Aiming (quick sprite_code e) AT_BEGIN (height e (now h)) b (now h) → Aimed (quick sprite_code e) b (now h)
      → b.regs.r.rc.lo ≡ entry_of (now h)
      → h.spent ≡ 170 + aim_time e (now h) + edge_time e (now h) → RunsBlock (quick sprite_code e) (calm_pieces (quick sprite_code e)) (OfSprite Begin) b h
  begin_comes o z entry spent = straight (OfSprite Begin) o.holds (aiming e AT_BEGIN high low b) (is_aiming o) _ (omega arith) refl
      (λ h' g. to_sprite (quick sprite_code e) g _ refl (Row 0) tt (
        record {
          draws = o.draws;
          holds = o.holds;
          prepared = record { lefts = λ j l. absurd (omega (arith, l)); rights = λ j l. absurd (omega (arith, l)) };
          p = refl;
          r3 = refl;
          r4 = refl;
          entry = entry;
          place = z.place;
          rows = z.rows;
          count = o.count ∙ no_less (height e (now h));
          r7 = refl;
          rd = i_is o.holds ∙ no_more (now h).i;
        },
        omega arith,
      ) (omega (arith, spent, g.spent)))
