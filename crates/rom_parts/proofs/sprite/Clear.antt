-- 00E0.
use Rattle.std.proofs.Common.{◌≡◌, ℕ, ◌+◌, ◌-◌, ◌*◌, ◌<◌, ◌≤◌, refl, sym, ◌∙◌, ap, subst, arith, true, false}
use Rattle.std.specs.Prelude.{◌==◌, not, bit_xor, None}
use Rattle.std.proofs.lemmas.Bool.{eqb-true, eq-eqb}
use Rattle.machine.specs.Bank.{Word, word_of, value, down}
use Rattle.machine.specs.Memory.{written}
use Rattle.machine.specs.Board.{Machine}
use Rattle.machine.specs.Ranges.{FitsMachine}
use Rattle.machine.specs.Schedule.{Tick}
use Rattle.chip8_lang.specs.declared.instr.Instr.TheVariants.{Clear as IsClear}
use Rattle.chip8_lang.specs.declared.view.Edition.{Edition}
use Rattle.chip8_lang.specs.Editions.{screen_start, rows_of}
use Rattle.chip8_lang.specs.State.{Lang, instr_at}
use Rattle.chip8_lang.specs.Step.{next, stop_of, step, done_by}
use Rattle.chip8_lang.specs.Step.KeyInput.{Nothing}
use Rattle.chip8_image.specs.declared.image.labels.TheConstants.{AT_FETCH, AT_CLEAR, AT_CLEAR_WAIT, AT_WIPE, AT_WIPE3, AT_WIPE6, AT_WIPED, AT_CLEARED}
use Rattle.rom_law.proofs.Moves.{quicks}
use Rattle.rom_law.proofs.Ticks.{after_wait}
use Rattle.rom_law.specs.Program.{Program, code}
use Rattle.rom_law.specs.Holding.{places, Holding}
use Rattle.rom_law.specs.Rows.{Since, Starts, now, after_tick}
use Rattle.rom_law.specs.Rows.Starts.{Enters}
use Rattle.rom_law.proofs.Kept.{RunsBlock, RunsPlace}
use Rattle.rom_law.proofs.Places.{screen_ends, some_rows, few_rows}
use Rattle.rom_rows.specs.Heads.{page_of, Entered, Done}
use Rattle.rom_rows.specs.SpriteBlocks.{Clears, Clearing, cleared_to, woken}
use Rattle.rom_rows.specs.SpriteBlocks.SpriteBlock.{Clear, Wipe, Wipe3, Wipe6, Wiped, Cleared}
use Rattle.rom_rows.specs.SpriteBlocks.SpritePlace.{ClearWait, ClearIdle}
use Rattle.rom_rows.specs.Table.{At, pieces, waited_pieces, calm_pieces}
use Rattle.rom_rows.specs.Table.Block.{OfSprite}
use Rattle.rom_rows.specs.Table.Place.{AtSprite}
use Rattle.rom_rows.proofs.Alone.{alone, one_more}
use Rattle.rom_rows.proofs.Bits.{same_xor, xor_same, nonzero, is_zero}
use Rattle.rom_rows.proofs.Entry.{is_on_3, on_3}
use Rattle.rom_rows.proofs.Follows.{to_sprite_place}
use Rattle.rom_rows.proofs.Later.{clearing_later}
use Rattle.rom_rows.proofs.Steps.{clears}
use Rattle.rom_rows.proofs.Straight.{routine}
use Rattle.rom_rows.proofs.Waited.{to_waited, starts_joined}
use Rattle.rom_rows.proofs.Ways.{straight_on, forks_on}
use Rattle.rom_rows.proofs.Bytes.{screen_is}
use Rattle.rom_parts.specs.sprite.Code.{sprite_code}
use Rattle.rom_parts.proofs.Rom.{quick}
use Rattle.rom_parts.proofs.sprite.Screen.{all_left, none_left, cleared_one}
use Rattle.rom_parts.proofs.sprite.Waits.{waking, woken_fits, waits}

-- the machine in 00E0
abbrev pub clearing : ℕ → Machine → Machine
clearing a b = record b { regs = record b.regs { p = 3; x = 13; r = record b.regs.r { r3 = word_of a; r4 = word_of AT_FETCH } } }

pub is_clearing : {x : Program} {a m : ℕ} {b : Machine} {s : Lang} → Clearing x a m b s → b ≡ clearing a b
is_clearing {b = b} o = λ i. record b { regs = record b.regs { p = o.p i; x = o.pointer i; r = record b.regs.r { r3 = o.r3 i; r4 = o.r4 i } } }

recounted : {x : Program} {a : ℕ} {b : Machine} {s : Lang} (m n : ℕ) → m ≡ n → Clearing x a m b s → Clearing x a n b s
recounted {x = x} {a = a} {b = b} {s = s} m n e o = subst (λ k. Clearing x a k b s) e o

module _ (e : Edition) (b : Machine) (h : Since) (f : FitsMachine b) where
  -- ---- up to the wait

  pub clear_comes : Entered (quick sprite_code e) AT_CLEAR b (now h) → Clears (now h) → h.spent ≡ 90
      → RunsBlock (quick sprite_code e) (calm_pieces (quick sprite_code e)) (OfSprite Clear) b h
  clear_comes o is spent = routine (OfSprite Clear) o _ (omega arith) refl
      (λ h' g. to_sprite_place (quick sprite_code e) g _ refl ClearWait
      (record {
        holds = subst (λ z. Holding (quick sprite_code e) (places b) (record (next (now h)) { screen = z })) (all_left o.holds) o.holds;
        inside = o.inside;
        clears = is;
        p = refl;
        r3 = refl;
        r4 = refl;
        pointer = refl;
        rd = omega (arith, screen_ends e);
      })
      (omega (arith, spent, g.spent)))

  -- ---- the wait

  pub clear_wait_holds : Clearing (quick sprite_code e) AT_CLEAR_WAIT (8 * rows_of e) b (now h) → At (quick sprite_code e) (AtSprite ClearWait) b h
      → h.spent ≡ 100
      → RunsPlace (quick sprite_code e) (calm_pieces (quick sprite_code e)) (AtSprite ClearWait) b h
  clear_wait_holds o at spent = alone (AtSprite ClearWait) f at o.holds (clearing AT_CLEAR_WAIT b) (is_clearing o) refl refl refl
      (λ u. to_sprite_place (quick sprite_code e) (one_more u h) _ refl ClearIdle (
        record {
          holds = waking o.holds;
          inside = o.inside;
          clears = o.clears;
          p = refl;
          r3 = refl;
          r4 = refl;
          pointer = refl;
          rd = o.rd;
        },
        refl,
      ) (omega (arith, spent)))

  pub clear_wakes : Clearing (quick sprite_code e) AT_WIPE (8 * rows_of e) (woken b) (now h) → h.spent ≡ 102 → (c : Machine)
      → Tick (code (quick sprite_code e)).low b c
      → Starts (waited_pieces (quick sprite_code e)) c (after_tick h)
  clear_wakes o spent c k =
      Enters (Wipe (rows_of e - 1), tt) (
        (
          recounted (8 * rows_of e) (8 * (rows_of e - 1)
              + 8) (omega (arith, some_rows e)) (clearing_later (quick sprite_code e) 1 (after_wait (code (quick sprite_code e)).low b c k) (woken_fits b f)
              (now h) AT_WIPE (8 * rows_of e) o),
          omega (arith, some_rows e),
        ),
        (omega (arith, spent, few_rows e, some_rows e), omega arith),
      )

  pub clear_idle_holds : Clearing (quick sprite_code e) AT_WIPE (8 * rows_of e) (woken b) (now h) → b.regs.idle ≡ true → h.spent ≡ 102
      → RunsPlace (quick sprite_code e) (pieces (quick sprite_code e)) (AtSprite ClearIdle) b h
  clear_idle_holds o idle spent = waits (AtSprite ClearIdle) o.holds idle
      (λ c k. starts_joined (quick sprite_code e) c (after_tick h) (clear_wakes o spent c k))

  -- ---- a row: eight bytes, three at most in a block

  -- RD one byte on, and two
  module _ {n : ℕ} {a : ℕ} (o : Clearing (quick sprite_code e) a n b (now h)) where
    abbrev rd : Word
    rd = b.regs.r.rd

    second : (m : ℕ) → n ≡ m + 1 → 0 < n → value (down rd) ≡ screen_start e + m - 1
    second m k some = omega (arith, k, some, o.rd, f.regs.r.rd.hi, f.regs.r.rd.lo, screen_is e)

    third : (m : ℕ) → n ≡ m + 2 → value (down (down rd)) ≡ screen_start e + m - 1
    third m k = omega (arith, k, o.rd, f.regs.r.rd.hi, f.regs.r.rd.lo, screen_is e)

    fourth : (m : ℕ) → n ≡ m + 3 → value (down (down (down rd))) ≡ screen_start e + m - 1
    fourth m k = omega (arith, k, o.rd, f.regs.r.rd.hi, f.regs.r.rd.lo, screen_is e)

    two : (m : ℕ) → n ≡ m + 2 → n ≤ 8 * rows_of e
        → Holding (quick sprite_code e) (record (places b) { ram = written b.latch (written b.latch b.ram (value rd) 0) (value (down rd)) 0 })
        (cleared_to m (now h))
    two m k room =
        cleared_one (now h) (m + 1) m _ (omega arith)
        (cleared_one (now h) n (m + 1) _ (omega (arith, k)) o.holds (omega (arith, o.rd, k)) (omega (arith, k, room)))
        (omega (arith, second (m + 1) (omega (arith, k)) (omega (arith, k)))) (omega (arith, k, room))

    three : (m : ℕ) → n ≡ m + 3 → n ≤ 8 * rows_of e
        → Holding (quick sprite_code e) (record (places b) {
          ram = written b.latch (written b.latch (written b.latch b.ram (value rd) 0) (value (down rd)) 0)
              (value (down (down rd))) 0;
        }) (cleared_to m (now h))
    three m k room =
        cleared_one (now h) (m + 1) m _ (omega arith) (two (m + 1) (omega (arith, k)) room) (omega (arith, third (m + 1) (omega (arith, k))))
        (omega (arith, k, room))

  -- with D = 0
  abbrev zeroed : ℕ → Machine
  zeroed a = record (clearing a b) { regs = record (clearing a b).regs { d = 0 } }

  is_zeroed : {a n : ℕ} → Clearing (quick sprite_code e) a n b (now h) → b.regs.d ≡ 0 → b ≡ zeroed a
  is_zeroed {a = a} o d = is_clearing o ∙ (λ i. record (clearing a b) { regs = record (clearing a b).regs { d = d i } })

  pub wipe_comes : (k : ℕ) → Clearing (quick sprite_code e) AT_WIPE (8 * k + 8) b (now h) → k < rows_of e → h.spent ≡ 102 + 24 * (rows_of e - 1 - k)
      → 1 ≤ h.ticks
      → RunsBlock (quick sprite_code e) (waited_pieces (quick sprite_code e)) (Wipe k, tt) b h
  wipe_comes k o inside spent tick = straight_on (Wipe k) tt o.holds (clearing AT_WIPE b) (is_clearing o) _ (omega arith) refl
      (λ h' g. to_waited (quick sprite_code e) g _ refl (Wipe3 k) tt (
        record {
          holds = two o (8 * k + 6) (omega arith) (omega (arith, inside));
          inside = o.inside;
          clears = o.clears;
          p = refl;
          r3 = refl;
          r4 = refl;
          pointer = refl;
          rd = omega (arith, third o (8 * k + 6) (omega arith), screen_is e);
        },
        inside,
        refl,
      )
      (omega (arith, spent, g.spent), omega (arith, tick, g.ticks)))

  pub wipe3_comes : (k : ℕ) → Clearing (quick sprite_code e) AT_WIPE3 (8 * k + 6) b (now h) → k < rows_of e → b.regs.d ≡ 0
      → h.spent ≡ 108 + 24 * (rows_of e - 1 - k)
      → 1 ≤ h.ticks → RunsBlock (quick sprite_code e) (waited_pieces (quick sprite_code e)) (Wipe3 k, tt) b h
  wipe3_comes k o inside d spent tick = straight_on (Wipe3 k) tt o.holds (zeroed AT_WIPE3) (is_zeroed o d) _ (omega arith) refl
      (λ h' g. to_waited (quick sprite_code e) g _ refl (Wipe6 k) tt (
        record {
          holds = three o (8 * k + 3) (omega arith) (omega (arith, inside));
          inside = o.inside;
          clears = o.clears;
          p = refl;
          r3 = refl;
          r4 = refl;
          pointer = refl;
          rd = omega (arith, fourth o (8 * k + 3) (omega arith), screen_is e);
        },
        inside,
        refl,
      )
      (omega (arith, spent, g.spent), omega (arith, tick, g.ticks)))

  pub wipe6_comes : (k : ℕ) → Clearing (quick sprite_code e) AT_WIPE6 (8 * k + 3) b (now h) → k < rows_of e → b.regs.d ≡ 0
      → h.spent ≡ 114 + 24 * (rows_of e - 1 - k)
      → 1 ≤ h.ticks → RunsBlock (quick sprite_code e) (waited_pieces (quick sprite_code e)) (Wipe6 k, tt) b h
  wipe6_comes k o inside d spent tick = straight_on (Wipe6 k) tt o.holds (zeroed AT_WIPE6) (is_zeroed o d) _ (omega arith) refl
      (λ h' g. to_waited (quick sprite_code e) g _ refl (Wiped k) tt (
        record {
          holds = three o (8 * k) (omega arith) (omega (arith, inside));
          inside = o.inside;
          clears = o.clears;
          p = refl;
          r3 = refl;
          r4 = refl;
          pointer = refl;
          rd = omega (arith, fourth o (8 * k) (omega arith), screen_is e);
        },
        inside,
      )
      (omega (arith, spent, g.spent), omega (arith, tick, g.ticks)))

  -- ---- is RD below the screen

  clear_is : Clears (now h) → instr_at (now h) ≡ IsClear
  clear_is is = rw (is.0, is.1) refl

  abbrev below : ℕ
  below = bit_xor b.regs.r.rd.hi (page_of e)

  module _ {a k : ℕ} (o : Clearing (quick sprite_code e) a (8 * k) b (now h)) where
    on_screen : not (below == 0) ≡ true → 0 < k
    on_screen n =
        omega (
          arith,
          o.rd,
          screen_is e,
          f.regs.r.rd.lo,
          λ (same : b.regs.r.rd.hi
              ≡ page_of e). nonzero below n (eqb-true below 0 (same_xor _ _ same)),
        )

    past_screen : not (below == 0) ≡ false → k ≡ 0
    past_screen n = omega (arith, o.rd, screen_is e, f.regs.r.rd.lo, xor_same b.regs.r.rd.hi (page_of e) (eq-eqb below 0 (is_zero below n)))

  -- R3 is changed
  abbrev on_at : Machine → Word → Machine
  on_at c w = record c { regs = record c.regs { r = record c.regs.r { r3 = w } } }

  empties : {a k : ℕ} → Clearing (quick sprite_code e) a (8 * k) b (now h) → k ≡ 0 → Holding (quick sprite_code e) (places b) (step e Nothing (now h))
  empties {k = k} o none =
      subst (Holding (quick sprite_code e) (places b))
      (ap (λ m. cleared_to m (now h)) empty_now ∙ ap (λ z. record (next (now h)) { screen = z }) (none_left (now h).screen)
      ∙ ap (λ j. done_by e j Nothing (now h)) (sym (clear_is o.clears))) o.holds
    where
      empty_now : 8 * k ≡ 0
      empty_now = omega (arith, none)

  pub wiped_comes : (k : ℕ) → Clearing (quick sprite_code e) AT_WIPED (8 * k) b (now h) → k < rows_of e → h.spent ≡ 120 + 24 * (rows_of e - 1 - k) → 1 ≤ h.ticks
      → RunsBlock (quick sprite_code e) (waited_pieces (quick sprite_code e)) (Wiped k, tt) b h
  wiped_comes k o inside spent tick =
      forks_on (Wiped k) tt o.holds (clearing AT_WIPED b) (is_clearing o) (on_at (quicks (code (quick sprite_code e)) 3 (clearing AT_WIPED b)))
      (not (below == 0)) AT_WIPE AT_CLEARED (omega arith) refl
      (λ n h' g. to_waited (quick sprite_code e) g _ refl (Wipe (k - 1)) tt (
        recounted (8 * k) (8 * (k - 1)
            + 8) (omega (arith, on_screen o n)) (record {
              holds = o.holds;
              inside = o.inside;
              clears = o.clears;
              p = refl;
              r3 = refl;
              r4 = refl;
              pointer = refl;
              rd = o.rd;
            }),
        omega (arith, inside),
      )
      (omega (arith, spent, g.spent, inside, on_screen o n, few_rows e), omega (arith, tick, g.ticks)))
      (λ n h' g. to_waited (quick sprite_code e) g _ refl Cleared tt
      (record { holds = empties o (past_screen o n); inside = o.inside; p = refl; r3 = refl; r4 = refl }, o.clears)
      (omega (arith, spent, g.spent, past_screen o n), omega (arith, tick, g.ticks)))

  pub cleared_comes : Done (quick sprite_code e) AT_CLEARED b (now h) → Clears (now h) → h.spent ≡ 102 + 24 * rows_of e → 1 ≤ h.ticks
      → RunsBlock (quick sprite_code e) (waited_pieces (quick sprite_code e)) (Cleared, tt) b h
  cleared_comes o is spent tick = straight_on Cleared tt o.holds (on_3 AT_CLEARED b) (is_on_3 AT_CLEARED b o.p o.r3) _ (omega arith) refl
      (λ h' g. clears e g tick runs (clear_is is) (omega (arith, spent)) _
      (subst (λ j. Holding (quick sprite_code e) (places b) (done_by e j Nothing (now h))) (clear_is is) o.holds) refl o.r4)
    where
      runs : stop_of e (now h) ≡ None
      runs = rw (o.inside, is.0, is.1) refl
