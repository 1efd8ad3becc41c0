-- FX0A.
use Rattle.std.proofs.Common.{◌≡◌, ℕ, suc, ◌+◌, ◌*◌, ◌/◌, ◌%◌, ◌<◌, ◌⊎◌, inl, inr, refl, sym, ◌∙◌, ap, subst, arith, true, false, List, [], ◌∷◌, ◌++◌, length, slice_set, bit_and}
use Rattle.std.specs.Prelude.{None}
use Rattle.std.proofs.lemmas.Bool.{cases_eq}
use Rattle.std.proofs.lemmas.Nat.{and_mask}
use Rattle.machine.specs.Bank.{Word, word, word_of, value}
use Rattle.machine.specs.Memory.{read, written}
use Rattle.machine.specs.Board.{Machine}
use Rattle.machine.specs.Keys.{Keys}
use Rattle.machine.specs.Ranges.{FitsMachine}
use Rattle.chip8_lang.specs.declared.instr.Instr.TheVariants.{WaitKey as IsWaitKey}
use Rattle.chip8_lang.specs.declared.view.Edition.{Edition}
use Rattle.chip8_lang.specs.Editions.{stack_top, variables}
use Rattle.chip8_lang.specs.State.{Lang, instr_at}
use Rattle.chip8_lang.specs.Step.{next, stop_of}
use Rattle.chip8_lang.specs.Step.KeyInput.{Chosen}
use Rattle.chip8_lang.specs.Between.{IsAt}
use Rattle.chip8_image.specs.declared.image.labels.TheConstants.{AT_FETCH, AT_WAIT_KEY, AT_KEY_NEXT, AT_KEY_TEST, AT_KEY_COUNT, AT_KEY_HELD, AT_KEY_FREED}
use Rattle.rom_law.specs.Code.{Input}
use Rattle.rom_law.specs.Holding.{Places, places, Holding}
use Rattle.rom_law.specs.Moments.{Sees, Searches, Holds as Held}
use Rattle.rom_law.specs.Rows.{Since, Grows, now, after_main}
use Rattle.rom_law.proofs.Places.{v_set, work_set, work_get}
use Rattle.rom_law.proofs.Kept.{RunsBlock, RunsPlace}
use Rattle.rom_rows.specs.Heads.{high_byte, low_byte, page_of, Enters}
use Rattle.rom_rows.specs.KeyBlocks.{Last, JustUp, Turned, Waiting, Turning}
use Rattle.rom_rows.specs.KeyBlocks.KeyBlock.{WaitKey, KeyNext, KeyCount, KeyFreed}
use Rattle.rom_rows.specs.KeyBlocks.KeyPlace.{KeyTest, KeyHeld}
use Rattle.rom_rows.specs.Table.{At, calm_pieces}
use Rattle.rom_rows.specs.Table.Block.{OfKey}
use Rattle.rom_rows.specs.Table.Place.{AtKey}
use Rattle.rom_rows.proofs.Alone.{alone_forks, one_more, sees_now}
use Rattle.rom_rows.proofs.Bytes.{page_fits, stack_top_is, variables_is}
use Rattle.rom_rows.proofs.Entry.{entered, is_entered}
use Rattle.rom_rows.proofs.Follows.{to_key, to_key_place}
use Rattle.rom_rows.proofs.Straight.{routine}
use Rattle.rom_rows.proofs.Steps.{sees_grown, searches_grown, holds_grown, makes_calm, steps_with}
use Rattle.rom_rows.proofs.Ways.{straight}
use Rattle.rom_parts.specs.keys.Code.{keys_code}
use Rattle.rom_parts.proofs.Rom.{both, quick}
use Rattle.rom_parts.proofs.keys.Sets.{at_grown, let_go, let_go_grown, length_grown, turned_grown, last_set, length_more, is_at_more}

-- ---- the sets of a turn

-- no turn before the first
no_turns : (sets : List Keys) → Turned 0 0 sets
no_turns sets = record { before = length sets; count = omega arith; up = λ i l. absurd (omega (arith, l)) }

-- the key of the turn was up at its test, and the rest of the turn has passed
turned_on : (turn : ℕ) {h h' : Since} → Grows h 2 0 h' → Turned turn 5 h.keys → Last h.keys (turn % 16) false → Turned (suc turn) 0 h'.keys
turned_on turn {h = h} {h' = h'} g t last =
    record { before = t.before; count = omega (arith, t.count, length_grown g); up = λ i l. at_grown g (go i l (cases_eq i turn)) }
  where
    go : (i : ℕ) → i < suc turn → (i ≡ turn) ⊎ (i ≡ turn → ⊥) → IsAt h.keys (t.before + 7 * i + 4) (i % 16) false
    go i l (inl e) = rw e (subst (λ u. IsAt h.keys u (turn % 16) false) (omega (arith, last.last, t.count)) last.at)
    go i l (inr d) = t.up i (omega (arith, l, d))

-- the test of a turn has passed
turned_test : {turn : ℕ} (u : Input) (h : Since) → Turned turn 4 h.keys → Turned turn 5 (h.keys ++ u.held ∷ [])
turned_test u h t =
    record { before = t.before; count = omega (arith, t.count, length_more h.keys (u.held ∷ [])); up = λ i l. is_at_more (u.held ∷ []) (t.up i l) }

-- and so have its moves: one more turn has looked at its key, and one more look has found it down
searches_more : (u : Input) (h : Since) (turn : ℕ) → Searches h.moments turn → h.spent ≡ 114 + 14 * turn → u.held (turn % 16) ≡ false
    → Searches (after_main u h).moments (suc turn)
searches_more u h turn searched spent is i l = go (cases_eq i turn)
  where
    go : (i ≡ turn) ⊎ (i ≡ turn → ⊥) → Sees (after_main u h).moments (114 + 14 * i) (i % 16) false
    go (inl same) = rw same (sees_now u h (114 + 14 * turn) (turn % 16) false spent is)
    go (inr d) = sees_grown (one_more u h) (searched i (omega (arith, l, d)))

holds_more : (u : Input) (h : Since) (turn looks : ℕ) → Held h.moments turn looks → h.spent ≡ 116 + 14 * turn + 2 * looks → u.held (turn % 16) ≡ true
    → Held (after_main u h).moments turn (suc looks)
holds_more u h turn looks holds spent is =
    record {
      searched = searches_grown (one_more u h) holds.searched;
      down = sees_grown (one_more u h) holds.down;
      held = λ i l. go i l (cases_eq i looks);
    }
  where
    go : (i : ℕ) → i < suc looks → (i ≡ looks) ⊎ (i ≡ looks → ⊥) → Sees (after_main u h).moments (116 + 14 * turn + 2 * i) (turn % 16) true
    go i l (inl same) = rw same (sees_now u h (116 + 14 * turn + 2 * looks) (turn % 16) true spent is)
    go i l (inr d) = sees_grown (one_more u h) (holds.held i (omega (arith, l, d)))

-- the machine in a turn of the loop
abbrev pub turning : Edition → ℕ → ℕ → ℕ → Machine → Machine
turning e a high low b =
    record (entered e a high low b) {
      regs = record (entered e a high low b).regs { x = 13; r = record (entered e a high low b).regs.r { rd = word (page_of e) 0xd0 } };
    }

pub is_turning : {e : Edition} {turn a : ℕ} {b : Machine} {s : Lang} → Turning (quick keys_code e) turn a b s → b ≡ turning e a (high_byte s) (low_byte s) b
is_turning {e = e} {a = a} {b = b} {s = s} o =
    is_entered o.waiting.enters.entered
    ∙ (λ i. record (entered e a (high_byte s)
    (low_byte s) b) {
      regs = record (entered e a (high_byte s) (low_byte s) b).regs {
        x = o.pointer i;
        r = record (entered e a (high_byte s) (low_byte s) b).regs.r { rd = o.rd i };
      };
    })

module _ (e : Edition) (b : Machine) (h : Since) (f : FitsMachine b) where
  abbrev high : ℕ
  high = high_byte (now h)

  abbrev low : ℕ
  low = low_byte (now h)

  -- FX0A goes on at w, in c
  waits_in : {a : ℕ} (w : ℕ) (c : Machine) → Waiting (quick keys_code e) a b (now h) → Holding (quick keys_code e) (places c) (next (now h)) → c.regs.p ≡ 3
      → c.regs.r.r3 ≡ word_of w → c.regs.r.r4 ≡ word_of AT_FETCH → c.regs.r.r6 ≡ word (page_of e) (240 + high % 16)
      → c.regs.r.r7 ≡ word (page_of e) (240 + low / 16) → c.regs.r.rc ≡ word high low → Waiting (quick keys_code e) w c (now h)
  waits_in w c o holds p r3 r4 r6 r7 rc =
      record {
        enters = record {
          entered = record {
            holds = holds;
            inside = o.enters.entered.inside;
            p = p;
            r3 = r3;
            r4 = r4;
            r6 = r6;
            r7 = r7;
            rc = rc;
          };
          digit = o.enters.digit;
        };
        low = o.low;
      }

  pub wait_key_comes : Enters (quick keys_code e) AT_WAIT_KEY 15 b (now h) → low ≡ 0x0a → h.spent ≡ 92
      → RunsBlock (quick keys_code e) (calm_pieces (quick keys_code e)) (OfKey WaitKey) b h
  wait_key_comes o kk spent = routine (OfKey WaitKey) o.entered _ (omega arith) refl
      (λ h' g. to_key (quick keys_code e) g _ refl (KeyNext 0) (
        record {
          waiting = waits_in AT_KEY_NEXT _ (record { enters = o; low = kk }) o.entered.holds refl refl refl refl refl refl;
          count = refl;
          pointer = refl;
          rd = refl;
        },
        no_turns h'.keys,
      ) (omega (arith, spent, g.spent), λ i l. absurd (omega (arith, l))))

  -- ---- a turn

  -- RE.0 goes to the work area, and from there to the port
  abbrev work : ℕ
  work = value (word (page_of e) 0xd0)

  above : stack_top e < work
  above = omega (arith, stack_top_is e)

  below : work < variables e
  below = omega (arith, variables_is e)

  sent : {turn a : ℕ} → Turning (quick keys_code e) turn a b (now h)
      → read (both keys_code e) b.latch (written b.latch b.ram work b.regs.r.re.lo) work % 16 ≡ turn % 16
  sent o = omega (arith, work_get o.waiting.enters.entered.holds work b.regs.r.re.lo below, o.count)

  words : (w : Word) (p l : ℕ) → w.hi ≡ p → w.lo ≡ l → w ≡ word p l
  words w p l hi lo = λ i. record { hi = hi i; lo = lo i }

  pub key_next_comes : (turn : ℕ) → Turning (quick keys_code e) turn AT_KEY_NEXT b (now h) → Turned turn 0 h.keys → h.spent ≡ 106 + 14 * turn
      → Searches h.moments turn
      → RunsBlock (quick keys_code e) (calm_pieces (quick keys_code e)) (OfKey (KeyNext turn)) b h
  key_next_comes turn o t spent searched =
      straight (OfKey (KeyNext turn)) o.waiting.enters.entered.holds (turning e AT_KEY_NEXT high low b) (is_turning o) _
      (omega (arith, o.waiting.enters.entered.holds.stack, stack_top_is e, page_fits e)) refl
      (λ h' g. to_key_place (quick keys_code e) g _ refl (KeyTest turn) (
        record {
          waiting = waits_in AT_KEY_TEST _ o.waiting
              (work_set o.waiting.enters.entered.holds work b.regs.r.re.lo above below) refl refl refl refl refl refl;
          count = o.count;
          pointer = refl;
          rd = words _ (page_of e) 0xd0 (omega (arith, page_fits e)) refl;
        },
        sent o,
        turned_grown g t,
      )
      (omega (arith, spent, g.spent), searches_grown g searched))

  -- the machine behind a test of the key
  abbrev gone : Word → Machine
  gone w = record (turning e 0 high low b) { regs = record (turning e 0 high low b).regs { r = record (turning e 0 high low b).regs.r { r3 = w } } }

  -- ---- a test

  -- what is known in a turn is known behind its test
  waits_on : {turn a : ℕ} (w : ℕ) → Turning (quick keys_code e) turn a b (now h) → Waiting (quick keys_code e) w (gone (word_of w)) (now h)
  waits_on w o = waits_in w _ o.waiting o.waiting.enters.entered.holds refl refl refl refl refl refl

  turns_on : {turn a : ℕ} (w : ℕ) → Turning (quick keys_code e) turn a b (now h) → Turning (quick keys_code e) turn w (gone (word_of w)) (now h)
  turns_on w o = record { waiting = waits_on w o; count = o.count; pointer = refl; rd = refl }

  digit_of : {turn a : ℕ} → Turning (quick keys_code e) turn a b (now h) → turn % 16 ≡ b.regs.r.re.lo % 16
  digit_of o = omega (arith, o.count)

  pub key_test_holds : (turn : ℕ) → Turning (quick keys_code e) turn AT_KEY_TEST b (now h) → b.key ≡ turn % 16 → Turned turn 4 h.keys
      → At (quick keys_code e) (AtKey (KeyTest turn)) b h → h.spent ≡ 114 + 14 * turn → Searches h.moments turn
      → RunsPlace (quick keys_code e) (calm_pieces (quick keys_code e)) (AtKey (KeyTest turn)) b h
  key_test_holds turn o key t at spent searched =
      alone_forks (AtKey (KeyTest turn)) f at o.waiting.enters.entered.holds (turning e AT_KEY_TEST high low b) (is_turning o) refl refl gone
      (λ u. u.held b.key) AT_KEY_HELD AT_KEY_COUNT (λ u. refl)
      (λ u k. to_key_place (quick keys_code e) (one_more u h) _ refl (KeyHeld turn 0) (
        waits_on AT_KEY_HELD o,
        key ∙ digit_of o,
        last_set h.keys u.held (b.regs.r.re.lo % 16) true (ap u.held (sym (key ∙ digit_of o)) ∙ k),
        sym (digit_of o),
      ) (
        omega (arith, spent),
        record {
          searched = searches_grown (one_more u h) searched;
          down = sees_now u h (114 + 14 * turn) (turn % 16) true spent (ap u.held (sym key) ∙ k);
          held = λ i l. absurd (omega (arith, l));
        },
      ))
      (λ u k. to_key (quick keys_code e) (one_more u h) _ refl (KeyCount turn)
      (turns_on AT_KEY_COUNT o, turned_test u h t, last_set h.keys u.held (turn % 16) false (ap u.held (sym key) ∙ k))
      (omega (arith, spent), searches_more u h turn searched spent (ap u.held (sym key) ∙ k)))

  pub key_count_comes : (turn : ℕ) → Turning (quick keys_code e) turn AT_KEY_COUNT b (now h) → Turned turn 5 h.keys → Last h.keys (turn % 16) false
      → h.spent ≡ 116 + 14 * turn → Searches h.moments (suc turn) → RunsBlock (quick keys_code e) (calm_pieces (quick keys_code e)) (OfKey (KeyCount turn)) b h
  key_count_comes turn o t last spent searched =
      straight (OfKey (KeyCount turn)) o.waiting.enters.entered.holds (turning e AT_KEY_COUNT high low b) (is_turning o) _ (omega arith) refl
      (λ h' g. to_key (quick keys_code e) g _ refl (KeyNext (suc turn)) (
        record {
          waiting = waits_in AT_KEY_NEXT _ o.waiting o.waiting.enters.entered.holds refl refl refl refl refl refl;
          count = counts;
          pointer = refl;
          rd = refl;
        },
        turned_on turn g t last,
      ) (omega (arith, spent, g.spent), searches_grown g searched))
    where
      counts : (b.regs.r.re.lo + 1) % 256 ≡ suc turn % 256
      counts = omega (arith, o.count)

  -- ---- a key is down

  -- behind the test
  abbrev waiting : Word → Machine
  waiting w = record (entered e 0 high low b) { regs = record (entered e 0 high low b).regs { r = record (entered e 0 high low b).regs.r { r3 = w } } }

  waits_more : {a : ℕ} (w : ℕ) → Waiting (quick keys_code e) a b (now h) → Waiting (quick keys_code e) w (waiting (word_of w)) (now h)
  waits_more w o = waits_in w _ o o.enters.entered.holds refl refl refl refl refl refl

  -- the key that was down is up in a set more
  lets_go : {k : ℕ} (u : Input) → Last h.keys k true → u.held k ≡ false → JustUp (h.keys ++ u.held ∷ []) k
  lets_go {k = k} u last is =
      record {
        time = last.time;
        last = omega (arith, last.last, length_more h.keys (u.held ∷ []));
        down = is_at_more (u.held ∷ []) last.at;
        up = subst (λ z. IsAt (h.keys ++ u.held ∷ []) z k false) (omega (arith, last.last, up.last, length_more h.keys (u.held ∷ []))) up.at;
      }
    where
      up : Last (h.keys ++ u.held ∷ []) k false
      up = last_set h.keys u.held k false is

  pub key_held_holds : (turn looks : ℕ) → Waiting (quick keys_code e) AT_KEY_HELD b (now h) → b.key ≡ b.regs.r.re.lo % 16
      → Last h.keys (b.regs.r.re.lo % 16) true
      → b.regs.r.re.lo % 16 ≡ turn % 16 → At (quick keys_code e) (AtKey (KeyHeld turn looks)) b h → h.spent ≡ 116 + 14 * turn + 2 * looks
      → Held h.moments turn looks → RunsPlace (quick keys_code e) (calm_pieces (quick keys_code e)) (AtKey (KeyHeld turn looks)) b h
  key_held_holds turn looks o key last same at spent holds =
      alone_forks (AtKey (KeyHeld turn looks)) f at o.enters.entered.holds (entered e AT_KEY_HELD high low b) (is_entered o.enters.entered) refl refl waiting
      (λ u. u.held b.key) AT_KEY_HELD AT_KEY_FREED (λ u. refl)
      (λ u k. to_key_place (quick keys_code e) (one_more u h) _ refl (KeyHeld turn (suc looks))
      (waits_more AT_KEY_HELD o, key, last_set h.keys u.held (b.regs.r.re.lo % 16) true (ap u.held (sym key) ∙ k), same)
      (omega (arith, spent), holds_more u h turn looks holds spent (ap u.held (sym (key ∙ same)) ∙ k)))
      (λ u k. to_key (quick keys_code e) (one_more u h) _ refl (KeyFreed turn looks)
      (waits_more AT_KEY_FREED o, lets_go u last (ap u.held (sym key) ∙ k), same) (
        omega (arith, spent),
        holds_grown (one_more u h) holds,
        sees_now u h (116 + 14 * turn + 2 * looks) (turn % 16) false spent (ap u.held (sym (key ∙ same)) ∙ k),
      ))

  -- ---- VX is that key

  abbrev put : ℕ → Places
  put v = record (places b) { ram = written b.latch b.ram (value (word (page_of e) (240 + high % 16))) v }

  pub key_freed_comes : (turn looks : ℕ) → Waiting (quick keys_code e) AT_KEY_FREED b (now h) → JustUp h.keys (b.regs.r.re.lo % 16)
      → b.regs.r.re.lo % 16 ≡ turn % 16 → h.spent ≡ 118 + 14 * turn + 2 * looks → Held h.moments turn looks
      → Sees h.moments (116 + 14 * turn + 2 * looks) (turn % 16) false
      → RunsBlock (quick keys_code e) (calm_pieces (quick keys_code e)) (OfKey (KeyFreed turn looks)) b h
  key_freed_comes turn looks o freed same spent holds up = routine (OfKey (KeyFreed turn looks)) o.enters.entered _ (omega (arith, o.enters.entered.holds.stack, stack_top_is e, page_fits e)) refl
      (λ h' g. steps_with e g (IsWaitKey (high % 16)) is runs (Chosen (b.regs.r.re.lo % 16)) (let_go_grown g (let_go freed (omega arith)))
      tt (λ n t. cc)
      (record {
        turn = turn;
        looks = looks;
        is = same;
        spends = omega (arith, spent, g.spent);
        holds = holds_grown g holds;
        up = sees_grown g up;
      })
      (makes_calm g is refl) _ puts refl refl)
    where
      is : instr_at (now h) ≡ IsWaitKey (high % 16)
      is = rw (o.enters.digit, o.low) refl

      runs : stop_of e (now h) ≡ None
      runs = rw (o.enters.entered.inside, o.enters.digit, o.low) refl

      puts : Holding (quick keys_code e) (put (bit_and b.regs.r.re.lo 15)) (record (next (now h)) { v = slice_set (now h).v (high % 16) (b.regs.r.re.lo % 16) })
      puts =
          subst (λ v. Holding (quick keys_code e) (put (bit_and b.regs.r.re.lo 15)) (record (next (now h)) { v = slice_set (now h).v (high % 16) v }))
          (and_mask b.regs.r.re.lo 4) (v_set o.enters.entered.holds (value (word (page_of e) (240 + high % 16))) (high % 16)
          (bit_and b.regs.r.re.lo 15) (omega (arith, variables_is e)) (omega arith))
