-- FX55 and FX65: V0 to VX are stored from I on, or fetched from there.
use Rattle.std.proofs.Common.{◌≡◌, ℕ, suc, ◌+◌, ◌-◌, ◌*◌, ◌/◌, ◌%◌, ◌<◌, ◌≤◌, refl, ◌∙◌, ap, ap₂, subst, arith, true, false, bit_and, take, drop, ◌++◌, slice_index, slice_set, List}
use Rattle.std.specs.Prelude.{◌==◌, not, Some, None}
use Rattle.std.proofs.lemmas.Nat.{and_mask}
use Rattle.machine.specs.Bank.{Word, word, word_of, value, up}
use Rattle.machine.specs.Memory.{read, written}
use Rattle.machine.specs.Board.{Machine}
use Rattle.machine.specs.Keys.{Keys}
use Rattle.machine.specs.Ranges.{FitsMachine}
use Rattle.chip8_lang.specs.declared.instr.Instr.TheVariants.{Store as IsStore, Fetch as IsFetch}
use Rattle.chip8_lang.specs.declared.view.Edition.{Edition}
use Rattle.chip8_lang.specs.declared.view.Stop.TheVariants.{ReadOutside, WriteOutside}
use Rattle.chip8_lang.specs.Editions.{memory_start, memory_end}
use Rattle.chip8_lang.specs.State.{instr_at, is_in_memory, is_in_font, is_fetchable}
use Rattle.chip8_lang.specs.Step.{next, stop_of, stored, bytes_from, is_readable}
use Rattle.chip8_lang.specs.Timed.{outside_cycles, check_cycles}
use Rattle.chip8_image.specs.declared.image.labels.TheConstants.{AT_FETCH, AT_STORE, AT_STORE_BYTE, AT_STORE_END, AT_RESTORE, AT_RESTORE_BYTE, AT_RESTORE_END}
use Rattle.rom_law.proofs.Moves.{quicks, reaches_in}
use Rattle.rom_law.specs.Program.{code}
use Rattle.rom_law.specs.Holding.{places, Holding}
use Rattle.rom_law.specs.Rows.{Since, now}
use Rattle.rom_law.proofs.Places.{i_is, i_set, v_get, v_set, memory_set}
use Rattle.rom_law.proofs.Kept.{RunsBlock}
use Rattle.rom_rows.specs.Heads.{to_stop, high_byte, low_byte, page_of, Enters}
use Rattle.rom_rows.specs.Checks.{answer_time, Calls, Checked, Answer}
use Rattle.rom_rows.specs.Checks.Caller.{ForStore, ForRestore}
use Rattle.rom_rows.specs.Checks.Answer.{InGame, InFont, Nowhere}
use Rattle.rom_rows.specs.MemoryBlocks.{memory_data, last_of, Copying, Turn, stored_to, fetched_to}
use Rattle.rom_rows.specs.MemoryBlocks.MemoryBlock.{Check, Store, StoreFound, StoreByte, StoreEnd, Restore, RestoreFound, RestoreByte, RestoreEnd}
use Rattle.rom_rows.specs.Table.{calm_pieces, calm_top}
use Rattle.rom_rows.specs.Table.Block.{OfMemory}
use Rattle.rom_rows.proofs.Bits.{nonzero, is_zero}
use Rattle.rom_rows.proofs.Bytes.{memory_end_is, variables_is, stack_top_is, page_fits}
use Rattle.rom_rows.proofs.Times.{outside_font}
use Rattle.rom_rows.proofs.Follows.{to_memory}
use Rattle.rom_rows.proofs.Font.{HasFont, Readable, readable_get}
use Rattle.rom_rows.proofs.Straight.{routine}
use Rattle.rom_rows.proofs.Ways.{straight, forks}
use Rattle.rom_rows.proofs.Steps.{steps}
use Rattle.rom_parts.specs.memory.Code.{memory_code}
use Rattle.rom_parts.proofs.Rom.{both, quick}
use Rattle.rom_parts.proofs.memory.Found.{is_resumed, refused}
use Rattle.rom_parts.proofs.memory.Lists.{stored_next, fetched_next, fetched_length, v_length, memory_bounds, readable_at}

has_font : (e : Edition) → HasFont (both memory_code e)
has_font e = refl

-- adding none
none_more : (n : ℕ) → n ≡ n + 0
none_more n = omega arith

module _ (e : Edition) (b : Machine) (h : Since) (f : FitsMachine b) where
  abbrev high : ℕ
  high = high_byte (now h)

  abbrev last : ℕ
  last = last_of (now h)

  abbrev i : ℕ
  i = (now h).i

  -- ---- up to the range check

  count_is : (bit_and high 15 + 1) % 256 ≡ last + 1
  count_is = rw (and_mask high 4) (omega arith)

  pub store_comes : Enters (quick memory_code e) AT_STORE 15 b (now h) → low_byte (now h) ≡ 0x55 → h.spent ≡ 128
      → RunsBlock (quick memory_code e) (calm_pieces (quick memory_code e)) (OfMemory Store) b h
  store_comes o kk spent = routine (OfMemory Store) o.entered _ (omega arith) refl
      (λ h' g. to_memory (quick memory_code e) g _ refl (Check ForStore)
      (record {
        called = record {
          holds = o.entered.holds;
          inside = o.entered.inside;
          calls = (o.digit, kk);
          r4 = refl;
          r6 = refl;
          r7 = refl;
        };
        p = refl;
        rd = refl;
        r3 = refl;
        count = count_is;
      }) (omega (arith, spent, g.spent)))

  pub restore_comes : Enters (quick memory_code e) AT_RESTORE 15 b (now h) → low_byte (now h) ≡ 0x65 → h.spent ≡ 134
      → RunsBlock (quick memory_code e) (calm_pieces (quick memory_code e)) (OfMemory Restore) b h
  restore_comes o kk spent = routine (OfMemory Restore) o.entered _ (omega arith) refl
      (λ h' g. to_memory (quick memory_code e) g _ refl (Check ForRestore)
      (record {
        called = record {
          holds = o.entered.holds;
          inside = o.entered.inside;
          calls = (o.digit, kk);
          r4 = refl;
          r6 = refl;
          r7 = refl;
        };
        p = refl;
        rd = refl;
        r3 = refl;
        count = count_is;
      }) (omega (arith, spent, g.spent)))

  -- ---- behind it

  store_stops : is_fetchable e (now h) ≡ true → Calls ForStore (now h) → is_in_memory e i (last + 1) ≡ false → stop_of e (now h) ≡ Some WriteOutside
  store_stops inside k outside = rw (inside, k.0, k.1, outside) refl

  store_time : is_fetchable e (now h) ≡ true → Calls ForStore (now h) → to_stop (quick memory_code e) (now h) ≡ 198 + outside_cycles i
  store_time inside k = rw (inside, k.0, k.1) refl

  pub store_found_comes : (answer : Answer) → Checked (quick memory_code e) ForStore answer b (now h) → h.spent ≡ 150 + answer_time answer i
      → RunsBlock (quick memory_code e) (calm_pieces (quick memory_code e)) (OfMemory (StoreFound answer)) b h
  store_found_comes InGame o spent = straight (OfMemory (StoreFound InGame)) o.called.holds _ (is_resumed o) _ (omega arith) refl
      (λ h' g. to_memory (quick memory_code e) g _ refl (StoreByte 0) (
        record {
          holds = subst (λ z. Holding (quick memory_code e) (places b) (record (next (now h)) { i = z })) (none_more i) o.called.holds;
          inside = o.called.inside;
          calls = o.called.calls;
          p = refl;
          r3 = refl;
          r4 = refl;
        },
        record {
          left = omega arith;
          rd = refl;
          re = omega (arith, o.count);
        },
        o.is,
      ) (omega (arith, spent, g.spent)))
  store_found_comes InFont o spent =
      refused (OfMemory (StoreFound InFont)) WriteOutside o (store_stops o.called.inside o.called.calls o.is.0)
      (reaches_in (code (quick memory_code e)) (calm_top e) 3 _ _ (omega arith) refl)
      (omega (arith, spent, store_time o.called.inside o.called.calls, outside_font i (last + 1) o.is.1))
  store_found_comes Nowhere o spent =
      refused (OfMemory (StoreFound Nowhere)) WriteOutside o (store_stops o.called.inside o.called.calls o.is.0)
      (reaches_in (code (quick memory_code e)) (calm_top e) 3 _ _ (omega arith) refl) (omega (arith, spent, store_time o.called.inside o.called.calls))

  restore_stops : is_fetchable e (now h) ≡ true → Calls ForRestore (now h) → is_in_memory e i (last + 1) ≡ false → is_in_font i (last + 1) ≡ false
      → stop_of e (now h) ≡ Some ReadOutside
  restore_stops inside k game font = rw (inside, k.0, k.1, game, font) refl

  -- at the first byte
  abbrev begun : Machine
  begun =
      record b {
        regs = record b.regs {
          d = 0xf0;
          p = 3;
          r = record b.regs.r {
            r3 = word_of AT_RESTORE_BYTE;
            r4 = word_of AT_FETCH;
            r6 = word (page_of e) (240 + high % 16);
            rd = word (page_of e) 0xf0;
          };
        };
      }

  begins : {answer : Answer} → Checked (quick memory_code e) ForRestore answer b (now h) → is_readable e i (last + 1) ≡ true
      → (sets : List Keys) → (memory_data (RestoreByte 0)).at (quick memory_code e) begun (now h) sets
  begins o readable sets = (
    record {
      holds = subst (λ z. Holding (quick memory_code e) (places b) (record (next (now h)) { i = z })) (none_more i) o.called.holds;
      inside = o.called.inside;
      calls = o.called.calls;
      p = refl;
      r3 = refl;
      r4 = refl;
    },
    record {
      left = omega arith;
      rd = refl;
      re = omega (arith, o.count);
    },
    readable,
  )

  restore_time : is_fetchable e (now h) ≡ true → Calls ForRestore (now h) → to_stop (quick memory_code e) (now h) ≡ 206 + outside_cycles i
  restore_time inside k = rw (inside, k.0, k.1) refl

  check_none : is_in_memory e i (last + 1) ≡ true → check_cycles e (now h) (last + 1) ≡ 0
  check_none fits = rw fits refl

  check_some : is_in_memory e i (last + 1) ≡ false → check_cycles e (now h) (last + 1) ≡ 14
  check_some outside = rw outside refl

  pub restore_found_comes : (answer : Answer) → Checked (quick memory_code e) ForRestore answer b (now h) → h.spent ≡ 156 + answer_time answer i
      → RunsBlock (quick memory_code e) (calm_pieces (quick memory_code e)) (OfMemory (RestoreFound answer)) b h
  restore_found_comes InGame o spent =
      straight (OfMemory (RestoreFound InGame)) o.called.holds _ (is_resumed o) begun (omega arith) refl
      (λ h' g. to_memory (quick memory_code e) g begun refl (RestoreByte 0) (begins o (rw o.is refl) h'.keys) (omega (arith, spent, g.spent, check_none o.is)))
  restore_found_comes InFont o spent =
      straight (OfMemory (RestoreFound InFont)) o.called.holds _ (is_resumed o) begun (omega arith) refl
      (λ h' g. to_memory (quick memory_code e) g begun refl (RestoreByte 0) (begins o (rw (o.is.0, o.is.1) refl) h'.keys)
      (omega (arith, spent, g.spent, check_some o.is.0)))
  restore_found_comes Nowhere o spent =
      refused (OfMemory (RestoreFound Nowhere)) ReadOutside o (restore_stops o.called.inside o.called.calls o.is.0 o.is.1)
      (reaches_in (code (quick memory_code e)) (calm_top e) 4 _ _ (omega arith) refl) (omega (arith, spent, restore_time o.called.inside o.called.calls))

  -- ---- a turn

  abbrev turning : ℕ → ℕ → Machine
  turning a k = record b { regs = record b.regs { p = 3; r = record b.regs.r { r3 = word_of a; r4 = word_of AT_FETCH; rd = word (page_of e) (0xf0 + k) } } }

  -- R3 is changed
  abbrev on_at : Machine → Word → Machine
  on_at c w = record c { regs = record c.regs { r = record c.regs.r { r3 = w } } }

  module _ {k : ℕ} (t : Turn (quick memory_code e) k b (now h)) where
    -- what is left after it
    abbrev rest : ℕ
    rest = (b.regs.r.re.lo + 255) % 256

    some_left : not (rest == 0) ≡ true → k < last
    some_left n = omega (arith, nonzero rest n, t.left, t.re)

    none_left : not (rest == 0) ≡ false → k ≡ last
    none_left n = omega (arith, is_zero rest n, t.left, t.re)

    done : not (rest == 0) ≡ false → suc k ≡ last + 1
    done n = omega (arith, none_left n)

    rest_is : rest ≡ last + 1 - suc k
    rest_is = omega (arith, t.left, t.re)

    turns : (c : Machine) → k < last → c.regs.r.rd ≡ up (word (page_of e) (0xf0 + k)) → c.regs.r.re.lo ≡ rest → Turn (quick memory_code e) (suc k) c (now h)
    turns c more rd re = record { left = omega (arith, more); rd = rd ∙ ap₂ word page place; re = re ∙ rest_is }
      where
        page : (page_of e + (240 + k + 1) / 256) % 256 ≡ page_of e
        page = omega (arith, more, page_fits e)

        place : (240 + k + 1) % 256 ≡ 240 + suc k
        place = omega (arith, more)

  -- at the end
  abbrev ending : ℕ → Machine
  ending a = record b { regs = record b.regs { p = 3; r = record b.regs.r { r3 = word_of a; r4 = word_of AT_FETCH } } }

  past : i + (last + 1) ≡ i + last + 1
  past = omega arith

  -- ---- FX55

  abbrev vk : ℕ → ℕ
  vk k = read (both memory_code e) b.latch b.ram (value (word (page_of e) (0xf0 + k)))

  module _ {k a : ℕ} (o : Copying (quick memory_code e) ForStore a (stored_to k (now h)) b (now h)) (fits : is_in_memory e i (last + 1) ≡ true)
      (left : k ≤ last) where
    place : value b.regs.r.ra ≡ i + k
    place = i_is o.holds

    small : k < 16
    small = omega (arith, left)

    room : (memory_start ≤ i) × (i + (last + 1) ≤ memory_end e)
    room = memory_bounds e i (last + 1) fits

    store_holds : Holding (quick memory_code e) (record (places b) { ram = written b.latch b.ram (value b.regs.r.ra) (vk k); ra = up b.regs.r.ra })
        (stored_to (suc k) (now h))
    store_holds =
        subst (λ m. Holding (quick memory_code e) (record (places b) { ram = written b.latch b.ram (value b.regs.r.ra) (vk k); ra = up b.regs.r.ra })
        (record (next (now h)) { memory = m; i = i + suc k })) more
        (i_set (memory_set o.holds (value b.regs.r.ra) (i - memory_start + k) (vk k) (omega (arith, place, room)) (omega (arith, room, left)))
        (up b.regs.r.ra) (i + suc k) (omega (arith, place, room, left, memory_end_is e, page_fits e, f.regs.r.ra.hi, f.regs.r.ra.lo)))
      where
        byte : vk k ≡ slice_index (now h).v k
        byte = v_get o.holds (value (word (page_of e) (0xf0 + k))) k (omega (arith, variables_is e)) small

        more : slice_set (stored (now h).memory (i - memory_start) (take k (now h).v)) (i - memory_start + k) (vk k)
            ≡ stored (now h).memory (i - memory_start) (take (suc k) (now h).v)
        more =
            ap (slice_set (stored (now h).memory (i - memory_start) (take k (now h).v)) (i - memory_start + k)) byte
            ∙ stored_next (now h).memory (i - memory_start) (now h).v k (omega (arith, small, v_length o.holds))

  pub store_byte_comes : (k : ℕ) → Copying (quick memory_code e) ForStore AT_STORE_BYTE (stored_to k (now h)) b (now h) → Turn (quick memory_code e) k b (now h)
      → is_in_memory e i (last + 1) ≡ true → h.spent ≡ 192 + 12 * k
      → RunsBlock (quick memory_code e) (calm_pieces (quick memory_code e)) (OfMemory (StoreByte k)) b h
  store_byte_comes k o t fits spent =
      forks (OfMemory (StoreByte k)) o.holds (turning AT_STORE_BYTE k)
      (λ j. record b { regs = record b.regs { p = o.p j; r = record b.regs.r { r3 = o.r3 j; r4 = o.r4 j; rd = t.rd j } } })
      (on_at (quicks (code (quick memory_code e)) 6 (turning AT_STORE_BYTE k))) (not (rest t == 0)) AT_STORE_BYTE AT_STORE_END
      (omega (arith, o.holds.stack, stack_top_is e, place o fits t.left, room o fits t.left, t.left, memory_end_is e)) refl
      (λ n h' g. to_memory (quick memory_code e) g _ refl (StoreByte (suc k)) (
        record {
          holds = store_holds o fits t.left;
          inside = o.inside;
          calls = o.calls;
          p = refl;
          r3 = refl;
          r4 = refl;
        },
        turns t _ (some_left t n) refl refl,
        fits,
      ) (omega (arith, spent, g.spent)))
      (λ n h' g. to_memory (quick memory_code e) g _ refl StoreEnd (
        record {
          holds = subst (λ m. Holding (quick memory_code e)
              (places (on_at (quicks (code (quick memory_code e)) 6 (turning AT_STORE_BYTE k)) (word_of AT_STORE_END))) (stored_to m (now h)))
              (done t n) (store_holds o fits t.left);
          inside = o.inside;
          calls = o.calls;
          p = refl;
          r3 = refl;
          r4 = refl;
        },
        fits,
      )
      (omega (arith, spent, g.spent, none_left t n)))

  pub store_end_comes : Copying (quick memory_code e) ForStore AT_STORE_END (stored_to (last + 1) (now h)) b (now h) → is_in_memory e i (last + 1) ≡ true
      → h.spent ≡ 204 + 12 * last
      → RunsBlock (quick memory_code e) (calm_pieces (quick memory_code e)) (OfMemory StoreEnd) b h
  store_end_comes o fits spent =
      straight (OfMemory StoreEnd) o.holds (ending AT_STORE_END)
      (λ j. record b { regs = record b.regs { p = o.p j; r = record b.regs.r { r3 = o.r3 j; r4 = o.r4 j } } }) _ (omega arith) refl
      (λ h' g. steps e g (IsStore last) is refl runs (omega (arith, spent)) tt _
      (subst (λ n. Holding (quick memory_code e) (places b) (record (stored_to (last + 1) (now h)) { i = n })) past o.holds) refl refl)
    where
      is : instr_at (now h) ≡ IsStore last
      is = rw (o.calls.0, o.calls.1) refl

      runs : stop_of e (now h) ≡ None
      runs = rw (o.inside, o.calls.0, o.calls.1, fits) refl

  -- ---- FX65

  module _ {k a : ℕ} (o : Copying (quick memory_code e) ForRestore a (fetched_to k (now h)) b (now h)) (fits : is_readable e i (last + 1) ≡ true)
      (left : k ≤ last) where
    source : value b.regs.r.ra ≡ i + k
    source = i_is o.holds

    readable : Readable e (i + k)
    readable = readable_at e i (last + 1) k (omega (arith, left)) fits

    abbrev byte : ℕ
    byte = read (both memory_code e) b.latch b.ram (value b.regs.r.ra)

    restore_holds : Holding (quick memory_code e)
        (record (places b) { ram = written b.latch b.ram (value (word (page_of e) (0xf0 + k))) byte; ra = up b.regs.r.ra })
        (fetched_to (suc k) (now h))
    restore_holds =
        subst (λ v. Holding (quick memory_code e) (record
        (places b) { ram = written b.latch b.ram (value (word (page_of e) (0xf0 + k))) byte; ra = up b.regs.r.ra })
        (record (next (now h)) { v = v; i = i + suc k })) more
        (i_set (v_set o.holds (value (word (page_of e) (0xf0 + k))) k byte (omega (arith, variables_is e)) (omega (arith, left))) (up b.regs.r.ra)
        (i + suc k) (omega (arith, source, readable, memory_end_is e, page_fits e, f.regs.r.ra.hi, f.regs.r.ra.lo)))
      where
        more : slice_set (bytes_from (now h) i k ++ drop k (now h).v) k byte ≡ bytes_from (now h) i (suc k) ++ drop (suc k) (now h).v
        more =
            ap (slice_set (bytes_from (now h) i k ++ drop k (now h).v) k)
            (ap (read (both memory_code e) b.latch b.ram) source ∙ readable_get (has_font e) o.holds (i + k) readable)
            ∙ fetched_next (now h) i (now h).v k (omega (arith, left, fetched_length (now h) i k (now h).v, v_length o.holds))

  pub restore_byte_comes : (k : ℕ) → Copying (quick memory_code e) ForRestore AT_RESTORE_BYTE (fetched_to k (now h)) b (now h)
      → Turn (quick memory_code e) k b (now h)
      → is_readable e i (last + 1) ≡ true → h.spent ≡ 200 + check_cycles e (now h) (last + 1) + 12 * k
      → RunsBlock (quick memory_code e) (calm_pieces (quick memory_code e)) (OfMemory (RestoreByte k)) b h
  restore_byte_comes k o t fits spent =
      forks (OfMemory (RestoreByte k)) o.holds (turning AT_RESTORE_BYTE k)
      (λ j. record b { regs = record b.regs { p = o.p j; r = record b.regs.r { r3 = o.r3 j; r4 = o.r4 j; rd = t.rd j } } })
      (on_at (quicks (code (quick memory_code e)) 6 (turning AT_RESTORE_BYTE k))) (not (rest t == 0)) AT_RESTORE_BYTE AT_RESTORE_END
      (omega (arith, o.holds.stack, stack_top_is e, memory_end_is e, page_fits e, source o fits t.left, readable o fits t.left)) refl
      (λ n h' g. to_memory (quick memory_code e) g _ refl (RestoreByte (suc k)) (
        record {
          holds = restore_holds o fits t.left;
          inside = o.inside;
          calls = o.calls;
          p = refl;
          r3 = refl;
          r4 = refl;
        },
        turns t _ (some_left t n) refl refl,
        fits,
      ) (omega (arith, spent, g.spent)))
      (λ n h' g. to_memory (quick memory_code e) g _ refl RestoreEnd (
        record {
          holds = subst (λ m. Holding (quick memory_code e)
              (places (on_at (quicks (code (quick memory_code e)) 6 (turning AT_RESTORE_BYTE k)) (word_of AT_RESTORE_END))) (fetched_to m (now h)))
              (done t n) (restore_holds o fits t.left);
          inside = o.inside;
          calls = o.calls;
          p = refl;
          r3 = refl;
          r4 = refl;
        },
        fits,
      )
      (omega (arith, spent, g.spent, none_left t n)))

  pub restore_end_comes : Copying (quick memory_code e) ForRestore AT_RESTORE_END (fetched_to (last + 1) (now h)) b (now h) → is_readable e i (last + 1) ≡ true
      → h.spent ≡ 212 + check_cycles e (now h) (last + 1) + 12 * last
      → RunsBlock (quick memory_code e) (calm_pieces (quick memory_code e)) (OfMemory RestoreEnd) b h
  restore_end_comes o fits spent =
      straight (OfMemory RestoreEnd) o.holds (ending AT_RESTORE_END)
      (λ j. record b { regs = record b.regs { p = o.p j; r = record b.regs.r { r3 = o.r3 j; r4 = o.r4 j } } }) _ (omega arith) refl
      (λ h' g. steps e g (IsFetch last) is refl runs (omega (arith, spent)) tt _
      (subst (λ n. Holding (quick memory_code e) (places b) (record (fetched_to (last + 1) (now h)) { i = n })) past o.holds) refl refl)
    where
      is : instr_at (now h) ≡ IsFetch last
      is = rw (o.calls.0, o.calls.1) refl

      runs : stop_of e (now h) ≡ None
      runs = rw (o.inside, o.calls.0, o.calls.1, fits) refl
