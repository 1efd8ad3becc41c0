-- FX33: the decimal digits of VX.
use Rattle.std.proofs.Common.{◌≡◌, ℕ, suc, ◌+◌, ◌-◌, ◌*◌, ◌/◌, ◌%◌, ◌<◌, ◌≤◌, refl, subst, arith, true, false, [], ◌∷◌}
use Rattle.std.specs.Prelude.{◌==◌, Some, None}
use Rattle.std.proofs.lemmas.Bool.{and_parts, leb-true, eqb-true, eqb-false}
use Rattle.machine.specs.Bank.{Word, word_of, value, up}
use Rattle.machine.specs.Memory.{written}
use Rattle.machine.specs.Board.{Machine}
use Rattle.machine.specs.Ranges.{FitsMachine}
use Rattle.chip8_lang.specs.declared.instr.Instr.TheVariants.{Decimal as IsDecimal}
use Rattle.chip8_lang.specs.declared.view.Edition.{Edition}
use Rattle.chip8_lang.specs.declared.view.Stop.TheVariants.{WriteOutside}
use Rattle.chip8_lang.specs.Editions.{memory_start, memory_end}
use Rattle.chip8_lang.specs.State.{Lang, instr_at, is_in_memory, is_fetchable}
use Rattle.chip8_lang.specs.Step.{next, stop_of, stored, digits}
use Rattle.chip8_lang.specs.Timed.{outside_cycles}
use Rattle.chip8_image.specs.declared.image.labels.TheConstants.{AT_FETCH, AT_DECIMAL, AT_HUNDREDS, AT_HUNDREDS_END, AT_TENS, AT_TENS_END}
use Rattle.rom_law.proofs.Moves.{reaches_in}
use Rattle.rom_law.specs.Program.{Program, code}
use Rattle.rom_law.specs.Holding.{Places, places, Holding}
use Rattle.rom_law.specs.Rows.{Since, now}
use Rattle.rom_law.proofs.Places.{i_is, memory_set}
use Rattle.rom_law.proofs.Kept.{RunsBlock}
use Rattle.rom_rows.specs.Heads.{to_stop, high_byte, low_byte, Enters}
use Rattle.rom_rows.specs.Checks.{Calls, Checked, Answer, answer_time}
use Rattle.rom_rows.specs.Checks.Caller.{ForDecimal}
use Rattle.rom_rows.specs.Checks.Answer.{InGame, InFont, Nowhere}
use Rattle.rom_rows.specs.MemoryBlocks.{variable_x, Dividing}
use Rattle.rom_rows.specs.MemoryBlocks.MemoryBlock.{Check, Decimal, DecimalFound, Hundreds, HundredsEnd, Tens, TensEnd}
use Rattle.rom_rows.specs.Table.{calm_pieces, calm_top}
use Rattle.rom_rows.specs.Table.Block.{OfMemory}
use Rattle.rom_rows.proofs.Bytes.{memory_end_is, stack_top_is, page_fits}
use Rattle.rom_rows.proofs.Entry.{on_3, is_on_3}
use Rattle.rom_rows.proofs.Times.{outside_font}
use Rattle.rom_rows.proofs.Follows.{to_memory}
use Rattle.rom_rows.proofs.Straight.{routine}
use Rattle.rom_rows.proofs.Ways.{straight, forks}
use Rattle.rom_rows.proofs.Steps.{steps}
use Rattle.rom_parts.specs.memory.Code.{memory_code}
use Rattle.rom_parts.proofs.Rom.{quick}
use Rattle.rom_parts.proofs.memory.Index.{vx_get, vx_fits}
use Rattle.rom_parts.proofs.memory.Digits.{taken, counted}
use Rattle.rom_parts.proofs.memory.Found.{is_resumed, refused}

-- three bytes of game memory are written
pub three_set : {x : Program} {p : Places} {s : Lang} (o : Holding x p s) (k : ℕ) (a b c y z w : ℕ) → a ≡ memory_start + k
    → b ≡ memory_start + (k + 1) → c ≡ memory_start + (k + 1 + 1) → memory_start + (k + 2) < memory_end x.edition
    → Holding x (record p { ram = written p.latch (written p.latch (written p.latch p.ram a y) b z) c w })
    (record s { memory = stored s.memory k (y ∷ z ∷ w ∷ []) })
three_set o k a b c y z w first second third room =
    memory_set (memory_set (memory_set o a k y first (omega (arith, room))) b (k + 1) z second (omega (arith, room))) c (k + 1 + 1) w third
    (omega (arith, room))

module _ (e : Edition) (b : Machine) (h : Since) (f : FitsMachine b) where
  abbrev high : ℕ
  high = high_byte (now h)

  abbrev vx : ℕ
  vx = variable_x (now h)

  abbrev i : ℕ
  i = (now h).i

  decimal_stops : is_fetchable e (now h) ≡ true → Calls ForDecimal (now h) → is_in_memory e i 3 ≡ false → stop_of e (now h) ≡ Some WriteOutside
  decimal_stops inside k outside = rw (inside, k.0, k.1, outside) refl

  decimal_time : is_fetchable e (now h) ≡ true → Calls ForDecimal (now h) → to_stop (quick memory_code e) (now h) ≡ 188 + outside_cycles i
  decimal_time inside k = rw (inside, k.0, k.1) refl

  -- ---- up to the loops

  pub decimal_comes : Enters (quick memory_code e) AT_DECIMAL 15 b (now h) → low_byte (now h) ≡ 0x33 → h.spent ≡ 122
      → RunsBlock (quick memory_code e) (calm_pieces (quick memory_code e)) (OfMemory Decimal) b h
  decimal_comes o kk spent = routine (OfMemory Decimal) o.entered _ (omega arith) refl
      (λ h' g. to_memory (quick memory_code e) g _ refl (Check ForDecimal)
      (record {
        called = record {
          holds = o.entered.holds;
          inside = o.entered.inside;
          calls = (o.digit, kk);
          r4 = refl;
          r6 = refl;
          r7 = refl;
        };
        p = refl;
        rd = refl;
        r3 = refl;
        count = refl;
      }) (omega (arith, spent, g.spent)))

  pub decimal_found_comes : (answer : Answer) → Checked (quick memory_code e) ForDecimal answer b (now h) → h.spent ≡ 140 + answer_time answer i
      → RunsBlock (quick memory_code e) (calm_pieces (quick memory_code e)) (OfMemory (DecimalFound answer)) b h
  decimal_found_comes InGame o spent =
      straight (OfMemory (DecimalFound InGame)) o.called.holds _ (is_resumed o) _ (omega (arith, o.called.holds.stack, stack_top_is e)) refl
      (λ h' g. to_memory (quick memory_code e) g _ refl (Hundreds 0) (
        record {
          called = record {
            holds = o.called.holds;
            inside = o.called.inside;
            calls = o.called.calls;
            r4 = refl;
            r6 = refl;
            r7 = o.called.r7;
          };
          fits = o.is;
          p = refl;
          r3 = refl;
          rc = refl;
          rd = refl;
          re = refl;
          d = omega (arith, vx_get (now h) o.called.holds);
        },
        omega arith,
      ) (omega (arith, spent, g.spent)))
  decimal_found_comes InFont o spent =
      refused (OfMemory (DecimalFound InFont)) WriteOutside o (decimal_stops o.called.inside o.called.calls o.is.0)
      (reaches_in (code (quick memory_code e)) (calm_top e) 3 _ _ (omega arith) refl)
      (omega (arith, spent, decimal_time o.called.inside o.called.calls, outside_font i 3 o.is.1))
  decimal_found_comes Nowhere o spent =
      refused (OfMemory (DecimalFound Nowhere)) WriteOutside o (decimal_stops o.called.inside o.called.calls o.is.0)
      (reaches_in (code (quick memory_code e)) (calm_top e) 3 _ _ (omega arith) refl)
      (omega (arith, spent, decimal_time o.called.inside o.called.calls))

  -- ---- the loops

  module _ {a n m d : ℕ} (o : Dividing (quick memory_code e) a n m d b (now h)) where
    fits : vx < 256
    fits = vx_fits (now h) o.called.holds f.ram

    -- less w
    abbrev lessened : ℕ → ℕ
    lessened w = b.regs.d + 256 - w

    abbrev lowered : ℕ → Word → Word → Word → Machine
    lowered w rd re at =
        record b { regs = record b.regs { d = lessened w % 256; df = lessened w / 256; p = 3; r = record b.regs.r { r3 = at; rd = rd; re = re } } }

    goes_on : (w : ℕ) (rd re : Word) (a' n' m' d' : ℕ) → rd.lo ≡ n' → re.lo ≡ m' → lessened w % 256 ≡ d'
        → Dividing (quick memory_code e) a' n' m' d' (lowered w rd re (word_of a')) (now h)
    goes_on w rd re a' n' m' d' is_rd is_re is_d =
        record {
          called = record {
            holds = o.called.holds;
            inside = o.called.inside;
            calls = o.called.calls;
            r4 = o.called.r4;
            r6 = o.called.r6;
            r7 = o.called.r7;
          };
          fits = o.fits;
          p = refl;
          r3 = refl;
          rc = o.rc;
          rd = is_rd;
          re = is_re;
          d = is_d;
        }

  pub hundreds_comes : (k : ℕ) → Dividing (quick memory_code e) AT_HUNDREDS k 0 (vx - k * 100) b (now h) → k * 100 ≤ vx → h.spent ≡ 190 + 6 * k
      → RunsBlock (quick memory_code e) (calm_pieces (quick memory_code e)) (OfMemory (Hundreds k)) b h
  hundreds_comes k o left spent =
      forks (OfMemory (Hundreds k)) o.called.holds (on_3 AT_HUNDREDS b) (is_on_3 AT_HUNDREDS b o.p o.r3) (lowered o 100 (up b.regs.r.rd) b.regs.r.re)
      (lessened o 100 / 256 == 1) AT_HUNDREDS AT_HUNDREDS_END (omega arith) refl
      (λ t h' g. let more = taken vx 100 k b.regs.d (fits o) (omega arith) (omega arith) left o.d (eqb-true (lessened o 100 / 256) 1 t) in
      to_memory (quick memory_code e) g _ refl (Hundreds (suc k))
      (goes_on o 100 _ _ AT_HUNDREDS (suc k) 0 (vx - suc k * 100) (omega (arith, o.rd, left, fits o)) o.re more.1, more.0)
      (omega (arith, spent, g.spent)))
      (λ t h' g. let all = counted vx 100 k b.regs.d (fits o) (omega arith) (omega arith) left o.d (eqb-false (lessened o 100 / 256) 1 t) in
      to_memory (quick memory_code e) g _ refl HundredsEnd
      (goes_on o 100 _ _ AT_HUNDREDS_END (vx / 100 + 1) 0 (vx % 100 + 156) (omega (arith, o.rd, all.0, fits o)) o.re (omega (arith, all.1)))
      (omega (arith, spent, g.spent, o.rd, all.0, fits o, left)))

  pub hundreds_end_comes : Dividing (quick memory_code e) AT_HUNDREDS_END (vx / 100 + 1) 0 (vx % 100 + 156) b (now h) → h.spent ≡ 196 + 6 * (vx / 100)
      → RunsBlock (quick memory_code e) (calm_pieces (quick memory_code e)) (OfMemory HundredsEnd) b h
  hundreds_end_comes o spent = straight (OfMemory HundredsEnd) o.called.holds (on_3 AT_HUNDREDS_END b) (is_on_3 AT_HUNDREDS_END b o.p o.r3) _ (omega arith) refl
      (λ h' g. to_memory (quick memory_code e) g _ refl (Tens 0) (
        record {
          called = record {
            holds = o.called.holds;
            inside = o.called.inside;
            calls = o.called.calls;
            r4 = o.called.r4;
            r6 = o.called.r6;
            r7 = o.called.r7;
          };
          fits = o.fits;
          p = refl;
          r3 = refl;
          rc = o.rc;
          rd = omega (arith, o.rd, fits o);
          re = o.re;
          d = omega (arith, o.d);
        },
        omega arith,
      ) (omega (arith, spent, g.spent)))

  pub tens_comes : (k : ℕ) → Dividing (quick memory_code e) AT_TENS (vx / 100) k (vx % 100 - k * 10) b (now h) → k * 10 ≤ vx % 100
      → h.spent ≡ 200 + 6 * (vx / 100) + 6 * k
      → RunsBlock (quick memory_code e) (calm_pieces (quick memory_code e)) (OfMemory (Tens k)) b h
  tens_comes k o left spent =
      forks (OfMemory (Tens k)) o.called.holds (on_3 AT_TENS b) (is_on_3 AT_TENS b o.p o.r3) (lowered o 10 b.regs.r.rd (up b.regs.r.re))
      (lessened o 10 / 256 == 1) AT_TENS AT_TENS_END (omega arith) refl
      (λ t h' g. let more = taken (vx % 100) 10 k b.regs.d (omega arith) (omega arith) (omega arith) left o.d (eqb-true (lessened o 10 / 256) 1 t) in
      to_memory (quick memory_code e) g _ refl (Tens (suc k))
      (goes_on o 10 _ _ AT_TENS (vx / 100) (suc k) (vx % 100 - suc k * 10) o.rd (omega (arith, o.re, left)) more.1, more.0)
      (omega (arith, spent, g.spent)))
      (λ t h' g. let all =
      counted (vx % 100) 10 k b.regs.d (omega arith) (omega arith) (omega arith) left o.d (eqb-false (lessened o 10 / 256) 1 t) in
      to_memory (quick memory_code e) g _ refl TensEnd
      (goes_on o 10 _ _ AT_TENS_END (vx / 100) (vx / 10 % 10 + 1) (vx % 10 + 246) o.rd (omega (arith, o.re, all.0)) (omega (arith, all.1)))
      (omega (arith, spent, g.spent, o.re, all.0, left)))

  -- ---- the digits are written

  abbrev ending : Machine
  ending = record b { regs = record b.regs { p = 3; r = record b.regs.r { r3 = word_of AT_TENS_END; r4 = word_of AT_FETCH; rc = b.regs.r.ra } } }

  abbrev tens : ℕ
  tens = (b.regs.r.re.lo + 255) % 256

  abbrev ones : ℕ
  ones = (b.regs.d + 10) % 256

  abbrev written_places : Places
  written_places =
      record (places b) {
        ram = written b.latch
            (written b.latch (written b.latch b.ram (value b.regs.r.ra) b.regs.r.rd.lo) (value (up b.regs.r.ra)) tens)
            (value (up (up b.regs.r.ra))) ones;
      }

  pub tens_end_comes : Dividing (quick memory_code e) AT_TENS_END (vx / 100) (vx / 10 % 10 + 1) (vx % 10 + 246) b (now h)
      → h.spent ≡ 206 + 6 * (vx / 100 + vx / 10 % 10) → RunsBlock (quick memory_code e) (calm_pieces (quick memory_code e)) (OfMemory TensEnd) b h
  tens_end_comes o spent =
      straight (OfMemory TensEnd) o.called.holds ending
      (λ j. record b { regs = record b.regs { p = o.p j; r = record b.regs.r { r3 = o.r3 j; r4 = o.called.r4 j; rc = o.rc j } } }) _
      (omega (arith, i_is o.called.holds, room, memory_end_is e, page_fits e, f.regs.r.ra.hi, f.regs.r.ra.lo)) refl
      (λ h' g. steps e g (IsDecimal (high % 16)) is refl runs (omega (arith, spent)) tt _
      (subst (λ l. Holding (quick memory_code e) written_places (record (next (now h)) { memory = stored (now h).memory (i - memory_start) l }))
      digits_are holds) refl refl)
    where
      is : instr_at (now h) ≡ IsDecimal (high % 16)
      is = rw (o.called.calls.0, o.called.calls.1) refl

      runs : stop_of e (now h) ≡ None
      runs = rw (o.called.inside, o.called.calls.0, o.called.calls.1, o.fits) refl

      room : (memory_start ≤ i) × (i + 3 ≤ memory_end e)
      room = let p = and_parts _ _ o.fits in (leb-true _ _ p.0, leb-true _ _ p.1)

      tens_are : tens ≡ vx / 10 % 10
      tens_are = omega (arith, o.re)

      ones_are : ones ≡ vx % 10
      ones_are = omega (arith, o.d)

      digits_are : b.regs.r.rd.lo ∷ tens ∷ ones ∷ [] ≡ digits vx
      digits_are = λ j. o.rd j ∷ tens_are j ∷ ones_are j ∷ []

      holds : Holding (quick memory_code e) written_places
          (record (next (now h)) { memory = stored (now h).memory (i - memory_start) (b.regs.r.rd.lo ∷ tens ∷ ones ∷ []) })
      holds = three_set o.called.holds (i - memory_start) _ _ _ b.regs.r.rd.lo tens ones
          (omega (arith, i_is o.called.holds, room))
          (omega (arith, i_is o.called.holds, room, memory_end_is e, page_fits e, f.regs.r.ra.hi, f.regs.r.ra.lo))
          (omega (arith, i_is o.called.holds, room, memory_end_is e, page_fits e, f.regs.r.ra.hi, f.regs.r.ra.lo))
          (omega (arith, room))
