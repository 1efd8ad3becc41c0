-- What sets I: AMMM, FX1E and FX29.
use Rattle.std.proofs.Common.{◌≡◌, ℕ, ◌+◌, ◌*◌, ◌/◌, ◌%◌, ◌<◌, refl, ap, ◌∙◌, arith, bit_and, slice_index}
use Rattle.std.specs.Prelude.{None}
use Rattle.std.proofs.lemmas.Nat.{and_mask}
use Rattle.machine.specs.Bank.{word, value}
use Rattle.machine.specs.Memory.{read, written}
use Rattle.machine.specs.Board.{Machine}
use Rattle.machine.specs.Ranges.{FitsMachine}
use Rattle.chip8_lang.specs.declared.instr.Instr.TheVariants.{Index as IsIndex, AddIndex as IsAddIndex, Font}
use Rattle.chip8_lang.specs.declared.view.Edition.{Edition}
use Rattle.chip8_lang.specs.Editions.{font_start, stack_top, variables}
use Rattle.chip8_lang.specs.State.{Lang, instr_at}
use Rattle.chip8_lang.specs.Step.{next, stop_of}
use Rattle.chip8_image.specs.declared.image.labels.TheConstants.{AT_INDEX, AT_ADD_INDEX, AT_DIGIT}
use Rattle.rom_law.specs.Holding.{Places, Holding}
use Rattle.rom_law.specs.Rows.{Since, now}
use Rattle.rom_law.proofs.Places.{v_get, v_byte, i_is, i_set, work_set, work_get}
use Rattle.rom_law.proofs.Kept.{RunsBlock}
use Rattle.rom_rows.specs.Heads.{high_byte, low_byte, page_of, Enters}
use Rattle.rom_rows.specs.MemoryBlocks.{variable_x}
use Rattle.rom_rows.specs.MemoryBlocks.MemoryBlock.{Index, AddIndex, Digit}
use Rattle.rom_rows.specs.Table.{calm_pieces}
use Rattle.rom_rows.specs.Table.Block.{OfMemory}
use Rattle.rom_rows.proofs.Bytes.{variables_is, stack_top_is}
use Rattle.rom_rows.proofs.Straight.{routine}
use Rattle.rom_rows.proofs.Steps.{steps}
use Rattle.rom_parts.specs.memory.Code.{memory_code}
use Rattle.rom_parts.proofs.Rom.{both, quick}

-- ---- VX, where R6 points to it

module _ {e : Edition} {p : Places} (s : Lang) (o : Holding (quick memory_code e) p (next s)) where
  pub vx_get : read (both memory_code e) p.latch p.ram (value (word (page_of e) (240 + high_byte s % 16))) ≡ variable_x s
  vx_get = v_get o (value (word (page_of e) (240 + high_byte s % 16))) (high_byte s % 16) (omega (arith, variables_is e)) (omega arith)

  pub vx_fits : ((a : ℕ) → slice_index p.ram a < 256) → variable_x s < 256
  vx_fits bytes = v_byte o bytes (high_byte s % 16) (omega arith)

module _ (e : Edition) (b : Machine) (h : Since) (f : FitsMachine b) where
  abbrev high : ℕ
  high = high_byte (now h)

  abbrev low : ℕ
  low = low_byte (now h)

  -- ---- AMMM

  pub index_comes : Enters (quick memory_code e) AT_INDEX 10 b (now h) → h.spent ≡ 80
      → RunsBlock (quick memory_code e) (calm_pieces (quick memory_code e)) (OfMemory Index) b h
  index_comes o spent =
      routine (OfMemory Index) o.entered _ (omega arith) refl
      (λ h' g. steps e g (IsIndex (high % 16 * 256 + low)) is refl runs (omega (arith, spent)) tt _
      (i_set o.entered.holds (word (bit_and high 15) low) (high % 16 * 256 + low) target) refl refl)
    where
      is : instr_at (now h) ≡ IsIndex (high % 16 * 256 + low)
      is = rw o.digit refl

      runs : stop_of e (now h) ≡ None
      runs = rw (o.entered.inside, o.digit) refl

      target : value (word (bit_and high 15) low) ≡ high % 16 * 256 + low
      target = ap (λ d. d * 256 + low) (and_mask high 4)

  -- ---- FX1E

  -- VX as it is read
  abbrev byte : ℕ
  byte = read (both memory_code e) b.latch b.ram (value (word (page_of e) (240 + high % 16)))

  pub add_index_comes : Enters (quick memory_code e) AT_ADD_INDEX 15 b (now h) → low ≡ 0x1e → h.spent ≡ 110
      → RunsBlock (quick memory_code e) (calm_pieces (quick memory_code e)) (OfMemory AddIndex) b h
  add_index_comes o kk spent =
      routine (OfMemory AddIndex) o.entered _ (omega (arith, o.entered.holds.stack, stack_top_is e)) refl
      (λ h' g. steps e g (IsAddIndex (high % 16)) is refl runs (omega (arith, spent)) tt _ (i_set o.entered.holds _ _ sum) refl refl)
    where
      is : instr_at (now h) ≡ IsAddIndex (high % 16)
      is = rw (o.digit, kk) refl

      runs : stop_of e (now h) ≡ None
      runs = rw (o.entered.inside, o.digit, kk) refl

      sum : value (word ((0 + b.regs.r.ra.hi + (byte + b.regs.r.ra.lo) / 256) % 256) ((byte + b.regs.r.ra.lo) % 256)) ≡ ((now h).i + variable_x (now h)) % 65536
      sum = omega (arith, vx_get (now h) o.entered.holds, vx_fits (now h) o.entered.holds f.ram, i_is o.entered.holds, f.regs.r.ra.hi, f.regs.r.ra.lo)

  -- ---- FX29

  abbrev digit : ℕ
  digit = bit_and byte 15

  abbrev work : ℕ
  work = value (word (page_of e) 0xd0)

  pub digit_comes : Enters (quick memory_code e) AT_DIGIT 15 b (now h) → low ≡ 0x29 → h.spent ≡ 116
      → RunsBlock (quick memory_code e) (calm_pieces (quick memory_code e)) (OfMemory Digit) b h
  digit_comes o kk spent =
      routine (OfMemory Digit) o.entered _ (omega (arith, o.entered.holds.stack, stack_top_is e)) refl
      (λ h' g. steps e g (Font (high % 16)) is refl runs (omega (arith, spent)) tt _
      (i_set (work_set o.entered.holds work digit above below) _ _ sum) refl refl)
    where
      is : instr_at (now h) ≡ Font (high % 16)
      is = rw (o.digit, kk) refl

      runs : stop_of e (now h) ≡ None
      runs = rw (o.entered.inside, o.digit, kk) refl

      above : stack_top e < work
      above = omega (arith, stack_top_is e)

      below : work < variables e
      below = omega (arith, variables_is e)

      digit_is : digit ≡ variable_x (now h) % 16
      digit_is = and_mask byte 4 ∙ ap (λ z. z % 16) (vx_get (now h) o.entered.holds)

      sum : value (word 0x87 ((read (both memory_code e) b.latch (written b.latch b.ram work digit) work + digit * 2 % 256 * 2 % 256) % 256)) ≡ font_start + 5
          * (variable_x (now h) % 16)
      sum = omega (arith, digit_is, work_get o.entered.holds work digit below)
