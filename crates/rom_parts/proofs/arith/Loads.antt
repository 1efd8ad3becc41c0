-- 6XKK and 7XKK.
use Rattle.std.proofs.Common.{◌≡◌, ℕ, ◌+◌, ◌*◌, ◌%◌, refl, ap, arith}
use Rattle.machine.specs.Memory.{read}
use Rattle.machine.specs.Board.{Machine}
use Rattle.machine.specs.Ranges.{FitsMachine}
use Rattle.chip8_lang.specs.declared.instr.Instr.TheVariants.{Load as IsLoad, Add as IsAdd}
use Rattle.chip8_lang.specs.declared.view.Edition.{Edition}
use Rattle.chip8_lang.specs.State.{variable}
use Rattle.chip8_image.specs.declared.image.labels.TheConstants.{AT_LOAD, AT_ADD}
use Rattle.rom_law.specs.Rows.{Since, now}
use Rattle.rom_law.proofs.Places.{v_get, v_set}
use Rattle.rom_law.proofs.Kept.{RunsBlock}
use Rattle.rom_rows.specs.Heads.{high_byte, low_byte, page_of, Enters}
use Rattle.rom_rows.specs.ArithBlocks.ArithBlock.{Load, Add}
use Rattle.rom_rows.specs.Table.{calm_pieces}
use Rattle.rom_rows.specs.Table.Block.{OfArith}
use Rattle.rom_rows.proofs.Bytes.{stack_top_is, variables_is}
use Rattle.rom_rows.proofs.Straight.{routine}
use Rattle.rom_rows.proofs.Steps.{steps}
use Rattle.rom_parts.specs.arith.Code.{arith_code}
use Rattle.rom_parts.proofs.Rom.{both, quick}

module _ (e : Edition) (b : Machine) (h : Since) (f : FitsMachine b) where
  abbrev high : ℕ
  high = high_byte (now h)

  abbrev low : ℕ
  low = low_byte (now h)

  pub load_comes : Enters (quick arith_code e) AT_LOAD 6 b (now h) → h.spent ≡ 80
      → RunsBlock (quick arith_code e) (calm_pieces (quick arith_code e)) (OfArith Load) b h
  load_comes o spent =
      routine (OfArith Load) o.entered _ (omega arith) refl
      (λ h' g. steps e g (IsLoad (high % 16) low) (rw o.digit refl) refl (rw (o.entered.inside, o.digit) refl) (omega (arith, spent)) tt _
      (v_set o.entered.holds _ (high % 16) low (omega (arith, variables_is e)) (omega arith)) refl refl)

  pub add_comes : Enters (quick arith_code e) AT_ADD 7 b (now h) → h.spent ≡ 80
      → RunsBlock (quick arith_code e) (calm_pieces (quick arith_code e)) (OfArith Add) b h
  add_comes o spent =
      routine (OfArith Add) o.entered _ (omega (arith, o.entered.holds.stack, stack_top_is e)) refl
      (λ h' g. steps e g (IsAdd (high % 16) low) (rw o.digit refl) refl (rw (o.entered.inside, o.digit) refl) (omega (arith, spent)) tt _
      (rw sum (v_set o.entered.holds _ (high % 16) _ (omega (arith, variables_is e)) (omega arith))) refl refl)
    where
      sum : read (both arith_code e) b.latch b.ram (page_of e * 256 + (240 + high % 16)) + low ≡ variable (now h) (high % 16) + low
      sum = ap (λ v. v + low) (v_get o.entered.holds (page_of e * 256 + (240 + high % 16)) (high % 16) (omega (arith, variables_is e)) (omega arith))
