-- The addresses of these blocks.
use Rattle.std.proofs.Common.{◌≡◌, ℕ, zero, suc, ◌+◌, ◌*◌, ◌%◌, ◌<◌, refl, arith, List, [], ◌∷◌, slice_index}
use Rattle.machine.specs.Board.{Machine}
use Rattle.chip8_lang.specs.declared.view.Edition.{Edition}
use Rattle.chip8_image.specs.declared.image.labels.TheConstants.{AT_SLOT0}
use Rattle.chip8_image.specs.declared.parts.Part.TheVariants.{Arith as IsArith}
use Rattle.rom_law.specs.Rows.{Since, now}
use Rattle.rom_rows.specs.Heads.{Entered, low_byte}
use Rattle.rom_rows.specs.ArithBlocks.{ArithBlock, no_skip_labels}
use Rattle.rom_rows.specs.ArithBlocks.ArithBlock.{Load, Add, SkipEq, SkipNe, SkipSame, SameTest, SkipDiffer, DifferTest, NoSkip, Skip, Unknown81, Arith, Operation, Flag, Unknown82}
use Rattle.rom_rows.specs.ArithBlocks.ArithBlock.{System, SystemLow, SystemBack, MachineCode, Return, ReturnTake, Empty, JumpTo, Call, CallPut, Full, JumpPlus}
use Rattle.rom_rows.specs.Table.{Head}
use Rattle.rom_rows.specs.Table.Block.{OfArith}
use Rattle.rom_rows.proofs.Addresses.{Follows, blocks_of, covers}
use Rattle.rom_rows.proofs.Digits.{by_digit}
use Rattle.rom_rows.proofs.Entry.{is_entered}
use Rattle.rom_rows.specs.Addresses.{AllInBlocks}
use Rattle.rom_parts.specs.arith.Code.{arith_code}
use Rattle.rom_parts.proofs.Rom.{quick}

module _ (e : Edition) (b : Machine) (h : Since) where
  no_skip_follows : (i : ℕ) → i < 4 → Entered (quick arith_code e) (slice_index no_skip_labels i) b (now h)
      → Follows (quick arith_code e) (OfArith (NoSkip i)) b
  no_skip_follows zero l o = record { same = _; is = is_entered o; follows = refl }
  no_skip_follows (suc zero) l o = record { same = _; is = is_entered o; follows = refl }
  no_skip_follows (suc (suc zero)) l o = record { same = _; is = is_entered o; follows = refl }
  no_skip_follows (suc (suc (suc zero))) l o = record { same = _; is = is_entered o; follows = refl }
  no_skip_follows (suc (suc (suc (suc i)))) l o = absurd (omega (arith, l))

  abbrev SlotFollows : ℕ → Type 0
  SlotFollows n = Entered (quick arith_code e) (AT_SLOT0 + 2 * n) b (now h) → Follows (quick arith_code e) (OfArith (Operation n)) b

  slot_follows : (n : ℕ) → low_byte (now h) % 16 ≡ n → SlotFollows n
  slot_follows n is =
      by_digit SlotFollows (λ o. record { same = _; is = is_entered o; follows = refl }) (λ o. record { same = _; is = is_entered o; follows = refl })
      (λ o. record { same = _; is = is_entered o; follows = refl }) (λ o. record { same = _; is = is_entered o; follows = refl })
      (λ o. record { same = _; is = is_entered o; follows = refl }) (λ o. record { same = _; is = is_entered o; follows = refl })
      (λ o. record { same = _; is = is_entered o; follows = refl }) (λ o. record { same = _; is = is_entered o; follows = refl })
      (λ o. record { same = _; is = is_entered o; follows = refl }) (λ o. record { same = _; is = is_entered o; follows = refl })
      (λ o. record { same = _; is = is_entered o; follows = refl }) (λ o. record { same = _; is = is_entered o; follows = refl })
      (λ o. record { same = _; is = is_entered o; follows = refl }) (λ o. record { same = _; is = is_entered o; follows = refl })
      (λ o. record { same = _; is = is_entered o; follows = refl }) (λ o. record { same = _; is = is_entered o; follows = refl }) n
      (omega (arith, is))

pub block_follows : (e : Edition) (l : ArithBlock) (b : Machine) (h : Since) → Head (quick arith_code e) (OfArith l) b h
    → Follows (quick arith_code e) (OfArith l) b
block_follows e System b h o = record { same = _; is = is_entered o.0.entered; follows = refl }
block_follows e SystemLow b h o = record { same = _; is = is_entered o.0.0; follows = refl }
block_follows e SystemBack b h o = record { same = _; is = is_entered o.0.0; follows = refl }
block_follows e MachineCode b h o = record { same = _; is = is_entered o.0.0; follows = refl }
block_follows e Return b h o = record { same = _; is = is_entered o.0.0; follows = refl }
block_follows e ReturnTake b h o = record { same = _; is = is_entered o.0.0; follows = refl }
block_follows e Empty b h o = record { same = _; is = is_entered o.0.0; follows = refl }
block_follows e JumpTo b h o = record { same = _; is = is_entered o.0.entered; follows = refl }
block_follows e Call b h o = record { same = _; is = is_entered o.0.entered; follows = refl }
block_follows e CallPut b h o = record { same = _; is = is_entered o.0.0.entered; follows = refl }
block_follows e Full b h o = record { same = _; is = is_entered o.0.0; follows = refl }
block_follows e JumpPlus b h o = record { same = _; is = is_entered o.0.entered; follows = refl }
block_follows e Load b h o = record { same = _; is = is_entered o.0.entered; follows = refl }
block_follows e Add b h o = record { same = _; is = is_entered o.0.entered; follows = refl }
block_follows e SkipEq b h o = record { same = _; is = is_entered o.0.entered; follows = refl }
block_follows e SkipNe b h o = record { same = _; is = is_entered o.0.entered; follows = refl }
block_follows e SkipSame b h o = record { same = _; is = is_entered o.0.entered; follows = refl }
block_follows e SameTest b h o = record { same = _; is = is_entered o.0.0.entered; follows = refl }
block_follows e SkipDiffer b h o = record { same = _; is = is_entered o.0.entered; follows = refl }
block_follows e DifferTest b h o = record { same = _; is = is_entered o.0.0.entered; follows = refl }
block_follows e (NoSkip i) b h o = no_skip_follows e b h i o.0.1 o.0.0.entered
block_follows e Skip b h o = record { same = _; is = is_entered o.0.entered; follows = refl }
block_follows e Unknown81 b h o = record { same = _; is = is_entered o.0.0; follows = refl }
block_follows e Arith b h o = record { same = _; is = is_entered o.0.entered; follows = refl }
block_follows e (Operation n) b h o = slot_follows e b h n o.0.1 o.0.0.entered
block_follows e Flag b h o = record { same = _; is = is_entered o.0.entered; follows = refl }
block_follows e Unknown82 b h o = record { same = _; is = is_entered o.0.0; follows = refl }

blocks : List ArithBlock
blocks =
    System ∷ SystemLow ∷ SystemBack ∷ MachineCode ∷ Return ∷ ReturnTake ∷ Empty ∷ JumpTo ∷ Call ∷ CallPut ∷ Full ∷ JumpPlus ∷
    Load ∷ Add ∷ SkipEq ∷ SkipNe ∷ SkipSame ∷ SameTest ∷ SkipDiffer ∷ DifferTest ∷ NoSkip 0 ∷ NoSkip 1 ∷ NoSkip 2 ∷ NoSkip 3 ∷ Skip ∷ Unknown81 ∷
    Arith ∷ Operation 0 ∷ Operation 1 ∷ Operation 2 ∷ Operation 3 ∷ Operation 4 ∷ Operation 5 ∷ Operation 6 ∷ Operation 7 ∷ Operation 8 ∷
    Operation 9 ∷ Operation 10 ∷ Operation 11 ∷ Operation 12 ∷ Operation 13 ∷ Operation 14 ∷ Operation 15 ∷ Flag ∷ Unknown82 ∷
    []

pub covered : AllInBlocks IsArith
unfolding blocks
covered = covers IsArith (blocks_of (λ l. OfArith l) blocks) refl
