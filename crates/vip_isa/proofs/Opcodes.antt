-- What holds of each of the 256 opcodes, by computing it for all of them.
use Rattle.std.proofs.Common.{◌≡◌, ◌<◌, ℕ, get_or, refl, eqb, leb, eqb-true, leb-true}
use Rattle.machine.specs.Opcodes.{kind_of, opcode_number}
use Rattle.vip_isa.specs.Rows.{least_of, greatest_of, decoded, opcode_of, IsValid}
use Rattle.vip_isa.specs.declared.table.TheConstants.{NUMBERS}
use Rattle.vip_isa.proofs.Below.{at-passes_below}

pub opcode_of-decoded : (byte : ℕ) → byte < 256 → opcode_of (decoded byte) ≡ byte
opcode_of-decoded byte h = eqb-true _ _ (at-passes_below (λ b. eqb (opcode_of (decoded b)) b) 256 refl byte h)

pub decoded_is_valid : (byte : ℕ) → byte < 256 → IsValid (decoded byte)
decoded_is_valid byte h =
    record {
      from_least = leb-true _ _ (at-passes_below (λ b. leb (least_of (kind_of b)) (opcode_number b)) 256 refl byte h);
      to_greatest = leb-true _ _ (at-passes_below (λ b. leb (opcode_number b) (greatest_of (kind_of b))) 256 refl byte h);
    }

-- the code's table of numbers holds the number of each opcode
pub numbers-at : (byte : ℕ) → byte < 256 → get_or NUMBERS byte 0 ≡ opcode_number byte
numbers-at byte h = eqb-true _ _ (at-passes_below (λ b. eqb (get_or NUMBERS b 0) (opcode_number b)) 256 refl byte h)
