-- Registers that count, and bytes of RAM below 1000.
use Rattle.std.proofs.Common.{◌≡◌, ℕ, ◌+◌, ◌<◌, ap, ap₂, ◌∙◌, arith, false, List, slice_index, slice_set}
use Rattle.machine.specs.Bank.{word, word_of, value, up, down}
use Rattle.machine.specs.Memory.{read, written}
use Rattle.rom_law.proofs.Moves.{read_ram, written_is}

pub up_is : (a b : ℕ) → a + 1 ≡ b → b < 0x10000 → up (word_of a) ≡ word_of b
up_is a b e l = ap₂ word (omega arith) (omega arith)

pub down_is : (a b : ℕ) → a ≡ b + 1 → a < 0x10000 → down (word_of a) ≡ word_of b
down_is a b e l = ap₂ word (omega arith) (omega arith)

pub value_is : (a : ℕ) → value (word_of a) ≡ a
value_is a = omega arith

pub byte_is : (rom ram : List ℕ) (a : ℕ) → a < 0x1000 → read rom false ram (value (word_of a)) ≡ slice_index ram a
byte_is rom ram a l = ap (read rom false ram) (value_is a) ∙ read_ram rom ram a l

pub written_at : (ram : List ℕ) (a byte : ℕ) → a < 0x1000 → written false ram (value (word_of a)) byte ≡ slice_set ram a byte
written_at ram a byte l = ap (λ z. written false ram z byte) (value_is a) ∙ written_is ram a byte l
