-- Opcodes of the language in words, line by line: address, opcode and words, and a last single byte at FFFF as data; and the line of the source that
-- gave them, where it is told.
use Rattle.std.specs.Prelude.{ℕ, ◌+◌, ◌-◌, ◌*◌, ◌/◌, ◌==◌, if◌then◌else◌, min, false, List, [], ◌∷◌, ◌++◌, codes}
use Rattle.std.specs.List.{flat_map, range_with_len}
use Rattle.machine.specs.Board.{Machine}
use Rattle.machine.specs.Memory.{read}
use Rattle.asm_core.specs.Origins.{Origins, labels_over, source_end}
use Rattle.chip8_words.specs.Words.{opcode_words}
use Rattle.vip_byte.specs.HexText.{hex2, hex4}
use Rattle.vip_byte.specs.Text.{newline}

-- the byte that each address reads where the boot latch is clear
abbrev pub clear_byte : List ℕ → Machine → ℕ → ℕ
clear_byte rom b address = read rom false b.ram address

abbrev pub opcode_text : ℕ → List ℕ
opcode_text opcode = hex4 opcode ++ codes " " ++ opcode_words opcode

abbrev pub byte_text : ℕ → List ℕ
byte_text byte = hex2 byte ++ codes "   DB 0x" ++ hex2 byte

module _ (byte : ℕ → ℕ) where
  -- the bytes that a line shows
  abbrev pub code_bytes : ℕ → List ℕ
  code_bytes address = if address == 0xffff then byte address ∷ [] else byte address ∷ byte (address + 1) ∷ []

  abbrev pub code_text : ℕ → List ℕ
  code_text address = if address == 0xffff then byte_text (byte address) else opcode_text (byte address * 256 + byte (address + 1))

  unfoldable pub code_line : Origins → ℕ → List ℕ
  code_line origins address = hex4 address ++ codes " " ++ code_text address ++ source_end origins false address (code_bytes address) ++ newline

  -- the k-th line from an address on: a line shows two bytes
  abbrev pub code_at : Origins → ℕ → ℕ → List ℕ
  code_at origins address k = code_line origins (address + 2 * k)

  -- behind the lines of the labels at its address
  abbrev pub code_pieces : Origins → ℕ → ℕ → List (List ℕ)
  code_pieces origins address k = labels_over origins (address + 2 * k) ++ code_at origins address k ∷ []

  -- so many opcodes from an address on, or those up to FFFF; labels don't count
  abbrev pub code_lines : Origins → ℕ → ℕ → List (List ℕ)
  code_lines origins address count = flat_map (code_pieces origins address) (range_with_len 0 (min count ((0x10001 - address) / 2)))
