-- The disassembly of bytes: one line for each instruction, and for each byte that is none.
use Rattle.std.specs.Prelude.{◌≤◌, ◌+◌, ◌-◌, ◌*◌, ◌==◌, ◌||◌, ℕ, zero, suc, Bool, false, List, [], ◌∷◌, ◌++◌, length, flat_map, codes, slice_index, nat_lt, if◌then◌else◌}
use Rattle.vip_byte.specs.HexText.{hex2, hex4}
use Rattle.vip_isa.specs.Texts.{instruction_text}
use Rattle.asm_lex.specs.declared.shape.Isa.{Isa}
use Rattle.asm_lex.specs.declared.shape.Isa.TheVariants.{Cdp1802, Chip8}
use Rattle.asm_lex.specs.Words.{size_at}
use Rattle.asm_lex.specs.Ranges.{origin_of, last_of}
use Rattle.chip8_words.specs.Words.{opcode_words}
use Rattle.vip_byte.specs.Text.{newline}

-- Below, `bytes` are those that stand from the address `at` on, and their instructions are of an instruction set.
abbrev pub opcode_in : List ℕ → ℕ
opcode_in bytes = slice_index bytes 0

-- the opcode of CHIP-8 that two bytes are, the high one first
abbrev pub word_in : List ℕ → ℕ
word_in bytes = slice_index bytes 0 * 256 + slice_index bytes 1

-- how many bytes the first instruction has
unfoldable pub size_in : Isa → List ℕ → ℕ
size_in Cdp1802 bytes = size_at (opcode_in bytes)
size_in Chip8 bytes = 2

-- opcode 68 of the CDP1802 isn't an instruction
abbrev pub is_undefined : Isa → List ℕ → Bool
is_undefined Cdp1802 bytes = opcode_in bytes == 0x68
is_undefined Chip8 bytes = false

-- nor is an opcode whose further bytes are missing
unfoldable pub is_data : Isa → List ℕ → Bool
is_data isa bytes = is_undefined isa bytes || nat_lt (length bytes) (size_in isa bytes)

-- how many bytes the first line shows
unfoldable pub taken : Isa → List ℕ → ℕ
taken isa bytes = if is_data isa bytes then 1 else size_in isa bytes

unfoldable pub data_text : ℕ → List ℕ
data_text byte = codes " DB 0x" ++ hex2 byte

-- an instruction, which CHIP-8 has in words
abbrev pub text_in : Isa → ℕ → List ℕ → List ℕ
text_in Cdp1802 at bytes = instruction_text at bytes
text_in Chip8 at bytes = opcode_words (word_in bytes)

-- the first line, without its end and with it
unfoldable pub first_line : Isa → ℕ → List ℕ → List ℕ
first_line isa at bytes = if is_data isa bytes then data_text (opcode_in bytes) else codes " " ++ text_in isa at bytes

abbrev pub ended_line : Isa → ℕ → List ℕ → List ℕ
ended_line isa at bytes = first_line isa at bytes ++ newline

-- Where lines begin: each address with the bytes from there on, where the first `inside` bytes belong to a line before.
abbrev pub starts : Isa → ℕ → ℕ → List ℕ → List (ℕ × List ℕ)
starts isa inside at [] = []
starts isa zero at (byte ∷ bytes) = (at, byte ∷ bytes) ∷ starts isa (taken isa (byte ∷ bytes) - 1) (at + 1) bytes
starts isa (suc inside) at (byte ∷ bytes) = starts isa inside (at + 1) bytes

abbrev pub lines_from : Isa → List (ℕ × List ℕ) → List ℕ
lines_from isa all = flat_map (λ start. ended_line isa start.0 start.1) all

abbrev pub origin : ℕ → List ℕ
origin at = codes " ORG 0x" ++ hex4 at

-- the line that sets the address, then the lines of the bytes
unfoldable pub disassembly : Isa → ℕ → List ℕ → List ℕ
disassembly isa at bytes = (origin at ++ newline) ++ lines_from isa (starts isa 0 at bytes)

-- bytes may stand from an address on
pub record HasPlace (isa : Isa) (at : ℕ) (bytes : List ℕ) : Type 0 where
  pub least : origin_of isa ≤ at
  pub most : at ≤ last_of isa
  pub fits : at + length bytes ≤ last_of isa + 1
