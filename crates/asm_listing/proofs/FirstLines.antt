-- What the assembler makes of the first line of a disassembly, and how many bytes it shows.
use Rattle.std.proofs.Common.{◌≡◌, ◌+◌, ◌<◌, ◌≤◌, ℕ, refl, List, ◌++◌, length, take, sym, subst, arith, true, false, cond}
use Rattle.std.specs.Prelude.{◌||◌, nat_lt, codes}
use Rattle.std.proofs.lemmas.Bool.{or_parts, eqb-false, ltb-false}
use Rattle.machine.specs.Opcodes.{kind_of}
use Rattle.vip_isa.specs.Rows.{operands_of, size_with}
use Rattle.vip_isa.specs.declared.rows.Operands.{Operands}
use Rattle.vip_isa.specs.declared.rows.Operands.TheVariants as stands
use Rattle.chip8_words.specs.Words.{opcode_words}
use Rattle.asm_lex.specs.declared.shape.Isa.{Isa}
use Rattle.asm_lex.specs.declared.shape.Isa.TheVariants.{Cdp1802, Chip8}
use Rattle.asm_lex.specs.Names.{Names}
use Rattle.asm_lex.specs.Words.{size_at}
use Rattle.asm_core.specs.declared.layout.LabelValue.TheVariants.{Address}
use Rattle.asm_lex.specs.Ranges.{last_of}
use Rattle.asm_listing.specs.Disassembly.{opcode_in, word_in, size_in, is_undefined, is_data, taken, data_text, text_in, first_line}
use Rattle.asm_listing.proofs.Makes.{Makes, data_makes}
use Rattle.asm_listing.proofs.Assembled.{AreBytes, byte_low, take_1, take_2, instruction_makes}
use Rattle.asm_listing.proofs.InWords.{words_make}

-- a line shows a byte at least
some_bytes : (due : Operands) → 1 ≤ size_with due
some_bytes stands.Nothing = omega arith
some_bytes _ = omega arith

some_size : (isa : Isa) (bytes : List ℕ) → 1 ≤ size_in isa bytes
unfolding size_in size_at
some_size Cdp1802 bytes = some_bytes (operands_of (kind_of (opcode_in bytes)))
some_size Chip8 bytes = omega arith

pub taken_some : (isa : Isa) (bytes : List ℕ) → 1 ≤ taken isa bytes
unfolding taken
taken_some isa bytes = elim (is_data isa bytes) as (λ b. 1 ≤ cond b 1 (size_in isa bytes)) [
  | true ↦ omega arith
  | false ↦ some_size isa bytes
]

-- and no more than there are
pub taken_within : (isa : Isa) (bytes : List ℕ) → 0 < length bytes → taken isa bytes ≤ length bytes
unfolding taken is_data
taken_within isa bytes some =
    elim (is_undefined isa bytes || nat_lt (length bytes) (size_in isa bytes))
    as (λ b. (is_undefined isa bytes || nat_lt (length bytes) (size_in isa bytes)) ≡ b
    → cond b 1 (size_in isa bytes) ≤ length bytes) [
      | true ↦ λ is. omega arith
      | false ↦ λ is. ltb-false _ _ (or_parts _ _ is).1
    ] refl

module _ (names : Names) (at : ℕ) (bytes : List ℕ) (bytes_low : AreBytes bytes) where
  -- a whole instruction
  text_makes : (isa : Isa) → is_undefined isa bytes ≡ false → size_in isa bytes ≤ length bytes → at + size_in isa bytes ≤ last_of isa + 1
      → Makes isa names at (codes " " ++ text_in isa at bytes) (Address at) (at + size_in isa bytes) (take (size_in isa bytes) bytes)
  unfolding size_in
  text_makes Cdp1802 known whole fits = instruction_makes names at bytes bytes_low (eqb-false (opcode_in bytes) 0x68 known) whole fits
  text_makes Chip8 known whole fits =
      subst (λ made. Makes Chip8 names at (codes " " ++ opcode_words (word_in bytes)) (Address at) (at + 2) made) (sym (take_2 bytes whole))
      (words_make names at bytes bytes_low fits)

  pub line_makes : (isa : Isa) → 0 < length bytes → at + length bytes ≤ last_of isa + 1
      → Makes isa names at (first_line isa at bytes) (Address at) (at + taken isa bytes) (take (taken isa bytes) bytes)
  unfolding first_line taken is_data
  line_makes isa some fits =
      let opcode : ℕ = opcode_in bytes in
      let size : ℕ = size_in isa bytes in
      elim (is_undefined isa bytes || nat_lt (length bytes) size) as (λ b. (is_undefined isa bytes || nat_lt (length bytes) size) ≡ b
      → Makes isa names at (cond b (data_text opcode) (codes " " ++ text_in isa at bytes)) (Address at) (at + cond b 1 size) (take (cond b 1 size) bytes)) [
        | true ↦ λ is. subst (λ xs. Makes isa names at (data_text opcode) (Address at) (at + 1) xs) (sym (take_1 bytes some))
            (data_makes isa names at opcode (byte_low bytes bytes_low 0) (omega (arith, fits, some)))
        | false ↦ λ is.
            let parts = or_parts _ _ is in
            let whole : size ≤ length bytes = ltb-false _ _ parts.1 in
            text_makes isa parts.0 whole (omega (arith, fits, whole))
      ] refl
