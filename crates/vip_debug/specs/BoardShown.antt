-- What the commands that speak of the machine write, line by line. Digits are upper case.
use Rattle.std.specs.Prelude.{ℕ, ◌+◌, ◌-◌, ◌*◌, ◌/◌, not, min, Bool, List, [], ◌∷◌, ◌++◌, map, take, drop, length, bytes_eq, codes, decimal}
use Rattle.std.specs.List.{flat_map, range_with_len}
use Rattle.machine.specs.Board.{Machine}
use Rattle.machine.specs.Instruction.{Regs, at}
use Rattle.vip_byte.specs.HexText.{bytes_text, hex2, hex4, words_text}
use Rattle.vip_byte.specs.Text.{bit_text, newline}
use Rattle.asm_lex.specs.declared.shape.Isa.TheVariants.{Cdp1802}
use Rattle.asm_core.specs.Origins.{Origins, labels_read, source_end}
use Rattle.asm_listing.specs.Disassembly.{first_line, starts, taken}
use Rattle.asm_listing.specs.Listing.{first_digits}
use Rattle.vip_program.specs.Lines.{selected_text}
use Rattle.vip_debug.specs.declared.bytes.Layout.{Layout}
use Rattle.vip_debug.specs.declared.bytes.Layout.TheVariants.{Source, Listing}

-- ---- the registers

abbrev pub cycle_text : Machine → List ℕ
cycle_text b = codes "cycle " ++ decimal b.cycle

-- Q, IE, T, and whether the processor idles
abbrev pub control_text : Regs → List ℕ
control_text r = codes " Q " ++ bit_text r.q ++ codes " IE " ++ bit_text r.ie ++ codes " T " ++ hex2 r.t ++ codes " IDL " ++ bit_text r.idle

abbrev pub processor_line : Machine → List ℕ
processor_line b = cycle_text b ++ selected_text b.regs ++ control_text b.regs ++ newline

-- R0 to RF
unfoldable pub registers_text : Regs → ℕ → List ℕ
registers_text r count = words_text (map (at r) (range_with_len 0 count))

abbrev pub registers_line : Machine → List ℕ
registers_line b = codes "R" ++ registers_text b.regs 16 ++ newline

abbrev pub regs_lines : Machine → List (List ℕ)
regs_lines b = processor_line b ∷ registers_line b ∷ []

-- ---- bytes in lines of a dump

-- the address of the first byte, and the bytes
unfoldable pub row : ℕ → List ℕ → List ℕ
row address bytes = hex4 address ++ bytes_text bytes ++ newline

-- 16 bytes a line, and the others in the last
abbrev pub row_at : ℕ → List ℕ → ℕ → List ℕ
row_at address bytes k = row (address + 16 * k) (take 16 (drop (16 * k) bytes))

unfoldable pub rows : ℕ → List ℕ → List (List ℕ)
rows address bytes = map (row_at address bytes) (range_with_len 0 ((length bytes + 15) / 16))

-- ---- an instruction

-- The line of an instruction, by the bytes from its address on: that of the disassembly. In the layout of a listing it stands behind its address and the
-- bytes that it shows, in six places, and before the source's line that gave them.
abbrev pub front_text : Layout → ℕ → List ℕ → List ℕ
front_text Source address bytes = []
front_text Listing address bytes = hex4 address ++ codes " " ++ first_digits bytes

-- what a source gave, and whether the boot latch is set through which the bytes are read
module _ (origins : Origins) (latch : Bool) where
  abbrev pub end_in : Layout → ℕ → List ℕ → List ℕ
  end_in Source address bytes = []
  end_in Listing address bytes = source_end origins latch address bytes

  abbrev pub line_by : Layout → ℕ → List ℕ → List ℕ → List ℕ
  line_by layout address shown bytes = front_text layout address shown ++ first_line Cdp1802 address bytes ++ end_in layout address shown ++ newline

  unfoldable pub line_in : Layout → ℕ → List ℕ → List ℕ
  line_in layout address bytes = line_by layout address (take (taken Cdp1802 bytes) bytes) bytes

  -- before a line of a listing stand those of the labels at its byte
  abbrev pub labels_in : Layout → ℕ → List (List ℕ)
  labels_in Source address = []
  labels_in Listing address = labels_read origins latch address

  abbrev pub pieces_in : Layout → ℕ → List ℕ → List (List ℕ)
  pieces_in layout address bytes = labels_in layout address ++ line_in layout address bytes ∷ []

  abbrev pub lines_of : Layout → List (ℕ × List ℕ) → List (List ℕ)
  lines_of layout all = flat_map (λ start. pieces_in layout start.0 start.1) all

-- ---- bytes, given by their addresses

module _ (byte : ℕ → ℕ) where
  abbrev pub bytes_from : ℕ → ℕ → List ℕ
  bytes_from address count = map byte (range_with_len address count)

  -- so many bytes from an address on: 4,096 at most, and those that stand at FFFF at the latest
  abbrev pub stretch : ℕ → ℕ → List ℕ
  stretch address count = bytes_from address (min (min count 4096) (0x10000 - address))

  abbrev pub mem_lines : ℕ → ℕ → List (List ℕ)
  mem_lines address count = rows address (stretch address count)

  -- so many instructions of the disassembly of all bytes from an address on; the labels among them don't count
  unfoldable pub instruction_lines : Origins → Bool → Layout → ℕ → ℕ → List (List ℕ)
  instruction_lines origins latch layout address count = lines_of origins latch layout (take count (starts Cdp1802 0 address (bytes_from address (0x10000 - address))))

-- one of the bytes of a stretch isn't what it was
abbrev pub has_changed : ℕ → ℕ → (ℕ → ℕ) → (ℕ → ℕ) → Bool
has_changed address count old new = not (bytes_eq (stretch old address count) (stretch new address count))
