-- Where the bytes of an image come from: what a source gave each address, and the labels there.
use Rattle.std.specs.Prelude.{ℕ, ◌+◌, ◌-◌, ◌%◌, ◌==◌, ◌&&◌, Bool, true, false, List, [], ◌∷◌, ◌++◌, length, map, codes, decimal, is_some, slice_get, slice_index_or, if◌then◌else◌, Option, None, Some, option_and_then, option_map, refl}
use Rattle.std.specs.Coded.{Coded, code_by, coded×, coded_ℕ, coded_list, coded_option}
use Rattle.std.specs.List.{range_with_len}
use Rattle.std.specs.Option.{option_map_or}
use Rattle.machine.specs.Memory.{mapped_address}
use Rattle.asm_lex.specs.Parts.{trimmed}
use Rattle.asm_lex.specs.declared.shape.Isa.{Isa}
use Rattle.asm_core.specs.declared.line_text.LineText.{LineText}
use Rattle.asm_core.specs.declared.table.Cell.{Cell}
use Rattle.asm_core.specs.Labels.{label_lines, labels_of}
use Rattle.asm_core.specs.Made.{cell_code}
use Rattle.asm_core.specs.Sources.{cell_before}

-- the labels of a source, for each address the byte that it gave with the number of the line that gave it, and the text of each line where
-- it is told
pub record Origins : Type 0 where
  pub labels : List (ℕ × List ℕ)
  pub cells : List (Option Cell)
  pub texts : List (List ℕ)

abbrev pub origins_code : Coded Origins
origins_code =
    code_by (List (ℕ × List ℕ) × (List (Option Cell) × List (List ℕ)))
    (coded× (coded_list (coded× coded_ℕ (coded_list coded_ℕ))) (coded× (coded_list (coded_option cell_code)) (coded_list (coded_list coded_ℕ))))
    (λ origins. (origins.labels, (origins.cells, origins.texts)))
    (λ parts. record { labels = parts.0; cells = parts.1.0; texts = parts.1.1 })
    (λ _. refl)

abbrev pub shown_texts : List LineText → List (List ℕ)
shown_texts texts = map (λ text. text.bytes.items) texts

abbrev pub has_texts : List (List ℕ) → Bool
has_texts [] = false
has_texts texts = true

-- no source gave anything
abbrev pub no_origins : Origins
no_origins = record { labels = []; cells = []; texts = [] }

-- what a source without a fault gave
abbrev pub cells_of : Isa → List (List ℕ) → List (Option Cell)
cells_of isa source = map (cell_before isa source (length source)) (range_with_len 0 65536)

-- without the texts of the lines, and with them
abbrev pub origins_of : Isa → List (List ℕ) → Origins
origins_of isa source = record { labels = labels_of isa source; cells = cells_of isa source; texts = [] }

abbrev pub told_origins_of : Isa → List (List ℕ) → Origins
told_origins_of isa source = record { labels = labels_of isa source; cells = cells_of isa source; texts = map trimmed source }

-- the byte that an address was given
abbrev pub origin_at : Origins → ℕ → Option Cell
origin_at origins address = slice_index_or origins.cells address None

-- the lines of the labels that stand at a byte: those of its address, where the source gave it
abbrev pub labels_over : Origins → ℕ → List (List ℕ)
labels_over origins address = if is_some (origin_at origins address) then label_lines origins.labels address else []

-- and those at the byte that an address reads, through the boot latch too
abbrev pub labels_read : Origins → Bool → ℕ → List (List ℕ)
labels_read origins latch address = labels_over origins (mapped_address latch address)

-- ---- the end of a line that shows some bytes

-- some bytes, read from an address on, are those that the source gave where they are read; addresses go on at 0000 behind FFFF
abbrev pub gave : Origins → Bool → ℕ → List ℕ → Bool
gave origins latch address [] = true
gave origins latch address (byte ∷ bytes) =
    option_map_or (λ cell. cell.byte == byte) (origin_at origins (mapped_address latch address)) false
    && gave origins latch ((address + 1) % 65536) bytes

-- the number of a line, and its text
abbrev pub line_told : Option (ℕ × List ℕ) → List ℕ
line_told None = []
line_told (Some line) = codes "  | " ++ decimal line.0 ++ codes ": " ++ line.1

-- the line that gave a byte, where the texts of the lines are told
abbrev pub line_with : List (List ℕ) → Cell → Option (ℕ × List ℕ)
line_with texts cell = option_map (λ text. (cell.line, text)) (slice_get texts (cell.line - 1))

-- the line that gave the first of some bytes, where they are those that the source gave
abbrev pub line_behind : Origins → Bool → ℕ → List ℕ → Option (ℕ × List ℕ)
line_behind origins latch address [] = None
line_behind origins latch address (byte ∷ bytes) =
    if gave origins latch address (byte ∷ bytes) then option_and_then (line_with origins.texts) (origin_at origins (mapped_address latch address)) else None

-- what a line ends in that shows these bytes: nothing where no texts are told
abbrev pub source_end : Origins → Bool → ℕ → List ℕ → List ℕ
source_end origins latch address bytes = line_told (line_behind origins latch address bytes)
