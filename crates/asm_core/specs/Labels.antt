-- The labels of a source, as they are shown: each has an address, and the line that names it.
use Rattle.std.specs.Prelude.{◌≡◌, ◌==◌, ◌+◌, ◌<◌, nat_lt, ℕ, Bool, List, [], ◌++◌, length, map, filter, drop, get_or, filter_map, codes, Option, Some, None}
use Rattle.std.specs.List.{last_or, range_with_len}
use Rattle.vip_byte.specs.Text.{newline}
use Rattle.asm_lex.specs.declared.shape.Isa.{Isa}
use Rattle.asm_lex.specs.Parts.{code_of, label_of}
use Rattle.asm_core.specs.declared.labels.Label.{Label}
use Rattle.asm_core.specs.declared.layout.LabelValue.{LabelValue}
use Rattle.asm_core.specs.declared.layout.LabelValue.TheVariants.{Address, Given}
use Rattle.asm_core.specs.Sources.{line_at, label_value}

-- the line that shows a label
abbrev pub label_line : List ℕ → List ℕ
label_line name = name ++ codes ":" ++ newline

-- the label of a line that has this value: EQU gives its label no address
abbrev pub mark : Option (List ℕ) → LabelValue → Option (ℕ × List ℕ)
mark None value = None
mark (Some name) (Address address) = Some (address, label_line name)
mark (Some name) (Given value) = None

abbrev pub mark_of : List ℕ → LabelValue → Option (ℕ × List ℕ)
mark_of line value = mark (label_of (code_of line)) value

-- in order of lines, by the value that each line's label has
abbrev pub labels_by : List (List ℕ) → (ℕ → LabelValue) → ℕ → List (ℕ × List ℕ)
labels_by source value count = filter_map (λ i. mark_of (line_at source i) (value i)) (range_with_len 0 count)

abbrev pub labels_of : Isa → List (List ℕ) → List (ℕ × List ℕ)
labels_of isa source = labels_by source (label_value isa source) (length source)

-- those of an address
abbrev pub labels_at : List (ℕ × List ℕ) → ℕ → List (ℕ × List ℕ)
labels_at labels address = filter (λ label. label.0 == address) labels

-- the lines that show the labels of an address
abbrev pub label_lines : List (ℕ × List ℕ) → ℕ → List (List ℕ)
label_lines labels address = map (λ label. label.1) (labels_at labels address)

-- a label has this address
abbrev pub has_label : List (ℕ × List ℕ) → ℕ → Bool
has_label labels address = nat_lt 0 (length (labels_at labels address))

-- the greatest address of a label at or below an address
unfoldable pub label_below : List (ℕ × List ℕ) → ℕ → Option ℕ
label_below labels address = last_or None (filter (has_label labels) (range_with_len 0 (address + 1)))

-- ---- how they are found

abbrev pub shown_label : Label → ℕ × List ℕ
shown_label label = (label.address, label.line.items)

abbrev pub shown_labels : List Label → List (ℕ × List ℕ)
shown_labels list = map shown_label list

-- from a place on, the first label of an address stands at another place, or there is none
pub record Leads (labels : List (ℕ × List ℕ)) (from to address : ℕ) : Type 0 where
  pub same : labels_at (drop from labels) address ≡ labels_at (drop to labels) address
  pub here : to < length labels → (get_or labels to (0, [])).0 ≡ address

-- the place of the first label of each address, and behind each label that of the next one
pub record AreFound (labels : List (ℕ × List ℕ)) (first next : List ℕ) : Type 0 where
  pub firsts : (address : ℕ) → address < 65536 → Leads labels 0 (get_or first address 0) address
  pub nexts : (i : ℕ) → i < length labels → (get_or labels i (0, [])).0 < 65536 → Leads labels (i + 1) (get_or next i 0) (get_or labels i (0, [])).0
  pub count : length next ≡ length labels
