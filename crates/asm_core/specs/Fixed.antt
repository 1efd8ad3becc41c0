-- The names whose values hang on no address: those to which EQU gives a register, or a number in which stand no `$` and no other names than these. A
-- line of which a fault is told gives none.
use Rattle.std.specs.Prelude.{◌==◌, ℕ, zero, suc, Bool, false, List, length, slice_get, if◌then◌else◌, Option, None, is_some, Result, Ok, Err}
use Rattle.std.specs.List.{list_any}
use Rattle.std.specs.Option.{option_map_or}
use Rattle.asm_lex.specs.declared.shape.Isa.{Isa}
use Rattle.asm_lex.specs.Names.{Names}
use Rattle.asm_lex.specs.Spans.{text_at}
use Rattle.asm_core.specs.declared.fault.AsmCause.{AsmCause}
use Rattle.asm_core.specs.declared.findings.Finding.{Finding}
use Rattle.asm_core.specs.declared.layout.Laid.{Laid}
use Rattle.asm_core.specs.declared.layout.LabelValue.{LabelValue}
use Rattle.asm_core.specs.declared.layout.LabelValue.TheVariants.{Address, Given}
use Rattle.asm_core.specs.Culprits.{spans_of}
use Rattle.asm_core.specs.Layout.{laid_out, label_in}
use Rattle.asm_core.specs.Names.{with_label}
use Rattle.asm_core.specs.Sources.{line_at}
use Rattle.asm_core.specs.Told.{told}

-- `$` stands in a text, and in the first operand of a line
abbrev pub has_address : List ℕ → Bool
has_address text = list_any (λ byte. byte == 36) text

abbrev pub begins_with_address : List ℕ → Bool
begins_with_address line = option_map_or (λ span. has_address (text_at line span)) (slice_get (spans_of line) 0) false

-- what EQU gives a label, which is read with these names alone
abbrev pub with_given : Names → Option (List ℕ) → LabelValue → Names
with_given names label (Address address) = names
with_given names label (Given value) = with_label names label value

abbrev pub fixed_from : Names → Bool → Option (List ℕ) → Result Laid AsmCause → Names
fixed_from names here label (Ok laid) = if here then names else with_given names label laid.value
fixed_from names here label (Err cause) = names

unfoldable pub with_fixed : Isa → Names → List ℕ → Names
with_fixed isa names line = fixed_from names (begins_with_address line) (label_in isa names line) (laid_out isa names 0 line)

abbrev pub fixed_next : Isa → Names → List ℕ → Option Finding → Names
fixed_next isa names line finding = if is_some finding then names else with_fixed isa names line

-- those of the lines before line i
unfoldable pub fixed_before : Isa → List (List ℕ) → ℕ → Names
fixed_before isa source zero = λ name. None
fixed_before isa source (suc i) = fixed_next isa (fixed_before isa source i) (line_at source i) (told isa source i)

abbrev pub fixed_names : Isa → List (List ℕ) → Names
fixed_names isa source = fixed_before isa source (length source)
