-- The forms of CHIP-8's instructions, whose table is that of the crate `chip8_words`: which one an operand chooses, and the registers that it has.
use Rattle.std.specs.Prelude.{◌≡◌, ◌-◌, ◌<◌, ◌==◌, ℕ, Bool, false, List, [], ◌∷◌, length, map, sum, find, codes, slice_index_or, if◌then◌else◌, Option, Some, None, IsTrue, is_some, option_and_then, option_map}
use Rattle.std.specs.Option.{option_map_or, option_or}
use Rattle.std.specs.Str.{bytes_eq}
use Rattle.chip8_words.specs.declared.code.Op.{Op}
use Rattle.chip8_words.specs.declared.table.Form.{Form}
use Rattle.chip8_words.specs.declared.table.Form.TheVariants.{Right, Left}
use Rattle.chip8_words.specs.declared.table.Operand.{Operand}
use Rattle.chip8_words.specs.declared.table.Operand.TheVariants.{X, Y, V0, Byte, Address, Nibble, Index, AtIndex, DelayTimer, SoundTimer, Key, Font, Decimal}
use Rattle.chip8_words.specs.Codes.{IsValid, greatest_number}
use Rattle.chip8_words.specs.Table.{forms, mnemonic_of, operands_of}
use Rattle.asm_lex.specs.declared.shape.Isa.TheVariants.{Chip8}
use Rattle.asm_lex.specs.Bytes.{spells, register_of, register_letter}
use Rattle.asm_lex.specs.Expressions.{is_expression}
use Rattle.asm_lex.specs.Names.{Names, register_named, is_number}

-- the register that a text names: V0 to VF, or a name of one
unfoldable pub register_in : Names → List ℕ → Option ℕ
register_in names text = option_or (register_of (register_letter Chip8) text) (register_named names text)

-- a text is such an operand
unfoldable pub is_operand : Names → Operand → List ℕ → Bool
is_operand names X text = is_some (register_in names text)
is_operand names Y text = is_some (register_in names text)
is_operand names V0 text = option_map_or (λ register. register == 0) (register_in names text) false
is_operand names Byte text = is_number Chip8 names text
is_operand names Address text = is_number Chip8 names text
is_operand names Nibble text = is_number Chip8 names text
is_operand names Index text = spells text (codes "I")
is_operand names AtIndex text = spells text (codes "[I]")
is_operand names DelayTimer text = spells text (codes "DT")
is_operand names SoundTimer text = spells text (codes "ST")
is_operand names Key text = spells text (codes "K")
is_operand names Font text = spells text (codes "F")
is_operand names Decimal text = spells text (codes "B")

-- the parts of an opcode with the register of one operand more
abbrev pub with_x : Op → ℕ → Op
with_x op register = record { form = op.form; x = register; y = op.y; number = op.number }

abbrev pub with_y : Op → ℕ → Op
with_y op register = record { form = op.form; x = op.x; y = register; number = op.number }

abbrev pub with_operand : Names → Op → Operand → List ℕ → Option Op
with_operand names op X text = option_map (with_x op) (register_in names text)
with_operand names op Y text = option_map (with_y op) (register_in names text)
with_operand names op due text = if is_operand names due text then Some op else None

-- with those of all operands; none where they are others than are due
abbrev pub with_operands : Names → Op → List Operand → List (List ℕ) → Option Op
with_operands names op [] [] = Some op
with_operands names op [] (text ∷ texts) = None
with_operands names op (due ∷ all_due) [] = None
with_operands names op (due ∷ all_due) (text ∷ texts) = option_and_then (λ op. with_operands names op all_due texts) (with_operand names op due text)

-- one register alone is both of a shift
abbrev pub one_twice : {X : Type 0} → List X → List X
one_twice [] = []
one_twice (text ∷ []) = text ∷ text ∷ []
one_twice (text ∷ more ∷ rest) = text ∷ more ∷ rest

abbrev pub written_operands : {X : Type 0} → Form → List X → List X
written_operands Right texts = one_twice texts
written_operands Left texts = one_twice texts
written_operands _ texts = texts

-- a form without registers and number
abbrev pub bare : Form → Op
bare form = record { form = form; x = 0; y = 0; number = 0 }

-- what operands mean in a form
unfoldable pub form_meaning : Names → Form → List (List ℕ) → Option Op
form_meaning names form texts = with_operands names (bare form) (operands_of form) (written_operands form texts)

-- the first form whose mnemonic the word is
unfoldable pub form_named : List ℕ → Option Form
form_named word = find (λ form. spells word (mnemonic_of form)) forms

-- the first meaning that the operands have in a form with the same mnemonic
abbrev pub same_meaning : Names → Form → List (List ℕ) → Form → Option Op
same_meaning names named texts form = if bytes_eq (mnemonic_of form) (mnemonic_of named) then form_meaning names form texts else None

abbrev pub first_given : {X Y : Type 0} → (X → Option Y) → List X → Option Y
first_given f [] = None
first_given f (x ∷ xs) = option_or (f x) (first_given f xs)

unfoldable pub op_meaning : Names → Form → List (List ℕ) → Option Op
op_meaning names named texts = first_given (same_meaning names named texts) forms

-- the greatest number that a form takes, or 0 where it takes none; it is its last operand
abbrev pub most_of : Form → ℕ
most_of form = sum (map greatest_number (operands_of form))

abbrev pub last_operand : List (List ℕ) → List ℕ
last_operand texts = slice_index_or texts (length texts - 1) []

-- the parts are in their ranges, and where the form takes a number, its text is an expression
pub record HasItsNumber (op : Op) (texts : List (List ℕ)) : Type 0 where
  pub valid : IsValid op
  pub none_yet : op.number ≡ 0
  pub some : 0 < most_of op.form → 0 < length texts
  pub number : 0 < most_of op.form → IsTrue (is_expression Chip8 (last_operand texts))
