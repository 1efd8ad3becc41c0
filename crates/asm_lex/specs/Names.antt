-- Names, each of a number or of a register.
use Rattle.std.specs.Prelude.{◌≡◌, ◌&&◌, ◌≤◌, ℕ, Bool, false, not, List, map, Vec, Option, None, Some, IfSome, is_some, if◌then◌else◌}
use Rattle.std.specs.Str.{bytes_eq}
use Rattle.std.specs.declared.alloc.Global.{Global}
use Rattle.std.specs.Map.{lookup}
use Rattle.std.specs.List.{list_any}
use Rattle.asm_lex.specs.declared.shape.Isa.{Isa}
use Rattle.asm_lex.specs.declared.shape.Isa.TheVariants.{Cdp1802, Chip8}
use Rattle.asm_lex.specs.declared.shape.SymbolValue.{SymbolValue}
use Rattle.asm_lex.specs.declared.shape.SymbolValue.TheVariants.{Number, Register}
use Rattle.asm_lex.specs.Expressions.{is_expression, terms_of, sum_in}

-- the value of each name, or none
abbrev pub Names : Type 0
Names = List ℕ → Option SymbolValue

-- the values in a list of names with their values
abbrev pub value_in : List (List ℕ × SymbolValue) → Names
value_in names name = lookup (bytes_eq name) names

-- the same in a tree of names
abbrev pub value_at : List (Vec ℕ Global × SymbolValue) → Names
value_at entries = value_in (map {B = List ℕ × SymbolValue} (λ entry. (entry.0.items, entry.1)) entries)

-- the number that a name stands for, and the register
abbrev pub number_from : Option SymbolValue → Option ℕ
number_from None = None
number_from (Some (Number number)) = Some number
number_from (Some (Register register)) = None

abbrev pub number_named : Names → List ℕ → Option ℕ
number_named names name = number_from (names name)

abbrev pub register_from : Option SymbolValue → Option ℕ
register_from None = None
register_from (Some (Number number)) = None
register_from (Some (Register register)) = Some register

abbrev pub register_named : Names → List ℕ → Option ℕ
register_named names name = register_from (names name)

-- there are 16 registers
abbrev pub IsValue : SymbolValue → Type 0
IsValue (Number number) = Unit {0}
IsValue (Register register) = register ≤ 15

abbrev pub HasValues : Names → Type 0
HasValues names = (name : List ℕ) → IfSome (names name) IsValue

-- a name stands for a register only where it was given one
abbrev pub HasRegisters : Names → Names → Type 0
HasRegisters given names = (name : List ℕ) → given name ≡ None → register_named names name ≡ None

-- a name with its value, beside the others
abbrev pub with_name : Names → List ℕ → SymbolValue → Names
with_name names name value other = if bytes_eq name other then Some value else names other

-- a term is a name of a register; the CDP1802's language has none
unfoldable pub is_register : Isa → Names → List ℕ → Bool
is_register Cdp1802 names term = false
is_register Chip8 names term = is_some (register_named names term)

-- a name of a register stands in a text; the CDP1802's language has none
unfoldable pub names_register : Isa → Names → List ℕ → Bool
names_register Cdp1802 names text = false
names_register Chip8 names text = list_any (λ term. is_some (register_named names term)) (terms_of (sum_in text))

-- an operand that stands for a number is an expression without registers
unfoldable pub is_number : Isa → Names → List ℕ → Bool
is_number isa names text = is_expression isa text && not (names_register isa names text)
