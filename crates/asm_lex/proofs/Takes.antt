-- The operands that a word has.
use Rattle.std.proofs.Common.{◌≡◌, ◌+◌, ◌≤◌, ℕ, suc, refl, Bool, List, [], ◌∷◌, sym, ◌∙◌, ap, subst, arith, true, false, cond, Some, None}
use Rattle.std.specs.Prelude.{◌==◌, ◌&&◌, ◌||◌, option_map, nat_le}
use Rattle.std.proofs.lemmas.Bool.{agree_below, agree_below_at, and_parts, and_from, leb-true, eqb-true}
use Rattle.std.proofs.lemmas.Option.{cond_some, option_and_then_some, same_Some}
use Rattle.machine.specs.declared.Kind.{Kind}
use Rattle.machine.specs.declared.Kind.TheVariants.{Idl}
use Rattle.machine.specs.Opcodes.{kind_of}
use Rattle.vip_isa.specs.Rows.{operands_of, first_of, least_of, greatest_of, size_of}
use Rattle.vip_isa.specs.declared.rows.Operands.{Operands}
use Rattle.vip_isa.specs.declared.rows.Operands.TheVariants.{Nothing, Register, Port, Byte, Short, Long, Data}
use Rattle.asm_lex.specs.declared.shape.Word.{Word}
use Rattle.asm_lex.specs.declared.shape.Word.TheVariants.{Code, Instruction, Equ, EquRegister}
use Rattle.asm_lex.specs.declared.words.Entry.{Entry}
use Rattle.asm_lex.specs.declared.words.Entry.TheVariants.{Directive, Mnemonic, Words}
use Rattle.asm_lex.specs.Words.{Numbers, numbers_of, are_so_many, may_stand, number_written, with_number, coded, takes, directive_meaning, meaning_of, is_one, is_one_number, size_at, HasItsOperands, register_given, gives_register, one_register_in}
use Rattle.asm_lex.specs.Words.Numbers.{NoDirective, Zero, One, OneOrMore}
use Rattle.asm_lex.specs.Names.{Names, HasValues, is_number}
use Rattle.asm_lex.specs.Expressions.{is_expression}
use Rattle.asm_lex.specs.declared.shape.Isa.{Isa}
use Rattle.asm_lex.specs.declared.shape.Isa.TheVariants.{Cdp1802, Chip8}
use Rattle.asm_lex.specs.Forms.{op_meaning}
use Rattle.std.specs.Option.{option_or}
use Rattle.std.specs.List.{list_all}
use Rattle.asm_lex.proofs.Chosen.{chosen, register_in-within}

abbrev is_for_expression : Operands → Bool
is_for_expression Byte = true
is_for_expression Short = true
is_for_expression Long = true
is_for_expression _ = false

-- where a kind takes no expression, its opcodes are instructions of one byte
abbrev is_plain : Kind → Bool
is_plain kind =
    is_for_expression (operands_of kind)
    || agree_below (λ number. size_of (kind_of (first_of kind + number)) == 1) (λ number. true) (suc (greatest_of kind))

plain : (kind : Kind) → is_plain kind ≡ true
plain Idl = refl
plain _ = refl

second : (a b : Bool) → (a || b) ≡ true → a ≡ false → b ≡ true
second true b or not = absurd (cc)
second false b or not = or

one_byte : (kind : Kind) (number : ℕ) → is_for_expression (operands_of kind) ≡ false → number ≤ greatest_of kind
    → size_of (kind_of (first_of kind + number)) ≡ 1
one_byte kind number other within =
    eqb-true (size_of (kind_of (first_of kind + number))) 1
    (agree_below_at (λ number. size_of (kind_of (first_of kind + number)) == 1) (λ number. true) (suc (greatest_of kind)) number
    (second (is_for_expression (operands_of kind)) _ (plain kind) other) (omega arith))

-- what may stand for a number is an expression
is_expression-number : (isa : Isa) (names : Names) (text : List ℕ) → is_number isa names text ≡ true → is_expression isa text ≡ true
unfolding is_number
is_expression-number isa names text e = (and_parts _ _ e).0

one_expression : (isa : Isa) (names : Names) (operands : List (List ℕ)) → is_one_number isa names operands ≡ true → is_one (is_expression isa) operands ≡ true
one_expression isa names [] e = absurd (cc)
one_expression isa names (a ∷ []) e = is_expression-number isa names a e
one_expression isa names (a ∷ b ∷ rest) e = absurd (cc)

all_expressions : (isa : Isa) (names : Names) (texts : List (List ℕ)) → list_all (is_number isa names) texts ≡ true → list_all (is_expression isa) texts ≡ true
all_expressions isa names [] e = refl
all_expressions isa names (text ∷ texts) e =
    let parts = and_parts _ _ e in
    and_from _ _ (is_expression-number isa names text parts.0) (all_expressions isa names texts parts.1)

some_expressions : (isa : Isa) (names : Names) (numbers : Numbers) (operands : List (List ℕ)) → are_so_many (is_number isa names) numbers operands ≡ true
    → are_so_many (is_expression isa) numbers operands ≡ true
some_expressions isa names NoDirective operands e = absurd (cc)
some_expressions isa names Zero operands e = e
some_expressions isa names One operands e = one_expression isa names operands e
some_expressions isa names OneOrMore operands e =
    let parts = and_parts _ _ e in
    and_from _ _ parts.0 (all_expressions isa names operands parts.1)

is_written : (names : Names) (kind : Operands) (operands : List (List ℕ)) (number : ℕ) → number_written names kind operands ≡ Some number
    → is_for_expression kind ≡ true
    → is_one_number Cdp1802 names operands ≡ true
is_written names Register operands number e is = absurd (cc)
is_written names Port operands number e is = absurd (cc)
is_written names Nothing operands number e is = absurd (cc)
is_written names Data operands number e is = absurd (cc)
is_written names Byte operands number e is = (cond_some (is_one_number Cdp1802 names operands) 0 number e).0
is_written names Short operands number e is = (cond_some (is_one_number Cdp1802 names operands) 0 number e).0
is_written names Long operands number e is = (cond_some (is_one_number Cdp1802 names operands) 0 number e).0

coded_operands : (isa : Isa) (names : Names) (kind : Kind) (operands : List (List ℕ)) (opcode : ℕ) → coded names kind operands ≡ Some opcode
    → HasItsOperands isa (Some (Code opcode)) operands
unfolding coded size_at
coded_operands isa names kind operands opcode e longer =
    option_and_then_some (with_number kind) (number_written names (operands_of kind) operands) opcode e (λ number written numbered.
    let parts = cond_some (nat_le (least_of kind) number && nat_le number (greatest_of kind)) (first_of kind + number) opcode numbered in
    elim (is_for_expression (operands_of kind)) as (λ b. is_for_expression (operands_of kind) ≡ b → is_one (is_expression Cdp1802) operands ≡ true) [
      | true ↦ λ is. one_expression Cdp1802 names operands (is_written names (operands_of kind) operands number written is)
      | false ↦ λ other.
          absurd (longer (ap (λ opcode. size_of (kind_of opcode)) (sym parts.1) ∙ one_byte kind number other (leb-true _ _ (and_parts _ _ parts.0).1)))
    ] refl)

module _ (isa : Isa) (names : Names) (has_label : Bool) (operands : List (List ℕ)) where
  taken : (directive : Word) → takes isa names directive has_label operands ≡ true → HasItsOperands isa (Some directive) operands
  taken (Code opcode) e = absurd (cc)
  taken (Instruction op) e = absurd (cc)
  taken (EquRegister register) e = absurd (cc)
  taken directive e = some_expressions isa names (numbers_of directive) operands (and_parts (may_stand directive has_label) _ e).1

one_given : (names : Names) → HasValues names → (operands : List (List ℕ)) (register : ℕ) → one_register_in names operands ≡ Some register → register ≤ 15
one_given names values [] register e = absurd (cc)
one_given names values (operand ∷ []) register e = register_in-within names values operand register e
one_given names values (operand ∷ more ∷ rest) register e = absurd (cc)

given_within : (isa : Isa) (names : Names) → HasValues names → (directive : Word) (has_label : Bool) (operands : List (List ℕ)) (register : ℕ)
    → gives_register isa names directive has_label operands ≡ Some register → register ≤ 15
unfolding register_given
given_within Cdp1802 names values Equ true operands register e = absurd (cc)
given_within Chip8 names values Equ true operands register e = one_given names values operands register e
given_within isa names values Equ false operands register e = absurd (cc)
given_within isa names values _ has_label operands register e = absurd (cc)

directed : (isa : Isa) (names : Names) → HasValues names → (directive : Word) (has_label : Bool) (operands : List (List ℕ)) (word : Word)
    → directive_meaning isa names directive has_label operands ≡ Some word → HasItsOperands isa (Some word) operands
directed isa names values directive has_label operands word e =
    let P : Word → Type 0 = λ word. HasItsOperands isa (Some word) operands in
    elim (gives_register isa names directive has_label operands) as (λ o. gives_register isa names directive has_label operands ≡ o
    → option_or (option_map EquRegister o) (cond (takes isa names directive has_label operands) (Some directive) None) ≡ Some word → P word) [
      | None ↦ λ is h.
          let parts = cond_some (takes isa names directive has_label operands) directive word h in
          subst P parts.1 (taken isa names has_label operands directive parts.0)
      | Some register ↦ λ is h. subst P (same_Some (EquRegister register) word h) (given_within isa names values directive has_label operands register is)
    ] refl e

pub meant_operands : (isa : Isa) (names : Names) → HasValues names → (entry : Entry) (has_label : Bool) (operands : List (List ℕ)) (word : Word)
    → meaning_of isa names entry has_label operands ≡ Some word
    → HasItsOperands isa (Some word) operands
unfolding meaning_of
meant_operands isa names values (Directive directive) has_label operands word e = directed isa names values directive has_label operands word e
meant_operands isa names values (Mnemonic opcode) has_label operands word e =
    elim (coded names (kind_of opcode) operands) as
    (λ c. coded names (kind_of opcode) operands ≡ c → option_map Code c ≡ Some word → HasItsOperands isa (Some word) operands) [
      | None ↦ λ is h. absurd (cc)
      | Some code ↦ λ is h.
          let P : Word → Type 0 = λ word. HasItsOperands isa (Some word) operands in
          subst P (same_Some (Code code) word h) (coded_operands isa names (kind_of opcode) operands code is)
    ] refl e
meant_operands isa names values (Words form) has_label operands word e =
    elim (op_meaning names form operands) as
    (λ o. op_meaning names form operands ≡ o → option_map Instruction o ≡ Some word → HasItsOperands isa (Some word) operands) [
      | None ↦ λ is h. absurd (cc)
      | Some op ↦ λ is h.
          let P : Word → Type 0 = λ word. HasItsOperands isa (Some word) operands in
          subst P (same_Some (Instruction op) word h) (chosen names values form operands op is)
    ] refl e
