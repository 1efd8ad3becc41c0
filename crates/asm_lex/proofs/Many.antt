-- More than 128 operands do not fit a line.
use Rattle.std.proofs.Common.{◌≡◌, ◌+◌, ◌*◌, ◌<◌, ◌≤◌, ℕ, suc, refl, Bool, List, [], ◌∷◌, length, sym, ◌∙◌, arith, true, false, cond, Some, None}
use Rattle.std.specs.Prelude.{map, ◌==◌, not}
use Rattle.std.specs.List.{list_all, slice_split, onto_first}
use Rattle.std.proofs.lemmas.Bool.{and_parts, and_from, and_right, cond-false, ne_eqb, both_ways, false_from_ne_true}
use Rattle.asm_lex.specs.Bytes.{is_comma, is_name, is_reserved, spells}
use Rattle.asm_lex.specs.Parts.{trimmed, operands_in, without_leading_blanks, without_trailing_blanks}
use Rattle.asm_lex.specs.Expressions.{is_expression, sum_in, written_value, number_in, is_here}
use Rattle.asm_lex.specs.Words.{Numbers, numbers_of, are_so_many, may_stand, number_written, takes, register_given, gives_register, meaning_of, coded}
use Rattle.asm_lex.specs.Words.Numbers.{Zero, OneOrMore}
use Rattle.asm_lex.specs.Names.{Names, is_number}
use Rattle.asm_lex.specs.declared.shape.Isa.{Isa}
use Rattle.asm_lex.specs.declared.shape.Isa.TheVariants.{Cdp1802, Chip8}
use Rattle.asm_lex.proofs.Chosen.{no_op}
use Rattle.machine.specs.Opcodes.{kind_of}
use Rattle.asm_lex.specs.declared.shape.Word.{Word}
use Rattle.asm_lex.specs.declared.shape.Word.TheVariants.{Equ}
use Rattle.vip_isa.specs.Rows.{operands_of}
use Rattle.vip_isa.specs.declared.rows.Operands.{Operands}
use Rattle.vip_isa.specs.declared.rows.Operands.TheVariants.{Nothing, Register, Port, Data}
use Rattle.asm_lex.specs.declared.words.Entry.TheVariants.{Directive, Mnemonic, Words}
use Rattle.std.proofs.lemmas.List.Splits.{length-slice_split}
use Rattle.std.proofs.lemmas.List.Folds.{list_all-map}
use Rattle.std.proofs.lemmas.List.{length-map}
use Rattle.asm_lex.specs.declared.words.Entry.{Entry}

-- the bytes of the first part, and for each part behind it one byte and the one at which the text is cut
abbrev weight : List (List ℕ) → ℕ
weight [] = 0
weight (part ∷ parts) = length part + 2 * length parts

abbrev behind_first : (List ℕ → Bool) → List (List ℕ) → Bool
behind_first p [] = true
behind_first p (part ∷ parts) = list_all p parts

some_part : (cuts : ℕ → Bool) (xs : List ℕ) → 0 < length (slice_split cuts xs)
some_part cuts xs = omega (arith, length-slice_split cuts xs)

from_all : (p : List ℕ → Bool) → p [] ≡ false → (parts : List (List ℕ)) → 0 < length parts → list_all p parts ≡ true
    → (behind_first p parts ≡ true) × (2 * length parts ≤ weight parts + 1)
from_all p empty [] there all = absurd (omega arith)
from_all p empty ([] ∷ parts) there all = absurd (both_ways (p []) empty (and_parts _ _ all).0)
from_all p empty ((b ∷ bs) ∷ parts) there all = ((and_parts _ _ all).1, omega arith)

weight-onto : (x : ℕ) (parts : List (List ℕ)) → 0 < length parts → weight (onto_first x parts) ≡ weight parts + 1
weight-onto x [] there = absurd (omega arith)
weight-onto x (part ∷ parts) there = omega arith

behind-onto : (p : List ℕ → Bool) (x : ℕ) (parts : List (List ℕ)) → 0 < length parts → behind_first p (onto_first x parts) ≡ behind_first p parts
behind-onto p x [] there = absurd (omega arith)
behind-onto p x (part ∷ parts) there = refl

-- parts of which none behind the first is empty
parts_fit : (cuts : ℕ → Bool) (p : List ℕ → Bool) → p [] ≡ false → (xs : List ℕ) → behind_first p (slice_split cuts xs) ≡ true
    → weight (slice_split cuts xs) ≤ length xs
parts_fit cuts p empty [] all = omega arith
parts_fit cuts p empty (x ∷ xs) all =
    let parts = slice_split cuts xs in
    elim (cuts x) as (λ b. behind_first p (cond b ([] ∷ parts) (onto_first x parts)) ≡ true
    → weight (cond b ([] ∷ parts) (onto_first x parts)) ≤ suc (length xs)) [
      | true ↦ λ h. let found = from_all p empty parts (some_part cuts xs) h in omega (arith, found.1, parts_fit cuts p empty xs found.0)
      | false ↦ λ h. omega (arith, weight-onto x parts (some_part cuts xs), parts_fit cuts p empty xs (sym (behind-onto p x parts (some_part cuts xs)) ∙ h))
    ] all

few_parts : (cuts : ℕ → Bool) (p : List ℕ → Bool) → p [] ≡ false → (xs : List ℕ) → list_all p (slice_split cuts xs) ≡ true
    → 2 * length (slice_split cuts xs) ≤ length xs + 1
few_parts cuts p empty xs all =
    let found = from_all p empty (slice_split cuts xs) (some_part cuts xs) all in
    omega (arith, found.1, parts_fit cuts p empty xs found.0)

-- the empty text is no expression, also without its blanks
no_expression : (isa : Isa) → is_expression isa (trimmed []) ≡ false
unfolding is_expression sum_in written_value number_in is_here is_name is_reserved spells without_leading_blanks without_trailing_blanks
no_expression Cdp1802 = refl
no_expression Chip8 = refl

-- of more than 128 operands some one is no expression
not_all : (isa : Isa) (text : List ℕ) → length text ≤ 255 → 128 < length (operands_in text) → list_all (is_expression isa) (operands_in text) ≡ false
unfolding operands_in
not_all isa text short many =
    elim (length text == 0) as (λ b. 128 < length (cond b [] (map trimmed (slice_split is_comma text)))
    → list_all (is_expression isa) (cond b [] (map trimmed (slice_split is_comma text))) ≡ false) [
      | true ↦ λ h. absurd (omega arith)
      | false ↦ λ h. false_from_ne_true _ (λ all.
          let each : list_all (λ part. is_expression isa (trimmed part)) (slice_split is_comma text) ≡ true =
          sym (list_all-map (is_expression isa) trimmed (slice_split is_comma text)) ∙ all in
          let few = few_parts is_comma (λ part. is_expression isa (trimmed part)) (no_expression isa) text each in
          omega (arith, length-map (slice_split is_comma text) trimmed))
    ] many

none_written : (names : Names) (kind : Operands) (a b : List ℕ) (rest : List (List ℕ)) → number_written names kind (a ∷ b ∷ rest) ≡ None
none_written names Register a b rest = refl
none_written names Port a b rest = refl
none_written names Nothing a b rest = cond-false (length (a ∷ b ∷ rest) == 0) (Some 0) None (ne_eqb (length (a ∷ b ∷ rest)) 0 (λ e. omega arith))
none_written names Data a b rest = cond-false (length (a ∷ b ∷ rest) == 0) (Some 0) None (ne_eqb (length (a ∷ b ∷ rest)) 0 (λ e. omega arith))
none_written names _ a b rest = refl

-- what is no expression is no number
no_number : (isa : Isa) (names : Names) (text : List ℕ) → is_number isa names text ≡ true → is_expression isa text ≡ true
unfolding is_number
no_number isa names text e = (and_parts _ _ e).0

all_numbers : (isa : Isa) (names : Names) (texts : List (List ℕ)) → list_all (is_number isa names) texts ≡ true → list_all (is_expression isa) texts ≡ true
all_numbers isa names [] e = refl
all_numbers isa names (text ∷ texts) e =
    let parts = and_parts _ _ e in
    and_from _ _ (no_number isa names text parts.0) (all_numbers isa names texts parts.1)

none_given : (isa : Isa) (names : Names) (a b : List ℕ) (rest : List (List ℕ)) → register_given isa names (a ∷ b ∷ rest) ≡ None
unfolding register_given
none_given Cdp1802 names a b rest = refl
none_given Chip8 names a b rest = refl

no_given : (isa : Isa) (names : Names) (a b : List ℕ) (rest : List (List ℕ)) (has_label : Bool)
    → cond has_label (register_given isa names (a ∷ b ∷ rest)) None ≡ None
no_given isa names a b rest true = none_given isa names a b rest
no_given isa names a b rest false = refl

module _ (isa : Isa) (names : Names) (has_label : Bool) (a b : List ℕ) (rest : List (List ℕ)) (wrong : list_all (is_expression isa) (a ∷ b ∷ rest) ≡ false) where
  no_numbers : list_all (is_number isa names) (a ∷ b ∷ rest) ≡ false
  no_numbers = false_from_ne_true _ (λ all. both_ways _ wrong (all_numbers isa names (a ∷ b ∷ rest) all))

  not_so_many : (numbers : Numbers) → are_so_many (is_number isa names) numbers (a ∷ b ∷ rest) ≡ false
  not_so_many Zero = ne_eqb (length (a ∷ b ∷ rest)) 0 (λ e. omega arith)
  not_so_many OneOrMore = and_right (not (length (a ∷ b ∷ rest) == 0)) (list_all (is_number isa names) (a ∷ b ∷ rest)) no_numbers
  not_so_many _ = refl

  not_taken : (directive : Word) → takes isa names directive has_label (a ∷ b ∷ rest) ≡ false
  not_taken directive = and_right (may_stand directive has_label) _ (not_so_many (numbers_of directive))

  no_register : (directive : Word) → gives_register isa names directive has_label (a ∷ b ∷ rest) ≡ None
  no_register Equ = no_given isa names a b rest has_label
  no_register _ = refl

no_meaning : (isa : Isa) (names : Names) (entry : Entry) (has_label : Bool) (operands : List (List ℕ)) → 5 ≤ length operands
    → list_all (is_expression isa) operands ≡ false
    → meaning_of isa names entry has_label operands ≡ None
unfolding meaning_of coded
no_meaning isa names entry has_label [] long wrong = absurd (omega arith)
no_meaning isa names entry has_label (a ∷ []) long wrong = absurd (omega arith)
no_meaning isa names (Mnemonic opcode) has_label (a ∷ b ∷ rest) long wrong = rw (none_written names (operands_of (kind_of opcode)) a b rest) refl
no_meaning isa names (Words form) has_label (a ∷ b ∷ rest) long wrong = rw (no_op names form a b rest (omega arith)) refl
no_meaning isa names (Directive directive) has_label (a ∷ b ∷ rest) long wrong =
    rw (no_register isa names has_label a b rest wrong directive, not_taken isa names has_label a b rest wrong directive) refl

-- more than 128 operands are wrong for each word
pub too_many : (isa : Isa) (names : Names) (entry : Entry) (has_label : Bool) (text : List ℕ) → length text ≤ 255 → 128 < length (operands_in text)
    → meaning_of isa names entry has_label (operands_in text) ≡ None
too_many isa names entry has_label text short many = no_meaning isa names entry has_label (operands_in text) (omega arith) (not_all isa text short many)
