-- The form that operands choose.
use Rattle.std.proofs.Common.{◌≡◌, ◌+◌, ◌-◌, ◌<◌, ◌≤◌, ℕ, suc, refl, Bool, List, [], ◌∷◌, length, sym, ◌∙◌, ap, subst, arith, true, false, cond, Some, None, Option}
use Rattle.std.specs.Prelude.{◌&&◌, ◌||◌, not, nat_le, map, sum, option_map, IfSome}
use Rattle.std.specs.Option.{option_or}
use Rattle.std.specs.Str.{bytes_eq}
use Rattle.std.specs.Char.{is_ascii_hexdigit, digit_value}
use Rattle.std.proofs.lemmas.Bool.{and_parts, agree_below_at, leb-true}
use Rattle.std.proofs.lemmas.Option.{cond_some, option_and_then_some, same_Some}
use Rattle.std.proofs.lemmas.List.Sums.{sum_by-cons}
use Rattle.chip8_words.specs.declared.code.Op.{Op}
use Rattle.chip8_words.specs.declared.table.Form.{Form}
use Rattle.chip8_words.specs.declared.table.Form.TheVariants.{Clear, Right, Left}
use Rattle.chip8_words.specs.declared.table.Operand.{Operand}
use Rattle.chip8_words.specs.declared.table.Operand.TheVariants.{X, Y, V0, Byte, Address, Nibble, Index, AtIndex, DelayTimer, SoundTimer, Key, Font, Decimal}
use Rattle.chip8_words.specs.Codes.{greatest_x, greatest_y, greatest_number}
use Rattle.chip8_words.specs.Table.{forms, mnemonic_of, operands_of}
use Rattle.asm_lex.specs.declared.shape.Isa.TheVariants.{Chip8}
use Rattle.asm_lex.specs.declared.shape.SymbolValue.{SymbolValue}
use Rattle.asm_lex.specs.declared.shape.SymbolValue.TheVariants.{Number, Register}
use Rattle.asm_lex.specs.Bytes.{register_of}
use Rattle.asm_lex.specs.Expressions.{is_expression}
use Rattle.asm_lex.specs.Names.{Names, HasValues, IsValue, register_from, register_named, is_number}
use Rattle.asm_lex.specs.Forms.{register_in, is_operand, with_operand, with_operands, written_operands, bare, form_meaning, same_meaning, first_given, op_meaning, most_of, last_operand, HasItsNumber}

-- ---- registers

second : (a b : Bool) → (a || b) ≡ true → a ≡ false → b ≡ true
second true b either other = absurd (cc)
second false b either other = either

hex_low : (digit : ℕ) → is_ascii_hexdigit digit ≡ true → digit < 103
hex_low digit e = grind arith

hex_value : (digit : ℕ) → is_ascii_hexdigit digit ≡ true → digit_value digit ≤ 15
hex_value digit e =
    leb-true _ _ (second (not (is_ascii_hexdigit digit)) (nat_le (digit_value digit) 15) (agree_below_at
    (λ digit. not (is_ascii_hexdigit digit) || nat_le (digit_value digit) 15) (λ digit. true) 103 digit refl (hex_low digit e)) (ap not e))

register_of-within : (letter : ℕ) (text : List ℕ) (r : ℕ) → register_of letter text ≡ Some r → r ≤ 15
register_of-within letter [] r e = absurd (cc)
register_of-within letter (a ∷ []) r e = absurd (cc)
register_of-within letter (a ∷ digit ∷ []) r e =
    let parts = cond_some (_ && is_ascii_hexdigit digit) (digit_value digit) r e in
    subst (λ n. n ≤ 15) parts.1 (hex_value digit (and_parts _ _ parts.0).1)
register_of-within letter (a ∷ b ∷ c ∷ rest) r e = absurd (cc)

register_from-within : (value : Option SymbolValue) (r : ℕ) → IfSome value IsValue → register_from value ≡ Some r → r ≤ 15
register_from-within None r is e = absurd (cc)
register_from-within (Some (Number n)) r is e = absurd (cc)
register_from-within (Some (Register register)) r is e = subst (λ n. n ≤ 15) (same_Some register r e) is

pub register_in-within : (names : Names) → HasValues names → (text : List ℕ) (r : ℕ) → register_in names text ≡ Some r → r ≤ 15
unfolding register_in
register_in-within names values text r e =
    elim (register_of 86 text) as (λ o. register_of 86 text ≡ o → option_or o (register_named names text) ≡ Some r → r ≤ 15) [
      | None ↦ λ is h. register_from-within (names text) r (values text) h
      | Some register ↦ λ is h. register_of-within 86 text r (is ∙ h)
    ] refl e

-- ---- operands

-- the greatest number of the last operand
abbrev last_number : List Operand → ℕ
last_number [] = 0
last_number (due ∷ []) = greatest_number due
last_number (due ∷ more ∷ rest) = last_number (more ∷ rest)

most_is_last : (form : Form) → most_of form ≡ last_number (operands_of form)
most_is_last Clear = refl
most_is_last _ = refl

last-more : (a b : List ℕ) (rest : List (List ℕ)) → last_operand (a ∷ b ∷ rest) ≡ last_operand (b ∷ rest)
last-more a b rest =
    let first : suc (suc (length rest)) - 1 ≡ suc (length rest) = omega arith in
    let second : suc (length rest) - 1 ≡ length rest = omega arith in
    rw (first, second) refl

sum-more : (n : ℕ) (ns : List ℕ) → sum (n ∷ ns) ≡ n + sum ns
sum-more n ns = sum_by-cons (λ n. n) n ns

-- what the operands add to the parts of an opcode
pub record Adds (old : Op) (due : List Operand) (texts : List (List ℕ)) (new : Op) : Type 0 where
  pub form : new.form ≡ old.form
  pub x : new.x ≤ old.x + sum (map greatest_x due)
  pub y : new.y ≤ old.y + sum (map greatest_y due)
  pub number : new.number ≡ old.number
  pub last : 0 < last_number due → is_expression Chip8 (last_operand texts) ≡ true

record AddsOne (old : Op) (due : Operand) (text : List ℕ) (new : Op) : Type 0 where
  form : new.form ≡ old.form
  x : new.x ≤ old.x + greatest_x due
  y : new.y ≤ old.y + greatest_y due
  number : new.number ≡ old.number
  last : 0 < greatest_number due → is_expression Chip8 text ≡ true

counted : (names : Names) (old : Op) (due : List Operand) (texts : List (List ℕ)) (new : Op) → with_operands names old due texts ≡ Some new
    → length texts ≡ length due
counted names old [] [] new e = refl
counted names old [] (text ∷ texts) new e = absurd (cc)
counted names old (due ∷ all_due) [] new e = absurd (cc)
counted names old (due ∷ all_due) (text ∷ texts) new e =
    option_and_then_some (λ op. with_operands names op all_due texts) (with_operand names old due text) new e (λ mid one more.
    ap suc (counted names mid all_due texts new more))

in_form : (names : Names) (form named : Form) (texts : List (List ℕ)) (op : Op) → same_meaning names named texts form ≡ Some op
    → form_meaning names form texts ≡ Some op
in_form names form named texts op e =
    elim (bytes_eq (mnemonic_of form) (mnemonic_of named)) as
    (λ b. cond b (form_meaning names form texts) None ≡ Some op → form_meaning names form texts ≡ Some op) [
      | true ↦ λ h. h
      | false ↦ λ h. absurd (cc)
    ] e

given : (f : Form → Option Op) (forms : List Form) (op : Op) → first_given f forms ≡ Some op → (form : Form) × (f form ≡ Some op)
given f [] op e = absurd (cc)
given f (form ∷ forms) op e =
    elim (f form) as (λ o. f form ≡ o → option_or o (first_given f forms) ≡ Some op → (form : Form) × (f form ≡ Some op)) [
      | None ↦ λ is h. given f forms op h
      | Some first ↦ λ is h. (form, is ∙ h)
    ] refl e

module _ (names : Names) (values : HasValues names) where
  same : (old : Op) (due : Operand) (text : List ℕ) (new : Op) → (0 < greatest_number due → is_expression Chip8 text ≡ true) → old ≡ new
      → AddsOne old due text new
  same old due text new last e =
      let P : Op → Type 0 = λ new. AddsOne old due text new in
      subst P e (record { form = refl; x = omega arith; y = omega arith; number = refl; last = last })

  is_number-expression : (text : List ℕ) → is_number Chip8 names text ≡ true → is_expression Chip8 text ≡ true
  unfolding is_number
  is_number-expression text e = (and_parts _ _ e).0

  adds_other : (old : Op) (due : Operand) (text : List ℕ) (new : Op)
      → (is_operand names due text ≡ true → 0 < greatest_number due → is_expression Chip8 text ≡ true)
      → cond (is_operand names due text) (Some old) None ≡ Some new → AddsOne old due text new
  adds_other old due text new last e =
      let parts = cond_some (is_operand names due text) old new e in
      same old due text new (last parts.0) parts.1

  adds_one : (old : Op) (due : Operand) (text : List ℕ) (new : Op) → with_operand names old due text ≡ Some new → AddsOne old due text new
  unfolding is_operand
  adds_one old X text new e =
      elim (register_in names text) as
      (λ o. register_in names text ≡ o → option_map (λ x. record { form = old.form; x = x; y = old.y; number = old.number }) o ≡ Some new
      → AddsOne old X text new) [
        | None ↦ λ is h. absurd (cc)
        | Some r ↦ λ is h.
            let P : Op → Type 0 = λ new. AddsOne old X text new in
            let small = register_in-within names values text r is in
            subst P (same_Some (record { form = old.form; x = r; y = old.y; number = old.number }) new h)
            (record { form = refl; x = omega arith; y = omega arith; number = refl; last = λ none. absurd (omega arith) })
      ] refl e
  adds_one old Y text new e =
      elim (register_in names text) as
      (λ o. register_in names text ≡ o → option_map (λ y. record { form = old.form; x = old.x; y = y; number = old.number }) o ≡ Some new
      → AddsOne old Y text new) [
        | None ↦ λ is h. absurd (cc)
        | Some r ↦ λ is h.
            let P : Op → Type 0 = λ new. AddsOne old Y text new in
            let small = register_in-within names values text r is in
            subst P (same_Some (record { form = old.form; x = old.x; y = r; number = old.number }) new h)
            (record { form = refl; x = omega arith; y = omega arith; number = refl; last = λ none. absurd (omega arith) })
      ] refl e
  adds_one old Byte text new e = adds_other old Byte text new (λ is some. is_number-expression text is) e
  adds_one old Address text new e = adds_other old Address text new (λ is some. is_number-expression text is) e
  adds_one old Nibble text new e = adds_other old Nibble text new (λ is some. is_number-expression text is) e
  adds_one old V0 text new e = adds_other old V0 text new (λ is none. absurd (omega arith)) e
  adds_one old Index text new e = adds_other old Index text new (λ is none. absurd (omega arith)) e
  adds_one old AtIndex text new e = adds_other old AtIndex text new (λ is none. absurd (omega arith)) e
  adds_one old DelayTimer text new e = adds_other old DelayTimer text new (λ is none. absurd (omega arith)) e
  adds_one old SoundTimer text new e = adds_other old SoundTimer text new (λ is none. absurd (omega arith)) e
  adds_one old Key text new e = adds_other old Key text new (λ is none. absurd (omega arith)) e
  adds_one old Font text new e = adds_other old Font text new (λ is none. absurd (omega arith)) e
  adds_one old Decimal text new e = adds_other old Decimal text new (λ is none. absurd (omega arith)) e

  joined : (old mid new : Op) (due : Operand) (text : List ℕ) (all_due : List Operand) (texts : List (List ℕ)) → length texts ≡ length all_due
      → AddsOne old due text mid
      → Adds mid all_due texts new → Adds old (due ∷ all_due) (text ∷ texts) new
  joined old mid new due text [] [] count one rest = record {
    form = rest.form ∙ one.form;
    x = omega (arith, rest.x, one.x);
    y = omega (arith, rest.y, one.y);
    number = rest.number ∙ one.number;
    last = one.last;
  }
  joined old mid new due text [] (b ∷ texts) count one rest = absurd (omega arith)
  joined old mid new due text (more ∷ all_due) [] count one rest = absurd (omega arith)
  joined old mid new due text (more ∷ all_due) (b ∷ texts) count one rest =
      let xs = sum-more (greatest_x due) (map greatest_x (more ∷ all_due)) in
      let ys = sum-more (greatest_y due) (map greatest_y (more ∷ all_due)) in
      record {
        form = rest.form ∙ one.form;
        x = omega (arith, rest.x, one.x, xs);
        y = omega (arith, rest.y, one.y, ys);
        number = rest.number ∙ one.number;
        last = λ some. ap (is_expression Chip8) (last-more text b texts) ∙ rest.last some;
      }

  pub adds : (old : Op) (due : List Operand) (texts : List (List ℕ)) (new : Op) → with_operands names old due texts ≡ Some new → Adds old due texts new
  adds old [] [] new e =
      let P : Op → Type 0 = λ new. Adds old [] [] new in
      subst P (same_Some old new e)
      (record { form = refl; x = omega arith; y = omega arith; number = refl; last = λ none. absurd (omega arith) })
  adds old [] (text ∷ texts) new e = absurd (cc)
  adds old (due ∷ all_due) [] new e = absurd (cc)
  adds old (due ∷ all_due) (text ∷ texts) new e =
      option_and_then_some (λ op. with_operands names op all_due texts) (with_operand names old due text) new e (λ mid one more.
      joined old mid new due text all_due texts (counted names mid all_due texts new more) (adds_one old due text mid one) (adds mid all_due texts new more))

  -- ---- forms

  -- a form that has a number is written with its operands as they stand
  as_written : (form : Form) (texts : List (List ℕ)) → 0 < most_of form → written_operands form texts ≡ texts
  as_written Right texts some = absurd (omega arith)
  as_written Left texts some = absurd (omega arith)
  as_written _ texts some = refl

  has_operands : (form : Form) → 0 < most_of form → 0 < length (operands_of form)
  has_operands Clear some = absurd (omega arith)
  has_operands _ some = omega arith

  meant : (form : Form) (texts : List (List ℕ)) (op : Op) → form_meaning names form texts ≡ Some op → HasItsNumber op texts
  unfolding form_meaning
  meant form texts op e =
      let found = adds (bare form) (operands_of form) (written_operands form texts) op e in
      let count = counted names (bare form) (operands_of form) (written_operands form texts) op e in
      let form_is : op.form ≡ form = found.form in
      let most : most_of op.form ≡ most_of form = ap most_of form_is in
      let P : List (List ℕ) → Type 0 = λ written. is_expression Chip8 (last_operand written) ≡ true in
      record {
        valid = record {
          x = subst (λ form. op.x ≤ sum (map greatest_x (operands_of form))) (sym form_is) (omega (arith, found.x));
          y = subst (λ form. op.y ≤ sum (map greatest_y (operands_of form))) (sym form_is) (omega (arith, found.y));
          number = omega (arith, found.number);
        };
        none_yet = found.number;
        some = λ some. omega (arith, ap length (as_written form texts (omega (arith, most))), count, has_operands form (omega (arith, most)));
        number = λ some. subst P (as_written form texts (omega (arith, most))) (found.last (omega (arith, most_is_last form, most)));
      }

  pub chosen : (named : Form) (texts : List (List ℕ)) (op : Op) → op_meaning names named texts ≡ Some op → HasItsNumber op texts
  unfolding op_meaning
  chosen named texts op e =
      let found = given (same_meaning names named texts) forms op e in
      meant found.0 texts op (in_form names found.0 named texts op found.1)

-- no form takes so many operands
few_operands : (form : Form) → length (operands_of form) ≤ 3
few_operands Clear = omega arith
few_operands _ = omega arith

written_many : (form : Form) (a b : List ℕ) (rest : List (List ℕ)) → written_operands form (a ∷ b ∷ rest) ≡ a ∷ b ∷ rest
written_many Right a b rest = refl
written_many _ a b rest = refl

no_form : (names : Names) (form : Form) (a b : List ℕ) (rest : List (List ℕ)) (op : Op) → form_meaning names form (a ∷ b ∷ rest) ≡ Some op → length rest ≤ 1
unfolding form_meaning
no_form names form a b rest op e =
    omega (
      arith,
      counted names (bare form) (operands_of form) (written_operands form (a ∷ b ∷ rest)) op e,
      ap length (written_many form a b rest),
      few_operands form,
    )

pub no_op : (names : Names) (named : Form) (a b : List ℕ) (rest : List (List ℕ)) → 1 < length rest → op_meaning names named (a ∷ b ∷ rest) ≡ None
unfolding op_meaning
no_op names named a b rest many =
    elim (first_given (same_meaning names named (a ∷ b ∷ rest)) forms) as
    (λ o. first_given (same_meaning names named (a ∷ b ∷ rest)) forms ≡ o → o ≡ None) [
      | None ↦ λ is. refl
      | Some op ↦ λ is.
          let found = given (same_meaning names named (a ∷ b ∷ rest)) forms op is in
          absurd (omega (arith, no_form names found.0 a b rest op (in_form names found.0 named (a ∷ b ∷ rest) op found.1)))
    ] refl
