-- What holds of each form's text: it is short, and its numbers have the digits that are written.
use Rattle.std.proofs.Common.{◌≡◌, ℕ, ◌+◌, ◌<◌, ◌≤◌, Bool, true, List, [], ◌∷◌, ◌++◌, length, drop, get_or, codes, add-one, append_assoc, drop-cons, length-append, arith, refl, ap, sym, ◌∙◌}
use Rattle.std.specs.Prelude.{map, sum, nat_le}
use Rattle.std.specs.List.{All, list_all}
use Rattle.std.proofs.lemmas.Bool.{and_parts, leb-true}
use Rattle.std.proofs.lemmas.List.Elements.{All-cons, All-nil}
use Rattle.chip8_words.specs.Codes.{IsValid, greatest_x, greatest_y, greatest_number}
use Rattle.chip8_words.specs.Table.{operands_of}
use Rattle.chip8_words.specs.Words.{HasItsDigits, op_text, operand_text, operands_text, text_size}
use Rattle.chip8_words.specs.declared.code.Op.{Op}
use Rattle.chip8_words.specs.declared.table.Form.{Form}
use Rattle.chip8_words.specs.declared.table.Form.TheVariants.{Clear}
use Rattle.chip8_words.specs.declared.table.Operand.{Operand}
use Rattle.chip8_words.specs.declared.table.Operand.TheVariants.{X, Y, Byte, Nibble}

abbrev op : Form → ℕ → ℕ → ℕ → Op
op form x y number = record { form = form; x = x; y = y; number = number }

of_form_short : (form : Form) (x y number : ℕ) → nat_le (length (op_text (op form x y number))) 15 ≡ true
of_form_short Clear x y number = refl
of_form_short _ x y number = refl

pub op_text-short : (o : Op) → length (op_text o) ≤ 15
op_text-short o = leb-true (length (op_text o)) 15 (of_form_short o.form o.x o.y o.number)

-- the greatest numbers of a form's fields have the digits that an operand is written with
abbrev digits_of : Form → Operand → Bool
digits_of form X = nat_le (sum (map greatest_x (operands_of form))) 15
digits_of form Y = nat_le (sum (map greatest_y (operands_of form))) 15
digits_of form Byte = nat_le (sum (map greatest_number (operands_of form))) 255
digits_of form Nibble = nat_le (sum (map greatest_number (operands_of form))) 15
digits_of form _ = true

each_form : (form : Form) → list_all (digits_of form) (operands_of form) ≡ true
each_form Clear = refl
each_form _ = refl

module _ (o : Op) (v : IsValid o) where
  digits_fit : (operand : Operand) → digits_of o.form operand ≡ true → HasItsDigits o operand
  digits_fit X e = omega (arith, v.x, leb-true _ _ e)
  digits_fit Y e = omega (arith, v.y, leb-true _ _ e)
  digits_fit Byte e = omega (arith, v.number, leb-true _ _ e)
  digits_fit Nibble e = omega (arith, v.number, leb-true _ _ e)
  digits_fit _ e = tt

  all_fit : (operands : List Operand) → list_all (digits_of o.form) operands ≡ true → All (HasItsDigits o) operands
  all_fit [] e = All-nil (HasItsDigits o)
  all_fit (operand ∷ operands) e =
      let both = and_parts (digits_of o.form operand) (list_all (digits_of o.form) operands) e in
      All-cons (HasItsDigits o) operand operands (digits_fit operand both.0) (all_fit operands both.1)

pub digits-fit : (o : Op) → IsValid o → All (HasItsDigits o) (operands_of o.form)
digits-fit o v = all_fit o v (operands_of o.form) (each_form o.form)

length-operand_text : (o : Op) (operand : Operand) → length (operand_text o operand) ≡ text_size operand
length-operand_text o X = refl
length-operand_text o _ = refl

-- a text to which the operands from the i-th on are lacking, and the next one of them
module _
    (o : Op) (items lead : List ℕ) (operands : List Operand) (i : ℕ)
    (more : i < length operands) (whole : items ++ operands_text o lead (drop i operands) ≡ op_text o) where
  abbrev operand : Operand
  operand = get_or operands i X

  pub with_next : ((items ++ lead) ++ operand_text o operand) ++ operands_text o (codes ", ") (drop (i + 1) operands) ≡ op_text o
  with_next =
      rw (append_assoc items lead (operand_text o operand), append_assoc, add-one)
      (ap (λ left. items ++ operands_text o lead left) (sym (drop-cons operands i X more)) ∙ whole)

  pub has_room : length items + length lead + text_size operand ≤ 15
  has_room =
      let rest = operands_text o (codes ", ") (drop (i + 1) operands) in
      omega (
        arith,
        op_text-short o,
        ap length with_next,
        length-append ((items ++ lead) ++ operand_text o operand) rest,
        length-append (items ++ lead) (operand_text o operand),
        length-append items lead,
        length-operand_text o operand,
      )
