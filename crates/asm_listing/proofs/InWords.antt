-- What the assembler makes of an instruction of CHIP-8 in words.
use Rattle.std.proofs.Common.{◌≡◌, ◌+◌, ◌-◌, ◌/◌, ◌%◌, ◌<◌, ◌≤◌, ℕ, zero, suc, refl, Bool, List, [], ◌∷◌, ◌++◌, length, sym, ◌∙◌, ap, subst, arith, true, false, Some, None, Option, Ok, Result, cond, eqb, ltb-true, leb-true}
use Rattle.std.specs.Prelude.{◌&&◌, ◌||◌, ◌==◌, not, nat_le, nat_lt, All, map, sum, codes, is_some, option_and_then, slice_index, slice_index_or, unwrap_or, find, IfSome}
use Rattle.std.specs.Option.{option_map, option_map_or, option_or, ok_or}
use Rattle.std.specs.Result.{result_map_both}
use Rattle.std.specs.Str.{bytes_eq}
use Rattle.std.specs.List.{list_all, list_any}
use Rattle.std.proofs.lemmas.Bool.{and_parts, and_from, ltb-false}
use Rattle.std.proofs.lemmas.Option.{IfSome_then}
use Rattle.std.proofs.lemmas.List.Elements.{All-head, All-tail}
use Rattle.vip_byte.specs.HexText.{hex_digit, hex2, hex4}
use Rattle.vip_isa.proofs.Below.{at-passes_below}
use Rattle.chip8_words.specs.declared.code.Op.{Op}
use Rattle.chip8_words.specs.declared.table.Form.{Form}
use Rattle.chip8_words.specs.declared.table.Form.TheVariants.{Clear, Return, Right, Left}
use Rattle.chip8_words.specs.declared.table.Operand.{Operand}
use Rattle.chip8_words.specs.declared.table.Operand.TheVariants.{X, Y, V0, Byte, Address, Nibble, AtIndex, DelayTimer, SoundTimer, Key}
use Rattle.chip8_words.specs.declared.table.Operand.TheVariants as due
use Rattle.chip8_words.specs.Table.{forms, mnemonic_of, operands_of}
use Rattle.chip8_words.specs.Codes.{IsValid, greatest_x, greatest_y, greatest_number, decoded, encoded as opcode_of_parts}
use Rattle.chip8_words.specs.Words.{HasItsDigits, operand_text, op_text, words_of, opcode_words}
use Rattle.chip8_words.proofs.Decoding.{right}
use Rattle.chip8_words.proofs.OpTexts.{digits-fit}
use Rattle.asm_lex.specs.declared.shape.Isa.TheVariants.{Chip8}
use Rattle.asm_lex.specs.declared.shape.Word.TheVariants.{Instruction}
use Rattle.asm_lex.specs.declared.shape.LexFault.TheVariants.{BadOperand}
use Rattle.asm_lex.specs.Bytes.{spells, register_of, is_reserved, is_name}
use Rattle.asm_lex.specs.Expressions.{sum_in, number_in, written_value, is_here, is_expression, has_large_number}
use Rattle.asm_lex.specs.Forms.{register_in, is_operand, with_x, with_y, with_operand, with_operands, one_twice, written_operands, bare, form_meaning, form_named, first_given, op_meaning, most_of, last_operand}
use Rattle.asm_lex.specs.Lines.{entry_meaning, word_meaning, parsed}
use Rattle.asm_lex.specs.Names.{Names, names_register, is_number}
use Rattle.asm_lex.specs.Words.{directive_of, mnemonic_entry, entry_of, meaning_of}
use Rattle.asm_core.specs.declared.layout.LabelValue.TheVariants.{Address as Place}
use Rattle.asm_core.specs.Names.{operand_value}
use Rattle.asm_lex.specs.Ranges.{last_of}
use Rattle.asm_core.specs.Layout.{placed, encoded_parts, count_between}
use Rattle.asm_core.specs.Encoding.{word_bytes, with_number, op_bytes, value_cause}
use Rattle.asm_listing.specs.Disassembly.{word_in}
use Rattle.asm_listing.proofs.Plain.{IsPlain, IsSolid, AreSolid, is_plain, parts_of, joined, behind, all_solid, parsed-any}
use Rattle.asm_listing.proofs.Values.{hex_text, no_names, found, digit_plain, byte_plain, word_plain, digit_text_plain, byte_number, word_number, digit_number, one_number, small_number, number_operand}
use Rattle.asm_listing.proofs.Makes.{Makes, has_no_label, line_laid, parts_encoded, word_makes}
use Rattle.asm_listing.proofs.Assembled.{AreBytes, byte_low}

is_false : (b : Bool) → not b ≡ true → b ≡ false
is_false true e = absurd (cc)
is_false false e = refl

-- ---- what a written operand is

-- the register that it names
abbrev register_by : Op → Operand → Option ℕ
register_by op X = Some op.x
register_by op Y = Some op.y
register_by op V0 = Some 0
register_by op _ = None

abbrev is_numeric : Operand → Bool
is_numeric Byte = true
is_numeric Address = true
is_numeric Nibble = true
is_numeric _ = false

-- the words, by number
abbrev word_rank : Operand → ℕ
word_rank due.Index = 1
word_rank AtIndex = 2
word_rank DelayTimer = 3
word_rank SoundTimer = 4
word_rank Key = 5
word_rank due.Font = 6
word_rank due.Decimal = 7
word_rank _ = 0

-- an operand with this register, a number or not, and of this word, is the one that is needed
abbrev accepts_by : Option ℕ → Bool → ℕ → Operand → Bool
accepts_by register numeric word X = is_some register
accepts_by register numeric word Y = is_some register
accepts_by register numeric word V0 = option_map_or (λ register. register == 0) register false
accepts_by register numeric word Byte = numeric
accepts_by register numeric word Address = numeric
accepts_by register numeric word Nibble = numeric
accepts_by register numeric word needed = word == word_rank needed

abbrev accepts : Op → Operand → Operand → Bool
accepts op written needed = accepts_by (register_by op written) (is_numeric written) (word_rank written) needed

-- what is written is read as such
record Reads (op : Op) (written : Operand) : Type 0 where
  register : register_in no_names (operand_text op written) ≡ register_by op written
  operand : (needed : Operand) → is_operand no_names needed (operand_text op written) ≡ accepts op written needed
  small : has_large_number Chip8 (operand_text op written) ≡ false
  solid : IsSolid (operand_text op written)

-- a register by its digit
abbrev register_text : ℕ → List ℕ
register_text n = 86 ∷ hex_digit n ∷ []

register_is : (n : ℕ) → n < 16 → register_in no_names (register_text n) ≡ Some n
unfolding register_in
register_is n below =
    found _ n (at-passes_below (λ n. option_map_or (λ m. eqb m n) (option_or (register_of 86 (register_text n)) None) false) 16 refl n below)

no_number : (n : ℕ) → n < 16 → is_number Chip8 no_names (register_text n) ≡ false
unfolding is_number is_expression sum_in written_value number_in is_here is_name is_reserved spells names_register
no_number n below = is_false _ (at-passes_below (λ n. not (is_number Chip8 no_names (register_text n))) 16 refl n below)

small_register : (n : ℕ) → n < 16 → has_large_number Chip8 (register_text n) ≡ false
unfolding has_large_number sum_in written_value number_in
small_register n below = is_false _ (at-passes_below (λ n. not (has_large_number Chip8 (register_text n))) 16 refl n below)

as_register : (n : ℕ) → n < 16 → (needed : Operand) → is_operand no_names needed (register_text n) ≡ accepts_by (Some n) false 0 needed
unfolding is_operand spells
as_register n below X = ap is_some (register_is n below)
as_register n below Y = ap is_some (register_is n below)
as_register n below V0 = ap (λ r. option_map_or (λ register. register == 0) r false) (register_is n below)
as_register n below Byte = no_number n below
as_register n below Address = no_number n below
as_register n below Nibble = no_number n below
as_register n below _ = refl

register_solid : (n : ℕ) → n < 16 → IsSolid (register_text n)
register_solid n below = (all_solid (register_text n) (and_from _ _ refl (and_from _ _ (digit_plain n below) refl)), omega arith)

-- a number
no_register : (d : ℕ) (rest : List ℕ) → register_in no_names (hex_text (d ∷ rest)) ≡ None
unfolding register_in
no_register d rest = refl

as_number : (d : ℕ) (rest : List ℕ) → is_number Chip8 no_names (hex_text (d ∷ rest)) ≡ true
    → (needed : Operand) → is_operand no_names needed (hex_text (d ∷ rest)) ≡ accepts_by None true 0 needed
unfolding is_operand spells
as_number d rest is X = ap is_some (no_register d rest)
as_number d rest is Y = ap is_some (no_register d rest)
as_number d rest is V0 = ap (λ r. option_map_or (λ register. register == 0) r false) (no_register d rest)
as_number d rest is Byte = is
as_number d rest is Address = is
as_number d rest is Nibble = is
as_number d rest is _ = refl

module _ (op : Op) where
  number_reads : (written : Operand) (d : ℕ) (rest : List ℕ) → operand_text op written ≡ hex_text (d ∷ rest)
      → register_by op written ≡ None → is_numeric written ≡ true → word_rank written ≡ 0
      → IsPlain (hex_text (d ∷ rest)) → (v : ℕ) → written_value Chip8 (hex_text (d ∷ rest)) ≡ Some v → v ≤ 65535 → Reads op written
  number_reads written d rest text none numeric word plain v number low =
      let is = one_number Chip8 (hex_text (d ∷ rest)) plain (omega arith) v number in
      record {
        register = ap (register_in no_names) text ∙ no_register d rest ∙ sym none;
        operand = λ needed. ap (is_operand no_names needed) text ∙ as_number d rest is needed
            ∙ sym (ap (λ r. accepts_by r (is_numeric written) (word_rank written) needed) none
            ∙ ap (λ b. accepts_by None b (word_rank written) needed) numeric ∙ ap (λ n. accepts_by None true n needed) word);
        small = ap (has_large_number Chip8) text ∙ small_number Chip8 (hex_text (d ∷ rest)) plain (omega arith) v number low;
        solid = subst IsSolid (sym text) (all_solid (hex_text (d ∷ rest)) plain, omega arith);
      }

  -- a word
  module _ where
    index_is : (needed : Operand) → is_operand no_names needed (codes "I") ≡ accepts_by None false 1 needed
    unfolding is_operand register_in is_number is_expression sum_in written_value number_in is_here is_name is_reserved spells names_register
    index_is X = refl
    index_is _ = refl

    at_index_is : (needed : Operand) → is_operand no_names needed (codes "[I]") ≡ accepts_by None false 2 needed
    unfolding is_operand register_in is_number is_expression sum_in written_value number_in is_here is_name is_reserved spells names_register
    at_index_is X = refl
    at_index_is _ = refl

    delay_is : (needed : Operand) → is_operand no_names needed (codes "DT") ≡ accepts_by None false 3 needed
    unfolding is_operand register_in is_number is_expression sum_in written_value number_in is_here is_name is_reserved spells names_register
    delay_is X = refl
    delay_is _ = refl

    sound_is : (needed : Operand) → is_operand no_names needed (codes "ST") ≡ accepts_by None false 4 needed
    unfolding is_operand register_in is_number is_expression sum_in written_value number_in is_here is_name is_reserved spells names_register
    sound_is X = refl
    sound_is _ = refl

    key_is : (needed : Operand) → is_operand no_names needed (codes "K") ≡ accepts_by None false 5 needed
    unfolding is_operand register_in is_number is_expression sum_in written_value number_in is_here is_name is_reserved spells names_register
    key_is X = refl
    key_is _ = refl

    font_is : (needed : Operand) → is_operand no_names needed (codes "F") ≡ accepts_by None false 6 needed
    unfolding is_operand register_in is_number is_expression sum_in written_value number_in is_here is_name is_reserved spells names_register
    font_is X = refl
    font_is _ = refl

    decimal_is : (needed : Operand) → is_operand no_names needed (codes "B") ≡ accepts_by None false 7 needed
    unfolding is_operand register_in is_number is_expression sum_in written_value number_in is_here is_name is_reserved spells names_register
    decimal_is X = refl
    decimal_is _ = refl

  reads : (written : Operand) → HasItsDigits op written → op.number ≤ 65535 → Reads op written
  unfolding register_in has_large_number sum_in written_value number_in
  reads X digits low =
      record { register = register_is op.x digits; operand = as_register op.x digits; small = small_register op.x digits; solid = register_solid op.x digits }
  reads Y digits low =
      record { register = register_is op.y digits; operand = as_register op.y digits; small = small_register op.y digits; solid = register_solid op.y digits }
  reads V0 digits low =
      record {
        register = register_is 0 (omega arith);
        operand = as_register 0 (omega arith);
        small = small_register 0 (omega arith);
        solid = register_solid 0 (omega arith);
      }
  reads Byte digits low =
      number_reads Byte (hex_digit (op.number / 16)) (hex_digit (op.number % 16) ∷ []) refl refl refl refl (byte_plain op.number digits)
      op.number (byte_number Chip8 op.number digits) low
  reads Address digits low =
      number_reads Address (hex_digit (op.number / 256 / 16)) (hex_digit (op.number / 256 % 16) ∷ hex2 (op.number % 256)) refl refl refl refl
      (word_plain op.number (omega arith)) op.number (word_number Chip8 op.number (omega arith)) low
  reads Nibble digits low =
      number_reads Nibble (hex_digit op.number) [] refl refl refl refl (digit_text_plain op.number digits) op.number
      (digit_number Chip8 op.number digits) low
  reads due.Index digits low = record { register = refl; operand = index_is; small = refl; solid = (refl, omega arith) }
  reads AtIndex digits low = record { register = refl; operand = at_index_is; small = refl; solid = (refl, omega arith) }
  reads DelayTimer digits low = record { register = refl; operand = delay_is; small = refl; solid = (refl, omega arith) }
  reads SoundTimer digits low = record { register = refl; operand = sound_is; small = refl; solid = (refl, omega arith) }
  reads Key digits low = record { register = refl; operand = key_is; small = refl; solid = (refl, omega arith) }
  reads due.Font digits low = record { register = refl; operand = font_is; small = refl; solid = (refl, omega arith) }
  reads due.Decimal digits low = record { register = refl; operand = decimal_is; small = refl; solid = (refl, omega arith) }

-- ---- what written operands mean behind a mnemonic

abbrev kind_with : Op → Op → Operand → Operand → Option Op
kind_with op old X written = option_map (with_x old) (register_by op written)
kind_with op old Y written = option_map (with_y old) (register_by op written)
kind_with op old needed written = cond (accepts op written needed) (Some old) None

abbrev kinds_with : Op → Op → List Operand → List Operand → Option Op
kinds_with op old [] [] = Some old
kinds_with op old [] (written ∷ rest) = None
kinds_with op old (needed ∷ more) [] = None
kinds_with op old (needed ∷ more) (written ∷ rest) = option_and_then (λ old. kinds_with op old more rest) (kind_with op old needed written)

abbrev same_kinds : Op → Form → List Operand → Form → Option Op
same_kinds op named written form =
    cond (bytes_eq (mnemonic_of form) (mnemonic_of named)) (kinds_with op (bare form) (operands_of form) (written_operands form written)) None

module _ (op : Op) where
  one_kind : (old : Op) (needed written : Operand) → Reads op written
      → with_operand no_names old needed (operand_text op written) ≡ kind_with op old needed written
  one_kind old X written is = ap (option_map (with_x old)) is.register
  one_kind old Y written is = ap (option_map (with_y old)) is.register
  one_kind old needed written is = ap (λ b. cond b (Some old) None) (is.operand needed)

  abbrev AllRead : List Operand → Type 0
  AllRead written = All (Reads op) written

  all_kinds : (old : Op) (needed written : List Operand) → AllRead written
      → with_operands no_names old needed (map (operand_text op) written) ≡ kinds_with op old needed written
  all_kinds old [] [] is = refl
  all_kinds old [] (w ∷ written) is = refl
  all_kinds old (n ∷ needed) [] is = refl
  all_kinds old (n ∷ needed) (w ∷ written) is =
      ap (option_and_then (λ old. with_operands no_names old needed (map (operand_text op) written)))
      (one_kind old n w (All-head (Reads op) w written is))
      ∙ ap (λ f. option_and_then f (kind_with op old n w)) (λ i old. all_kinds old needed written (All-tail (Reads op) w written is) i)

  both_read : (w : Operand) → Reads op w → AllRead (w ∷ w ∷ [])
  both_read w is zero d below = is
  both_read w is (suc zero) d below = is
  both_read w is (suc (suc k)) d below = absurd (omega arith)

  twice_read : (written : List Operand) → AllRead written → AllRead (one_twice written)
  twice_read [] is = is
  twice_read (w ∷ []) is = both_read w (is 0 w (omega arith))
  twice_read (w ∷ more ∷ rest) is = is

  twice_texts : (written : List Operand) → one_twice (map (operand_text op) written) ≡ map (operand_text op) (one_twice written)
  twice_texts [] = refl
  twice_texts (w ∷ []) = refl
  twice_texts (w ∷ more ∷ rest) = refl

  written_read : (form : Form) (written : List Operand) → AllRead written → AllRead (written_operands form written)
  written_read Right written is = twice_read written is
  written_read Left written is = twice_read written is
  written_read _ written is = is

  written_texts : (form : Form) (written : List Operand)
      → written_operands form (map (operand_text op) written) ≡ map (operand_text op) (written_operands form written)
  written_texts Right written = twice_texts written
  written_texts Left written = twice_texts written
  written_texts _ written = refl

  form_kinds : (form : Form) (written : List Operand) → AllRead written
      → form_meaning no_names form (map (operand_text op) written) ≡ kinds_with op (bare form) (operands_of form) (written_operands form written)
  unfolding form_meaning
  form_kinds form written is =
      ap (with_operands no_names (bare form) (operands_of form)) (written_texts form written)
      ∙ all_kinds (bare form) (operands_of form) (written_operands form written) (written_read form written is)

  meaning_kinds : (named : Form) (written : List Operand) → AllRead written
      → op_meaning no_names named (map (operand_text op) written) ≡ first_given (same_kinds op named written) forms
  unfolding op_meaning
  meaning_kinds named written is =
      ap (λ f. first_given f forms) (λ i form.
      cond (bytes_eq (mnemonic_of form) (mnemonic_of named)) (form_kinds form written is i) None)

-- the first form with the mnemonic of a form
abbrev first_form : Form → Form
first_form form = unwrap_or (find (λ other. bytes_eq (mnemonic_of other) (mnemonic_of form)) forms) form

word_means : (form : Form) (operands : List (List ℕ)) → word_meaning Chip8 no_names false operands (mnemonic_of form)
    ≡ ok_or (option_map Some (option_map Instruction (op_meaning no_names (first_form form) operands))) BadOperand
unfolding word_meaning entry_meaning meaning_of entry_of directive_of spells mnemonic_entry form_named
word_means Clear operands = refl
word_means _ operands = refl

abbrev or_none : ℕ → ℕ → ℕ
or_none greatest field = cond (nat_lt 0 greatest) field 0

form_means : (form : Form) (x y number : ℕ)
    → first_given (same_kinds (record { form = form; x = x; y = y; number = number }) (first_form form) (operands_of form)) forms
    ≡ Some (record {
      form = form;
      x = or_none (sum (map greatest_x (operands_of form))) x;
      y = or_none (sum (map greatest_y (operands_of form))) y;
      number = 0;
    })
form_means Clear x y number = refl
form_means _ x y number = refl

or_none-valid : (greatest field : ℕ) → field ≤ greatest → or_none greatest field ≡ field
or_none-valid greatest field most =
    elim (nat_lt 0 greatest) as (λ b. nat_lt 0 greatest ≡ b → cond b field 0 ≡ field) [
      | true ↦ λ e. refl
      | false ↦ λ e. let none = ltb-false 0 greatest e in omega (arith, none, most)
    ] refl

-- the parts without the number
abbrev unnumbered : Op → Op
unnumbered op = record { form = op.form; x = op.x; y = op.y; number = 0 }

abbrev texts_of : Op → List (List ℕ)
texts_of op = map (operand_text op) (operands_of op.form)

module _ (op : Op) (valid : IsValid op) where
  low : (form : Form) → sum (map greatest_number (operands_of form)) ≤ 65535
  low Clear = omega arith
  low _ = omega arith

  all_read : AllRead op (operands_of op.form)
  all_read k d below = reads op _ (digits-fit op valid k d below) (omega (arith, valid.number, low op.form))

  means : word_meaning Chip8 no_names false (texts_of op) (mnemonic_of op.form) ≡ Ok (Some (Instruction (unnumbered op)))
  means =
      let meaning : op_meaning no_names (first_form op.form) (texts_of op) ≡ Some (unnumbered op) =
      meaning_kinds op (first_form op.form) (operands_of op.form) all_read
      ∙ form_means op.form op.x op.y op.number
      ∙ ap (λ x. Some (record { form = op.form; x = x; y = or_none (sum (map greatest_y (operands_of op.form))) op.y; number = 0 }))
      (or_none-valid _ op.x valid.x)
      ∙ ap (λ y. Some (record { form = op.form; x = op.x; y = y; number = 0 })) (or_none-valid _ op.y valid.y) in
      word_means op.form (texts_of op)
      ∙ ap (λ o. ok_or (option_map Some (option_map Instruction o)) BadOperand) meaning

  solid_texts : (written : List Operand) → AllRead op written → AreSolid (map (operand_text op) written)
  solid_texts [] is = tt
  solid_texts (w ∷ written) is = ((All-head (Reads op) w written is).solid, solid_texts written (All-tail (Reads op) w written is))

  small_texts : (written : List Operand) → AllRead op written → list_any (has_large_number Chip8) (map (operand_text op) written) ≡ false
  small_texts [] is = refl
  small_texts (w ∷ written) is =
      ap (λ b. b || list_any (has_large_number Chip8) (map (operand_text op) written)) (All-head (Reads op) w written is).small
      ∙ small_texts written (All-tail (Reads op) w written is)

  few : (form : Form) → length (joined (map (operand_text op) (operands_of form))) ≤ 32
  few Clear = omega arith
  few _ = omega arith

  text_is : (form : Form) → op_text (record { form = form; x = op.x; y = op.y; number = op.number })
      ≡ mnemonic_of form ++ behind (map (operand_text (record { form = form; x = op.x; y = op.y; number = op.number })) (operands_of form))
  text_is Clear = refl
  text_is _ = refl

  short_word : (form : Form) → (list_all is_plain (mnemonic_of form) && (nat_lt 0 (length (mnemonic_of form)) && nat_le (length (mnemonic_of form)) 4)) ≡ true
  short_word Clear = refl
  short_word _ = refl

  op_parsed : parsed Chip8 no_names (codes " " ++ op_text op) ≡ Ok (parts_of (Instruction (unnumbered op)) (texts_of op))
  op_parsed =
      let word = and_parts _ _ (short_word op.form) in
      let sized = and_parts _ _ word.1 in
      ap (λ t. parsed Chip8 no_names (32 ∷ t)) (text_is op.form)
      ∙ parsed-any Chip8 no_names (mnemonic_of op.form) (all_solid (mnemonic_of op.form) word.0, ltb-true 0 (length (mnemonic_of op.form)) sized.0)
      (leb-true (length (mnemonic_of op.form)) 4 sized.1) (texts_of op) (solid_texts (operands_of op.form) all_read) (few op.form)
      (Instruction (unnumbered op)) means

  -- the value of its number
  number_value : (names : Names) (at : ℕ) (written : Operand) → 0 < greatest_number written → op.number ≤ greatest_number written
      → operand_value Chip8 names at (greatest_number written) (operand_text op written) ≡ Ok op.number
  number_value names at Byte some most =
      number_operand Chip8 (hex_text (hex2 op.number)) (byte_plain op.number (omega arith)) (omega arith) op.number (byte_number Chip8 op.number (omega arith))
      (omega arith) names at 255 most
  number_value names at Address some most =
      number_operand Chip8 (hex_text (hex4 op.number)) (word_plain op.number (omega arith)) (omega arith) op.number (word_number Chip8 op.number (omega arith))
      (omega arith) names at 4095 most
  number_value names at Nibble some most =
      number_operand Chip8 (hex_text (hex_digit op.number ∷ [])) (digit_text_plain op.number (omega arith)) (omega arith) op.number
      (digit_number Chip8 op.number (omega arith)) (omega arith) names at 15 most
  number_value names at _ some most = absurd (omega arith)

  abbrev last_needed : Form → Operand
  last_needed form = slice_index_or (operands_of form) (length (operands_of form) - 1) X

  most_is : (form : Form) → most_of form ≡ greatest_number (last_needed form)
  most_is Clear = refl
  most_is _ = refl

  last_is : (form : Form) → 0 < most_of form → last_operand (map (operand_text op) (operands_of form)) ≡ operand_text op (last_needed form)
  last_is Clear some = absurd (omega arith)
  last_is Return some = absurd (omega arith)
  last_is _ some = refl

  op_encoded : (names : Names) (at : ℕ) → op_bytes names at (unnumbered op) (last_operand (texts_of op)) ≡ Ok (word_bytes (opcode_of_parts op))
  unfolding op_bytes
  op_encoded names at =
      let most : ℕ = most_of op.form in
      let value : Result ℕ _ = operand_value Chip8 names at most (last_operand (texts_of op)) in
      elim (nat_lt 0 most) as (λ b. nat_lt 0 most ≡ b
      → cond b (result_map_both (λ number. word_bytes (opcode_of_parts (with_number (unnumbered op) number))) value_cause value)
      (Ok (word_bytes (opcode_of_parts (unnumbered op)))) ≡ Ok (word_bytes (opcode_of_parts op))) [
        | true ↦ λ e.
            let some = ltb-true 0 most e in
            let is = most_is op.form in
            let found : value ≡ Ok op.number =
            ap (operand_value Chip8 names at most) (last_is op.form some)
            ∙ ap (λ m. operand_value Chip8 names at m (operand_text op (last_needed op.form))) is
            ∙ number_value names at (last_needed op.form) (omega (arith, some, is)) (omega (arith, valid.number, is)) in
            ap (result_map_both (λ number. word_bytes (opcode_of_parts (with_number (unnumbered op) number))) value_cause) found
        | false ↦ λ e.
            let none : 0 ≡ op.number = omega (arith, ltb-false 0 most e, valid.number) in
            ap (λ number. Ok (word_bytes (opcode_of_parts (with_number op number)))) none
      ] refl

  -- an instruction in words
  pub op_makes : (names : Names) (at : ℕ) → at + 2 ≤ last_of Chip8 + 1
      → Makes Chip8 names at (codes " " ++ op_text op) (Place at) (at + 2) (word_bytes (opcode_of_parts op))
  unfolding encoded_parts placed
  op_makes names at fits =
      let line : List ℕ = codes " " ++ op_text op in
      record {
        unlabelled = has_no_label Chip8 names at line (Instruction (unnumbered op)) (texts_of op) op_parsed;
        laid_is = line_laid Chip8 names at line (Instruction (unnumbered op)) (texts_of op) op_parsed (Place at) (at + 2) refl
            (small_texts (operands_of op.form) all_read) fits;
        encoded_is = parts_encoded Chip8 names at line (Instruction (unnumbered op)) (texts_of op) op_parsed (count_between (Place at) at (at + 2)) (word_bytes (opcode_of_parts op))
            (op_encoded names at);
      }

-- two bytes, whatever their opcode is
module _ (names : Names) (at : ℕ) (bytes : List ℕ) (bytes_low : AreBytes bytes) (fits : at + 2 ≤ last_of Chip8 + 1) where
  abbrev word : ℕ
  word = word_in bytes

  found_makes : (o : Option Op) → IfSome o (λ op. IsValid op × (opcode_of_parts op ≡ word))
      → Makes Chip8 names at (codes " " ++ words_of o word) (Place at) (at + 2) (word_bytes word)
  found_makes None is = word_makes Chip8 names at word (omega (arith, byte_low bytes bytes_low 0, byte_low bytes bytes_low 1)) fits
  found_makes (Some op) is = subst (λ w. Makes Chip8 names at (codes " " ++ op_text op) (Place at) (at + 2) (word_bytes w)) is.1
      (op_makes op is.0 names at fits)

  pub words_make : Makes Chip8 names at (codes " " ++ opcode_words word) (Place at) (at + 2) (slice_index bytes 0 ∷ slice_index bytes 1 ∷ [])
  unfolding opcode_words
  words_make =
      let first = byte_low bytes bytes_low 0 in
      let second = byte_low bytes bytes_low 1 in
      let high : word / 256 ≡ slice_index bytes 0 = omega arith in
      let low : word % 256 ≡ slice_index bytes 1 = omega arith in
      let both : word_bytes word ≡ slice_index bytes 0 ∷ slice_index bytes 1 ∷ [] =
      ap (λ h. h ∷ word % 256 ∷ []) high ∙ ap (λ l. slice_index bytes 0 ∷ l ∷ []) low in
      subst (λ made. Makes Chip8 names at (codes " " ++ opcode_words word) (Place at) (at + 2) made) both
      (found_makes (decoded word) (IfSome_then (decoded word) (right (word / 256) (word % 256) (omega arith) (omega arith))
      (λ op is. (is.0, is.1 ∙ omega arith))))
