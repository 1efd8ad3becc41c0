-- What the cases of a line's definition come to.
use Rattle.std.proofs.Common.{◌≡◌, ◌<◌, ◌≤◌, ℕ, zero, suc, refl, Bool, List, length, ◌∙◌, ap, arith, true, false, Some, None, Option, Ok, Err, Result}
use Rattle.std.specs.Prelude.{◌==◌, is_some}
use Rattle.std.specs.Option.{option_map, ok_or}
use Rattle.std.specs.Result.{result_map_both}
use Rattle.std.proofs.lemmas.Bool.{cond-true, cond-false, eq-eqb, ne_eqb, or_parts, ltb-false}
use Rattle.asm_lex.specs.declared.shape.Isa.{Isa}
use Rattle.asm_lex.specs.Names.{Names}
use Rattle.asm_lex.specs.declared.shape.Word.{Word}
use Rattle.asm_lex.specs.declared.shape.LexFault.{LexFault}
use Rattle.asm_lex.specs.declared.shape.LexFault.TheVariants.{BadText, UnknownMnemonic, BadOperand}
use Rattle.asm_lex.specs.declared.words.Entry.{Entry}
use Rattle.asm_lex.specs.Parts.{code_of, label_of, statement_of, word_of, operands_in}
use Rattle.asm_lex.specs.Words.{entry_of, meaning_of}
use Rattle.asm_lex.specs.Lines.{Parsed, operands_of, has_bad_bytes, has_bad_name, entry_meaning, word_meaning, parsed_code, parsed}
use Rattle.asm_lex.proofs.Texts.{operands-empty}

module _ (isa : Isa) (names : Names) (has_label : Bool) (operands : List (List ℕ)) (word : List ℕ) where
  -- no word
  pub word_meaning-empty : length word ≡ 0 → word_meaning isa names has_label operands word ≡ Ok None
  unfolding word_meaning
  word_meaning-empty e = cond-true (length word == 0) (Ok None) (entry_meaning isa names has_label operands (entry_of isa word)) (eq-eqb (length word) 0 e)

  word_meaning-some : 0 < length word → word_meaning isa names has_label operands word ≡ entry_meaning isa names has_label operands (entry_of isa word)
  unfolding word_meaning
  word_meaning-some there =
      cond-false (length word == 0) (Ok None) (entry_meaning isa names has_label operands (entry_of isa word)) (ne_eqb (length word) 0 (λ e. omega arith))

  -- a word that isn't in the table
  pub word_meaning-unknown : 0 < length word → entry_of isa word ≡ None → word_meaning isa names has_label operands word ≡ Err UnknownMnemonic
  unfolding entry_meaning
  word_meaning-unknown there e = word_meaning-some there ∙ ap (entry_meaning isa names has_label operands) e

  -- wrong operands
  pub word_meaning-wrong : (entry : Entry) → 0 < length word → entry_of isa word ≡ Some entry → meaning_of isa names entry has_label operands ≡ None
      → word_meaning isa names has_label operands word ≡ Err BadOperand
  unfolding entry_meaning
  word_meaning-wrong entry there e wrong =
      word_meaning-some there ∙ ap (entry_meaning isa names has_label operands) e ∙ ap (λ meaning. ok_or (option_map Some meaning) BadOperand) wrong

  pub word_meaning-known : (entry : Entry) (meaning : Word) → 0 < length word → entry_of isa word ≡ Some entry
      → meaning_of isa names entry has_label operands ≡ Some meaning → word_meaning isa names has_label operands word ≡ Ok (Some meaning)
  unfolding entry_meaning
  word_meaning-known entry meaning there e right =
      word_meaning-some there ∙ ap (entry_meaning isa names has_label operands) e ∙ ap (λ meaning. ok_or (option_map Some meaning) BadOperand) right

-- a text with so many operands has a word before it
pub word_there : (word text : List ℕ) → (length word ≡ 0 → length text ≡ 0) → 128 < length (operands_in text) → 0 < length word
word_there word text empty many =
    elim (length word) as (λ n. length word ≡ n → 0 < length word) [
      | zero ↦ λ e. absurd (omega (arith, ap length (operands-empty text (empty e))))
      | suc n ↦ λ e. omega arith
    ] refl

abbrev with_word : List ℕ → Option Word → Parsed
with_word code word = record { label = label_of code; word = word; operands = operands_of code }

abbrev with_meaning : List ℕ → Result (Option Word) LexFault → Result Parsed LexFault
with_meaning code meaning = result_map_both (with_word code) (λ fault. fault) meaning

-- a line without bad bytes is short
pub short_line : (line : List ℕ) → has_bad_bytes line ≡ false → length line ≤ 255
unfolding has_bad_bytes
short_line line e = ltb-false 255 (length line) (or_parts _ _ e).0

module _ (isa : Isa) (names : Names) (line : List ℕ) where
  pub parsed-bad_bytes : has_bad_bytes line ≡ true → parsed isa names line ≡ Err BadText
  unfolding parsed
  parsed-bad_bytes e = cond-true (has_bad_bytes line) (Err BadText) (parsed_code isa names (code_of line)) e

  parsed-code : has_bad_bytes line ≡ false → parsed isa names line ≡ parsed_code isa names (code_of line)
  unfolding parsed
  parsed-code e = cond-false (has_bad_bytes line) (Err BadText) (parsed_code isa names (code_of line)) e

  pub parsed-bad_name : has_bad_bytes line ≡ false → has_bad_name isa (code_of line) ≡ true → parsed isa names line ≡ Err BadText
  unfolding parsed_code
  parsed-bad_name allowed e =
      parsed-code allowed ∙ cond-true (has_bad_name isa (code_of line)) (Err BadText)
      (with_meaning (code_of line) (word_meaning isa names (is_some (label_of (code_of line))) (operands_of (code_of line))
      (word_of (statement_of (code_of line))))) e

  pub parsed-statement : has_bad_bytes line ≡ false → has_bad_name isa (code_of line) ≡ false → (meaning : Result (Option Word) LexFault)
      → word_meaning isa names (is_some (label_of (code_of line))) (operands_of (code_of line)) (word_of (statement_of (code_of line))) ≡ meaning
      → parsed isa names line ≡ result_map_both
      (λ word. record { label = label_of (code_of line); word = word; operands = operands_of (code_of line) })
      (λ fault. fault) meaning
  unfolding parsed_code
  parsed-statement allowed named meaning e =
      parsed-code allowed ∙ cond-false (has_bad_name isa (code_of line)) (Err BadText)
      (with_meaning (code_of line) (word_meaning isa names (is_some (label_of (code_of line))) (operands_of (code_of line))
      (word_of (statement_of (code_of line))))) named
      ∙ ap (with_meaning (code_of line)) e

pub positive : (n : ℕ) → (n == 0) ≡ false → 0 < n
positive zero e = absurd (cc)
positive (suc n) e = omega arith

pub is_some-map : {X Y : Type 0} (f : X → Y) (o : Option X) → is_some (option_map f o) ≡ is_some o
is_some-map f None = refl
is_some-map f (Some x) = refl

abbrev pub made : Option (List ℕ) → Option Word → List (List ℕ) → Parsed
made label word operands = record { label = label; word = word; operands = operands }
