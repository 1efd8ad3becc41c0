-- The language of the CDP1802 has no names of registers, so that a line says the same whatever the earlier names are.
use Rattle.std.proofs.Common.{◌≡◌, ℕ, refl, Bool, true, false, cond, List, ap, ◌∙◌, Option, None, Some, is_some}
use Rattle.std.specs.Prelude.{◌&&◌, option_map}
use Rattle.std.specs.Option.{option_or}
use Rattle.machine.specs.Opcodes.{kind_of}
use Rattle.vip_isa.specs.Rows.{operands_of}
use Rattle.vip_isa.specs.declared.rows.Operands.{Operands}
use Rattle.vip_isa.specs.declared.rows.Operands.TheVariants.{Register, Port, Nothing, Data}
use Rattle.asm_lex.specs.declared.shape.Isa.TheVariants.{Cdp1802}
use Rattle.asm_lex.specs.declared.shape.Word.{Word}
use Rattle.asm_lex.specs.declared.shape.Word.TheVariants.{Equ, EquRegister}
use Rattle.asm_lex.specs.declared.words.Entry.TheVariants.{Directive, Mnemonic}
use Rattle.asm_lex.specs.Lines.{operands_of as line_operands, entry_meaning, word_meaning, parsed_code, parsed}
use Rattle.asm_lex.specs.Names.{Names, is_number, names_register}
use Rattle.asm_lex.specs.Parts.{code_of, label_of, statement_of, word_of}
use Rattle.asm_lex.specs.Words.{numbers_of, are_so_many, may_stand, number_written, coded, is_one, takes, register_given, gives_register, directive_meaning, meaning_of, directive_of, opcode_named, mnemonic_entry, entry_of}

module _ (names other : Names) where
  same_number : is_number Cdp1802 names ≡ is_number Cdp1802 other
  unfolding is_number names_register
  same_number = λ i text. is_number Cdp1802 names text

  same_written : (due : Operands) (operands : List (List ℕ)) → number_written names due operands ≡ number_written other due operands
  same_written Register operands = refl
  same_written Port operands = refl
  same_written Nothing operands = refl
  same_written Data operands = refl
  same_written _ operands = ap (λ p. cond (is_one p operands) (Some 0) None) same_number

  same_takes : (directive : Word) (has_label : Bool) (operands : List (List ℕ))
      → takes Cdp1802 names directive has_label operands ≡ takes Cdp1802 other directive has_label operands
  same_takes directive has_label operands = ap (λ p. may_stand directive has_label && are_so_many p (numbers_of directive) operands) same_number

  same_given : (directive : Word) (has_label : Bool) (operands : List (List ℕ))
      → gives_register Cdp1802 names directive has_label operands ≡ gives_register Cdp1802 other directive has_label operands
  unfolding register_given
  same_given Equ has_label operands = refl
  same_given _ has_label operands = refl

  same_directive : (directive : Word) (has_label : Bool) (operands : List (List ℕ))
      → directive_meaning Cdp1802 names directive has_label operands ≡ directive_meaning Cdp1802 other directive has_label operands
  same_directive directive has_label operands =
      ap (λ given. option_or (option_map EquRegister given) (cond (takes Cdp1802 names directive has_label operands) (Some directive) None))
      (same_given directive has_label operands)
      ∙ ap (λ taken. option_or (option_map EquRegister (gives_register Cdp1802 other directive has_label operands)) (cond taken (Some directive) None))
      (same_takes directive has_label operands)

  same_mnemonic : (named : Option ℕ) (has_label : Bool) (operands : List (List ℕ))
      → entry_meaning Cdp1802 names has_label operands (option_map Mnemonic named) ≡ entry_meaning Cdp1802 other has_label operands (option_map Mnemonic named)
  unfolding entry_meaning meaning_of coded
  same_mnemonic None has_label operands = refl
  same_mnemonic (Some opcode) has_label operands = rw (same_written (operands_of (kind_of opcode)) operands) refl

  same_named : (named : Option Word) (has_label : Bool) (operands : List (List ℕ))
      → entry_meaning Cdp1802 names has_label operands (option_map Directive named)
      ≡ entry_meaning Cdp1802 other has_label operands (option_map Directive named)
  unfolding entry_meaning meaning_of
  same_named None has_label operands = refl
  same_named (Some directive) has_label operands = rw (same_directive directive has_label operands) refl

  same_entry : (word : List ℕ) (has_label : Bool) (operands : List (List ℕ))
      → entry_meaning Cdp1802 names has_label operands (entry_of Cdp1802 word) ≡ entry_meaning Cdp1802 other has_label operands (entry_of Cdp1802 word)
  unfolding entry_of mnemonic_entry
  same_entry word has_label operands =
      elim (is_some (directive_of word)) as (λ b.
      entry_meaning Cdp1802 names has_label operands (cond b (option_map Directive (directive_of word)) (option_map Mnemonic (opcode_named word)))
      ≡ entry_meaning Cdp1802 other has_label operands (cond b (option_map Directive (directive_of word)) (option_map Mnemonic (opcode_named word)))) [
        | true ↦ same_named (directive_of word) has_label operands
        | false ↦ same_mnemonic (opcode_named word) has_label operands
      ]

  pub one_language : (line : List ℕ) → parsed Cdp1802 names line ≡ parsed Cdp1802 other line
  unfolding parsed parsed_code word_meaning
  one_language line =
      let code = code_of line in
      rw (same_entry (word_of (statement_of code)) (is_some (label_of code)) (line_operands code)) refl
