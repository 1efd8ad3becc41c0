-- What the mnemonics and operands of a CDP1802's disassembly mean to the assembler.
use Rattle.std.proofs.Common.{◌≡◌, ◌+◌, ◌-◌, ◌<◌, ◌≤◌, ℕ, refl, Bool, List, [], ◌∷◌, ◌++◌, length, sym, ◌∙◌, ap, subst, arith, true, false, Some, None, Option, Ok, Result, cond, eqb, leb-true}
use Rattle.std.specs.Prelude.{◌&&◌, ◌||◌, not, nat_le, nat_lt, slice_index}
use Rattle.std.specs.Option.{option_map, option_map_or, option_and_then, ok_or}
use Rattle.std.specs.List.{list_all, list_any}
use Rattle.std.proofs.lemmas.Bool.{cond-true, and_parts, and_from, le-leb, ltb-true}
use Rattle.machine.specs.declared.Kind.{Kind}
use Rattle.machine.specs.declared.Kind.TheVariants.{Idl, Out, Inp, Undefined}
use Rattle.machine.specs.Opcodes.{kind_of, opcode_number}
use Rattle.vip_isa.specs.Rows.{first_of, operands_of, least_of, greatest_of, greatest_with, opcode_of, decoded, mnemonic_of}
use Rattle.vip_isa.specs.Texts.{operand_with, operand_at, operand_text}
use Rattle.vip_isa.specs.declared.rows.Operands.{Operands}
use Rattle.vip_isa.specs.declared.rows.Operands.TheVariants as stands
use Rattle.vip_isa.specs.declared.text.Operand.{Operand}
use Rattle.vip_isa.specs.declared.text.Operand.TheVariants.{Nothing, Register, Port, Byte, Target}
use Rattle.vip_isa.proofs.Below.{at-passes_below}
use Rattle.vip_isa.proofs.Opcodes.{opcode_of-decoded, decoded_is_valid}
use Rattle.vip_byte.specs.HexText.{hex_digit, hex2, hex4}
use Rattle.asm_lex.specs.declared.shape.Word.{Word}
use Rattle.asm_lex.specs.declared.shape.Word.TheVariants.{Code, Db}
use Rattle.asm_lex.specs.declared.shape.LexFault.{LexFault}
use Rattle.asm_lex.specs.declared.shape.LexFault.TheVariants.{BadOperand}
use Rattle.asm_lex.specs.declared.shape.Isa.TheVariants.{Cdp1802}
use Rattle.asm_lex.specs.Bytes.{register_of, spells}
use Rattle.asm_lex.specs.Expressions.{sum_in, number_in, written_value as value_written, has_large_number}
use Rattle.asm_lex.specs.Words.{mnemonic_at, directive_of, opcodes, opcode_named, mnemonic_entry, entry_of, meaning_of, coded, number_written, with_number, port_of, is_one_number, are_numbers}
use Rattle.asm_lex.specs.Lines.{entry_meaning, word_meaning, parsed}
use Rattle.asm_listing.specs.Disassembly.{opcode_in}
use Rattle.asm_listing.proofs.Plain.{is_plain, parts_of, joined, behind, AreSolid, all_solid, parsed-any}
use Rattle.asm_listing.proofs.Values.{hex_text, no_names, found, digit_plain, byte_plain, word_plain, byte_number, word_number, one_number, small_number}

-- the mnemonics are short words of plain characters
abbrev is_short_word : List ℕ → Bool
is_short_word word = list_all is_plain word && (nat_lt 0 (length word) && nat_le (length word) 4)

short_mnemonic : (kind : Kind) → is_short_word (mnemonic_of kind) ≡ true
short_mnemonic Idl = refl
short_mnemonic _ = refl

-- what a mnemonic means with these operands
abbrev meaning_by : Kind → List (List ℕ) → Result (Option Word) LexFault
meaning_by Undefined operands = ok_or (option_map Some (cond (are_numbers Cdp1802 no_names operands) (Some Db) None)) BadOperand
meaning_by kind operands = ok_or (option_map Some (option_map Code (coded no_names kind operands))) BadOperand

mnemonic_means : (kind : Kind) (operands : List (List ℕ)) → word_meaning Cdp1802 no_names false operands (mnemonic_of kind) ≡ meaning_by kind operands
unfolding word_meaning entry_meaning meaning_of mnemonic_entry entry_of directive_of opcode_named spells opcodes mnemonic_at
mnemonic_means Undefined operands = refl
mnemonic_means _ operands = refl

-- an operand as the assembler reads it
abbrev pub operand_list : Operand → List (List ℕ)
operand_list Nothing = []
operand_list (Register number) = (82 ∷ hex_digit number ∷ []) ∷ []
operand_list (Port number) = (hex_digit number ∷ []) ∷ []
operand_list (Byte value) = hex_text (hex2 value) ∷ []
operand_list (Target address) = hex_text (hex4 address) ∷ []

-- its numbers are in their ranges
abbrev pub IsInRange : Operand → Type 0
IsInRange Nothing = Unit {0}
IsInRange (Register number) = number < 16
IsInRange (Port number) = number < 8
IsInRange (Byte value) = value < 256
IsInRange (Target address) = address < 65536

pub is_false : (b : Bool) → not b ≡ true → b ≡ false
is_false true e = absurd (cc)
is_false false e = refl

register_is : (n : ℕ) → n < 16 → register_of 82 (82 ∷ hex_digit n ∷ []) ≡ Some n
register_is n below = found _ n (at-passes_below (λ n. option_map_or (λ m. eqb m n) (register_of 82 (82 ∷ hex_digit n ∷ [])) false) 16 refl n below)

port_is : (n : ℕ) → 1 ≤ n → n ≤ 7 → port_of (hex_digit n ∷ []) ≡ Some n
port_is n some most =
    let k : n - 1 < 7 = omega arith in
    let at : n - 1 + 1 ≡ n = omega arith in
    let test : option_map_or (λ m. eqb m (n - 1 + 1)) (port_of (hex_digit (n - 1 + 1) ∷ [])) false ≡ true =
    at-passes_below (λ k. option_map_or (λ m. eqb m (k + 1)) (port_of (hex_digit (k + 1) ∷ [])) false) 7 refl (n - 1) k in
    subst (λ n. port_of (hex_digit n ∷ []) ≡ Some n) at (found _ (n - 1 + 1) test)

-- a register or a port is no large number
small_register : (n : ℕ) → n < 16 → has_large_number Cdp1802 (82 ∷ hex_digit n ∷ []) ≡ false
unfolding has_large_number sum_in value_written number_in
small_register n below =
    is_false (has_large_number Cdp1802 (82 ∷ hex_digit n ∷ [])) (at-passes_below (λ n. not (has_large_number Cdp1802 (82 ∷ hex_digit n ∷ []))) 16 refl n below)

small_port : (n : ℕ) → n < 16 → has_large_number Cdp1802 (hex_digit n ∷ []) ≡ false
unfolding has_large_number sum_in value_written number_in
small_port n below = is_false (has_large_number Cdp1802 (hex_digit n ∷ []))
    (at-passes_below (λ n. not (has_large_number Cdp1802 (hex_digit n ∷ []))) 16 refl n below)

pub small_operands : (operand : Operand) → IsInRange operand → list_any (has_large_number Cdp1802) (operand_list operand) ≡ false
small_operands Nothing low = refl
small_operands (Register n) low = ap (λ b. b || false) (small_register n low)
small_operands (Port n) low = ap (λ b. b || false) (small_port n (omega arith))
small_operands (Byte b) low = ap (λ b. b || false)
    (small_number Cdp1802 (hex_text (hex2 b)) (byte_plain b low) (omega arith) b (byte_number Cdp1802 b low) (omega arith))
small_operands (Target t) low = ap (λ b. b || false)
    (small_number Cdp1802 (hex_text (hex4 t)) (word_plain t low) (omega arith) t (word_number Cdp1802 t low) (omega arith))

-- a byte and an address are expressions
byte_written : (b : ℕ) → b < 256 → is_one_number Cdp1802 no_names (hex_text (hex2 b) ∷ []) ≡ true
byte_written b low = one_number Cdp1802 (hex_text (hex2 b)) (byte_plain b low) (omega arith) b (byte_number Cdp1802 b low)

target_written : (t : ℕ) → t < 65536 → is_one_number Cdp1802 no_names (hex_text (hex4 t) ∷ []) ≡ true
target_written t low = one_number Cdp1802 (hex_text (hex4 t)) (word_plain t low) (omega arith) t (word_number Cdp1802 t low)

expressed : (o : List (List ℕ)) (n : ℕ) → is_one_number Cdp1802 no_names o ≡ true → n ≡ 0 → cond (is_one_number Cdp1802 no_names o) (Some 0) None ≡ Some n
expressed o n is none = cond-true (is_one_number Cdp1802 no_names o) (Some 0) None is ∙ ap Some (sym none)

port_least : (kind : Kind) → operands_of kind ≡ stands.Port → 1 ≤ least_of kind
port_least Out e = omega arith
port_least Inp e = omega arith
port_least _ e = absurd (cc)

-- opcode 68 alone stands as data
data_undefined : (kind : Kind) → operands_of kind ≡ stands.Data → kind ≡ Undefined
data_undefined Undefined e = refl
data_undefined _ e = absurd (cc)

module _ (at : ℕ) (bytes : List ℕ) where
  abbrev n : ℕ
  n = opcode_number (opcode_in bytes)

  abbrev operand_by : Operands → Operand
  operand_by due = operand_with due at (opcode_in bytes) (slice_index bytes 1) (slice_index bytes 2)

  -- the number that an instruction's operand writes into the opcode
  written : (due : Operands) → (due ≡ stands.Port → 1 ≤ n) → n ≤ greatest_with due → (due ≡ stands.Data → ⊥) → IsInRange (operand_by due)
      → number_written no_names due (operand_list (operand_by due)) ≡ Some n
  written stands.Nothing least most other low = ap Some (omega arith)
  written stands.Register least most other low = register_is n low
  written stands.Port least most other low = port_is n (least refl) most
  written stands.Byte least most other low = expressed (operand_list (operand_by stands.Byte)) n (byte_written _ low) (omega arith)
  written stands.Short least most other low = expressed (operand_list (operand_by stands.Short)) n (target_written _ low) (omega arith)
  written stands.Long least most other low = expressed (operand_list (operand_by stands.Long)) n (target_written _ low) (omega arith)
  written stands.Data least most other low = absurd (other refl)

  module _ (low : opcode_in bytes < 256) (other : kind_of (opcode_in bytes) ≡ Undefined → ⊥) (ranged : IsInRange (operand_at at bytes)) where
    least : least_of (kind_of (opcode_in bytes)) ≤ n
    least = (decoded_is_valid (opcode_in bytes) low).from_least

    most : n ≤ greatest_of (kind_of (opcode_in bytes))
    most = (decoded_is_valid (opcode_in bytes) low).to_greatest

    number_is : number_written no_names (operands_of (kind_of (opcode_in bytes))) (operand_list (operand_at at bytes)) ≡ Some n
    unfolding operand_at
    number_is =
        written (operands_of (kind_of (opcode_in bytes))) (λ e. let some = port_least (kind_of (opcode_in bytes)) e in omega (arith, some, least)) most
        (λ e. other (data_undefined (kind_of (opcode_in bytes)) e)) ranged

    numbered : with_number (kind_of (opcode_in bytes)) n ≡ Some (opcode_in bytes)
    numbered =
        cond-true (nat_le (least_of (kind_of (opcode_in bytes))) n && nat_le n (greatest_of (kind_of (opcode_in bytes))))
        (Some (opcode_of (decoded (opcode_in bytes)))) None
        (and_from _ _ (le-leb _ _ least) (le-leb _ _ most))
        ∙ ap Some (opcode_of-decoded (opcode_in bytes) low)

    -- the mnemonic with the operand is the opcode
    pub coded_is : coded no_names (kind_of (opcode_in bytes)) (operand_list (operand_at at bytes)) ≡ Some (opcode_in bytes)
    unfolding coded
    coded_is = ap (option_and_then (with_number (kind_of (opcode_in bytes)))) number_is ∙ numbered

-- opcode 68 alone has no mnemonic
undefined_opcode : (opcode : ℕ) (kind : Kind) → opcode < 256 → kind_of opcode ≡ kind → kind ≡ Undefined → opcode ≡ 104
undefined_opcode opcode kind low is undefined =
    let kind_is : kind_of opcode ≡ Undefined = is ∙ undefined in
    let whole : opcode_of (decoded opcode) ≡ opcode = opcode_of-decoded opcode low in
    let none : opcode_number opcode ≤ greatest_of (kind_of opcode) = (decoded_is_valid opcode low).to_greatest in
    let first : first_of (kind_of opcode) ≡ 104 = ap first_of kind_is in
    let last : greatest_of (kind_of opcode) ≡ 0 = ap greatest_of kind_is in
    omega (arith, whole, none, first, last)

meaning_coded : (kind : Kind) (operands : List (List ℕ)) → (kind ≡ Undefined → ⊥)
    → meaning_by kind operands ≡ ok_or (option_map Some (option_map Code (coded no_names kind operands))) BadOperand
meaning_coded Undefined operands other = absurd (other refl)
meaning_coded Idl operands other = refl
meaning_coded _ operands other = refl

pub instruction_means : (at : ℕ) (bytes : List ℕ) → opcode_in bytes < 256 → (opcode_in bytes ≡ 104 → ⊥) → IsInRange (operand_at at bytes)
    → word_meaning Cdp1802 no_names false (operand_list (operand_at at bytes)) (mnemonic_of (kind_of (opcode_in bytes))) ≡ Ok (Some (Code (opcode_in bytes)))
instruction_means at bytes low other ranged =
    let defined : kind_of (opcode_in bytes) ≡ Undefined → ⊥ = λ e. other (undefined_opcode (opcode_in bytes) (kind_of (opcode_in bytes)) low refl e) in
    mnemonic_means (kind_of (opcode_in bytes)) (operand_list (operand_at at bytes))
    ∙ meaning_coded (kind_of (opcode_in bytes)) (operand_list (operand_at at bytes)) defined
    ∙ ap (λ o. ok_or (option_map Some (option_map Code o)) BadOperand) (coded_is at bytes low defined ranged)

-- a line of a mnemonic and an operand
texts_solid : (operand : Operand) → IsInRange operand → AreSolid (operand_list operand)
texts_solid Nothing low = tt
texts_solid (Register n) low = ((all_solid (82 ∷ hex_digit n ∷ []) (and_from _ _ refl (and_from _ _ (digit_plain n low) refl)), omega arith), tt)
texts_solid (Port n) low = ((all_solid (hex_digit n ∷ []) (and_from _ _ (digit_plain n (omega arith)) refl), omega arith), tt)
texts_solid (Byte b) low = ((all_solid (hex_text (hex2 b)) (byte_plain b low), omega arith), tt)
texts_solid (Target t) low = ((all_solid (hex_text (hex4 t)) (word_plain t low), omega arith), tt)

texts_short : (operand : Operand) → length (joined (operand_list operand)) ≤ 32
texts_short Nothing = omega arith
texts_short _ = omega arith

text_is : (operand : Operand) → operand_text operand ≡ behind (operand_list operand)
text_is Nothing = refl
text_is _ = refl

pub mnemonic_parsed : (opcode : ℕ) (operand : Operand) → IsInRange operand → (meaning : Word)
    → word_meaning Cdp1802 no_names false (operand_list operand) (mnemonic_of (kind_of opcode)) ≡ Ok (Some meaning)
    → parsed Cdp1802 no_names (32 ∷ (mnemonic_of (kind_of opcode) ++ operand_text operand)) ≡ Ok (parts_of meaning (operand_list operand))
mnemonic_parsed opcode operand low meaning meant =
    let w : List ℕ = mnemonic_of (kind_of opcode) in
    let short = and_parts _ _ (short_mnemonic (kind_of opcode)) in
    let sized = and_parts _ _ short.1 in
    ap (λ t. parsed Cdp1802 no_names (32 ∷ (w ++ t))) (text_is operand)
    ∙ parsed-any Cdp1802 no_names w (all_solid w short.0, ltb-true 0 (length w) sized.0) (leb-true (length w) 4 sized.1) (operand_list operand)
    (texts_solid operand low) (texts_short operand) meaning meant
