-- What the assembler makes of an instruction of a CDP1802's disassembly.
use Rattle.std.proofs.Common.{◌≡◌, ◌+◌, ◌*◌, ◌/◌, ◌%◌, ◌<◌, ◌≤◌, ℕ, zero, suc, refl, List, [], ◌∷◌, ◌++◌, length, take, sym, ◌∙◌, ap, arith, true, Ok, Err, Result, cond}
use Rattle.std.specs.Prelude.{◌==◌, Bool, not, codes, slice_index, All}
use Rattle.std.proofs.lemmas.Bool.{cond-true, cond-false, eqb-true, eqb-false, eq-eqb, ne_eqb}
use Rattle.machine.specs.Opcodes.{kind_of, opcode_number}
use Rattle.vip_isa.specs.Rows.{greatest_with, operands_of, size_with}
use Rattle.vip_isa.specs.Texts.{instruction_text, operand_at, operand_with}
use Rattle.vip_isa.specs.declared.rows.Operands.{Operands}
use Rattle.vip_isa.specs.declared.rows.Operands.TheVariants as stands
use Rattle.vip_isa.specs.declared.text.Operand.{Operand}
use Rattle.vip_isa.specs.declared.text.Operand.TheVariants.{Byte, Target}
use Rattle.vip_isa.proofs.Below.{at-passes_below}
use Rattle.vip_isa.proofs.Opcodes.{decoded_is_valid}
use Rattle.vip_byte.specs.HexText.{hex2, hex4}
use Rattle.asm_lex.specs.declared.shape.Isa.TheVariants.{Cdp1802}
use Rattle.asm_lex.specs.declared.shape.Word.TheVariants.{Code}
use Rattle.asm_lex.specs.Words.{size_at}
use Rattle.asm_lex.specs.Lines.{parsed}
use Rattle.asm_core.specs.declared.fault.AsmCause.{AsmCause}
use Rattle.asm_core.specs.declared.fault.AsmCause.TheVariants.{OffPage}
use Rattle.asm_lex.specs.Names.{Names}
use Rattle.asm_core.specs.declared.layout.LabelValue.TheVariants.{Address}
use Rattle.asm_core.specs.Names.{operand_value, first_operand}
use Rattle.asm_core.specs.Layout.{placed, encoded_parts, count_between}
use Rattle.asm_core.specs.Encoding.{long_branch, short_branch, immediate, instruction}
use Rattle.asm_listing.specs.Disassembly.{opcode_in}
use Rattle.asm_listing.proofs.Makes.{Makes, has_no_label, line_laid, parts_encoded}
use Rattle.asm_listing.proofs.Plain.{parts_of}
use Rattle.asm_listing.proofs.Values.{no_names, hex_text, byte_plain, word_plain, byte_number, word_number, number_operand}
use Rattle.asm_listing.proofs.Written.{operand_list, is_false, IsInRange, small_operands, instruction_means, mnemonic_parsed}

-- bytes are numbers below 256
abbrev pub AreBytes : List ℕ → Type 0
AreBytes bytes = All (λ byte. byte < 256) bytes

pub byte_low : (bytes : List ℕ) → AreBytes bytes → (k : ℕ) → slice_index bytes k < 256
byte_low [] all k = omega arith
byte_low (byte ∷ bytes) all zero = all 0 0 (omega arith)
byte_low (byte ∷ bytes) all (suc k) = byte_low bytes (λ j d below. all (suc j) d (omega arith)) k

-- the numbers of an operand are in their ranges
module _ (at : ℕ) (bytes : List ℕ) (bytes_low : AreBytes bytes) where
  ranged_by : (due : Operands) → opcode_number (opcode_in bytes) ≤ greatest_with due
      → IsInRange (operand_with due at (opcode_in bytes) (slice_index bytes 1) (slice_index bytes 2))
  ranged_by stands.Nothing most = tt
  ranged_by stands.Register most = omega arith
  ranged_by stands.Port most = omega arith
  ranged_by stands.Byte most = byte_low bytes bytes_low 1
  ranged_by stands.Short most = let second = byte_low bytes bytes_low 1 in omega arith
  ranged_by stands.Long most =
      let second = byte_low bytes bytes_low 1 in
      let third = byte_low bytes bytes_low 2 in
      omega arith
  ranged_by stands.Data most = byte_low bytes bytes_low 0

  ranged : IsInRange (operand_at at bytes)
  unfolding operand_at
  ranged = ranged_by (operands_of (kind_of (opcode_in bytes))) (decoded_is_valid (opcode_in bytes) (byte_low bytes bytes_low 0)).to_greatest

-- an instruction by its size
module _ (names : Names) (at opcode : ℕ) (operand : List ℕ) where
  one_byte : size_at opcode ≡ 1 → instruction names at opcode operand ≡ Ok (opcode ∷ [])
  unfolding instruction
  one_byte e = cond-true (size_at opcode == 1) (Ok (opcode ∷ [])) _ (eq-eqb _ _ e)

  not_one : (size_at opcode ≡ 1 → ⊥) → (rest : Result (List ℕ) AsmCause)
      → cond (size_at opcode == 3) (long_branch opcode (operand_value Cdp1802 names at 65535 operand))
      (cond (opcode / 16 == 3) (short_branch at opcode (operand_value Cdp1802 names at 65535 operand))
      (immediate opcode (operand_value Cdp1802 names at 255 operand))) ≡ rest
      → instruction names at opcode operand ≡ rest
  unfolding instruction
  not_one other rest e = cond-false (size_at opcode == 1) (Ok (opcode ∷ [])) _ (ne_eqb _ _ other) ∙ e

  three_bytes : (v : ℕ) → size_at opcode ≡ 3 → operand_value Cdp1802 names at 65535 operand ≡ Ok v
      → instruction names at opcode operand ≡ Ok (opcode ∷ v / 256 ∷ v % 256 ∷ [])
  three_bytes v e value =
      not_one (λ one. omega arith) (Ok (opcode ∷ v / 256 ∷ v % 256 ∷ []))
      (cond-true (size_at opcode == 3) (long_branch opcode (operand_value Cdp1802 names at 65535 operand)) _ (eq-eqb _ _ e) ∙ ap (long_branch opcode) value)

  two_bytes : size_at opcode ≡ 2 → (rest : Result (List ℕ) AsmCause)
      → cond (opcode / 16 == 3) (short_branch at opcode (operand_value Cdp1802 names at 65535 operand))
      (immediate opcode (operand_value Cdp1802 names at 255 operand)) ≡ rest → instruction names at opcode operand ≡ rest
  two_bytes e rest is =
      not_one (λ one. omega arith) rest
      (cond-false (size_at opcode == 3) (long_branch opcode (operand_value Cdp1802 names at 65535 operand)) _ (ne_eqb _ _ (λ three. omega arith)) ∙ is)

  a_short_branch : (v : ℕ) → size_at opcode ≡ 2 → opcode / 16 ≡ 3 → operand_value Cdp1802 names at 65535 operand ≡ Ok v → v / 256 ≡ (at + 1) / 256
      → instruction names at opcode operand ≡ Ok (opcode ∷ v % 256 ∷ [])
  a_short_branch v e branch value page =
      two_bytes e (Ok (opcode ∷ v % 256 ∷ []))
      (cond-true (opcode / 16 == 3) (short_branch at opcode (operand_value Cdp1802 names at 65535 operand)) _ (eq-eqb _ _ branch)
      ∙ ap (short_branch at opcode) value
      ∙ cond-true (v / 256 == (at + 1) / 256) (Ok (opcode ∷ v % 256 ∷ [])) (Err OffPage) (eq-eqb _ _ page))

  an_immediate : (v : ℕ) → size_at opcode ≡ 2 → (opcode / 16 ≡ 3 → ⊥) → operand_value Cdp1802 names at 255 operand ≡ Ok v
      → instruction names at opcode operand ≡ Ok (opcode ∷ v ∷ [])
  an_immediate v e other value =
      two_bytes e (Ok (opcode ∷ v ∷ []))
      (cond-false (opcode / 16 == 3) (short_branch at opcode (operand_value Cdp1802 names at 65535 operand))
      (immediate opcode (operand_value Cdp1802 names at 255 operand)) (ne_eqb _ _ other)
      ∙ ap (immediate opcode) value)

-- the first bytes of some
pub take_1 : (bytes : List ℕ) → 1 ≤ length bytes → take 1 bytes ≡ slice_index bytes 0 ∷ []
take_1 [] some = absurd (omega arith)
take_1 (a ∷ bytes) some = refl

pub take_2 : (bytes : List ℕ) → 2 ≤ length bytes → take 2 bytes ≡ slice_index bytes 0 ∷ slice_index bytes 1 ∷ []
take_2 [] some = absurd (omega arith)
take_2 (a ∷ []) some = absurd (omega arith)
take_2 (a ∷ b ∷ bytes) some = refl

take_3 : (bytes : List ℕ) → 3 ≤ length bytes → take 3 bytes ≡ slice_index bytes 0 ∷ slice_index bytes 1 ∷ slice_index bytes 2 ∷ []
take_3 [] some = absurd (omega arith)
take_3 (a ∷ []) some = absurd (omega arith)
take_3 (a ∷ b ∷ []) some = absurd (omega arith)
take_3 (a ∷ b ∷ c ∷ bytes) some = refl

-- the opcodes 30 to 3F alone have the low byte of an address behind them, or none
abbrev agrees : Operands → Bool → Bool
agrees stands.Short page = page
agrees stands.Byte page = not page
agrees _ page = true

pages : (opcode : ℕ) → opcode < 256 → agrees (operands_of (kind_of opcode)) (opcode / 16 == 3) ≡ true
pages opcode low = at-passes_below (λ b. agrees (operands_of (kind_of b)) (b / 16 == 3)) 256 refl opcode low

module _ (names : Names) (at : ℕ) (bytes : List ℕ) (bytes_low : AreBytes bytes) where
  abbrev opcode : ℕ
  opcode = opcode_in bytes

  abbrev second : ℕ
  second = slice_index bytes 1

  abbrev third : ℕ
  third = slice_index bytes 2

  abbrev operand_of : Operand → List ℕ
  operand_of operand = first_operand (operand_list operand)

  abbrev operand_by : Operands → Operand
  operand_by due = operand_with due at opcode second third

  target_value : (t : ℕ) → t < 65536 → operand_value Cdp1802 names at 65535 (operand_of (Target t)) ≡ Ok t
  target_value t low = number_operand Cdp1802 (hex_text (hex4 t)) (word_plain t low) (omega arith) t (word_number Cdp1802 t low) (omega arith) names at 65535
      (omega arith)

  byte_value : (b : ℕ) → b < 256 → operand_value Cdp1802 names at 255 (operand_of (Byte b)) ≡ Ok b
  byte_value b low = number_operand Cdp1802 (hex_text (hex2 b)) (byte_plain b low) (omega arith) b (byte_number Cdp1802 b low) (omega arith) names at 255
      (omega arith)

  size_is : (due : Operands) → due ≡ operands_of (kind_of opcode) → size_at opcode ≡ size_with due
  unfolding size_at
  size_is due e = ap size_with (sym e)

  page_is : (due : Operands) → due ≡ operands_of (kind_of opcode) → agrees due (opcode / 16 == 3) ≡ true
  page_is due e = ap (λ due. agrees due (opcode / 16 == 3)) e ∙ pages opcode (byte_low bytes bytes_low 0)

  module _ (whole : size_at opcode ≤ length bytes) (fits : at + size_at opcode ≤ 65536) where
    encoded_1 : size_at opcode ≡ 1 → (o : List ℕ) → instruction names at opcode o ≡ Ok (take (size_at opcode) bytes)
    encoded_1 e o = one_byte names at opcode o e ∙ ap Ok (sym (ap (λ n. take n bytes) e ∙ take_1 bytes (omega arith)))

    encoded_short : size_at opcode ≡ 2 → opcode / 16 ≡ 3 → instruction names at opcode (operand_of (operand_by stands.Short)) ≡ Ok (take (size_at opcode) bytes)
    encoded_short e branch =
        let second_low : second < 256 = byte_low bytes bytes_low 1 in
        let target : ℕ = (at + 1) % 65536 / 256 * 256 + second in
        let page : target / 256 ≡ (at + 1) / 256 = omega arith in
        let low : target % 256 ≡ second = omega arith in
        let inside : target < 65536 = omega arith in
        a_short_branch names at opcode (operand_of (Target target)) target e branch (target_value target inside) page
        ∙ ap (λ l. Ok (opcode ∷ l ∷ [])) low
        ∙ ap Ok (sym (ap (λ n. take n bytes) e ∙ take_2 bytes (omega arith)))

    encoded_byte : size_at opcode ≡ 2 → (opcode / 16 ≡ 3 → ⊥)
        → instruction names at opcode (operand_of (operand_by stands.Byte)) ≡ Ok (take (size_at opcode) bytes)
    encoded_byte e other =
        an_immediate names at opcode (operand_of (Byte second)) second e other (byte_value second (byte_low bytes bytes_low 1))
        ∙ ap Ok (sym (ap (λ n. take n bytes) e ∙ take_2 bytes (omega arith)))

    encoded_long : size_at opcode ≡ 3 → instruction names at opcode (operand_of (operand_by stands.Long)) ≡ Ok (take (size_at opcode) bytes)
    encoded_long e =
        let second_low : second < 256 = byte_low bytes bytes_low 1 in
        let third_low : third < 256 = byte_low bytes bytes_low 2 in
        let target : ℕ = second * 256 + third in
        let high : target / 256 ≡ second = omega arith in
        let low : target % 256 ≡ third = omega arith in
        three_bytes names at opcode (operand_of (Target target)) target e (target_value target (omega arith))
        ∙ ap (λ h. Ok (opcode ∷ h ∷ target % 256 ∷ [])) high
        ∙ ap (λ l. Ok (opcode ∷ second ∷ l ∷ [])) low
        ∙ ap Ok (sym (ap (λ n. take n bytes) e ∙ take_3 bytes (omega arith)))

    encoded_by : (due : Operands) → due ≡ operands_of (kind_of opcode)
        → instruction names at opcode (operand_of (operand_by due)) ≡ Ok (take (size_at opcode) bytes)
    encoded_by stands.Nothing e = encoded_1 (size_is stands.Nothing e) (operand_of (operand_by stands.Nothing))
    encoded_by stands.Register e = encoded_1 (size_is stands.Register e) (operand_of (operand_by stands.Register))
    encoded_by stands.Port e = encoded_1 (size_is stands.Port e) (operand_of (operand_by stands.Port))
    encoded_by stands.Data e = encoded_1 (size_is stands.Data e) (operand_of (operand_by stands.Data))
    encoded_by stands.Short e = encoded_short (size_is stands.Short e) (eqb-true _ _ (page_is stands.Short e))
    encoded_by stands.Byte e = encoded_byte (size_is stands.Byte e) (eqb-false _ _ (is_false _ (page_is stands.Byte e)))
    encoded_by stands.Long e = encoded_long (size_is stands.Long e)

    instruction_encoded : instruction names at opcode (operand_of (operand_at at bytes)) ≡ Ok (take (size_at opcode) bytes)
    unfolding operand_at
    instruction_encoded = encoded_by (operands_of (kind_of opcode)) refl

module _ (names : Names) (at : ℕ) (bytes : List ℕ) (bytes_low : AreBytes bytes) where
  -- a whole instruction
  pub instruction_makes : (opcode_in bytes ≡ 104 → ⊥) → size_at (opcode_in bytes) ≤ length bytes → at + size_at (opcode_in bytes) ≤ 65536
      → Makes Cdp1802 names at (codes " " ++ instruction_text at bytes) (Address at) (at + size_at (opcode_in bytes)) (take (size_at (opcode_in bytes)) bytes)
  unfolding encoded_parts placed instruction_text
  instruction_makes other whole fits =
      let opcode : ℕ = opcode_in bytes in
      let line : List ℕ = codes " " ++ instruction_text at bytes in
      let low : opcode < 256 = byte_low bytes bytes_low 0 in
      let operand : Operand = operand_at at bytes in
      let in_range : IsInRange operand = ranged at bytes bytes_low in
      let is : parsed Cdp1802 no_names line ≡ Ok (parts_of (Code opcode) (operand_list operand)) =
      mnemonic_parsed opcode operand in_range (Code opcode) (instruction_means at bytes low other in_range) in
      record {
        unlabelled = has_no_label Cdp1802 names at line (Code opcode) (operand_list operand) is;
        laid_is =
            line_laid Cdp1802 names at line (Code opcode) (operand_list operand) is (Address at) (at + size_at opcode) refl
            (small_operands operand in_range) fits;
        encoded_is =
            parts_encoded Cdp1802 names at line (Code opcode) (operand_list operand) is (count_between (Address at) at (at + size_at opcode))
            (take (size_at opcode) bytes)
            (instruction_encoded names at bytes bytes_low whole fits);
      }
