-- What the assembler makes of the lines of a disassembly that are directives.
use Rattle.std.proofs.Common.{◌≡◌, ◌+◌, ◌<◌, ◌≤◌, ℕ, refl, List, [], ◌∷◌, ◌++◌, ◌∙◌, ap, sym, arith, true, false, Some, None, Ok, Err, cond}
use Rattle.std.specs.Prelude.{◌&&◌, ◌||◌, nat_le, codes, is_err, map, flat_map, replicate}
use Rattle.std.specs.Option.{option_map, ok_or}
use Rattle.std.specs.Result.{result_map_both, result_unwrap_or}
use Rattle.std.specs.List.{list_any}
use Rattle.std.proofs.lemmas.Bool.{cond-true, cond-false, le-ltb, le-leb}
use Rattle.vip_byte.specs.HexText.{hex2, hex4}
use Rattle.asm_lex.specs.declared.shape.Isa.{Isa}
use Rattle.asm_lex.specs.declared.shape.Isa.TheVariants.{Cdp1802, Chip8}
use Rattle.asm_lex.specs.declared.shape.Word.{Word}
use Rattle.asm_lex.specs.declared.shape.Word.TheVariants.{Org, Db, Dw}
use Rattle.asm_lex.specs.declared.shape.LexFault.TheVariants.{BadOperand}
use Rattle.asm_lex.specs.declared.shape.ValueFault.TheVariants.{Undefined as NoValue, Range}
use Rattle.asm_lex.specs.Bytes.{spells}
use Rattle.asm_lex.specs.Expressions.{has_large_number}
use Rattle.asm_lex.specs.Lines.{entry_meaning, word_meaning, parsed}
use Rattle.asm_lex.specs.Names.{Names, is_number}
use Rattle.asm_lex.specs.Words.{directive_of, entry_of, meaning_of}
use Rattle.asm_core.specs.declared.fault.AsmCause.TheVariants.{TooLarge}
use Rattle.asm_core.specs.declared.layout.LabelValue.{LabelValue}
use Rattle.asm_core.specs.declared.layout.LabelValue.TheVariants.{Address}
use Rattle.asm_core.specs.Names.{operand_value}
use Rattle.asm_lex.specs.Ranges.{origin_of, last_of}
use Rattle.asm_core.specs.Layout.{laid, laid_out, laid_parts, placed, judged, is_too_large, label_in, label_from, from_parts, at_least, encoded, encoded_parts, count_between}
use Rattle.asm_core.specs.Encoding.{word_bytes, values_of, collected, is_undefined, value_cause}
use Rattle.asm_core.proofs.PassTwo.{count_moved}
use Rattle.asm_listing.specs.Disassembly.{data_text, origin}
use Rattle.asm_listing.proofs.Plain.{parts_of, all_solid, parsed-with}
use Rattle.asm_listing.proofs.Values.{hex_text, no_names, byte_plain, word_plain, byte_number, word_number, one_number, small_number, number_operand}

-- the last address is one of 16 bits
pub last_low : (isa : Isa) → last_of isa ≤ 65535
last_low Cdp1802 = omega arith
last_low Chip8 = omega arith

-- a line without a label that is laid out
module _ (isa : Isa) (names : Names) (at : ℕ) (line : List ℕ) (meaning : Word) (operands : List (List ℕ)) (is : parsed isa no_names line ≡ Ok (parts_of meaning operands)) where
  pub has_no_label : label_in isa no_names line ≡ None
  unfolding label_in
  has_no_label = ap label_from is

  pub line_laid : (value : LabelValue) (next : ℕ) → placed isa no_names at (Some meaning) operands ≡ Ok (laid value next)
      → list_any (has_large_number isa) operands ≡ false
      → next ≤ last_of isa + 1 → laid_out isa no_names at line ≡ Ok (laid value next)
  unfolding laid_out laid_parts judged
  line_laid value next place small low =
      ap (from_parts (laid_parts isa no_names at)) is
      ∙ ap (λ large. judged isa false large (placed isa no_names at (Some meaning) operands)) small
      ∙ ap (judged isa false false) place
      ∙ cond-false (is_too_large isa false (laid value next)) (Err TooLarge) (Ok (laid value next)) (ap (λ b. b || false) (le-ltb (last_of isa + 1) next low))

  pub parts_encoded : (count : ℕ) (bytes : List ℕ) → encoded_parts isa names at count (Some meaning) operands ≡ Ok bytes
      → encoded isa no_names names at count line ≡ Ok bytes
  unfolding encoded
  parts_encoded count bytes e = ap (from_parts (λ parts. encoded_parts isa names at count parts.word parts.operands)) is ∙ e

-- what the assembler makes of one line where no name has a value yet: the address behind it, and its bytes
pub record Makes (isa : Isa) (names : Names) (at : ℕ) (line : List ℕ) (value : LabelValue) (next : ℕ) (bytes : List ℕ) : Type 0 where
  pub unlabelled : label_in isa no_names line ≡ None
  pub laid_is : laid_out isa no_names at line ≡ Ok (laid value next)
  pub encoded_is : encoded isa no_names names at (count_between value at next) line ≡ Ok bytes

-- one operand, a number
module _ (isa : Isa) (o : List ℕ) where
  org_means : word_meaning isa no_names false (o ∷ []) (codes "ORG") ≡ ok_or (option_map Some (cond (is_number isa no_names o) (Some Org) None)) BadOperand
  unfolding word_meaning entry_meaning meaning_of entry_of directive_of spells
  org_means = refl

  db_means : word_meaning isa no_names false (o ∷ []) (codes "DB") ≡ ok_or (option_map Some (cond (is_number isa no_names o && true) (Some Db) None)) BadOperand
  unfolding word_meaning entry_meaning meaning_of entry_of directive_of spells
  db_means = refl

  dw_means : word_meaning isa no_names false (o ∷ []) (codes "DW") ≡ ok_or (option_map Some (cond (is_number isa no_names o && true) (Some Dw) None)) BadOperand
  unfolding word_meaning entry_meaning meaning_of entry_of directive_of spells
  dw_means = refl

module _ (isa : Isa) (names : Names) (at : ℕ) where
  -- the first line sets the address
  pub origin_makes : (start : ℕ) → origin_of isa ≤ start → start ≤ last_of isa → Makes isa names at (origin start) (Address start) start []
  unfolding encoded_parts placed
  origin_makes start least most =
      let low : start < 65536 = omega (arith, most, last_low isa) in
      let o : List ℕ = hex_text (hex4 start) in
      let plain = word_plain start low in
      let number = word_number isa start low in
      let value : at_least (origin_of isa) (operand_value isa no_names at (last_of isa) o) ≡ Ok start =
      ap (at_least (origin_of isa)) (number_operand isa o plain (omega arith) start number (omega arith) no_names at (last_of isa) most)
      ∙ cond-true (nat_le (origin_of isa) start) (Ok start) (Err Range) (le-leb _ _ least) in
      let is : parsed isa no_names (origin start) ≡ Ok (parts_of Org (o ∷ [])) =
      parsed-with isa no_names (codes "ORG") (refl, omega arith) (omega arith) o [] ((all_solid o plain, omega arith), tt) (omega arith) Org
      (org_means isa o ∙ ap (λ b. ok_or (option_map Some (cond b (Some Org) None)) BadOperand) (one_number isa o plain (omega arith) start number)) in
      record {
        unlabelled = has_no_label isa names at (origin start) Org (o ∷ []) is;
        laid_is =
            line_laid isa names at (origin start) Org (o ∷ []) is (Address start) start
            (ap (λ r. result_map_both (λ address. laid (Address address) address) (λ fault. fault) r) value)
            (ap (λ b. b || false) (small_number isa o plain (omega arith) start number (omega arith)))
            (omega (arith, most));
        encoded_is = parts_encoded isa names at (origin start) Org (o ∷ []) is (count_between (Address start) at start) []
            (ap (λ count. Ok (replicate count 0)) (sym (count_moved at start)));
      }

  -- a byte of data
  pub data_makes : (byte : ℕ) → byte < 256 → at + 1 ≤ last_of isa + 1 → Makes isa names at (data_text byte) (Address at) (at + 1) (byte ∷ [])
  unfolding encoded_parts placed data_text values_of collected
  data_makes byte low fits =
      let o : List ℕ = hex_text (hex2 byte) in
      let plain = byte_plain byte low in
      let number = byte_number isa byte low in
      let value : operand_value isa names at 255 o ≡ Ok byte = number_operand isa o plain (omega arith) byte number (omega arith) names at 255 (omega arith) in
      let is : parsed isa no_names (data_text byte) ≡ Ok (parts_of Db (o ∷ [])) =
      parsed-with isa no_names (codes "DB") (refl, omega arith) (omega arith) o [] ((all_solid o plain, omega arith), tt) (omega arith) Db
      (db_means isa o ∙ ap (λ b. ok_or (option_map Some (cond (b && true) (Some Db) None)) BadOperand) (one_number isa o plain (omega arith) byte number)) in
      record {
        unlabelled = has_no_label isa names at (data_text byte) Db (o ∷ []) is;
        laid_is = line_laid isa names at (data_text byte) Db (o ∷ []) is (Address at) (at + 1) refl
            (ap (λ b. b || false) (small_number isa o plain (omega arith) byte number (omega arith))) fits;
        encoded_is = parts_encoded isa names at (data_text byte) Db (o ∷ []) is (count_between (Address at) at (at + 1)) (byte ∷ [])
            (ap (λ r. result_map_both (λ bytes. bytes) value_cause
            (cond (list_any is_undefined (r ∷ [])) (Err NoValue)
            (cond (list_any is_err (r ∷ [])) (Err Range) (Ok (map (λ result. result_unwrap_or result 0) (r ∷ [])))))) value);
      }

  -- a word of data
  pub word_makes : (word : ℕ) → word < 65536 → at + 2 ≤ last_of isa + 1
      → Makes isa names at (codes " DW 0x" ++ hex4 word) (Address at) (at + 2) (word_bytes word)
  unfolding encoded_parts placed values_of collected
  word_makes word low fits =
      let line : List ℕ = codes " DW 0x" ++ hex4 word in
      let o : List ℕ = hex_text (hex4 word) in
      let plain = word_plain word low in
      let number = word_number isa word low in
      let value : operand_value isa names at 65535 o ≡ Ok word =
      number_operand isa o plain (omega arith) word number (omega arith) names at 65535 (omega arith) in
      let is : parsed isa no_names line ≡ Ok (parts_of Dw (o ∷ [])) =
      parsed-with isa no_names (codes "DW") (refl, omega arith) (omega arith) o [] ((all_solid o plain, omega arith), tt) (omega arith) Dw
      (dw_means isa o ∙ ap (λ b. ok_or (option_map Some (cond (b && true) (Some Dw) None)) BadOperand) (one_number isa o plain (omega arith) word number)) in
      record {
        unlabelled = has_no_label isa names at line Dw (o ∷ []) is;
        laid_is = line_laid isa names at line Dw (o ∷ []) is (Address at) (at + 2) refl
            (ap (λ b. b || false) (small_number isa o plain (omega arith) word number (omega arith))) fits;
        encoded_is = parts_encoded isa names at line Dw (o ∷ []) is (count_between (Address at) at (at + 2)) (word_bytes word)
            (ap (λ r. result_map_both (flat_map word_bytes) value_cause
            (cond (list_any is_undefined (r ∷ [])) (Err NoValue)
            (cond (list_any is_err (r ∷ [])) (Err Range) (Ok (map (λ result. result_unwrap_or result 0) (r ∷ [])))))) value);
      }
