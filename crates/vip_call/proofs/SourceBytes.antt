-- Each byte that a source of the CDP1802 gives an address is below 256: opcodes are, and operands lie in their ranges.
use Rattle.std.proofs.Common.{◌≡◌, ℕ, zero, suc, ◌+◌, ◌-◌, ◌/◌, ◌%◌, ◌<◌, ◌≤◌, Bool, true, false, ℤ, pos, negsuc, List, [], ◌∷◌, length, map, flat_map, replicate, slice_get, slice_index, Option, Some, None, option_map, option_and_then, ok_or, IfSome, IfOk, Result, Ok, Err, refl, arith, lit<, is_err, is_some, leb-true, ltb-true, nat_lt}
use Rattle.std.specs.Prelude.{codes, ◌==◌, ◌&&◌, if◌then◌else◌, int_le, nat_le, unwrap_or}
use Rattle.std.specs.List.{list_any, range_with_len}
use Rattle.std.specs.Option.{option_or}
use Rattle.std.specs.Result.{result_map_both, result_unwrap_or}
use Rattle.std.proofs.lemmas.List.FromFn.{length-map-range_with_len}
use Rattle.machine.specs.declared.Kind.{Kind}
use Rattle.machine.specs.Opcodes.{kind_of}
use Rattle.vip_isa.specs.Rows.{first_of, greatest_of, least_of, opcode_of, operands_of}
use Rattle.vip_isa.proofs.Below.{at-passes_below}
use Rattle.asm_lex.specs.declared.shape.Isa.TheVariants.{Cdp1802}
use Rattle.asm_lex.specs.declared.shape.LexFault.{LexFault}
use Rattle.asm_lex.specs.declared.shape.LexFault.TheVariants.{BadOperand}
use Rattle.asm_lex.specs.declared.shape.ValueFault.{ValueFault}
use Rattle.asm_lex.specs.declared.shape.ValueFault.TheVariants.{Range}
use Rattle.asm_lex.specs.declared.shape.Word.{Word}
use Rattle.asm_lex.specs.declared.shape.Word.TheVariants.{Code, Instruction, Org, Equ, EquRegister, Db, Dw, Ds, Page}
use Rattle.asm_lex.specs.declared.words.Entry.{Entry}
use Rattle.asm_lex.specs.declared.words.Entry.TheVariants.{Directive, Mnemonic, Words}
use Rattle.asm_lex.specs.Bytes.{spells}
use Rattle.asm_lex.specs.Expressions.{value_of}
use Rattle.asm_lex.specs.Lines.{Parsed, entry_meaning, has_bad_bytes, has_bad_name, operands_of as operands_in_code, parsed, parsed_code, word_meaning}
use Rattle.asm_lex.specs.Names.{Names, number_named}
use Rattle.asm_lex.specs.Parts.{code_of, label_of, statement_of, word_of}
use Rattle.asm_lex.specs.Words.{coded, directive_of, entry_of, gives_register, meaning_of, mnemonic_at, mnemonic_entry, number_written, opcode_named, opcodes, size_at, takes, with_number}
use Rattle.asm_core.specs.declared.fault.AsmCause.{AsmCause}
use Rattle.asm_core.specs.declared.table.Cell.{Cell}
use Rattle.asm_core.specs.Encoding.{collected, immediate, instruction, is_undefined, long_branch, short_branch, value_cause, values_of, word_bytes}
use Rattle.asm_core.specs.Layout.{encoded, encoded_parts, from_parts}
use Rattle.asm_core.specs.Names.{first_operand, operand_value, within}
use Rattle.asm_core.specs.Sources.{address_of, all_names, bytes_of, cell_before, cell_of, count_of, line_at, names_before, source_lines}
use Rattle.vip_debug.proofs.TargetMoving.{find-within}
use Rattle.vip_tools.specs.Certificates.{bytes_at, source_byte}

-- ---- options and results

if_some : {X : Type 0} (P : X → Type 0) (b : Bool) (o o' : Option X) → IfSome o P → IfSome o' P → IfSome (if b then o else o') P
if_some P true o o' first second = first
if_some P false o o' first second = second

or_some : {X : Type 0} (P : X → Type 0) (o o' : Option X) → IfSome o P → IfSome o' P → IfSome (option_or o o') P
or_some P None o' first second = second
or_some P (Some x) o' first second = first

map_some : {X Y : Type 0} (P : X → Type 0) (Q : Y → Type 0) (f : X → Y) (o : Option X) → ((x : X) → P x → Q (f x)) → IfSome o P → IfSome (option_map f o) Q
map_some P Q f None so is = tt
map_some P Q f (Some x) so is = so x is

if_ok : {X E : Type 0} (P : X → Type 0) (b : Bool) (r r' : Result X E) → IfOk r P → IfOk r' P → IfOk (if b then r else r') P
if_ok P true r r' first second = first
if_ok P false r r' first second = second

map_ok : {X Y E F : Type 0} (P : X → Type 0) (Q : Y → Type 0) (f : X → Y) (g : E → F) (r : Result X E) → ((x : X) → P x → Q (f x)) → IfOk r P
    → IfOk (result_map_both f g r) Q
map_ok P Q f g (Ok x) so is = so x is
map_ok P Q f g (Err e) so is = tt

-- ---- bytes

abbrev IsByte : ℕ → Type 0
IsByte byte = byte < 256

abbrev AreAtMost : ℕ → List ℕ → Type 0
AreAtMost most [] = Unit {0}
AreAtMost most (value ∷ values) = (value ≤ most) × AreAtMost most values

abbrev AreBytes : List ℕ → Type 0
AreBytes bytes = AreAtMost 255 bytes

got : (bytes : List ℕ) (k : ℕ) → AreBytes bytes → IfSome (slice_get bytes k) IsByte
got [] k low = tt
got (byte ∷ bytes) zero low = omega (arith, low.0)
got (byte ∷ bytes) (suc k) low = got bytes k low.1

zeros : (n : ℕ) → AreBytes (replicate n 0)
zeros zero = tt
zeros (suc n) = (omega arith, zeros n)

words : (values : List ℕ) → AreAtMost 65535 values → AreBytes (flat_map word_bytes values)
words [] low = tt
words (value ∷ values) low = (omega (arith, low.0), (omega arith, words values low.1))

-- ---- the values of operands

module _ (most : ℕ) where
  tested : (a b : Bool) (n : ℕ) → (b ≡ true → n ≤ most) → IfOk (if a && b then Ok n else Err Range) (λ v. v ≤ most)
  tested true true n so = so refl
  tested true false n so = tt
  tested false b n so = tt

  in_range : (r : Result ℤ ValueFault) → IfOk (within most r) (λ v. v ≤ most)
  in_range (Err fault) = tt
  in_range (Ok (pos n)) = tested (int_le (pos 0) (pos n)) (int_le (pos n) (pos most)) n (leb-true n most)
  in_range (Ok (negsuc n)) = tt

module _ (names : Names) (here most : ℕ) where
  valued : (text : List ℕ) → IfOk (operand_value Cdp1802 names here most text) (λ v. v ≤ most)
  unfolding operand_value
  valued text = in_range most (value_of Cdp1802 (number_named names) here text)

  or_zero : (r : Result ℕ ValueFault) → IfOk r (λ v. v ≤ most) → result_unwrap_or r 0 ≤ most
  or_zero (Ok v) low = low
  or_zero (Err fault) low = omega arith

  all_valued : (texts : List (List ℕ)) → AreAtMost most (map (λ r. result_unwrap_or r 0) (map (operand_value Cdp1802 names here most) texts))
  all_valued [] = tt
  all_valued (text ∷ texts) = (or_zero (operand_value Cdp1802 names here most text) (valued text), all_valued texts)

  values_low : (texts : List (List ℕ)) → IfOk (values_of Cdp1802 names here most texts) (AreAtMost most)
  unfolding values_of collected
  values_low texts =
      let results = map (operand_value Cdp1802 names here most) texts in
      if_ok (AreAtMost most) (list_any is_undefined results) _ _ tt (if_ok (AreAtMost most) (list_any is_err results) _ _ tt (all_valued texts))

-- ---- opcodes

-- that of a mnemonic with its operands
module _ (opcode : ℕ) (low : opcode < 256) where
  abbrev kind : Kind
  kind = kind_of opcode

  greatest : first_of kind + greatest_of kind < 256
  greatest = ltb-true _ _ (at-passes_below (λ b. nat_lt (first_of (kind_of b) + greatest_of (kind_of b)) 256) 256 refl opcode low)

  written : (a b : Bool) (number : ℕ) → (b ≡ true → number ≤ greatest_of kind)
      → IfSome (if a && b then Some (opcode_of (record { kind = kind; n = number })) else None) IsByte
  written true true number so = omega (arith, so refl, greatest)
  written true false number so = tt
  written false b number so = tt

  coded_by : (number : Option ℕ) → IfSome (option_and_then (with_number kind) number) IsByte
  coded_by None = tt
  coded_by (Some number) = written (nat_le (least_of kind) number) (nat_le number (greatest_of kind)) number (leb-true number (greatest_of kind))

  coded_low : (names : Names) (operands : List (List ℕ)) → IfSome (coded names kind operands) IsByte
  unfolding coded
  coded_low names operands = coded_by (number_written names (operands_of kind) operands)

-- ---- the words of a line

abbrev IsLow : Word → Type 0
IsLow (Code opcode) = opcode < 256
IsLow (Instruction op) = ⊥
IsLow _ = Unit {0}

abbrev IsLowEntry : Entry → Type 0
IsLowEntry (Directive directive) = IsLow directive
IsLowEntry (Mnemonic opcode) = opcode < 256
IsLowEntry (Words form) = ⊥

directive_low : (word : List ℕ) → IfSome (directive_of word) IsLow
unfolding directive_of
directive_low word =
    by_tests (spells word (codes "ORG")) (spells word (codes "EQU")) (spells word (codes "DB")) (spells word (codes "DW")) (spells word (codes "DS"))
    (spells word (codes "PAGE"))
  where
    by_tests : (org equ db dw ds page : Bool)
        → IfSome
        (if org then Some Org
        else if equ then Some Equ
        else if db then Some Db
        else if dw then Some Dw
        else if ds then Some Ds
        else if page then Some Page
        else None) IsLow
    by_tests true equ db dw ds page = tt
    by_tests false true db dw ds page = tt
    by_tests false false true dw ds page = tt
    by_tests false false false true ds page = tt
    by_tests false false false false true page = tt
    by_tests false false false false false true = tt
    by_tests false false false false false false = tt

register_low : (register : Option ℕ) → IfSome (option_map EquRegister register) IsLow
register_low None = tt
register_low (Some register) = tt

named_low : (word : List ℕ) (found : Option ℕ) → opcode_named word ≡ found → IfSome found IsByte
unfolding opcode_named opcodes
named_low word None is = tt
named_low word (Some opcode) is = (find-within (λ opcode. spells word (mnemonic_at opcode)) 0 256 opcode is).1

entry_low : (word : List ℕ) → IfSome (entry_of Cdp1802 word) IsLowEntry
unfolding entry_of mnemonic_entry
entry_low word =
    if_some IsLowEntry (is_some (directive_of word)) _ _
    (map_some IsLow IsLowEntry Directive (directive_of word) (λ d low. low) (directive_low word))
    (map_some IsByte IsLowEntry Mnemonic (opcode_named word) (λ o low. low) (named_low word (opcode_named word) refl))

module _ (names : Names) (has_label : Bool) (operands : List (List ℕ)) where
  meaning_low : (entry : Entry) → IsLowEntry entry → IfSome (meaning_of Cdp1802 names entry has_label operands) IsLow
  unfolding meaning_of
  meaning_low (Directive directive) low =
      or_some IsLow (option_map EquRegister (gives_register Cdp1802 names directive has_label operands)) _
      (register_low (gives_register Cdp1802 names directive has_label operands))
      (if_some IsLow (takes Cdp1802 names directive has_label operands) (Some directive) None low tt)
  meaning_low (Mnemonic opcode) low = map_some IsByte IsLow Code (coded names (kind_of opcode) operands) (λ o is. is) (coded_low opcode low names operands)
  meaning_low (Words form) low = absurd low

  abbrev IsLowOption : Option Word → Type 0
  IsLowOption word = IfSome word IsLow

  found_low : (found : Option Word) → IfSome found IsLow → IfOk (ok_or (option_map Some found) BadOperand) IsLowOption
  found_low None low = tt
  found_low (Some word) low = low

  entry_meant : (entry : Option Entry) → IfSome entry IsLowEntry → IfOk (entry_meaning Cdp1802 names has_label operands entry) IsLowOption
  unfolding entry_meaning
  entry_meant None low = tt
  entry_meant (Some entry) low = found_low (meaning_of Cdp1802 names entry has_label operands) (meaning_low entry low)

  word_low : (word : List ℕ) → IfOk (word_meaning Cdp1802 names has_label operands word) IsLowOption
  unfolding word_meaning
  word_low word = if_ok IsLowOption (length word == 0) (Ok None) _ tt (entry_meant (entry_of Cdp1802 word) (entry_low word))

abbrev IsLowLine : Parsed → Type 0
IsLowLine line = IfSome line.word IsLow

parsed_low : (names : Names) (line : List ℕ) → IfOk (parsed Cdp1802 names line) IsLowLine
unfolding parsed parsed_code
parsed_low names line =
    let code = code_of line in
    if_ok IsLowLine (has_bad_bytes line) _ _ tt
    (if_ok IsLowLine (has_bad_name Cdp1802 code) _ _ tt
    (map_ok (λ word. IfSome word IsLow) IsLowLine (λ word. record { label = label_of code; word = word; operands = operands_in_code code }) (λ fault. fault)
    (word_meaning Cdp1802 names (is_some (label_of code)) (operands_in_code code) (word_of (statement_of code))) (λ word low. low)
    (word_low names (is_some (label_of code)) (operands_in_code code) (word_of (statement_of code)))))

-- ---- the bytes of a line

module _ (names : Names) (at : ℕ) where
  long_low : (opcode : ℕ) → opcode < 256 → (r : Result ℕ ValueFault) → IfOk r (λ v. v ≤ 65535) → IfOk (long_branch opcode r) AreBytes
  long_low opcode low (Ok v) most = (omega (arith, low), (omega (arith, most), (omega arith, tt)))
  long_low opcode low (Err fault) most = tt

  short_low : (opcode : ℕ) → opcode < 256 → (r : Result ℕ ValueFault) → IfOk (short_branch at opcode r) AreBytes
  short_low opcode low (Ok v) = if_ok AreBytes (v / 256 == (at + 1) / 256) (Ok (opcode ∷ v % 256 ∷ [])) _ (omega (arith, low), (omega arith, tt)) tt
  short_low opcode low (Err fault) = tt

  immediate_low : (opcode : ℕ) → opcode < 256 → (r : Result ℕ ValueFault) → IfOk r (λ v. v ≤ 255) → IfOk (immediate opcode r) AreBytes
  immediate_low opcode low (Ok v) most = (omega (arith, low), (most, tt))
  immediate_low opcode low (Err fault) most = tt

  instruction_low : (opcode : ℕ) (operand : List ℕ) → opcode < 256 → IfOk (instruction names at opcode operand) AreBytes
  unfolding instruction
  instruction_low opcode operand low =
      if_ok AreBytes (size_at opcode == 1) (Ok (opcode ∷ [])) _ (omega (arith, low), tt)
      (if_ok AreBytes (size_at opcode == 3) _ _ (long_low opcode low (operand_value Cdp1802 names at 65535 operand) (valued names at 65535 operand))
      (if_ok AreBytes (opcode / 16 == 3) _ _ (short_low opcode low (operand_value Cdp1802 names at 65535 operand))
      (immediate_low opcode low (operand_value Cdp1802 names at 255 operand) (valued names at 255 operand))))

  parts_low : (count : ℕ) (word : Option Word) (operands : List (List ℕ)) → IfSome word IsLow → IfOk (encoded_parts Cdp1802 names at count word operands) AreBytes
  unfolding encoded_parts
  parts_low count (Some (Code opcode)) operands low = instruction_low opcode (first_operand operands) low
  parts_low count (Some (Instruction op)) operands low = absurd low
  parts_low count (Some Db) operands low =
      map_ok AreBytes AreBytes (λ bytes. bytes) value_cause (values_of Cdp1802 names at 255 operands) (λ bytes are. are) (values_low names at 255 operands)
  parts_low count (Some Dw) operands low =
      map_ok (AreAtMost 65535) AreBytes (flat_map word_bytes) value_cause (values_of Cdp1802 names at 65535 operands) words (values_low names at 65535 operands)
  parts_low count _ operands low = zeros count

  line_low : (count : ℕ) (r : Result Parsed LexFault) → IfOk r IsLowLine
      → AreBytes (result_unwrap_or (from_parts (λ line. encoded_parts Cdp1802 names at count line.word line.operands) r) [])
  line_low count (Ok line) low = or_none (encoded_parts Cdp1802 names at count line.word line.operands) (parts_low count line.word line.operands low)
    where
      or_none : (r : Result (List ℕ) AsmCause) → IfOk r AreBytes → AreBytes (result_unwrap_or r [])
      or_none (Ok bytes) are = are
      or_none (Err cause) are = tt
  line_low count (Err fault) low = tt

-- ---- the bytes of a source

abbrev IsLowCell : Cell → Type 0
IsLowCell cell = cell.byte < 256

module _ (source : List (List ℕ)) where
  bytes_low : (i : ℕ) → AreBytes (result_unwrap_or (bytes_of Cdp1802 source i) [])
  unfolding bytes_of encoded
  bytes_low i =
      line_low (all_names Cdp1802 source) (address_of Cdp1802 source i) (count_of Cdp1802 source i) (parsed Cdp1802 (names_before Cdp1802 source i) (line_at source i))
      (parsed_low (names_before Cdp1802 source i) (line_at source i))

  cell_low : (i address : ℕ) → IfSome (cell_of Cdp1802 source i address) IsLowCell
  cell_low i address =
      let bytes = result_unwrap_or (bytes_of Cdp1802 source i) [] in
      let at = address_of Cdp1802 source i in
      if_some IsLowCell (nat_le at address) _ None
      (map_some IsByte IsLowCell (λ byte. record { byte = byte; line = i + 1 }) (slice_get bytes (address - at)) (λ byte low. low) (got bytes (address - at) (bytes_low i)))
      tt

  before_low : (i address : ℕ) → IfSome (cell_before Cdp1802 source i address) IsLowCell
  unfolding cell_before
  before_low zero address = tt
  before_low (suc i) address =
      or_some IsLowCell (cell_before Cdp1802 source i address) (cell_of Cdp1802 source i address) (before_low i address) (cell_low i address)

or_zero_low : (cell : Option Cell) → IfSome cell IsLowCell → unwrap_or (option_map (λ cell. cell.byte) cell) 0 < 256
or_zero_low None low = lit< tt
or_zero_low (Some cell) low = low

map_low : (f : ℕ → ℕ) → ((k : ℕ) → f k < 256) → (ks : List ℕ) (i : ℕ) → slice_index (map f ks) i < 256
map_low f low [] i = lit< tt
map_low f low (k ∷ ks) zero = low k
map_low f low (k ∷ ks) (suc i) = map_low f low ks i

-- those of a memory
pub memory_length : (text : List ℕ) (start size : ℕ) → length (bytes_at (source_byte text) start size) ≡ size
unfolding bytes_at
memory_length text start size = length-map-range_with_len (λ offset. unwrap_or (source_byte text (start + offset)) 0) 0 size

pub memory_low : (text : List ℕ) (start size i : ℕ) → slice_index (bytes_at (source_byte text) start size) i < 256
unfolding bytes_at
memory_low text start size i =
    map_low (λ offset. unwrap_or (source_byte text (start + offset)) 0)
    (λ offset. or_zero_low _ (before_low (source_lines text) (length (source_lines text)) (start + offset))) (range_with_len 0 size) i
