-- Pass 2, line by line.
use Rattle.std.proofs.Common.{◌≡◌, ◌+◌, ◌-◌, ◌*◌, ◌/◌, ◌%◌, ◌<◌, ◌≤◌, ℕ, suc, refl, Bool, List, [], ◌∷◌, length, sym, ◌∙◌, ap, arith, true, false, cond, Some, None, Option, Ok, Err, Result}
use Rattle.std.specs.Prelude.{◌&&◌, map, flat_map, replicate, ◌==◌, nat_le, nat_lt, is_some, is_err}
use Rattle.std.specs.List.{list_any}
use Rattle.std.specs.Result.{result_err, result_unwrap_or, result_map_both}
use Rattle.std.proofs.lemmas.Bool.{and_parts, cond-true, leb-true, eqb-true, eqb-false, eq-eqb}
use Rattle.std.proofs.lemmas.List.{length-map, length-replicate}
use Rattle.machine.specs.declared.Kind.{Kind}
use Rattle.machine.specs.declared.Kind.TheVariants.{Idl}
use Rattle.machine.specs.Opcodes.{kind_of}
use Rattle.vip_isa.specs.Rows.{size_of}
use Rattle.asm_lex.specs.declared.shape.Word.{Word}
use Rattle.asm_lex.specs.declared.shape.Word.TheVariants.{Code, Instruction, Db, Dw}
use Rattle.asm_lex.specs.declared.shape.ValueFault.{ValueFault}
use Rattle.asm_lex.specs.declared.shape.ValueFault.TheVariants as value
use Rattle.asm_lex.specs.declared.shape.LexFault.{LexFault}
use Rattle.asm_lex.specs.Expressions.{has_large_number}
use Rattle.asm_lex.specs.Lines.{Parsed, parsed}
use Rattle.asm_lex.specs.Words.{size_at}
use Rattle.asm_core.specs.declared.layout.Laid.{Laid}
use Rattle.asm_core.specs.declared.table.Cell.{Cell}
use Rattle.asm_core.specs.declared.fault.AsmCause.{AsmCause}
use Rattle.asm_core.specs.declared.fault.AsmCause.TheVariants.{Duplicate, OffPage, TooLarge}
use Rattle.asm_lex.specs.declared.shape.Isa.{Isa}
use Rattle.asm_lex.specs.declared.shape.Isa.TheVariants.{Cdp1802, Chip8}
use Rattle.asm_lex.specs.Forms.{most_of, last_operand}
use Rattle.asm_lex.specs.Names.{Names, value_in}
use Rattle.chip8_words.specs.declared.code.Op.{Op}
use Rattle.chip8_words.specs.Codes.{encoded as opcode_of_parts}
use Rattle.asm_core.specs.declared.layout.LabelValue.{LabelValue}
use Rattle.asm_core.specs.declared.layout.LabelValue.TheVariants.{Address, Given}
use Rattle.asm_core.specs.Names.{operand_value, first_operand}
use Rattle.asm_core.specs.Layout.{laid, laid_out, label_in, laid_parts, from_parts, judged, placed, is_duplicate, is_too_large, encoded_parts, encoded, count_between}
use Rattle.asm_core.specs.Encoding.{word_bytes, is_undefined, collected, values_of, long_branch, to_page, short_branch, immediate, instruction, with_number, op_bytes, value_cause}
use Rattle.asm_core.specs.Sources.{Known, known_after, known_at, names_before, address_of, all_names, line_at, fault_1, fault_2, value_from, label_value, bytes_of, cell_before, NoFault, count_of}
use Rattle.asm_core.specs.Made.{IsAssembly}
use Rattle.asm_core.specs.Passes.{Planned, LaysOut}
use Rattle.asm_core.proofs.PassOne.{known_at-next}
use Rattle.asm_core.proofs.Cells.{entry}

-- an instruction has one byte, two or three
some_size : (kind : Kind) → (nat_le 1 (size_of kind) && nat_le (size_of kind) 3) ≡ true
some_size Idl = refl
some_size _ = refl

size_at-some : (opcode : ℕ) → (1 ≤ size_at opcode) × (size_at opcode ≤ 3)
unfolding size_at
size_at-some opcode =
    let both = and_parts _ _ (some_size (kind_of opcode)) in
    (leb-true 1 (size_of (kind_of opcode)) both.0, leb-true (size_of (kind_of opcode)) 3 both.1)

-- what a result was made from
mapped_ok : {X Y E F : Type 0} (f : X → Y) (g : E → F) (r : Result X E) (y : Y) → result_map_both f g r ≡ Ok y → (x : X) × (r ≡ Ok x) × (f x ≡ y)
mapped_ok f g (Ok x) y e = (x, refl, cc)
mapped_ok f g (Err e') y e = absurd (cc)

-- how many values were collected
collected_length : (results : List (Result ℕ ValueFault)) (values : List ℕ) → collected results ≡ Ok values → length values ≡ length results
unfolding collected
collected_length results values e =
    elim (list_any is_undefined results)
    as (λ b. cond b (Err value.Undefined)
    (cond (list_any is_err results) (Err value.Range) (Ok (map (λ result. result_unwrap_or result 0) results))) ≡ Ok values
    → length values ≡ length results) [
      | true ↦ λ h. absurd (cc)
      | false ↦ λ h. elim (list_any is_err results)
          as (λ b. cond b (Err value.Range) (Ok (map (λ result. result_unwrap_or result 0) results)) ≡ Ok values → length values ≡ length results) [
            | true ↦ λ k. absurd (cc)
            | false ↦ λ k. let same : map (λ result. result_unwrap_or result 0) results ≡ values =
                cc in sym (ap length same) ∙ length-map results (λ result. result_unwrap_or result 0)
          ] h
    ] e

values_length : (isa : Isa) (names : Names) (here most : ℕ) (operands : List (List ℕ)) (values : List ℕ) → values_of isa names here most operands ≡ Ok values
    → length values ≡ length operands
unfolding values_of
values_length isa names here most operands values e =
    collected_length (map (operand_value isa names here most) operands) values e ∙ length-map operands (operand_value isa names here most)

length-words : (values : List ℕ) → length (flat_map word_bytes values) ≡ 2 * length values
length-words [] = refl
length-words (v ∷ values) = omega (arith, length-words values)

to_page_length : (at opcode target : ℕ) (bytes : List ℕ) → to_page at opcode target ≡ Ok bytes → length bytes ≡ 2
to_page_length at opcode target bytes e =
    elim (target / 256 == (at + 1) / 256) as (λ b. cond b (Ok (opcode ∷ target % 256 ∷ [])) (Err OffPage) ≡ Ok bytes → length bytes ≡ 2) [
      | true ↦ λ h. let same : (opcode ∷ target % 256 ∷ []) ≡ bytes = cc in sym (ap length same)
      | false ↦ λ h. absurd (cc)
    ] e

short_length : (at opcode : ℕ) (r : Result ℕ ValueFault) (bytes : List ℕ) → short_branch at opcode r ≡ Ok bytes → length bytes ≡ 2
short_length at opcode (Ok target) bytes e = to_page_length at opcode target bytes e
short_length at opcode (Err fault) bytes e = absurd (cc)

instruction_length : (names : Names) (at opcode : ℕ) (operand : List ℕ) (bytes : List ℕ) → instruction names at opcode operand ≡ Ok bytes
    → length bytes ≡ size_at opcode
unfolding instruction
instruction_length names at opcode operand bytes e =
    let word : Result ℕ ValueFault = operand_value Cdp1802 names at 65535 operand in
    let byte : Result ℕ ValueFault = operand_value Cdp1802 names at 255 operand in
    let rest_2 : Result (List ℕ) AsmCause = cond (opcode / 16 == 3) (short_branch at opcode word) (immediate opcode byte) in
    let rest_3 : Result (List ℕ) AsmCause = cond (size_at opcode == 3) (long_branch opcode word) rest_2 in
    elim (size_at opcode == 1) as (λ b. (size_at opcode == 1) ≡ b → cond b (Ok (opcode ∷ [])) rest_3 ≡ Ok bytes → length bytes ≡ size_at opcode) [
      | true ↦ λ one h. let same : (opcode ∷ []) ≡ bytes = cc in omega (arith, ap length same, eqb-true (size_at opcode) 1 one)
      | false ↦ λ not_one h. elim (size_at opcode == 3)
          as (λ b. (size_at opcode == 3) ≡ b → cond b (long_branch opcode word) rest_2 ≡ Ok bytes → length bytes ≡ size_at opcode) [
            | true ↦ λ three k. let found =
                mapped_ok (λ target. opcode ∷ word_bytes target) value_cause word bytes k in
                omega (arith, ap length found.2, eqb-true (size_at opcode) 3 three)
            | false ↦ λ not_three k.
                let two : length bytes ≡ 2 =
                elim (opcode / 16 == 3) as (λ b. cond b (short_branch at opcode word) (immediate opcode byte) ≡ Ok bytes → length bytes ≡ 2) [
                  | true ↦ λ m. short_length at opcode word bytes m
                  | false ↦ λ m. let found = mapped_ok (λ byte. opcode ∷ byte ∷ []) value_cause byte bytes m in sym (ap length found.2)
                ] k in
                omega (
                  arith,
                  two,
                  (size_at-some opcode).0,
                  (size_at-some opcode).1,
                  eqb-false (size_at opcode) 1 not_one,
                  eqb-false
                      (size_at opcode) 3 not_three,
                )
          ] refl h
    ] refl e

op_length : (names : Names) (at : ℕ) (op : Op) (operand bytes : List ℕ) → op_bytes names at op operand ≡ Ok bytes → length bytes ≡ 2
unfolding op_bytes
op_length names at op operand bytes e =
    let made : ℕ → List ℕ = λ number. word_bytes (opcode_of_parts (with_number op number)) in
    let value : Result ℕ ValueFault = operand_value Chip8 names at (most_of op.form) operand in
    elim (nat_lt 0 (most_of op.form)) as
    (λ b. cond b (result_map_both made value_cause value) (Ok (word_bytes (opcode_of_parts op))) ≡ Ok bytes → length bytes ≡ 2) [
      | true ↦ λ h. let found = mapped_ok made value_cause value bytes h in sym (ap length found.2)
      | false ↦ λ h. let same : word_bytes (opcode_of_parts op) ≡ bytes = cc in sym (ap length same)
    ] e

count_placed : (at next : ℕ) → next - at ≡ count_between (Address at) at next
count_placed at next = sym (cond-true (at == at) (next - at) 0 (eq-eqb at at refl))

-- a line that moves the address has no bytes
pub count_moved : (at next : ℕ) → 0 ≡ count_between (Address next) at next
count_moved at next = elim (next == at) as (λ b. (next == at) ≡ b → 0 ≡ cond b (next - at) 0) [
  | true ↦ λ e. omega (arith, eqb-true next at e)
  | false ↦ λ e. refl
] refl

abbrev count_in : ℕ → Laid → ℕ
count_in at laid = count_between laid.value at laid.next

module _ (isa : Isa) (before after : Names) (at : ℕ) where
  parts_count : (word : Option Word) (operands : List (List ℕ)) (found : Laid) (bytes : List ℕ)
      → placed isa before at word operands ≡ Ok found → encoded_parts isa after at (count_in at found) word operands ≡ Ok bytes
      → length bytes ≡ count_in at found
  unfolding placed encoded_parts
  parts_count (Some (Code opcode)) operands found bytes p e =
      let same : laid (Address at) (at + size_at opcode) ≡ found = cc in
      let count : at + size_at opcode - at ≡ size_at opcode = omega arith in
      instruction_length after at opcode (first_operand operands) bytes e ∙ sym count ∙ count_placed at (at + size_at opcode) ∙ ap (count_in at) same
  parts_count (Some (Instruction op)) operands found bytes p e =
      let same : laid (Address at) (at + 2) ≡ found = cc in
      let count : at + 2 - at ≡ 2 = omega arith in
      op_length after at op (last_operand operands) bytes e ∙ sym count ∙ count_placed at (at + 2) ∙ ap (count_in at) same
  parts_count (Some Db) operands found bytes p e =
      let same : laid (Address at) (at + length operands) ≡ found = cc in
      let values = mapped_ok (λ (bytes : List ℕ). bytes) value_cause (values_of isa after at 255 operands) bytes e in
      let count : length bytes ≡ at + length operands - at = omega (arith, ap length values.2, values_length isa after at 255 operands values.0 values.1) in
      count ∙ count_placed at (at + length operands) ∙ ap (count_in at) same
  parts_count (Some Dw) operands found bytes p e =
      let same : laid (Address at) (at + 2 * length operands) ≡ found = cc in
      let values = mapped_ok (flat_map word_bytes) value_cause (values_of isa after at 65535 operands) bytes e in
      let count : length bytes ≡ at + 2 * length operands - at =
      omega (arith, ap length values.2, length-words values.0, values_length isa after at 65535 operands values.0 values.1) in
      count ∙ count_placed at (at + 2 * length operands) ∙ ap (count_in at) same
  parts_count _ operands found bytes p e =
      let room : replicate (count_in at found) 0 ≡ bytes = cc in
      sym (ap length room) ∙ length-replicate {A = ℕ} (count_in at found) 0

chosen_ok : (large : Bool) (l found : Laid) → cond {A = Result Laid AsmCause} large (Err TooLarge) (Ok l) ≡ Ok found → l ≡ found
chosen_ok true l found e = absurd (cc)
chosen_ok false l found e = cc

judged_ok : (isa : Isa) (has_label large : Bool) (r : Result Laid ValueFault) (found : Laid) → judged isa has_label large r ≡ Ok found → r ≡ Ok found
unfolding judged
judged_ok isa has_label large (Err fault) found e = absurd (cc)
judged_ok isa has_label true (Ok l) found e = absurd (cc)
judged_ok isa has_label false (Ok l) found e = ap Ok (chosen_ok (is_too_large isa has_label l) l found e)

laid_parts_ok : (isa : Isa) (names : Names) (at : ℕ) (parts : Parsed) (found : Laid) → laid_parts isa names at parts ≡ Ok found
    → placed isa names at parts.word parts.operands ≡ Ok found
unfolding laid_parts
laid_parts_ok isa names at parts found e =
    elim (is_duplicate names parts.label)
    as (λ b. cond b (Err Duplicate)
    (judged isa (is_some parts.label) (list_any (has_large_number isa) parts.operands) (placed isa names at parts.word parts.operands)) ≡ Ok found
    → placed isa names at parts.word parts.operands ≡ Ok found) [
      | true ↦ λ h. absurd (cc)
      | false ↦ λ h.
          judged_ok isa (is_some parts.label) (list_any (has_large_number isa) parts.operands) (placed isa names at parts.word parts.operands) found h
    ] e

module _ (isa : Isa) (before after : Names) (at : ℕ) where
  from_parts_count : (r : Result Parsed LexFault) (found : Laid) (bytes : List ℕ)
      → from_parts (laid_parts isa before at) r ≡ Ok found
      → from_parts (λ line. encoded_parts isa after at (count_in at found) line.word line.operands) r ≡ Ok bytes
      → length bytes ≡ count_in at found
  from_parts_count (Err fault) found bytes l e = absurd (cc)
  from_parts_count (Ok parts) found bytes l e =
      parts_count isa before after at parts.word parts.operands found bytes (laid_parts_ok isa before at parts found l) e

  line_count : (line : List ℕ) (found : Laid) (bytes : List ℕ)
      → laid_out isa before at line ≡ Ok found → encoded isa before after at (count_in at found) line ≡ Ok bytes → length bytes ≡ count_in at found
  unfolding laid_out encoded
  line_count line found bytes l e = from_parts_count (parsed isa before line) found bytes l e

-- so they end where the line does
pub count_fits : (value : LabelValue) (at next : ℕ) → at ≤ 65536 → next ≤ 65536 → at + count_between value at next ≤ 65536
count_fits (Address address) at next low high = elim (address == at) as (λ b. at + cond b (next - at) 0 ≤ 65536) [
  | true ↦ omega arith
  | false ↦ omega arith
]
count_fits (Given value) at next low high = omega arith

line_fits : (isa : Isa) (before after : Names) (at : ℕ) (line : List ℕ) (found : Laid) (bytes : List ℕ) → at ≤ 65536 → found.next ≤ 65536
    → laid_out isa before at line ≡ Ok found → encoded isa before after at (count_in at found) line ≡ Ok bytes → at + length bytes ≤ 65536
line_fits isa before after at line found bytes low high l e =
    omega (arith, line_count isa before after at line found bytes l e, count_fits found.value at found.next low high)

pub no_error : {X : Type 0} (r : Result X AsmCause) → result_err r ≡ None → (x : X) × (r ≡ Ok x)
no_error (Ok x) e = (x, refl)
no_error (Err cause) e = absurd (cc)

module _ (isa : Isa) (source : List (List ℕ)) where
  module _ (number : ℕ) (below : number < length source) (found : Laid) (is : laid_out isa (names_before isa source number) (address_of isa source number) (line_at source number) ≡ Ok found) where
    next_address : address_of isa source (number + 1) ≡ found.next
    next_address =
        ap (λ (k : Known). k.at)
        (known_at-next isa source number below
        ∙ ap (known_after (known_at isa source number) (label_in isa (names_before isa source number) (line_at source number))) is)

    value_here : label_value isa source number ≡ found.value
    unfolding label_value
    value_here = ap value_from is

    count_here : count_of isa source number ≡ count_in (address_of isa source number) found
    count_here =
        let at : ℕ = address_of isa source number in
        let step : suc number ≡ number + 1 = omega arith in
        ap (λ v. count_between v at (address_of isa source (suc number))) value_here
        ∙ ap (count_between found.value at) (ap (λ n. address_of isa source n) step ∙ next_address)

  -- how many bytes a line has
  pub bytes_count : NoFault (fault_1 isa source) (length source) → (number : ℕ) → number < length source → (bytes : List ℕ)
      → bytes_of isa source number ≡ Ok bytes
      → length bytes ≡ count_between (label_value isa source number) (address_of isa source number) (address_of isa source (number + 1))
  unfolding fault_1 bytes_of
  bytes_count faultless number below bytes e =
      let at : ℕ = address_of isa source number in
      let names : Names = names_before isa source number in
      let line : List ℕ = line_at source number in
      let found = no_error (laid_out isa names at line) (faultless number below) in
      line_count isa names (all_names isa source) at line found.0 bytes found.1
      (ap (λ n. encoded isa names (all_names isa source) at n line) (sym (count_here number below found.0 found.1)) ∙ e)
      ∙ ap (λ v. count_between v at found.0.next) (sym (value_here number below found.0 found.1))
      ∙ ap (count_between (label_value isa source number) at) (sym (next_address number below found.0 found.1))

  -- the bytes of a line end at address 65536 at most
  pub bytes_fit : (plan : Planned) → LaysOut isa source (length source) plan → (number : ℕ)
      → number < length source → (after : Names) (bytes : List ℕ)
      → encoded isa (names_before isa source number) after (address_of isa source number) (count_of isa source number) (line_at source number)
      ≡ Ok bytes
      → address_of isa source number + length bytes ≤ 65536
  unfolding fault_1
  bytes_fit plan laid number below after bytes e =
      let at : ℕ = address_of isa source number in
      let names : Names = names_before isa source number in
      let line : List ℕ = line_at source number in
      let found = no_error (laid_out isa names at line) (laid.faultless number below) in
      line_fits isa names after at line found.0 bytes (laid.low number (omega arith))
      (omega (arith, next_address number below found.0 found.1, laid.low (number + 1) (omega arith))) found.1
      (ap (λ n. encoded isa names after at n line) (sym (count_here number below found.0 found.1)) ∙ e)

  module _ (plan : Planned) (laid : LaysOut isa source (length source) plan) (number : ℕ) (below : number < length source) where
    all_same : value_in plan.names ≡ all_names isa source
    all_same = λ i name. laid.named name i

    -- the bytes of a line, as pass 2 makes them
    pub bytes_here : (line : List ℕ) (at count : ℕ) → line_at source number ≡ line → at ≡ address_of isa source number
        → count ≡ count_of isa source number
        → bytes_of isa source number ≡ encoded isa (names_before isa source number) (value_in plan.names) at count line
    unfolding bytes_of
    bytes_here line at count here place as_many =
        ap (λ ns. encoded isa (names_before isa source number) ns (address_of isa source number) (count_of isa source number) (line_at source number))
        (sym all_same)
        ∙ ap (λ a. encoded isa (names_before isa source number) (value_in plan.names) a (count_of isa source number) (line_at source number))
        (sym place)
        ∙ ap (λ n. encoded isa (names_before isa source number) (value_in plan.names) at n (line_at source number)) (sym as_many)
        ∙ ap (encoded isa (names_before isa source number) (value_in plan.names) at count) here

-- both passes give the assembly
pub is_assembly : (isa : Isa) (source : List (List ℕ)) (plan : Planned) (cells : List (Option Cell)) → LaysOut isa source (length source) plan
    → NoFault (fault_2 isa source) (length source) → ((address : ℕ) → entry cells address ≡ cell_before isa source (length source) address)
    → IsAssembly isa source (record { cells = cells; names = plan.names; addresses = plan.addresses; values = plan.values })
is_assembly isa source plan cells laid none bytes = record {
  no_fault_1 = laid.faultless;
  no_fault_2 = none;
  cells = λ address below. bytes address;
  names = laid.named;
  addresses = laid.placed;
  low = laid.low;
  count = laid.values_count;
  values = laid.valued;
}
