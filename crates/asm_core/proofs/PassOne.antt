-- Pass 1, line by line.
use Rattle.std.proofs.Common.{◌≡◌, ◌+◌, ◌<◌, ◌≤◌, ℕ, zero, suc, refl, List, [], ◌∷◌, ◌++◌, length, drop, get_or, sym, subst, ◌∙◌, ap, arith, None, Option, Ok, inl, inr, below_more}
use Rattle.std.specs.Result.{result_err}
use Rattle.std.proofs.lemmas.Bool.{cases_lt}
use Rattle.std.proofs.lemmas.List.{drop_more, drop_all, length_push, get_or_push, get_or_append_left}
use Rattle.std.proofs.lemmas.List.Sums.{fold_more}
use Rattle.asm_core.specs.declared.layout.Laid.{Laid}
use Rattle.asm_lex.specs.declared.shape.Isa.{Isa}
use Rattle.asm_lex.specs.declared.shape.Isa.TheVariants.{Cdp1802, Chip8}
use Rattle.asm_lex.specs.declared.shape.SymbolValue.{SymbolValue}
use Rattle.asm_lex.specs.declared.shape.Word.{Word}
use Rattle.asm_lex.specs.Lines.{Reads}
use Rattle.asm_lex.specs.Names.{Names, value_in}
use Rattle.asm_core.specs.declared.layout.LabelValue.TheVariants.{Address}
use Rattle.asm_lex.specs.Ranges.{origin_of}
use Rattle.asm_core.specs.Names.{with_label}
use Rattle.asm_core.specs.Layout.{laid_out, label_in, symbol_value}
use Rattle.asm_core.specs.Sources.{Known, known_first, known_after, known_next, known_at, names_before, address_of, line_at, fault_1, value_from, label_value}
use Rattle.asm_core.specs.Passes.{Planned, plan_with, AddsLine, LaysOut}

-- where the first line begins
abbrev pub first_addresses : Isa → List ℕ
first_addresses isa = origin_of isa ∷ []

first_is_origin : (isa : Isa) (i : ℕ) → i ≤ 0 → get_or (first_addresses isa) i 0 ≡ origin_of isa
first_is_origin isa zero below = refl
first_is_origin isa (suc i) below = absurd (omega arith)

pub origin_low : (isa : Isa) → origin_of isa ≤ 65536
origin_low Cdp1802 = omega arith
origin_low Chip8 = omega arith

-- the line at a place, and the lines behind it
pub line_here : (source : List (List ℕ)) (number : ℕ) (line : List ℕ) (more : List (List ℕ)) → drop number source ≡ line ∷ more
    → (number < length source) × (line_at source number ≡ line) × (drop (number + 1) source ≡ more)
line_here source number line more e = elim (cases_lt number (length source)) [
  | inl below ↦
      let both : get_or source number [] ∷ drop (number + 1) source ≡ line ∷ more = sym (drop_more source number [] below) ∙ e in
      (below, cc, cc)
  | inr past ↦ let none : [] ≡ line ∷ more = sym (drop_all number source past) ∙ e in absurd (cc)
]

pub no_line : (source : List (List ℕ)) (number : ℕ) → drop number source ≡ [] → number ≤ length source → number ≡ length source
no_line source number e inside = elim (cases_lt number (length source)) [
  | inl below ↦ let both : get_or source number [] ∷ drop (number + 1) source ≡ [] = sym (drop_more source number [] below) ∙ e in absurd (cc)
  | inr past ↦ omega arith
]

module _ (isa : Isa) (source : List (List ℕ)) where
  pub known_at-first : known_at isa source 0 ≡ known_first isa
  unfolding known_at
  known_at-first = refl

  pub known_at-next : (number : ℕ) → number < length source
      → known_at isa source (number + 1) ≡ known_next isa (known_at isa source number) (line_at source number)
  unfolding known_at
  known_at-next number below = fold_more (known_next isa) (known_first isa) source number [] below

  -- the same names, as functions
  pub same_names : (number : ℕ) (names : List (List ℕ × SymbolValue)) → ((name : List ℕ) → value_in names name ≡ names_before isa source number name)
      → value_in names ≡ names_before isa source number
  same_names number names same = λ i name. same name i

  pub laid_here : (number at : ℕ) (line : List ℕ) (names : List (List ℕ × SymbolValue))
      → ((name : List ℕ) → value_in names name ≡ names_before isa source number name) → at ≡ address_of isa source number → line_at source number ≡ line
      → laid_out isa (names_before isa source number) (address_of isa source number) (line_at source number) ≡ laid_out isa (value_in names) at line
  laid_here number at line names same place here =
      ap (λ ns. laid_out isa ns (address_of isa source number) (line_at source number)) (sym (same_names number names same))
      ∙ ap (λ a. laid_out isa (value_in names) a (line_at source number)) (sym place)
      ∙ ap (laid_out isa (value_in names) at) here

  zero_is : (i : ℕ) → i ≤ 0 → i ≡ 0
  zero_is i below = omega arith

  pub lays_out_none : (plan : Planned) → plan.names ≡ [] → plan.addresses ≡ first_addresses isa → plan.words ≡ [] → plan.values ≡ []
      → LaysOut isa source 0 plan
  lays_out_none plan no_names addresses no_words no_values = record {
    inside = omega arith;
    faultless = λ i below. absurd (omega arith);
    named = λ name. ap (λ ns. value_in ns name) no_names ∙ sym (ap (λ (k : Known). k.names name) known_at-first);
    count_is = ap length addresses;
    placed =
        λ i below. ap (λ xs. get_or xs i 0) addresses ∙ first_is_origin isa i (omega arith)
        ∙ sym (ap (λ n. address_of isa source n) (zero_is i (omega arith)) ∙ ap (λ (k : Known). k.at) known_at-first);
    low = λ i below. omega (arith, origin_low isa, ap (λ n. address_of isa source n) (zero_is i (omega arith)), ap (λ (k : Known). k.at) known_at-first);
    words_count = ap length no_words;
    read = λ i below. absurd (omega arith);
    values_count = ap length no_values;
    valued = λ i below. absurd (omega arith);
  }

  module _ (number : ℕ) (plan : Planned) (so_far : LaysOut isa source number plan) where
    module _ (at : ℕ) (line : List ℕ) (new : List (List ℕ × SymbolValue)) (word : Option Word) (laid : Laid) (below : number < length source) (place : at ≡ address_of isa source number) (here : line_at source number ≡ line) (adds : AddsLine isa plan.names at line new word laid) where
      laid_is : laid_out isa (names_before isa source number) (address_of isa source number) (line_at source number) ≡ Ok laid
      laid_is = laid_here number at line plan.names so_far.named place here ∙ adds.is

      known_more : known_at isa source (number + 1)
          ≡ record {
            at = laid.next;
            names = with_label (names_before isa source number)
                (label_in isa (names_before isa source number) (line_at source number)) (symbol_value laid.value);
          }
      known_more =
          known_at-next number below
          ∙ ap (known_after (known_at isa source number) (label_in isa (names_before isa source number) (line_at source number))) laid_is

      pub next_address : laid.next ≡ address_of isa source (number + 1)
      next_address = sym (ap (λ (k : Known). k.at) known_more)

      fault_none : fault_1 isa source number ≡ None
      unfolding fault_1
      fault_none = ap result_err laid_is

      value_is : label_value isa source number ≡ laid.value
      unfolding label_value
      value_is = ap value_from laid_is

      reads_here : Reads isa (names_before isa source number) (line_at source number) word
      reads_here =
          let P : Names → Type 0 = λ names. Reads isa names (line_at source number) word in
          let Q : List ℕ → Type 0 = λ line. Reads isa (value_in plan.names) line word in
          subst P (same_names number plan.names so_far.named) (subst Q (sym here) adds.reads)

      pub lays_out_more : LaysOut isa source (number + 1)
          (plan_with new (plan.addresses ++ laid.next ∷ []) (plan.words ++ word ∷ []) (plan.values ++ laid.value ∷ []))
      lays_out_more = record {
        inside = omega arith;
        faultless = below_more (λ i. fault_1 isa source i ≡ None) number so_far.faultless fault_none;
        named = λ name.
            adds.names name
            ∙ ap (λ ns. with_label ns (label_in isa ns line) (symbol_value laid.value) name) (same_names number plan.names so_far.named)
            ∙ ap (λ l. with_label (names_before isa source number) (label_in isa (names_before isa source number) l) (symbol_value laid.value) name) (sym here)
            ∙ sym (ap (λ (k : Known). k.names name) known_more);
        count_is = length_push plan.addresses laid.next ∙ ap (λ n. n + 1) so_far.count_is;
        placed = λ i under. elim (cases_lt i (number + 1)) [
          | inl lower ↦ get_or_append_left plan.addresses (laid.next ∷ []) 0 i (omega (arith, so_far.count_is)) ∙ so_far.placed i (omega arith)
          | inr same ↦
              let last : i ≡ number + 1 = omega arith in
              get_or_push plan.addresses laid.next 0 i (omega (arith, so_far.count_is)) ∙ next_address ∙ ap (λ n. address_of isa source n) (sym last)
        ];
        low = λ i under. elim (cases_lt i (number + 1)) [
          | inl lower ↦ so_far.low i (omega arith)
          | inr same ↦
              let last : address_of isa source i ≡ address_of isa source (number + 1) = ap (λ n. address_of isa source n) (omega arith) in
              omega (arith, last, next_address, adds.low)
        ];
        words_count = length_push plan.words word ∙ ap (λ n. n + 1) so_far.words_count;
        read = λ i under. elim (cases_lt i number) [
          | inl lower ↦
              let P : Option Word → Type 0 = λ word. Reads isa (names_before isa source i) (line_at source i) word in
              subst P (sym (get_or_append_left plan.words (word ∷ []) None i (omega (arith, so_far.words_count)))) (so_far.read i lower)
          | inr same ↦
              let last : i ≡ number = omega arith in
              let P : Option Word → Type 0 = λ word. Reads isa (names_before isa source i) (line_at source i) word in
              let Q : ℕ → Type 0 = λ n. Reads isa (names_before isa source n) (line_at source n) word in
              subst P (sym (get_or_push plan.words word None i (omega (arith, so_far.words_count)))) (subst Q (sym last) reads_here)
        ];
        values_count = length_push plan.values laid.value ∙ ap (λ n. n + 1) so_far.values_count;
        valued = λ i under. elim (cases_lt i number) [
          | inl lower ↦
              get_or_append_left plan.values (laid.value ∷ []) (Address 0) i (omega (arith, so_far.values_count)) ∙ so_far.valued i lower
          | inr same ↦
              let last : i ≡ number = omega arith in
              get_or_push plan.values laid.value (Address 0) i (omega (arith, so_far.values_count)) ∙ sym value_is ∙ ap (label_value isa source) (sym last)
        ];
      }
