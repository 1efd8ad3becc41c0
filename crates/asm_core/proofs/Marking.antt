-- The labels of a source, and how they are found by their addresses.
use Rattle.std.proofs.Common.{◌≡◌, ◌≢◌, ◌==◌, ◌<◌, ◌≤◌, ◌+◌, ℕ, zero, suc, refl, List, [], ◌∷◌, ◌++◌, length, length-set, drop, get_or, set, sym, subst, ◌∙◌, ap, arith, None, Some, Option, Err, inl, inr}
use Rattle.std.specs.Prelude.{◌||◌, not}
use Rattle.std.specs.List.{filter_map, cons_option, range_with_len, list_all}
use Rattle.std.specs.Result.{result_err}
use Rattle.std.proofs.lemmas.Bool.{cases_lt, cases_eq, cond-true, cond-false, eqb-true, false_from_ne_true, lt-ltb}
use Rattle.std.proofs.lemmas.List.{drop_more, get_or-set_same, get_or-set_other, get_or-map, length-map, map-id, map-append, append-nil}
use Rattle.std.proofs.lemmas.List.Elements.{filter_map-append}
use Rattle.std.proofs.lemmas.List.FromFn.{map-range_with_len_more}
use Rattle.asm_lex.specs.declared.shape.Isa.{Isa}
use Rattle.asm_lex.specs.declared.shape.LexFault.TheVariants.{BadText}
use Rattle.asm_lex.specs.Bytes.{is_allowed}
use Rattle.asm_lex.specs.Lines.{has_bad_bytes, parsed, parsed_code}
use Rattle.asm_lex.specs.Parts.{code_of}
use Rattle.asm_core.specs.declared.labels.Label.{Label}
use Rattle.asm_core.specs.declared.layout.LabelValue.{LabelValue}
use Rattle.asm_core.specs.Layout.{cause_of}
use Rattle.asm_core.specs.Made.{Made, IsAssembly, value_at}
use Rattle.asm_core.specs.Sources.{line_at, fault_1, names_before, address_of, label_value}
use Rattle.asm_core.specs.Labels.{AreFound, Leads, labels_at, labels_by, labels_of, mark_of, shown_label, shown_labels}
use Rattle.asm_core.proofs.LaidOut.{laid_out-fault}

-- ---- finding them

abbrev pub Marks : Type 0
Marks = List (ℕ × List ℕ)

abbrev pub mark_at : Marks → ℕ → ℕ × List ℕ
mark_at labels i = get_or labels i (0, [])

-- from the place on which is reached from the back, all labels are found
pub record AreFoundFrom (labels : Marks) (first next : List ℕ) (from : ℕ) : Type 0 where
  pub firsts : (address : ℕ) → address < 65536 → Leads labels from (get_or first address 0) address
  pub nexts : (i : ℕ) → from ≤ i → i < length labels → (mark_at labels i).0 < 65536 → Leads labels (i + 1) (get_or next i 0) (mark_at labels i).0
  pub counts : (length first ≡ 65536) × (length next ≡ length labels)

pub none-found : (labels : Marks) (first next : List ℕ) → length first ≡ 65536 → length next ≡ length labels
    → ((address : ℕ) → address < 65536 → get_or first address 0 ≡ length labels) → AreFoundFrom labels first next (length labels)
none-found labels first next count same none = record {
  firsts = λ address low.
      subst (λ to. Leads labels (length labels) to address) (sym (none address low)) (record { same = refl; here = λ below. absurd (omega (arith, below)) });
  nexts = λ i past below. absurd (omega (arith, past, below));
  counts = (count, same);
}

pub all-found : (labels : Marks) (first next : List ℕ) (from : ℕ) → from ≡ 0 → AreFoundFrom labels first next from → AreFound labels first next
all-found labels first next from start found = record {
  firsts = λ address low. subst (λ at. Leads labels at (get_or first address 0) address) start (found.firsts address low);
  nexts = λ i below low. found.nexts i (omega (arith, start)) below low;
  count = found.counts.1;
}

-- a label of another address more
before-other : (labels : Marks) (place to address : ℕ) → place < length labels → (mark_at labels place).0 ≢ address → Leads labels (place + 1) to address
    → Leads labels place to address
before-other labels place to address below other leads = record {
  same =
      ap (λ rest. labels_at rest address) (drop_more labels place (0, []) below)
      ∙ cond-false ((mark_at labels place).0 == address) (mark_at labels place ∷ labels_at (drop (place + 1) labels) address)
      (labels_at (drop (place + 1) labels) address)
      (false_from_ne_true ((mark_at labels place).0 == address) (λ is. other (eqb-true (mark_at labels place).0 address is)))
      ∙ leads.same;
  here = leads.here;
}

-- the label at a place that has no address below 65536, and one that has
pub one-passed : (labels : Marks) (first next : List ℕ) (place : ℕ) → place < length labels → 65536 ≤ (mark_at labels place).0
    → AreFoundFrom labels first next (place + 1) → AreFoundFrom labels first next place
one-passed labels first next place below high found = record {
  firsts = λ address low. before-other labels place (get_or first address 0) address below
      (λ is. absurd (omega (arith, is, low, high))) (found.firsts address low);
  nexts = λ i past inside low. elim (cases_eq i place) [
    | inl is ↦ absurd (omega (arith, low, high, ap (λ n. (mark_at labels n).0) is))
    | inr more ↦ found.nexts i (omega (arith, past, more)) inside low
  ];
  counts = found.counts;
}

pub one-found : (labels : Marks) (first next : List ℕ) (place address : ℕ) → place < length labels → (mark_at labels place).0 ≡ address → address < 65536
    → AreFoundFrom labels first next (place + 1)
    → AreFoundFrom labels (set first address place) (set next place (get_or first address 0)) place
one-found labels first next place address below here low found = record {
  firsts = λ other low-other. elim (cases_eq other address) [
    | inl is ↦
        subst (λ to. Leads labels place to other)
        (sym (ap (λ n. get_or (set first address place) n 0) is ∙ get_or-set_same first address place 0 (omega (arith, found.counts.0, low))))
        (record { same = refl; here = λ _. here ∙ sym is })
    | inr apart ↦
        subst (λ to. Leads labels place to other) (sym (get_or-set_other first address other place 0 apart))
        (before-other labels place (get_or first other 0) other below (λ is. apart (sym is ∙ here)) (found.firsts other low-other))
  ];
  nexts = λ i past inside low-i. elim (cases_eq i place) [
    | inl is ↦
        subst (λ n. Leads labels (n + 1) (get_or (set next place (get_or first address 0)) n 0) (mark_at labels n).0) (sym is)
        (subst (λ to. Leads labels (place + 1) to (mark_at labels place).0)
        (sym (get_or-set_same next place (get_or first address 0) 0 (omega (arith, found.counts.1, below))))
        (subst (λ a. Leads labels (place + 1) (get_or first address 0) a) (sym here) (found.firsts address low)))
    | inr apart ↦
        subst (λ to. Leads labels (i + 1) to (mark_at labels i).0) (sym (get_or-set_other next place i (get_or first address 0) 0 apart))
        (found.nexts i (omega (arith, past, apart)) inside low-i)
  ];
  counts = (length-set first address place ∙ found.counts.0, length-set next place (get_or first address 0) ∙ found.counts.1);
}

pub address-shown : (list : List Label) (place : ℕ) (label : Label) → place < length list
    → (mark_at (shown_labels list) place).0 ≡ (get_or list place label).address
address-shown list place label below = ap (λ (mark : ℕ × List ℕ). mark.0) (get_or-map shown_label list place label (0, []) below)

pub shown-inside : (list : List Label) (place : ℕ) → place < length list → place < length (shown_labels list)
shown-inside list place below = omega (arith, length-map list shown_label, below)

-- ---- those of a source

-- a line of a source without a fault is short
pub short-line : (isa : Isa) (source : List (List ℕ)) (i : ℕ) → fault_1 isa source i ≡ None → length (line_at source i) ≤ 255
unfolding fault_1 parsed has_bad_bytes
short-line isa source i none = elim (cases_lt 255 (length (line_at source i))) [
  | inl past ↦
      let line = line_at source i in
      let bad : parsed isa (names_before isa source i) line ≡ Err BadText =
      cond-true (has_bad_bytes line) (Err BadText) (parsed_code isa (names_before isa source i) (code_of line))
      (ap (λ b. b || not (list_all is_allowed line)) (lt-ltb 255 (length line) past)) in
      let some : None ≡ Some (cause_of BadText) =
      sym none ∙ ap result_err (laid_out-fault isa (names_before isa source i) (address_of isa source i) line BadText bad) in
      absurd (cc)
  | inr few ↦ few
]

same-marks : {X : Type 0} (f g : ℕ → Option X) (from count : ℕ) → ((i : ℕ) → from ≤ i → i < from + count → f i ≡ g i)
    → filter_map f (range_with_len from count) ≡ filter_map g (range_with_len from count)
same-marks f g from zero same = refl
same-marks f g from (suc count) same =
    ap (λ first. cons_option first (filter_map f (range_with_len (from + 1) count))) (same from (omega arith) (omega arith))
    ∙ ap (cons_option (g from)) (same-marks f g (from + 1) count (λ i low high. same i (omega (arith, low)) (omega (arith, high))))

pub all-marked : (isa : Isa) (source : List (List ℕ)) (made : Made) → IsAssembly isa source made
    → labels_by source (value_at made) (length source) ≡ labels_of isa source
all-marked isa source made is =
    same-marks (λ i. mark_of (line_at source i) (value_at made i)) (λ i. mark_of (line_at source i) (label_value isa source i)) 0 (length source)
    (λ i low high. ap (mark_of (line_at source i)) (is.values i (omega (arith, high))))

module _ (source : List (List ℕ)) (value : ℕ → LabelValue) (index : ℕ) where
  pub marked-here : (line : List ℕ) (given : LabelValue) (mark : Option (ℕ × List ℕ)) → line_at source index ≡ line → given ≡ value index
      → mark_of line given ≡ mark → mark_of (line_at source index) (value index) ≡ mark
  marked-here line given mark here same is = ap (λ l. mark_of l (value index)) here ∙ ap (mark_of line) (sym same) ∙ is

  marked : (here : Option (ℕ × List ℕ)) → mark_of (line_at source index) (value index) ≡ here
      → labels_by source value (index + 1) ≡ labels_by source value index ++ cons_option here []
  marked here is =
      ap (filter_map (λ i. mark_of (line_at source i) (value i))) (range-more index)
      ∙ filter_map-append (λ i. mark_of (line_at source i) (value i)) (range_with_len 0 index) (index ∷ [])
      ∙ ap (λ o. labels_by source value index ++ cons_option o []) is
    where
      range-more : (n : ℕ) → range_with_len 0 (n + 1) ≡ range_with_len 0 n ++ n ∷ []
      range-more n = sym (map-id (range_with_len 0 (n + 1))) ∙ map-range_with_len_more (λ i. i) 0 n n (omega arith)
          ∙ ap (λ front. front ++ n ∷ []) (map-id (range_with_len 0 n))

  -- a line without a label, and one with one, which was put behind the others
  pub none-marked : (list : List Label) → shown_labels list ≡ labels_by source value index → mark_of (line_at source index) (value index) ≡ None
      → shown_labels list ≡ labels_by source value (index + 1)
  none-marked list before none = before ∙ sym (append-nil (labels_by source value index)) ∙ sym (marked None none)

  pub one-marked : (list : List Label) (label : Label) → shown_labels list ≡ labels_by source value index
      → mark_of (line_at source index) (value index) ≡ Some (shown_label label) → shown_labels (list ++ label ∷ []) ≡ labels_by source value (index + 1)
  one-marked list label before is =
      map-append shown_label list (label ∷ []) ∙ ap (λ front. front ++ shown_label label ∷ []) before ∙ sym (marked (Some (shown_label label)) is)
