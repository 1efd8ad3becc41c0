-- No fault is told exactly where a source has none, and the first one told is its first one.
use Rattle.std.proofs.Common.{◌≡◌, ◌+◌, ◌<◌, ◌≤◌, ℕ, zero, suc, refl, List, length, sym, subst, ◌∙◌, ap, arith, true, false, cond, Some, None, Option, Ok, Err, Result, inl, inr, below_more}
use Rattle.std.specs.Prelude.{is_some, option_map}
use Rattle.std.specs.Option.{option_or}
use Rattle.std.specs.Result.{result_err}
use Rattle.std.proofs.lemmas.Bool.{cond-true, cond-false, both_ways}
use Rattle.asm_lex.specs.declared.shape.Isa.{Isa}
use Rattle.asm_core.specs.declared.findings.Finding.{Finding}
use Rattle.asm_core.specs.declared.fault.AsmCause.{AsmCause}
use Rattle.asm_core.specs.declared.fault.AsmFault.{AsmFault}
use Rattle.asm_core.specs.Made.{IsFirstOf}
use Rattle.asm_core.specs.declared.layout.Laid.{Laid}
use Rattle.asm_lex.specs.Names.{Names}
use Rattle.asm_core.specs.Layout.{laid_out}
use Rattle.asm_core.specs.Sources.{line_at, names_before, address_of, fault_1, fault_2, fault_with, bytes_of, cell_of, cell_before, NoFault, HasFirstFault}
use Rattle.asm_core.specs.Told.{Seen, seen_at, finding_from, finding_1, told_1, kept_before, cause_2, told_2, has_fault_1, told, IsEachOf, AreTold, NothingTold, AgreesWithFaults}
use Rattle.asm_core.specs.declared.table.Cell.{Cell}
use Rattle.asm_core.specs.Passes.{Planned, LaysOut, IsFound, IsFirstFinding, IsFirstOfFindings}
use Rattle.asm_core.proofs.Cells.{entry, each_none-any, any-each_none}
use Rattle.asm_core.proofs.PassTwo.{is_assembly}
use Rattle.asm_core.proofs.Surveys.{seen_clean}

-- the cause that is told
abbrev cause_told : Option Finding → Option AsmCause
cause_told finding = option_map (λ (finding : Finding). finding.cause) finding

none_told : (finding : Option Finding) → finding ≡ None → cause_told finding ≡ None
none_told finding e = ap cause_told e

told_none-from : (finding : Option Finding) → cause_told finding ≡ None → finding ≡ None
told_none-from None e = refl
told_none-from (Some finding) e = absurd (cc)

-- one fault after another: where the causes told are those of a pass as far as it has no fault, they are none as far as none is told
walk : (f g : ℕ → Option AsmCause) (count : ℕ) → ((i : ℕ) → i < count → NoFault g i → f i ≡ g i) → ((i : ℕ) → i < count → f i ≡ None) → NoFault g count
walk f g zero same none = λ i below. absurd (omega arith)
walk f g (suc count) same none =
    let before : NoFault g count = walk f g count (λ i below. same i (omega arith)) (λ i below. none i (omega arith)) in
    let here : g count ≡ None = sym (same count (omega arith) before) ∙ none count (omega arith) in
    let more = below_more (λ i. g i ≡ None) count before here in
    λ i below. more i (omega arith)

module _ (isa : Isa) (source : List (List ℕ)) where
  finding-cause : (names : Names) (line : List ℕ) (found : Result Laid AsmCause) → cause_told (finding_from isa names false line found) ≡ result_err found
  finding-cause names line (Ok laid) = refl
  finding-cause names line (Err cause) = refl

  same_1 : (i : ℕ) → i < length source → NoFault (fault_1 isa source) i → cause_told (told_1 isa source i) ≡ fault_1 isa source i
  unfolding told_1 fault_1
  same_1 i below none =
      ap (λ s. cause_told (finding_1 isa s (line_at source i))) (seen_clean isa source i (omega arith) none)
      ∙ finding-cause (names_before isa source i) (line_at source i) (laid_out isa (names_before isa source i) (address_of isa source i) (line_at source i))

  -- as far as no line is faulty, each line's bytes are kept
  kept_clean : (i : ℕ) → NoFault (fault_2 isa source) i → (address : ℕ) → kept_before isa source i address ≡ cell_before isa source i address
  unfolding kept_before cell_before fault_2
  kept_clean zero none address = refl
  kept_clean (suc i) none address =
      let before : (a : ℕ) → kept_before isa source i a ≡ cell_before isa source i a = kept_clean i (λ k below. none k (omega arith)) in
      let same : kept_before isa source i ≡ cell_before isa source i = λ j a. before a j in
      let at = address_of isa source i in
      let bytes = bytes_of isa source i in
      ap (λ kept. option_or (kept address) (cond (is_some (fault_with kept at bytes)) None (cell_of isa source i address))) same
      ∙ ap (λ fault. option_or (cell_before isa source i address) (cond (is_some fault) None (cell_of isa source i address))) (none i (omega arith))

  mapped-cause : (f : AsmCause → Finding) → ((cause : AsmCause) → (f cause).cause ≡ cause) → (o : Option AsmCause) → cause_told (option_map f o) ≡ o
  mapped-cause f same None = refl
  mapped-cause f same (Some cause) = ap Some (same cause)

  same_2 : (i : ℕ) → i < length source → NoFault (fault_2 isa source) i → cause_told (told_2 isa source i) ≡ fault_2 isa source i
  unfolding told_2 cause_2 fault_2
  same_2 i below none =
      let same : kept_before isa source i ≡ cell_before isa source i = λ j a. kept_clean i none a j in
      mapped-cause _ (λ cause. refl) (fault_with (kept_before isa source i) (address_of isa source i) (bytes_of isa source i))
      ∙ ap (λ kept. fault_with kept (address_of isa source i) (bytes_of isa source i)) same

  -- whether pass 1 has a fault
  clean_1 : NoFault (fault_1 isa source) (length source) → has_fault_1 isa source ≡ false
  clean_1 none = each_none-any (fault_1 isa source) (length source) none

  no_fault_1 : has_fault_1 isa source ≡ false → NoFault (fault_1 isa source) (length source)
  no_fault_1 e = any-each_none (fault_1 isa source) (length source) e

  told-1 : has_fault_1 isa source ≡ true → (i : ℕ) → told isa source i ≡ told_1 isa source i
  unfolding told
  told-1 e i = cond-true (has_fault_1 isa source) (told_1 isa source i) (told_2 isa source i) e

  told-2 : has_fault_1 isa source ≡ false → (i : ℕ) → told isa source i ≡ told_2 isa source i
  unfolding told
  told-2 e i = cond-false (has_fault_1 isa source) (told_1 isa source i) (told_2 isa source i) e

  as_1 : has_fault_1 isa source ≡ true → (count : ℕ) → count ≤ length source → ((i : ℕ) → i < count → told isa source i ≡ None)
      → NoFault (fault_1 isa source) count
  as_1 e count inside none =
      walk (λ i. cause_told (told_1 isa source i)) (fault_1 isa source) count (λ i below clean. same_1 i (omega arith) clean)
      (λ i below. none_told (told_1 isa source i) (sym (told-1 e i) ∙ none i below))

  as_2 : has_fault_1 isa source ≡ false → (count : ℕ) → count ≤ length source → ((i : ℕ) → i < count → told isa source i ≡ None)
      → NoFault (fault_2 isa source) count
  as_2 e count inside none =
      walk (λ i. cause_told (told_2 isa source i)) (fault_2 isa source) count (λ i below clean. same_2 i (omega arith) clean)
      (λ i below. none_told (told_2 isa source i) (sym (told-2 e i) ∙ none i below))

  -- a bool is one or the other
  by_pass : {X : Type 0} → (has_fault_1 isa source ≡ true → X) → (has_fault_1 isa source ≡ false → X) → X
  by_pass {X} faulty clean = elim (has_fault_1 isa source) as (λ b. has_fault_1 isa source ≡ b → X) [
    | true ↦ faulty
    | false ↦ clean
  ] refl

  pub agrees : AgreesWithFaults isa source
  agrees = record {
    none = λ all. by_pass
        (λ e. absurd (both_ways (has_fault_1 isa source) (clean_1 (as_1 e (length source) (omega arith) all)) e))
        (λ e. (no_fault_1 e, as_2 e (length source) (omega arith) all));
    told_none = λ none_1 none_2 i below.
        told-2 (clean_1 none_1) i
        ∙ told_none-from (told_2 isa source i) (same_2 i below (λ k under. none_2 k (omega arith)) ∙ none_2 i below);
    first = λ i finding first. by_pass
        (λ e.
        let before = as_1 e i (omega (arith, first.inside)) first.earlier in
        let here : fault_1 isa source i ≡ Some finding.cause =
        sym (same_1 i first.inside before) ∙ ap cause_told (sym (told-1 e i) ∙ first.here) in
        (i, refl, inl (record { inside = first.inside; here = here; earlier = before })))
        (λ e.
        let before = as_2 e i (omega (arith, first.inside)) first.earlier in
        let here : fault_2 isa source i ≡ Some finding.cause =
        sym (same_2 i first.inside before) ∙ ap cause_told (sym (told-2 e i) ∙ first.here) in
        (i, refl, inr (no_fault_1 e, record { inside = first.inside; here = here; earlier = before })));
  }

  -- a line is faulty where pass 1 has a fault
  pub faulty-not_none : (seen_at isa source (length source)).faulty ≡ true → NoFault (fault_1 isa source) (length source) → ⊥
  faulty-not_none faulty none =
      let both : false ≡ true = sym (ap (λ (s : Seen). s.faulty) (seen_clean isa source (length source) (omega arith) none)) ∙ faulty in absurd (cc)

  -- whether it has
  pub has-faulty : (seen_at isa source (length source)).faulty ≡ true → has_fault_1 isa source ≡ true
  has-faulty faulty = by_pass (λ e. e) (λ e. absurd (faulty-not_none faulty (no_fault_1 e)))

  pub has-clean : NoFault (fault_1 isa source) (length source) → has_fault_1 isa source ≡ false
  has-clean none = clean_1 none

  -- what is told of each line where pass 1 has a fault, and where it has none
  pub told-faulty : (seen_at isa source (length source)).faulty ≡ true → (found : List (Option Finding))
      → IsEachOf (told_1 isa source) (length source) found → AreTold isa source found
  told-faulty faulty found each = by_pass
      (λ e. record { count = each.count; each = λ k below. each.each k below ∙ sym (told-1 e k) })
      (λ e. absurd (faulty-not_none faulty (no_fault_1 e)))

  pub told-clean : NoFault (fault_1 isa source) (length source) → (found : List (Option Finding))
      → IsEachOf (told_2 isa source) (length source) found → AreTold isa source found
  told-clean none found each = record { count = each.count; each = λ k below. each.each k below ∙ sym (told-2 (clean_1 none) k) }

  -- where nothing is told, the lines stand where they were placed, and have their bytes
  pub nothing-faulty : (seen_at isa source (length source)).faulty ≡ true → NothingTold isa source → ⊥
  nothing-faulty faulty all = faulty-not_none faulty (agrees.none all).0

  pub found_is : (plan : Planned) → LaysOut isa source (length source) plan → (cells : List (Option Cell)) → length cells ≡ 65536
      → ((address : ℕ) → entry cells address ≡ kept_before isa source (length source) address) → NothingTold isa source → IsFound isa source plan cells
  found_is plan laid cells count kept all =
      let none = (agrees.none all).1 in
      record {
        cells_count = count;
        lines_count = omega (arith, laid.count_is, laid.values_count);
        is = is_assembly isa source plan cells laid none (λ address. kept address ∙ kept_clean (length source) none address);
      }

  -- the first finding is the first fault
  pub first_is : (found : List (Option Finding)) → AreTold isa source found → (i : ℕ) (finding : Finding) → IsFirstFinding found i finding
      → HasFirstFault isa source (i + 1) finding.cause
  first_is found all i finding first =
      agrees.first i finding (record {
        inside = omega (arith, first.inside, all.count);
        here = sym (all.each i (omega (arith, first.inside, all.count))) ∙ first.here;
        earlier = λ k below. sym (all.each k (omega (arith, first.inside, all.count))) ∙ first.earlier k below;
      })

  pub first_of : (found : List (Option Finding)) → AreTold isa source found → (fault : AsmFault) → IsFirstOfFindings found fault → IsFirstOf isa source fault
  first_of found all fault first = subst (IsFirstOf isa source) (sym first.2.1) (first_is found all first.0 first.1 first.2.0)
