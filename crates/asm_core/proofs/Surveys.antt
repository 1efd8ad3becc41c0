-- What is told of the lines of a source, one after another.
use Rattle.std.proofs.Common.{◌≡◌, ◌+◌, ◌<◌, ◌≤◌, ℕ, zero, suc, refl, subst, Bool, List, [], ◌∷◌, ◌++◌, length, sym, ◌∙◌, ap, arith, true, false, cond, Some, None, Option, Ok, Result, inl, inr}
use Rattle.std.specs.Prelude.{is_some, option_map, MatchBool, slice_index}
use Rattle.std.specs.Option.{option_or}
use Rattle.std.specs.Result.{result_unwrap_or}
use Rattle.std.proofs.lemmas.Bool.{cases_lt, cond-true, cond-false, both_ways}
use Rattle.std.proofs.lemmas.List.{length_push, get_or_push, get_or_append_left}
use Rattle.std.proofs.lemmas.List.Sums.{fold_more}
use Rattle.asm_lex.specs.declared.shape.Isa.{Isa}
use Rattle.asm_lex.specs.declared.shape.Word.{Word}
use Rattle.asm_lex.specs.Lines.{parsed, Reads}
use Rattle.asm_lex.specs.Names.{Names, value_in}
use Rattle.asm_lex.specs.Notes.{note_in}
use Rattle.asm_core.specs.declared.findings.Finding.{Finding}
use Rattle.asm_core.specs.declared.findings.First.{First}
use Rattle.asm_core.specs.declared.findings.LinePlan.{LinePlan}
use Rattle.asm_core.specs.declared.findings.Looked.{Looked}
use Rattle.asm_core.specs.declared.layout.Laid.{Laid}
use Rattle.asm_core.specs.declared.layout.LabelValue.{LabelValue}
use Rattle.asm_core.specs.declared.fault.AsmCause.{AsmCause}
use Rattle.asm_core.specs.declared.table.Cell.{Cell}
use Rattle.asm_core.specs.Passes.{Planned, plan_with, planned, word_at, line_plan, AddsLine, LaysOut}
use Rattle.asm_core.specs.Layout.{laid_out, label_in, encoded, count_between}
use Rattle.asm_core.specs.Sources.{Known, known_after, known_at, line_at, names_before, address_of, all_names, fault_1, fault_with, overlaps, bytes_of, cell_in, NoFault, count_of, label_value}
use Rattle.asm_core.specs.declared.fault.AsmCause.TheVariants.{Overlap}
use Rattle.asm_core.specs.Surveys.{Table, known, seen, Guesses, Looks, HasNoLines, AddsFound, PutsLine}
use Rattle.asm_core.specs.Told.{Seen, guessed_from, seen_after, finding_from, seen_first, seen_next, seen_at, finding_1, told_1, note_at, kept_before, cause_2, finding_2, word_from, told_2, IsEachOf}
use Rattle.asm_core.proofs.Cells.{entry, second_none}
use Rattle.asm_lex.specs.Ranges.{origin_of}
use Rattle.asm_core.proofs.PassOne.{origin_low, known_at-next, lays_out_none, lays_out_more}
use Rattle.asm_core.proofs.PassTwo.{bytes_here, bytes_fit, no_error}

-- one value more
pub each-none : {X : Type 0} (f : ℕ → Option X) (xs : List (Option X)) → xs ≡ [] → IsEachOf f 0 xs
each-none f xs e = record { count = ap length e; each = λ i below. absurd (omega arith) }

pub each-more : {X : Type 0} (f : ℕ → Option X) (count : ℕ) (xs : List (Option X)) (x : Option X) → IsEachOf f count xs → x ≡ f count
    → IsEachOf f (count + 1) (xs ++ x ∷ [])
each-more f count xs x so_far same = record {
  count = length_push xs x ∙ ap (λ n. n + 1) so_far.count;
  each = λ i below. elim (cases_lt i count) [
    | inl lower ↦ get_or_append_left xs (x ∷ []) None i (omega (arith, so_far.count)) ∙ so_far.each i lower
    | inr last ↦
        let here : i ≡ count = omega arith in
        get_or_push xs x None i (omega (arith, so_far.count)) ∙ same ∙ ap f (sym here)
  ];
}

module _ (isa : Isa) (source : List (List ℕ)) where
  pub seen_at-next : (number : ℕ) → number < length source → seen_at isa source (number + 1) ≡ seen_next isa (seen_at isa source number) (line_at source number)
  unfolding seen_at
  seen_at-next number below = fold_more (seen_next isa) (seen_first isa) source number [] below

  fault-none : (i : ℕ) → fault_1 isa source i ≡ None → (laid : Laid) × (laid_out isa (names_before isa source i) (address_of isa source i) (line_at source i) ≡ Ok laid)
  unfolding fault_1
  fault-none i e = no_error (laid_out isa (names_before isa source i) (address_of isa source i) (line_at source i)) e

  seen_first-clean : seen_at isa source 0 ≡ record { known = known_at isa source 0; faulty = false }
  unfolding seen_at known_at
  seen_first-clean = refl

  -- as far as no line is faulty, what is seen is what the passes know
  pub seen_clean : (i : ℕ) → i ≤ length source → NoFault (fault_1 isa source) i → seen_at isa source i ≡ record { known = known_at isa source i; faulty = false }
  seen_clean zero inside none = seen_first-clean
  seen_clean (suc i) inside none =
      let step : suc i ≡ i + 1 = omega arith in
      let before = seen_clean i (omega arith) (λ k below. none k (omega arith)) in
      let laid = fault-none i (none i (omega arith)) in
      let names = names_before isa source i in
      let line = line_at source i in
      let label = label_in isa names line in
      let after : known_at isa source (i + 1) ≡ known_after (known_at isa source i) label (Ok laid.0) =
      known_at-next isa source i (omega arith) ∙ ap (known_after (known_at isa source i) label) laid.1 in
      let f : Known → Seen = λ known. record { known = known; faulty = false } in
      ap (seen_at isa source) step
      ∙ seen_at-next i (omega arith)
      ∙ ap (λ (s : Seen). seen_after isa s line (laid_out isa s.known.names s.known.at line)) before
      ∙ ap (seen_after isa (f (known_at isa source i)) line) laid.1
      ∙ ap f (sym after)
      ∙ ap (λ n. f (known_at isa source n)) (sym step)

  -- what is found of the lines before a line
  pub record IsSeen (number : ℕ) (names : Table) (at : ℕ) (faulty : Bool) : Type 0 where
    pub is : seen names at faulty ≡ seen_at isa source number
    pub low : at ≤ 65536

  pub seen_start : (names : Table) (at : ℕ) → names ≡ [] → at ≡ origin_of isa → IsSeen 0 names at false
  unfolding seen_at
  seen_start names at none place = record {
    is = ap (λ names. seen names at false) none ∙ ap (λ a. record { known = record { at = a; names = λ name. None }; faulty = false }) place;
    low = omega (arith, place, origin_low isa);
  }

  pub note_here : (number : ℕ) (names : Table) (at : ℕ) (faulty : Bool) (line : List ℕ) → IsSeen number names at faulty → line_at source number ≡ line
      → note_in isa (value_in names) line ≡ note_at isa source number
  unfolding note_at
  note_here number names at faulty line so_far here =
      ap (λ (s : Seen). note_in isa s.known.names line) so_far.is ∙ ap (note_in isa (seen_at isa source number).known.names) (sym here)

  module _ (number : ℕ) (old : Table) (at : ℕ) (faulty : Bool) (line : List ℕ) (new : Table) (looked : Looked) (so_far : IsSeen number old at faulty) (below : number < length source) (here : line_at source number ≡ line) (looks : Looks isa old at faulty line new looked) where
    seen_same : seen new looked.laid.next looked.faulty ≡ seen_next isa (seen old at faulty) line
    seen_same =
        let s = seen_next isa (seen old at faulty) line in
        let f : ℕ → Seen = λ n. record { known = record { at = n; names = value_in new }; faulty = looked.faulty } in
        let g : Names → Seen = λ names. record { known = record { at = s.known.at; names = names }; faulty = looked.faulty } in
        let h : Bool → Seen = λ faulty. record { known = record { at = s.known.at; names = s.known.names }; faulty = faulty } in
        ap f looks.next_is ∙ ap g (λ i name. looks.names name i) ∙ ap h looks.faulty_is

    pub seen_more : IsSeen (number + 1) new looked.laid.next looked.faulty
    seen_more = record {
      is = seen_same ∙ ap (λ s. seen_next isa s line) so_far.is ∙ ap (seen_next isa (seen_at isa source number)) (sym here) ∙ sym (seen_at-next number below);
      low = looks.low;
    }

    -- while no line is faulty, the lines are laid out as pass 1 says
    pub plan_more : (addresses : List ℕ) (words : List (Option Word)) (values : List LabelValue)
        → (faulty ≡ false → LaysOut isa source number (plan_with old addresses words values)) → looked.faulty ≡ false
        → LaysOut isa source (number + 1)
        (plan_with new (addresses ++ looked.laid.next ∷ []) (words ++ looked.word ∷ []) (values ++ looked.laid.value ∷ []))
    plan_more addresses words values laid clean =
        let step = looks.clean clean in
        let before = laid step.0 in
        let place : at ≡ address_of isa source number =
        ap (λ (s : Seen). s.known.at) (so_far.is ∙ seen_clean number (omega arith) before.faultless) in
        lays_out_more isa source number (plan_with old addresses words values) before at line new looked.word looked.laid below place here step.1

    pub told_here : looked.finding ≡ told_1 isa source number
    unfolding told_1
    told_here = looks.told ∙ ap (λ s. finding_1 isa s line) so_far.is ∙ ap (finding_1 isa (seen_at isa source number)) (sym here)

  module _ (plan : Planned) (laid : LaysOut isa source (length source) plan) (number : ℕ) (below : number < length source) (line : List ℕ) (here : line_at source number ≡ line) (planned : LinePlan) (is : planned ≡ line_plan plan number) where
    place : planned.at ≡ address_of isa source number
    place = ap (λ (p : LinePlan). p.at) is ∙ laid.placed number (omega arith)

    as_many : planned.count ≡ count_of isa source number
    as_many =
        let next = slice_index plan.addresses (number + 1) in
        let step : number + 1 ≡ suc number = omega arith in
        ap (λ (p : LinePlan). p.count) is
        ∙ ap (λ v. count_between v (slice_index plan.addresses number) next) (laid.valued number below)
        ∙ ap (λ a. count_between (label_value isa source number) a next) (laid.placed number (omega arith))
        ∙ ap (count_between (label_value isa source number) (address_of isa source number))
        (laid.placed (number + 1) (omega arith) ∙ ap (λ n. address_of isa source n) step)

    pub low_there : planned.at ≤ 65536
    low_there = omega (arith, place, laid.low number (omega arith))

    pub reads_there : Reads isa (names_before isa source number) line planned.word
    reads_there =
        let P : Option Word → Type 0 = λ word. Reads isa (names_before isa source number) line word in
        let Q : List ℕ → Type 0 = λ line. Reads isa (names_before isa source number) line (word_at plan.words number) in
        subst P (sym (ap (λ (p : LinePlan). p.word) is)) (subst Q here (laid.read number below))

    -- its bytes fit
    pub fits_there : (bytes : List ℕ) → encoded isa (names_before isa source number) (value_in plan.names) planned.at planned.count line ≡ Ok bytes
        → planned.at + length bytes ≤ 65536
    fits_there bytes e =
        let before = names_before isa source number in
        let names = value_in plan.names in
        let fits = bytes_fit isa source plan laid number below names bytes
        (ap (λ at. encoded isa before names at (count_of isa source number) (line_at source number)) (sym place)
        ∙ ap (λ count. encoded isa before names planned.at count (line_at source number)) (sym as_many)
        ∙ ap (encoded isa before names planned.at planned.count) here ∙ e) in
        omega (arith, place, fits)

    module _ (cells : List (Option Cell)) (so_far : (address : ℕ) → entry cells address ≡ kept_before isa source number address) (new : List (Option Cell)) (told : Option Finding) (puts : PutsLine (finding_2 isa (value_in plan.names) planned.at planned.word line) cells new (number + 1) planned.at (encoded isa (names_before isa source number) (value_in plan.names) planned.at planned.count line) told) where
      same_kept : entry cells ≡ kept_before isa source number
      same_kept = λ i address. so_far address i

      made_is : bytes_of isa source number ≡ encoded isa (names_before isa source number) (value_in plan.names) planned.at planned.count line
      made_is = bytes_here isa source plan laid number below line planned.at planned.count here place as_many

      fault_is : fault_with (entry cells) planned.at (encoded isa (names_before isa source number) (value_in plan.names) planned.at planned.count line)
          ≡ fault_with (kept_before isa source number) (address_of isa source number) (bytes_of isa source number)
      fault_is =
          let made = encoded isa (names_before isa source number) (value_in plan.names) planned.at planned.count line in
          ap (λ kept. fault_with kept planned.at made) same_kept
          ∙ ap (λ a. fault_with (kept_before isa source number) a made) place
          ∙ ap (fault_with (kept_before isa source number) (address_of isa source number)) (sym made_is)

      word_is : planned.word ≡ word_from (parsed isa (names_before isa source number) (line_at source number))
      word_is = sym (ap (λ l. word_from (parsed isa (names_before isa source number) l)) here ∙ ap word_from reads_there.is)

      pub told_there : told ≡ told_2 isa source number
      unfolding told_2 cause_2
      told_there =
          let names_are : value_in plan.names ≡ all_names isa source = λ i name. laid.named name i in
          let found = fault_with (kept_before isa source number) (address_of isa source number) (bytes_of isa source number) in
          puts.told_is
          ∙ ap (option_map (finding_2 isa (value_in plan.names) planned.at planned.word line)) fault_is
          ∙ ap (λ names. option_map (finding_2 isa names planned.at planned.word line) found) names_are
          ∙ ap (λ a. option_map (finding_2 isa (all_names isa source) a planned.word line) found) place
          ∙ ap (λ w. option_map (finding_2 isa (all_names isa source) (address_of isa source number) w line) found) word_is
          ∙ ap (λ l. option_map (finding_2 isa (all_names isa source) (address_of isa source number)
          (word_from (parsed isa (names_before isa source number) (line_at source number))) l) found) (sym here)

      pub kept_more : (address : ℕ) → entry new address ≡ kept_before isa source (number + 1) address
      unfolding kept_before
      kept_more address =
          let step : suc number ≡ number + 1 = omega arith in
          let made = encoded isa (names_before isa source number) (value_in plan.names) planned.at planned.count line in
          puts.put address
          ∙ ap (λ o. option_or o (cond (is_some (fault_with (entry cells) planned.at made)) None
          (cell_in (number + 1) planned.at (result_unwrap_or made []) address))) (so_far address)
          ∙ ap (λ f. option_or (kept_before isa source number address) (cond (is_some f) None
          (cell_in (number + 1) planned.at (result_unwrap_or made []) address))) fault_is
          ∙ ap (λ a. option_or (kept_before isa source number address)
          (cond (is_some (fault_with (kept_before isa source number) (address_of isa source number) (bytes_of isa source number))) None
          (cell_in (number + 1) a (result_unwrap_or made []) address))) place
          ∙ ap (λ m. option_or (kept_before isa source number address)
          (cond (is_some (fault_with (kept_before isa source number) (address_of isa source number) (bytes_of isa source number))) None
          (cell_in (number + 1) (address_of isa source number) (result_unwrap_or m []) address))) (sym made_is)
          ∙ ap (λ n. kept_before isa source n address) step

pub kept_none : (isa : Isa) (source : List (List ℕ)) (cells : List (Option Cell)) → ((address : ℕ) → entry cells address ≡ None)
    → (address : ℕ) → entry cells address ≡ kept_before isa source 0 address
unfolding kept_before
kept_none isa source cells empty address = empty address

pub plan_none : (isa : Isa) (source : List (List ℕ)) (names : Table) (addresses : List ℕ) (words : List (Option Word)) (values : List LabelValue)
    → names ≡ [] → addresses ≡ origin_of isa ∷ [] → words ≡ [] → values ≡ [] → LaysOut isa source 0 (plan_with names addresses words values)
plan_none isa source names addresses words values = lays_out_none isa source (plan_with names addresses words values)

-- what pass 1 found of the first lines
pub record AreSurveyed (isa : Isa) (source : List (List ℕ)) (with_notes : Bool) (number : ℕ) (first : First) (at : ℕ) : Type 0 where
  pub seen : IsSeen isa source number first.plan.names at first.faulty
  pub told : IsEachOf (told_1 isa source) number first.told.findings.items
  pub noted : with_notes ≡ true → IsEachOf (note_at isa source) number first.told.notes.items
  pub plan : first.faulty ≡ false → LaysOut isa source number (planned first.plan)

pub surveyed-none : (isa : Isa) (source : List (List ℕ)) (with_notes : Bool) (first : First) (at : ℕ) → HasNoLines first at → at ≡ origin_of isa
    → AreSurveyed isa source with_notes 0 first at
surveyed-none isa source with_notes first at none place = record {
  seen = rw none.faultless (seen_start isa source first.plan.names at none.names place);
  told = each-none (told_1 isa source) first.told.findings.items none.findings;
  noted = λ wanted. each-none (note_at isa source) first.told.notes.items none.notes;
  plan = λ clean. plan_none isa source first.plan.names first.plan.addresses.items first.plan.words.items first.plan.values.items none.names
      (none.addresses ∙ ap (λ a. a ∷ []) place) none.words none.values;
}

pub surveyed-more : (isa : Isa) (source : List (List ℕ)) (with_notes : Bool) (number : ℕ) (old : First) (at : ℕ) (line : List ℕ) (new : First) (next : ℕ)
    → AreSurveyed isa source with_notes number old at → number < length source → line_at source number ≡ line
    → AddsFound isa old at with_notes line new next → AreSurveyed isa source with_notes (number + 1) new next
surveyed-more isa source with_notes number old at line new next so_far below here adds =
    let looked = adds.looked in
    record {
      seen = rw (adds.next_is, adds.faulty_is)
          (seen_more isa source number old.plan.names at old.faulty line new.plan.names looked so_far.seen below here adds.looks);
      told = rw adds.findings (each-more (told_1 isa source) number old.told.findings.items looked.finding so_far.told
          (told_here isa source number old.plan.names at old.faulty line new.plan.names looked so_far.seen below here adds.looks));
      noted = λ wanted. rw (adds.notes wanted) (each-more (note_at isa source) number old.told.notes.items _ (so_far.noted wanted)
          (note_here isa source number old.plan.names at old.faulty line so_far.seen here));
      plan = λ clean. rw (adds.addresses, adds.words, adds.values)
          (plan_more isa source number old.plan.names at old.faulty line new.plan.names looked so_far.seen below here adds.looks
          old.plan.addresses.items old.plan.words.items old.plan.values.items so_far.plan (sym adds.faulty_is ∙ clean));
    }

-- a line whose bytes are put, and one that overlaps
pub puts-overlap : (finding : AsmCause → Finding) (old : List (Option Cell)) (number at : ℕ) (made : Result (List ℕ) AsmCause) (bytes : List ℕ) (told : Finding)
    → made ≡ Ok bytes → overlaps (entry old) at (length bytes) ≡ true → told ≡ finding Overlap → PutsLine finding old old number at made (Some told)
puts-overlap finding old number at made bytes told e taken is =
    let fault : fault_with (entry old) at made ≡ Some Overlap =
    ap (fault_with (entry old) at) e ∙ cond-true (overlaps (entry old) at (length bytes)) (Some Overlap) None taken in
    record {
      told_is = ap Some is ∙ sym (ap (option_map finding) fault);
      put = λ address. sym (ap (λ f. option_or (entry old address) (cond (is_some f) None (cell_in number at (result_unwrap_or made []) address))) fault
          ∙ second_none (entry old address));
    }

pub puts-bytes : (finding : AsmCause → Finding) (old new : List (Option Cell)) (number at : ℕ) (made : Result (List ℕ) AsmCause) (bytes : List ℕ)
    → made ≡ Ok bytes → overlaps (entry old) at (length bytes) ≡ false
    → ((address : ℕ) → entry new address ≡ option_or (entry old address) (cell_in number at bytes address)) → PutsLine finding old new number at made None
puts-bytes finding old new number at made bytes e free put =
    let fault : fault_with (entry old) at made ≡ None =
    ap (fault_with (entry old) at) e ∙ cond-false (overlaps (entry old) at (length bytes)) (Some Overlap) None free in
    record {
      told_is = sym (ap (option_map finding) fault);
      put = λ address. put address
          ∙ sym (ap (λ f. option_or (entry old address) (cond (is_some f) None (cell_in number at (result_unwrap_or made []) address))) fault
          ∙ ap (λ m. option_or (entry old address) (cell_in number at (result_unwrap_or m []) address)) e);
    }

pub placed : {F : Type 0} (done taken : Bool) → MatchBool done ((taken ≡ false) × F) (taken ≡ true) → taken ≡ false → F
placed true taken m free = m.1
placed false taken m free = absurd (both_ways taken free m)

-- a line that counts as it was learnt
pub guesses-learnt : (isa : Isa) (old : Table) (at : ℕ) (line : List ℕ) (new : Table) (word : Option Word) (laid : Laid) → AddsLine isa old at line new word laid
    → Guesses isa old at line new laid.next
guesses-learnt isa old at line new word laid adds = record {
  next_is = sym (ap (λ r. (guessed_from isa (known old at) line r).at) adds.is);
  names = λ name. adds.names name ∙ sym (ap (λ r. (guessed_from isa (known old at) line r).names name) adds.is);
  low = adds.low;
}

pub looks-learnt : (isa : Isa) (old : Table) (at : ℕ) (faulty : Bool) (line : List ℕ) (new : Table) (word : Option Word) (laid : Laid)
    → AddsLine isa old at line new word laid → Looks isa old at faulty line new (record { word = word; laid = laid; faulty = faulty; finding = None })
looks-learnt isa old at faulty line new word laid adds =
    let before : Seen = seen old at faulty in
    record {
      next_is = sym (ap (λ r. (seen_after isa before line r).known.at) adds.is);
      names = λ name. adds.names name ∙ sym (ap (λ r. (seen_after isa before line r).known.names name) adds.is);
      faulty_is = sym (ap (λ r. (seen_after isa before line r).faulty) adds.is);
      told = sym (ap (finding_from isa (value_in old) faulty line) adds.is);
      low = adds.low;
      clean = λ e. (e, adds);
    }
