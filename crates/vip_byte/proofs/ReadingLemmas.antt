-- What the first lines of a text say.
use Rattle.std.proofs.Common.{◌≡◌, ℕ, zero, suc, ◌+◌, ◌<◌, ◌≤◌, List, [], ◌∷◌, ◌++◌, length, Option, Some, None, Ok, Err, refl, sym, ap, ◌∙◌, arith, append_assoc, zero-add}
use Rattle.std.specs.List.{cons_option, filter_map, range_with_len}
use Rattle.std.specs.Option.{option_map, option_to_list}
use Rattle.std.specs.Result.{result_unwrap_or}
use Rattle.std.specs.Str.Lines.{lines}
use Rattle.std.proofs.Math.Seq.{get_or-append_seam, take-append_seam}
use Rattle.std.proofs.lemmas.List.{append-nil, get_or_append_left, length-append, take-append-le}
use Rattle.std.proofs.lemmas.List.Elements.{filter_map-append}
use Rattle.vip_byte.specs.Reading.{Format, values_of, fault_at, faults_of, read}
use Rattle.vip_byte.proofs.RangeLemmas.{range_with_len-add}
use Rattle.vip_byte.proofs.TextLemmas.{length-lines}

module _ {Value Cause Fault : Type 0} (format : Format Value Cause Fault) where
  -- the lines `done` are faultless and say these values; `left` are the others
  pub record IsReadUpTo (text : List ℕ) (done left : List (List ℕ)) (values : List Value) (number : ℕ) : Type 0 where
    pub whole : lines text ≡ done ++ left
    pub said_so_far : values ≡ values_of format done
    pub faultless : faults_of format done ≡ []
    pub count : number ≡ length done

  -- before the first line
  pub read_none : (text : List ℕ) → IsReadUpTo text [] (lines text) [] 0
  unfolding values_of faults_of
  read_none text = record { whole = refl; said_so_far = refl; faultless = refl; count = refl }

  -- the number of lines is no greater than the length of the text allows
  pub length-IsReadUpTo : (text : List ℕ) (done left : List (List ℕ)) (values : List Value) (number : ℕ) → IsReadUpTo text done left values number
      → number ≤ length text + 1
  length-IsReadUpTo text done left values number so_far =
      omega (arith, so_far.count, ap length so_far.whole, length-append done left, length-lines text)

  -- a line's fault does not depend on the lines behind it
  fault_at-append : (before behind : List (List ℕ)) (i : ℕ) → i < length before → fault_at format (before ++ behind) i ≡ fault_at format before i
  fault_at-append before behind i within =
      rw (take-append-le i before behind (omega arith), get_or_append_left before behind [] i within) refl

  faults-append : (before behind : List (List ℕ)) (a n : ℕ) → a + n ≤ length before
      → filter_map (fault_at format (before ++ behind)) (range_with_len a n) ≡ filter_map (fault_at format before) (range_with_len a n)
  faults-append before behind a zero within = refl
  faults-append before behind a (suc n) within =
      rw (fault_at-append before behind a (omega arith))
      (ap (cons_option (fault_at format before a)) (faults-append before behind (a + 1) n (omega arith)))

  -- the fault of a line behind others
  fault_behind : List (List ℕ) → List ℕ → Option Fault
  fault_behind before line = option_map (format.fault (length before + 1)) (format.refused (values_of format before) (format.said line))

  fault_at-line : (before : List (List ℕ)) (line : List ℕ) (behind : List (List ℕ))
      → fault_at format (before ++ line ∷ behind) (length before) ≡ fault_behind before line
  unfolding fault_behind
  fault_at-line before line behind = rw (take-append_seam before (line ∷ behind), get_or-append_seam before line behind []) refl

  -- the faults of a line and of those behind it come after those before it
  faults_of-line : (before : List (List ℕ)) (line : List ℕ) (behind : List (List ℕ))
      → faults_of format (before ++ line ∷ behind)
      ≡ faults_of format before
      ++ cons_option (fault_behind before line) (filter_map (fault_at format (before ++ line ∷ behind)) (range_with_len (length before + 1) (length behind)))
  unfolding faults_of
  faults_of-line before line behind =
      let all = before ++ line ∷ behind in
      let n = length before in
      ap (λ count. filter_map (fault_at format all) (range_with_len 0 count)) (length-append before (line ∷ behind))
      ∙ ap (filter_map (fault_at format all)) (range_with_len-add 0 n (suc (length behind)))
      ∙ filter_map-append (fault_at format all) (range_with_len 0 n) (range_with_len (0 + n) (suc (length behind)))
      ∙ rw (zero-add n, faults-append before (line ∷ behind) 0 n (omega arith), fault_at-line before line behind) refl

  -- a line that is refused has the first fault of the text
  pub read-refused : (text : List ℕ) (done : List (List ℕ)) (line : List ℕ) (left : List (List ℕ)) (values : List Value) (number : ℕ) (cause : Cause)
      → IsReadUpTo text done (line ∷ left) values number → format.refused values (format.said line) ≡ Some cause
      → read format text ≡ Err (format.fault (number + 1) cause)
  unfolding read fault_behind
  read-refused text done line left values number cause so_far refused =
      let faults = faults_of-line done line left in
      rw (so_far.whole, faults, so_far.faultless, ← so_far.said_so_far, ← so_far.count, refused) refl

  -- a value that may be there, as a list
  cons_option-nil : (value : Option Value) → cons_option value [] ≡ option_to_list value
  cons_option-nil None = refl
  cons_option-nil (Some value) = refl

  -- a line that is not refused is read
  pub read_line : (text : List ℕ) (done : List (List ℕ)) (line : List ℕ) (left : List (List ℕ)) (values : List Value) (number : ℕ) (value : Option Value)
      → IsReadUpTo text done (line ∷ left) values number → format.refused values (format.said line) ≡ None → format.said line ≡ Ok value
      → IsReadUpTo text (done ++ line ∷ []) left (values ++ option_to_list value) (number + 1)
  unfolding fault_behind values_of
  read_line text done line left values number value so_far allowed says = record {
    whole = so_far.whole ∙ sym (append_assoc done (line ∷ []) left);
    said_so_far =
        rw (filter_map-append (λ l. result_unwrap_or (format.said l) None) done (line ∷ []), says, cons_option-nil value)
        (ap (λ all. all ++ option_to_list value) so_far.said_so_far);
    faultless = faults_of-line done line [] ∙ rw (so_far.faultless, ← so_far.said_so_far, allowed) refl;
    count = omega (arith, length-append done (line ∷ []), so_far.count);
  }

  -- a text whose lines were all read
  pub read-whole : (text : List ℕ) (done : List (List ℕ)) (values : List Value) (number : ℕ) → IsReadUpTo text done [] values number
      → read format text ≡ Ok values
  unfolding read
  read-whole text done values number so_far = rw (so_far.whole, append-nil, so_far.faultless, ← so_far.said_so_far) refl
