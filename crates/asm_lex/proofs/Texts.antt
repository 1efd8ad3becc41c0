-- The parts of a line's text.
use Rattle.std.proofs.Common.{◌≡◌, ◌+◌, ◌-◌, ◌<◌, ◌≤◌, ℕ, zero, suc, refl, List, [], ◌∷◌, ◌++◌, length, take, drop, sym, ◌∙◌, ap, arith, true, false, get_or, Some, None, Option}
use Rattle.std.specs.Prelude.{map, ◌==◌, IfSome}
use Rattle.std.specs.List.{slice_split, prefix_len, suffix_len, position_or_len}
use Rattle.std.specs.Option.{option_map_or, option_to_list}
use Rattle.std.proofs.lemmas.Bool.{both_ways, cond-true, cond-false, eq-eqb, ne_eqb}
use Rattle.std.proofs.lemmas.List.{take_all, length-take, length-drop, length-append, length-map, get_or-drop, append_assoc}
use Rattle.std.proofs.lemmas.List.Sums.{prefix_len_stops, passes_at_first}
use Rattle.std.proofs.lemmas.List.Splits.{length-slice_split}
use Rattle.asm_lex.specs.declared.shape.Span.{Span}
use Rattle.vip_byte.specs.Text.{is_blank}
use Rattle.asm_lex.specs.Bytes.{is_comma}
use Rattle.asm_lex.specs.Parts.{without_leading_blanks, without_trailing_blanks, trimmed, operands_in, word_of, statement_of, behind_word}
use Rattle.asm_lex.specs.Spans.{text_at, IsWithin, AreWithin, AreInOrder}
use Rattle.asm_lex.proofs.Splits.{part_of_part}

pub length-text : (line : List ℕ) (span : Span) → IsWithin line span → length (text_at line span) ≡ span.to - span.from
length-text line span within =
    omega (arith, length-take (span.to - span.from) (drop span.from line), length-drop span.from line, within.in_order, within.inside)

-- the whole line
pub text-whole : (line : List ℕ) → take (length line - 0) (drop 0 line) ≡ line
text-whole line = take_all (length line - 0) line (omega arith)

-- what stands in a span behind a front of it
pub text_behind : (line : List ℕ) (from mid to : ℕ) → from ≤ mid → mid ≤ to → to ≤ length line
    → take (to - mid) (drop mid line) ≡ drop (length (take (mid - from) (drop from line))) (take (to - from) (drop from line))
text_behind line from mid to low high inside =
    let front : length (take (mid - from) (drop from line)) ≡ mid - from = omega (arith, length-take (mid - from) (drop from line), length-drop from line) in
    let skips : from + (mid - from) ≡ mid = omega arith in
    let keeps : from + (mid - from) + (to - mid) - (from + (mid - from)) ≡ to - mid = omega arith in
    let part : take (to - mid) (drop (from + (mid - from)) line) ≡ take (to - mid) (drop (mid - from) (take (to - from) (drop from line))) =
    ap (λ n. take n (drop (from + (mid - from)) line)) (sym keeps) ∙ part_of_part line from to (mid - from) (to - mid) (omega arith) in
    let rest : take (to - mid) (drop (mid - from) (take (to - from) (drop from line))) ≡ drop (mid - from) (take (to - from) (drop from line)) =
    take_all (to - mid) _ (omega (
      arith,
      length-drop (mid - from) (take (to - from) (drop from line)),
      length-take (to
          - from) (drop from line),
      length-drop from line,
    )) in
    ap (λ n. take (to - mid) (drop n line)) (sym skips) ∙ part ∙ rest ∙ ap (λ n. drop n (take (to - from) (drop from line))) (sym front)

-- the operands of an empty text, and of one that isn't
pub operands-empty : (text : List ℕ) → length text ≡ 0 → operands_in text ≡ []
unfolding operands_in
operands-empty text e = cond-true (length text == 0) [] (map trimmed (slice_split is_comma text)) (eq-eqb (length text) 0 e)

pub operands-some : (text : List ℕ) → 0 < length text → map trimmed (slice_split is_comma text) ≡ operands_in text
unfolding operands_in
operands-some text there = sym (cond-false (length text == 0) [] (map trimmed (slice_split is_comma text)) (ne_eqb (length text) 0 (λ e. omega arith)))

-- one more operand
pub operands-step : (done : List (List ℕ)) (first operand : List ℕ) (whole rest all : List (List ℕ)) → done ++ map trimmed whole ≡ all
    → whole ≡ first ∷ rest → operand ≡ trimmed first
    → (done ++ operand ∷ []) ++ map trimmed rest ≡ all
operands-step done first operand whole rest all so_far parts same =
    append_assoc done (operand ∷ []) (map trimmed rest) ∙ ap (λ o. done ++ (o ∷ map trimmed rest)) same ∙ ap (λ ps. done ++ map trimmed ps) (sym parts) ∙ so_far

pub operands-full : (done : List (List ℕ)) (text : List ℕ) (all : List (List ℕ)) → done ++ map trimmed (slice_split is_comma text) ≡ all
    → length done ≡ 128 → 128 < length all
operands-full done text all so_far full =
    omega (
      arith,
      ap length so_far,
      length-append done (map trimmed
          (slice_split is_comma text)),
      length-map (slice_split is_comma text) trimmed,
      length-slice_split is_comma text,
    )

pub in_order-push : (start : ℕ) (spans : List Span) (mid : ℕ) (span : Span) (end : ℕ) → AreInOrder start spans mid → mid ≤ span.from
    → span.from ≤ span.to → span.to ≤ end → AreInOrder start (spans ++ span ∷ []) end
in_order-push start [] mid span end order before inside behind = (omega arith, inside, behind)
in_order-push start (s ∷ spans) mid span end order before inside behind = (order.0, order.1, in_order-push s.to spans mid span end order.2 before inside behind)

-- the end of what is left is the end of the whole
pub moved : (more : Option Span) (end mid to : ℕ) → IfSome more (λ rest. (end < rest.from) × (rest.from ≤ rest.to) × (rest.to ≡ mid)) → mid ≡ to
    → IfSome more (λ rest. (end < rest.from) × (rest.from ≤ rest.to) × (rest.to ≡ to))
moved None end mid to order e = tt
moved (Some rest) end mid to order e = (order.0, order.1, order.2 ∙ e)

-- where the next part begins
pub next_from : (more : Option Span) (end to : ℕ) → IfSome more (λ rest. (end < rest.from) × (rest.from ≤ rest.to) × (rest.to ≡ to)) → end ≤ to
    → (end ≤ option_map_or (λ (rest : Span). rest.from) more to) × IfSome more (λ rest. (rest.from ≤ rest.to) × (rest.to ≡ to))
next_from None end to order within = (within, tt)
next_from (Some rest) end to order within = (omega (arith, order.0), (order.1, order.2))

-- where the word is empty, so is what stands behind it
shorter-leading : (text : List ℕ) → length (without_leading_blanks text) ≤ length text
unfolding without_leading_blanks
shorter-leading text = omega (arith, length-drop (prefix_len is_blank text) text)

shorter-trailing : (text : List ℕ) → length (without_trailing_blanks text) ≤ length text
unfolding without_trailing_blanks
shorter-trailing text = omega (arith, length-take (length text - suffix_len is_blank text) text)

added : (n : ℕ) → n + 0 ≡ n
added n = omega arith

first_visible : (text : List ℕ) → 0 < length (without_leading_blanks text) → is_blank (get_or (without_leading_blanks text) 0 0) ≡ false
unfolding without_leading_blanks
first_visible text there =
    ap is_blank (get_or-drop (prefix_len is_blank text) text 0 0)
    ∙ ap (λ k. is_blank (get_or text k 0)) (added (prefix_len is_blank text))
    ∙ prefix_len_stops is_blank text 0 (omega (arith, length-drop (prefix_len is_blank text) text))

empty_word : (text : List ℕ) → length (word_of (without_leading_blanks text)) ≡ 0 → length (without_leading_blanks text) ≡ 0
empty_word text e = elim (length (without_leading_blanks text)) as (λ n. length (without_leading_blanks text) ≡ n → length (without_leading_blanks text) ≡ 0) [
  | zero ↦ λ h. h
  | suc n ↦ λ h.
      let s = without_leading_blanks text in
      let place : position_or_len is_blank s ≡ 0 = omega (arith, length-take (position_or_len is_blank s) s) in
      let passes : is_blank (get_or s (position_or_len is_blank s) 0) ≡ true = passes_at_first is_blank s 0 (omega arith) in
      absurd (both_ways _ (first_visible text (omega arith)) (ap (λ k. is_blank (get_or s k 0)) (sym place) ∙ passes))
] refl

pub empty_statement : (code : List ℕ) → length (word_of (statement_of code)) ≡ 0 → length (behind_word (statement_of code)) ≡ 0
empty_statement code e =
    let s = statement_of code in
    let none : length s ≡ 0 = empty_word _ e in
    omega (
      arith,
      shorter-trailing (without_leading_blanks (drop (length (word_of s)) s)),
      shorter-leading (drop
          (length (word_of s)) s),
      length-drop (length (word_of s)) s,
    )

in_order-le : (spans : List Span) (start end : ℕ) → AreInOrder start spans end → start ≤ end
in_order-le [] start end order = order
in_order-le (s ∷ spans) start end order = omega (arith, order.0, order.1, in_order-le spans s.to end order.2)

-- spans in order up to a place in the line lie in it
pub in_order-within : (line : List ℕ) (spans : List Span) (start end : ℕ) → AreInOrder start spans end → end ≤ length line → AreWithin line spans
in_order-within line [] start end order inside k d below = absurd (omega arith)
in_order-within line (s ∷ spans) start end order inside zero d below = record { in_order = order.1; inside = omega (arith, in_order-le spans s.to end order.2) }
in_order-within line (s ∷ spans) start end order inside (suc k) d below = in_order-within line spans s.to end order.2 inside k d (omega arith)

pub in_order-wider : (spans : List Span) (low start high end : ℕ) → low ≤ start → high ≤ end → AreInOrder start spans high → AreInOrder low spans end
in_order-wider [] low start high end a b o = omega arith
in_order-wider (s ∷ spans) low start high end a b o = (omega (arith, o.0), o.1, in_order-wider spans s.to s.to high end (omega arith) b o.2)

-- the spans of a line in order: the label, the word's place aside, then the operands
pub in_order-line : (label : Option Span) (word behind : Span) (operands : List Span) (end : ℕ)
    → AreInOrder 0 (option_to_list label ++ word ∷ behind ∷ []) end → AreInOrder behind.from operands behind.to
    → AreInOrder 0 (option_to_list label ++ operands) end
in_order-line None word behind operands end order inner =
    in_order-wider operands 0 behind.from behind.to end (omega arith) order.2.2 inner
in_order-line (Some label) word behind operands end order inner =
    (order.0, order.1, in_order-wider operands label.to behind.from behind.to end (omega (arith, order.2.0, order.2.1, order.2.2.0)) order.2.2.2 inner)

-- what stands behind the word ends in the line
pub behind-inside : (label : Option Span) (word behind : Span) (end : ℕ) → AreInOrder 0 (option_to_list label ++ word ∷ behind ∷ []) end → behind.to ≤ end
behind-inside None word behind end order = order.2.2
behind-inside (Some label) word behind end order = order.2.2.2
