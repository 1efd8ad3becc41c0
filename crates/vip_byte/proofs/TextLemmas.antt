-- The first line of a text and the first word of a line.
use Rattle.std.proofs.Common.{◌≡◌, ℕ, zero, suc, ◌+◌, ◌-◌, ◌<◌, ◌≤◌, Bool, true, false, not, eqb, List, [], ◌∷◌, length, take, drop, get_or, filter, refl, sym, ap, ◌∙◌, arith, inl, inr, add-one}
use Rattle.std.specs.List.{slice_split, position_or_len, prefix_len, before_first, after_first}
use Rattle.std.specs.Str.Lines.{lines, lines_of_parts, strip_carriage_return}
use Rattle.std.proofs.Math.ListN.{drop_of_length-le}
use Rattle.std.proofs.Math.Seq.{drop-cons, drop-length, take-length}
use Rattle.std.proofs.lemmas.Bool.{cases_Bool, cases_lt, ne_eqb}
use Rattle.std.proofs.lemmas.List.{drop-drop, length-take-le, nil_from_length, take_rest}
use Rattle.std.proofs.lemmas.List.Splits.{slice_split_none, slice_split_first, length-slice_split, slice_split-cons_yes}
use Rattle.std.proofs.lemmas.List.Sums.{count_by-le-length, fails_before_first, passes_at_first, prefix_len_stops}
use Rattle.vip_byte.specs.Text.{is_blank, words}

-- a part that is a word
abbrev is_word : List ℕ → Bool
is_word part = not (eqb (length part) 0)

-- the parts after the first are some
lines_of_parts-first : (line : List ℕ) (parts : List (List ℕ)) → 0 < length parts
    → lines_of_parts (line ∷ parts) ≡ strip_carriage_return line ∷ lines_of_parts parts
lines_of_parts-first line [] some = absurd (omega arith)
lines_of_parts-first line (part ∷ parts) some = refl

-- a line that ends with a newline, and the text behind that
pub lines_first : (text : List ℕ) (end : ℕ) → end ≡ position_or_len (λ byte. eqb byte 10) text → end < length text
    → lines text ≡ strip_carriage_return (take end text) ∷ lines (drop (end + 1) text)
lines_first text end at within =
    let behind = after_first (λ byte. eqb byte 10) text in
    let some = length-slice_split (λ byte. eqb byte 10) behind in
    ap lines_of_parts (slice_split_first (λ byte. eqb byte 10) text 0 (rw (← at) within))
    ∙ lines_of_parts-first (before_first (λ byte. eqb byte 10) text) (slice_split (λ byte. eqb byte 10) behind) (omega (arith, some))
    ∙ rw at refl

-- a text without a byte that passes is one part
slice_split-whole : (p : ℕ → Bool) (text : List ℕ) → length text ≤ position_or_len p text → slice_split p text ≡ text ∷ []
slice_split-whole p text none = slice_split_none p text (λ k d within. fails_before_first p text k d (omega arith))

-- a line without a newline is the last
pub lines_last : (text : List ℕ) → 0 < length text → length text ≤ position_or_len (λ byte. eqb byte 10) text → lines text ≡ text ∷ []
lines_last text some none =
    ap lines_of_parts (slice_split-whole (λ byte. eqb byte 10) text none) ∙ rw (ne_eqb (length text) 0 (λ empty. omega arith)) refl

-- a blank is part of no word
words-cons : (byte : ℕ) (bytes : List ℕ) → is_blank byte ≡ true → words (byte ∷ bytes) ≡ words bytes
unfolding words
words-cons byte bytes blank = ap (filter is_word) (slice_split-cons_yes is_blank byte bytes blank)

-- blanks before a line's first word
pub words_blanks : (line : List ℕ) → words line ≡ words (drop (prefix_len is_blank line) line)
words_blanks [] = refl
words_blanks (byte ∷ bytes) = elim (cases_Bool (is_blank byte)) [
  | inl blank ↦
      let more : 1 + prefix_len is_blank bytes ≡ suc (prefix_len is_blank bytes) = omega arith in
      rw (blank, more) (words-cons byte bytes blank ∙ words_blanks bytes)
  | inr other ↦ rw other refl
]

-- a part that is a word is kept
filter-word : (part : List ℕ) (parts : List (List ℕ)) → 0 < length part → filter is_word (part ∷ parts) ≡ part ∷ filter is_word parts
filter-word part parts some = rw (ne_eqb (length part) 0 (λ empty. omega arith)) refl

-- what stands behind the first blank has the words that stand at it
words-after_first : (line : List ℕ) → position_or_len is_blank line < length line
    → words (after_first is_blank line) ≡ words (drop (position_or_len is_blank line) line)
words-after_first line within =
    let at = position_or_len is_blank line in
    sym (words-cons (get_or line at 0) (drop (at + 1) line) (passes_at_first is_blank line 0 within))
    ∙ ap words (sym (rw add-one (drop-cons line at 0 within)))

-- a line that begins with a word and has a blank
words_first-blank : (line : List ℕ) → 0 < position_or_len is_blank line → position_or_len is_blank line < length line
    → words line ≡ before_first is_blank line ∷ words (after_first is_blank line)
unfolding words
words_first-blank line some within =
    ap (filter is_word) (slice_split_first is_blank line 0 within)
    ∙ filter-word (before_first is_blank line) (slice_split is_blank (after_first is_blank line))
    (omega (arith, length-take-le (position_or_len is_blank line) line))

-- a line that is one word
words_first-whole : (line : List ℕ) → 0 < length line → length line ≤ position_or_len is_blank line → words line ≡ line ∷ []
unfolding words
words_first-whole line some none =
    ap (filter is_word) (slice_split-whole is_blank line none) ∙ filter-word line [] some

-- a line that begins with a word, and the line behind that
pub words_first : (line : List ℕ) (end : ℕ) → end ≡ position_or_len is_blank line → 0 < end → end ≤ length line
    → words line ≡ take end line ∷ words (drop end line)
unfolding words
words_first line end at some within = elim (cases_lt end (length line)) [
  | inl blank ↦
      rw at (words_first-blank line (omega arith) (omega arith)
      ∙ ap (λ more. take (position_or_len is_blank line) line ∷ more) (words-after_first line (omega arith)))
  | inr none ↦
      let whole : end ≡ length line = omega arith in
      rw (whole, take-length, drop-length) (words_first-whole line (omega arith) (omega arith))
]

-- a byte that is no blank begins a word
word-cons : (byte : ℕ) (bytes : List ℕ) → is_blank byte ≡ false → 0 < position_or_len is_blank (byte ∷ bytes)
word-cons byte bytes other = rw other (omega arith)

-- a line that has no word behind the blanks at its start
pub words_none : (line : List ℕ) → position_or_len is_blank (drop (prefix_len is_blank line) line) ≡ 0 → words line ≡ []
unfolding words
words_none line none = elim (cases_lt (prefix_len is_blank line) (length line)) [
  | inl within ↦
      let rest = rw (drop-cons line (prefix_len is_blank line) 0 within) at none in
      absurd (omega (
        arith,
        rest,
        word-cons (get_or line (prefix_len is_blank line) 0) (drop
            (suc (prefix_len is_blank line)) line) (prefix_len_stops is_blank line 0 within),
      ))
  | inr all ↦ words_blanks line ∙ ap words (drop_of_length-le line all)
]

-- a text that is cut at its end, since it has no newline
pub lines_whole : (text line rest : List ℕ) (end : ℕ) → end ≡ position_or_len (λ byte. eqb byte 10) text → 0 < length text
    → line ≡ take end text → length rest + end ≡ length text → length rest < 1 → lines text ≡ line ∷ lines rest
lines_whole text line rest end at some front len short =
    let whole : end ≡ length text = omega arith in
    rw (nil_from_length rest (omega arith), front, whole, take-length) (lines_last text some (omega arith))

-- a text that is cut before its first newline
pub lines_split : (text line rest : List ℕ) (end : ℕ) → end ≡ position_or_len (λ byte. eqb byte 10) text
    → line ≡ take end text → rest ≡ drop end text → length rest + end ≡ length text → 1 ≤ length rest
    → lines text ≡ strip_carriage_return line ∷ lines (take (length rest - 1) (drop 1 rest))
lines_split text line rest end at front back len long =
    rw (take_rest rest 1, back, drop-drop, front) (lines_first text end at (omega arith))

-- a line behind its blanks that is cut behind its first word
pub words_split : (line trimmed word rest : List ℕ) (end : ℕ) → trimmed ≡ drop (prefix_len is_blank line) line
    → end ≡ position_or_len is_blank trimmed → end ≤ length trimmed → word ≡ take end trimmed → rest ≡ drop end trimmed → 0 < end
    → words line ≡ word ∷ words rest
words_split line trimmed word rest end cut at within front back some =
    words_blanks line ∙ rw (front, back, ← cut) (words_first trimmed end at some within)

-- no more lines than parts
length-lines_of_parts : (parts : List (List ℕ)) → length (lines_of_parts parts) ≤ length parts
length-lines_of_parts [] = omega arith
length-lines_of_parts (part ∷ []) = elim (cases_Bool (eqb (length part) 0)) [ inl empty ↦ rw empty (omega arith) | inr some ↦ rw some (omega arith) ]
length-lines_of_parts (part ∷ next ∷ parts) = let rest = length-lines_of_parts (next ∷ parts) in omega (arith, rest)

-- a text has at most one line more than bytes
pub length-lines : (text : List ℕ) → length (lines text) ≤ length text + 1
length-lines text =
    let parts = slice_split (λ byte. eqb byte 10) text in
    omega (arith, length-lines_of_parts parts, length-slice_split (λ byte. eqb byte 10) text, count_by-le-length (λ byte. eqb byte 10) text)

-- so many of the first bytes pass, and the next one doesn't
pub prefix_len_is : (passes : ℕ → Bool) (bytes : List ℕ) (count : ℕ) → count ≤ length bytes
    → ((k : ℕ) → k < count → passes (get_or bytes k 0) ≡ true) → (count < length bytes → passes (get_or bytes count 0) ≡ false)
    → count ≡ prefix_len passes bytes
prefix_len_is passes [] count within before behind = omega arith
prefix_len_is passes (byte ∷ bytes) zero within before behind = rw (behind (omega arith)) refl
prefix_len_is passes (byte ∷ bytes) (suc count) within before behind =
    let rest = prefix_len_is passes bytes count (omega arith) (λ k lt. before (suc k) (omega arith)) (λ lt. behind (omega arith)) in
    rw (before 0 (omega arith)) (omega (arith, rest))
