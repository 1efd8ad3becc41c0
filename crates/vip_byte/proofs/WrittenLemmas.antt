-- What is written is read back: the number of some digits, the words of a line, the lines of a text.
use Rattle.std.proofs.Common.{◌≡◌, ℕ, ◌+◌, ◌-◌, ◌*◌, ◌/◌, ◌%◌, ◌<◌, ◌≤◌, ◌^◌, true, false, Bool, ◌&&◌, ltb, eqb, List, [], ◌∷◌, ◌++◌, length, take, drop, get_or, map, Result, Ok, Err, refl, sym, ap, ◌∙◌, arith, inl, inr, append_assoc}
use Rattle.std.specs.Prelude.{decimal, flat_map, not, slice_index, ◌==◌}
use Rattle.std.specs.Char.{digit_value, is_digit}
use Rattle.std.specs.Int.Digits.{number_from_digits}
use Rattle.std.specs.List.{All, list_all, position_or_len, prefix_len}
use Rattle.std.specs.Str.Lines.{lines, strip_carriage_return}
use Rattle.std.specs.Str.Parse.{AllDigits, IsNumeral, digits_value}
use Rattle.std.proofs.lemmas.Bool.{agree_below_at, and_from, and_parts, cases_lt, eqb-true, le-ltb, lt-ltb, ltb-true, ne_eqb}
use Rattle.std.proofs.lemmas.Fmt.{decimal_by_steps, decimal_is_IsNumeral, decimal_nonempty}
use Rattle.std.proofs.lemmas.Int.Digits.{digits_value_is}
use Rattle.std.proofs.lemmas.List.{append-nil, drop_at, get_or_append_left, get_or_at, get_or_past, length-append, length-map, take_at}
use Rattle.std.proofs.lemmas.List.Elements.{All-cons, All-head, All-nil, All-tail}
use Rattle.std.proofs.lemmas.List.Folds.{list_all-append}
use Rattle.std.proofs.lemmas.List.Sums.{AllPass-from_list_all, position_or_len_is}
use Rattle.hex.specs.Hex.{upper_digits}
use Rattle.vip_byte.proofs.TextLemmas.{lines_first, words_blanks, words_first}
use Rattle.vip_byte.specs.HexText.{hex_digit, hex2, hex4}
use Rattle.vip_byte.specs.Number.{are_digits, number}
use Rattle.vip_byte.specs.Text.{is_blank, newline, words}

-- ---- bytes

-- a byte that ends no line
abbrev pub is_inner : ℕ → Bool
is_inner b = not (b == 10) && not (b == 13)

-- a byte that ends no word either, and begins no remark
abbrev pub is_plain : ℕ → Bool
is_plain b = is_inner b && (not (is_blank b) && not (b == 35))

not_true : (b : Bool) → not b ≡ true → b ≡ false
not_true false h = refl
not_true true h = cc

plain_inner : (b : ℕ) → is_plain b ≡ true → is_inner b ≡ true
plain_inner b plain = (and_parts (is_inner b) (not (is_blank b) && not (b == 35)) plain).0

plain_solid : (b : ℕ) → is_plain b ≡ true → is_blank b ≡ false
plain_solid b plain =
    not_true _ (and_parts (not (is_blank b)) (not (b == 35)) (and_parts (is_inner b) (not (is_blank b) && not (b == 35)) plain).1).0

plain_loud : (b : ℕ) → is_plain b ≡ true → (b == 35) ≡ false
plain_loud b plain =
    not_true _ (and_parts (not (is_blank b)) (not (b == 35)) (and_parts (is_inner b) (not (is_blank b) && not (b == 35)) plain).1).1

-- a digit is such a byte, and so is what stands for a number that has none
pub hex_plain : (n : ℕ) → is_plain (hex_digit n) ≡ true
hex_plain n = elim (cases_lt n 16) [
  | inl low ↦ agree_below_at (λ n. is_plain (hex_digit n)) (λ n. true) 16 n refl low
  | inr high ↦ let none : hex_digit n ≡ 0 = get_or_past upper_digits n 0 high in rw none refl
]

decimal_plain : (n : ℕ) → n < 2 ^ 64 → list_all is_plain (decimal n) ≡ true
decimal_plain n low =
    decimal_by_steps (λ n ds. list_all is_plain ds ≡ true) (λ n below. and_from _ _ (digit n below) refl)
    (λ n ds above rest. list_all-append is_plain ds ((48 + n % 10) ∷ []) ∙ and_from _ _ rest (and_from _ _ (digit (n % 10) (omega arith)) refl)) n low
  where
    digit : (n : ℕ) → n < 10 → is_plain (48 + n) ≡ true
    digit n below = agree_below_at (λ n. is_plain (48 + n)) (λ n. true) 10 n refl below

-- ---- numbers

are_read : (base : ℕ) (text : List ℕ) → AllDigits base text → are_digits base text ≡ true
are_read base [] all = refl
are_read base (byte ∷ text) all = and_from _ _ (lt-ltb (digit_value byte) base all.0) (are_read base text all.1)

numeral_read : (base n most : ℕ) (text : List ℕ) → IsNumeral base text → digits_value base text ≡ n → n ≤ most → number base text most ≡ Ok n
unfolding number
numeral_read base n most text is worth low =
    rw (ne_eqb (length text) 0 (λ none. omega (arith, none, is.0)), are_read base text is.1, worth, le-ltb most n low) refl

pub decimal_read : (n most : ℕ) → n < 2 ^ 64 → n ≤ most → number 10 (decimal n) most ≡ Ok n
decimal_read n most low within = let is = decimal_is_IsNumeral n low in numeral_read 10 n most (decimal n) is.0 is.1 within

pub digit_is : (n : ℕ) → n < 16 → digit_value (hex_digit n) ≡ n
digit_is n below = eqb-true _ _ (agree_below_at (λ n. eqb (digit_value (hex_digit n)) n) (λ n. true) 16 n refl below)

hex_digits : (ds : List ℕ) → All (λ d. d < 16) ds → AllDigits 16 (map hex_digit ds) × (map digit_value (map hex_digit ds) ≡ ds)
hex_digits [] all = (tt, refl)
hex_digits (d ∷ ds) all =
    let here = All-head (λ d. d < 16) d ds all in
    let rest = hex_digits ds (All-tail (λ d. d < 16) d ds all) in
    let is = digit_is d here in
    ((omega (arith, is, here), rest.0), rw (is, rest.1) refl)

hex_read : (ds : List ℕ) (n most : ℕ) → All (λ d. d < 16) ds → 0 < length ds → number_from_digits 16 ds ≡ n → n ≤ most
    → number 16 (map hex_digit ds) most ≡ Ok n
hex_read ds n most all some worth low =
    let is = hex_digits ds all in
    numeral_read 16 n most (map hex_digit ds) (rw length-map some, is.0) (digits_value_is 16 (map hex_digit ds) ∙ ap (number_from_digits 16) is.1 ∙ worth) low

abbrev IsDigit : ℕ → Type 0
IsDigit d = d < 16

pub hex_digit_read : (n : ℕ) → n < 16 → number 16 (hex_digit n ∷ []) 0xf ≡ Ok n
hex_digit_read n low = hex_read (n ∷ []) n 0xf (All-cons IsDigit n [] low (All-nil IsDigit)) (omega arith) (omega arith) (omega (arith, low))

pub hex2_read : (n : ℕ) → n < 256 → number 16 (hex2 n) 0xff ≡ Ok n
hex2_read n low =
    hex_read (n / 16 ∷ n % 16 ∷ []) n 0xff
    (All-cons IsDigit (n / 16) (n % 16 ∷ []) (omega (arith, low)) (All-cons IsDigit (n % 16) [] (omega arith) (All-nil IsDigit)))
    (omega arith) (omega arith) (omega (arith, low))

pub hex4_read : (n : ℕ) → n < 65536 → number 16 (hex4 n) 0xffff ≡ Ok n
hex4_read n low =
    let a = n / 256 / 16 in
    let b = n / 256 % 16 in
    let c = n % 256 / 16 in
    let d = n % 256 % 16 in
    hex_read (a ∷ b ∷ c ∷ d ∷ []) n 0xffff
    (All-cons IsDigit a (b ∷ c ∷ d ∷ []) (omega (arith, low)) (All-cons IsDigit b (c ∷ d ∷ []) (omega arith)
    (All-cons IsDigit c (d ∷ []) (omega arith) (All-cons IsDigit d [] (omega arith) (All-nil IsDigit)))))
    (omega arith) (omega arith) (omega (arith, low))

-- ---- the words of a line

-- a word of such bytes
abbrev pub is_word : List ℕ → Bool
is_word word = list_all is_plain word && ltb 0 (length word)

-- words, each behind a blank
abbrev pub behind : List (List ℕ) → List ℕ
behind = flat_map (λ word. 32 ∷ word)

pub hex_word : (d : ℕ) (ds : List ℕ) → is_word (map hex_digit (d ∷ ds)) ≡ true
hex_word d ds = and_from _ _ (all_plain (d ∷ ds)) (lt-ltb 0 (length (map hex_digit (d ∷ ds))) (omega arith))
  where
    all_plain : (ds : List ℕ) → list_all is_plain (map hex_digit ds) ≡ true
    all_plain [] = refl
    all_plain (d ∷ ds) = and_from _ _ (hex_plain d) (all_plain ds)

pub hex2_word : (n : ℕ) → is_word (hex2 n) ≡ true
hex2_word n = hex_word (n / 16) (n % 16 ∷ [])

pub hex4_word : (n : ℕ) → is_word (hex4 n) ≡ true
hex4_word n = hex_word (n / 256 / 16) (n / 256 % 16 ∷ n % 256 / 16 ∷ n % 256 % 16 ∷ [])

pub decimal_word : (n : ℕ) → n < 2 ^ 64 → is_word (decimal n) ≡ true
decimal_word n low = and_from _ _ (decimal_plain n low) (lt-ltb 0 (length (decimal n)) (decimal_nonempty n low))

word_parts : (word : List ℕ) → is_word word ≡ true → (list_all is_plain word ≡ true) × (0 < length word)
word_parts word is =
    let parts = and_parts (list_all is_plain word) (ltb 0 (length word)) is in (parts.0, ltb-true 0 (length word) parts.1)

-- it isn't the first word of a remark
pub word_loud : (word : List ℕ) → is_word word ≡ true → (slice_index word 0 == 35) ≡ false
word_loud [] is = cc
word_loud (b ∷ bytes) is = plain_loud b (and_parts (is_plain b) _ (word_parts (b ∷ bytes) is).0).0

word_end : (word rest : List ℕ) → list_all is_plain word ≡ true → position_or_len is_blank rest ≡ 0
    → position_or_len is_blank (word ++ rest) ≡ length word
word_end [] rest plain ends = ends
word_end (b ∷ bytes) rest plain ends =
    let parts = and_parts (is_plain b) (list_all is_plain bytes) plain in
    rw (plain_solid b parts.0) (omega (arith, word_end bytes rest parts.1 ends))

words_cut : (word rest : List ℕ) → is_word word ≡ true → position_or_len is_blank rest ≡ 0 → words (word ++ rest) ≡ word ∷ words rest
words_cut word rest is ends =
    let parts = word_parts word is in
    words_first (word ++ rest) (length word) (sym (word_end word rest parts.0 ends)) parts.1 (omega (arith, length-append word rest))
    ∙ ap (λ w. w ∷ words (drop (length word) (word ++ rest))) (take_at word rest (length word) refl)
    ∙ ap (λ r. word ∷ words r) (drop_at word rest (length word) refl)

words_none : words [] ≡ []
unfolding words
words_none = refl

blank_behind : (ws : List (List ℕ)) → position_or_len is_blank (behind ws) ≡ 0
blank_behind [] = refl
blank_behind (w ∷ ws) = refl

words_behind : (ws : List (List ℕ)) → list_all is_word ws ≡ true → words (behind ws) ≡ ws
words_behind [] all = words_none
words_behind (w ∷ ws) all =
    let parts = and_parts (is_word w) (list_all is_word ws) all in
    let plain = (word_parts w parts.0).0 in
    let rest = w ++ behind ws in
    words_blanks (32 ∷ rest) ∙ ap (λ n. words (drop n (32 ∷ rest))) (one_blank w (behind ws) parts.0) ∙ words_cut w (behind ws) parts.0 (blank_behind ws)
    ∙ ap (λ r. w ∷ r) (words_behind ws parts.1)
  where
    one_blank : (w rest : List ℕ) → is_word w ≡ true → prefix_len is_blank (32 ∷ (w ++ rest)) ≡ 1
    one_blank [] rest is = cc
    one_blank (b ∷ bytes) rest is =
        rw (plain_solid b (and_parts (is_plain b) (list_all is_plain bytes) (word_parts (b ∷ bytes) is).0).0) refl

-- a line of words with single blanks between them
pub words_line : (w : List ℕ) (ws : List (List ℕ)) → is_word w ≡ true → list_all is_word ws ≡ true → words (w ++ behind ws) ≡ w ∷ ws
words_line w ws first all = words_cut w (behind ws) first (blank_behind ws) ∙ ap (λ r. w ∷ r) (words_behind ws all)

-- ---- the lines of a text

-- a line of bytes that don't end it
abbrev pub is_line : List ℕ → Bool
is_line line = list_all is_inner line && ltb 0 (length line)

pub word_inner : (word : List ℕ) → is_word word ≡ true → list_all is_inner word ≡ true
word_inner word is = each_inner word (word_parts word is).0
  where
    each_inner : (bytes : List ℕ) → list_all is_plain bytes ≡ true → list_all is_inner bytes ≡ true
    each_inner [] plain = refl
    each_inner (b ∷ bytes) plain =
        let parts = and_parts (is_plain b) (list_all is_plain bytes) plain in and_from _ _ (plain_inner b parts.0) (each_inner bytes parts.1)

behind_inner : (ws : List (List ℕ)) → list_all is_word ws ≡ true → list_all is_inner (behind ws) ≡ true
behind_inner [] all = refl
behind_inner (w ∷ ws) all =
    let parts = and_parts (is_word w) (list_all is_word ws) all in
    list_all-append is_inner (32 ∷ w) (behind ws) ∙ and_from _ _ (word_inner w parts.0) (behind_inner ws parts.1)

pub line_of_words : (w : List ℕ) (ws : List (List ℕ)) → is_word w ≡ true → list_all is_word ws ≡ true → is_line (w ++ behind ws) ≡ true
line_of_words w ws first all =
    let parts = word_parts w first in
    and_from _ _ (list_all-append is_inner w (behind ws) ∙ and_from _ _ (word_inner w first) (behind_inner ws all))
    (lt-ltb 0 (length (w ++ behind ws)) (omega (arith, length-append w (behind ws), parts.1)))

inner_at : (line : List ℕ) → list_all is_inner line ≡ true → (k d : ℕ) → k < length line → is_inner (get_or line k d) ≡ true
inner_at line all k d within = AllPass-from_list_all is_inner line all k d within

strip_none : (line : List ℕ) → list_all is_inner line ≡ true → 0 < length line → strip_carriage_return line ≡ line
strip_none line all some =
    let last = inner_at line all (length line - 1) 0 (omega (arith, some)) in
    rw (not_true _ (and_parts (not (get_or line (length line - 1) 0 == 10)) _ last).1) refl

line_cut : (line rest : List ℕ) → list_all is_inner line ≡ true → 0 < length line → lines ((line ++ newline) ++ rest) ≡ line ∷ lines rest
line_cut line rest all some =
    let text : List ℕ = line ++ (10 ∷ rest) in
    let place : position_or_len (λ byte. eqb byte 10) text ≡ length line =
    position_or_len_is (λ byte. eqb byte 10) text (length line) 0 (omega (arith, length-append line (10 ∷ rest)))
    (λ k below.
    ap (λ c. eqb c 10) (get_or_append_left line (10 ∷ rest) 0 k below)
    ∙ not_true _ (and_parts (not (get_or line k 0 == 10)) _ (inner_at line all k 0 below)).0)
    (λ below. ap (λ c. eqb c 10) (get_or_at line 10 rest 0 (length line) refl)) in
    let back : drop (length line + 1) text ≡ rest =
    ap (drop (length line + 1)) (sym (append_assoc line newline rest)) ∙ drop_at (line ++ newline) rest (length line + 1) (length-append line newline) in
    ap lines (append_assoc line newline rest)
    ∙ lines_first text (length line) (sym place) (omega (arith, length-append line (10 ∷ rest)))
    ∙ ap (λ l. strip_carriage_return l ∷ lines (drop (length line + 1) text)) (take_at line (10 ∷ rest) (length line) refl)
    ∙ ap (λ l. l ∷ lines (drop (length line + 1) text)) (strip_none line all some)
    ∙ ap (λ r. line ∷ lines r) back

-- lines, each with its end
abbrev pub ended : List (List ℕ) → List ℕ
ended = flat_map (λ line. line ++ newline)

pub lines_ended : (ls : List (List ℕ)) → list_all is_line ls ≡ true → lines (ended ls) ≡ ls
lines_ended [] all = refl
lines_ended (line ∷ ls) all =
    let parts = and_parts (is_line line) (list_all is_line ls) all in
    let here = and_parts (list_all is_inner line) (ltb 0 (length line)) parts.0 in
    line_cut line (ended ls) here.0 (ltb-true 0 (length line) here.1) ∙ ap (λ r. line ∷ r) (lines_ended ls parts.1)
