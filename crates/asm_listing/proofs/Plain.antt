-- A line of assembly that is a blank, a word and its operands, of characters that end neither.
use Rattle.std.proofs.Common.{◌≡◌, ◌+◌, ◌-◌, ◌<◌, ◌≤◌, ℕ, zero, suc, refl, Bool, List, [], ◌∷◌, ◌++◌, length, take, drop, get_or, ◌∙◌, ap, arith, true, false, cond, Some, None, Option, Ok}
use Rattle.std.specs.Prelude.{◌&&◌, ◌||◌, ◌==◌, not, nat_le, is_some, map, All, slice_index}
use Rattle.std.specs.List.{list_all, list_any, slice_split, onto_first, prefix_len, suffix_len, position_or_len}
use Rattle.std.proofs.lemmas.Bool.{cond-false, and_parts, and_from, le-leb, leb-true, le-ltb, ne_eqb}
use Rattle.std.specs.Option.{option_map_or}
use Rattle.std.proofs.lemmas.List.{append-nil, take_all, take_at, drop_at, drop_all, length-append, get_or_append_left, get_or-append-add, get_or_at}
use Rattle.std.proofs.lemmas.List.Sums.{suffix_len_is, position_or_len_is}
use Rattle.std.proofs.lemmas.List.Splits.{slice_split_none, slice_split_at}
use Rattle.std.proofs.lemmas.List.Folds.{list_any_none}
use Rattle.asm_lex.specs.declared.shape.Isa.{Isa}
use Rattle.asm_lex.specs.Names.{Names}
use Rattle.asm_lex.specs.declared.shape.Word.{Word}
use Rattle.vip_byte.specs.Text.{is_blank}
use Rattle.asm_lex.specs.Bytes.{is_allowed, is_semicolon, is_colon, is_comma, is_in_name, ends_name, begins_name, is_name, is_long_name, has_long_name}
use Rattle.asm_lex.specs.Expressions.{is_sign, is_prefix, sum_in, terms_of}
use Rattle.asm_lex.specs.Parts.{without_leading_blanks, without_trailing_blanks, trimmed, code_of, label_of, statement_of, word_of, behind_word, operands_in}
use Rattle.asm_lex.specs.Lines.{Parsed, has_bad_bytes, has_bad_name, word_meaning, parsed}
use Rattle.asm_lex.proofs.Statements.{parsed-statement}

-- a character of names and numbers
abbrev pub is_plain : ℕ → Bool
is_plain c =
    is_allowed c && (is_in_name c && (not (is_blank c)
    && (not (is_semicolon c) && (not (is_colon c) && (not (is_comma c) && (not (is_sign c) && not (is_prefix c)))))))

abbrev pub IsPlain : List ℕ → Type 0
IsPlain text = list_all is_plain text ≡ true

is_false : (b : Bool) → not b ≡ true → b ≡ false
is_false true e = absurd (cc)
is_false false e = refl

-- what one character says, by name
pub record Says (c : ℕ) : Type 0 where
  pub allowed : is_allowed c ≡ true
  pub in_name : is_in_name c ≡ true
  pub no_blank : is_blank c ≡ false
  pub no_semicolon : is_semicolon c ≡ false
  pub no_colon : is_colon c ≡ false
  pub no_comma : is_comma c ≡ false
  pub no_sign : is_sign c ≡ false
  pub no_prefix : is_prefix c ≡ false

says : (c : ℕ) → is_plain c ≡ true → Says c
says c e =
    let p1 = and_parts _ _ e in
    let p2 = and_parts _ _ p1.1 in
    let p3 = and_parts _ _ p2.1 in
    let p4 = and_parts _ _ p3.1 in
    let p5 = and_parts _ _ p4.1 in
    let p6 = and_parts _ _ p5.1 in
    let p7 = and_parts _ _ p6.1 in
    record {
      allowed = p1.0;
      in_name = p2.0;
      no_blank = is_false _ p3.0;
      no_semicolon = is_false _ p4.0;
      no_colon = is_false _ p5.0;
      no_comma = is_false _ p6.0;
      no_sign = is_false _ p7.0;
      no_prefix = is_false _ p7.1;
    }

each : (xs : List ℕ) → IsPlain xs → (k d : ℕ) → k < length xs → Says (get_or xs k d)
each [] all k d below = absurd (omega arith)
each (x ∷ xs) all zero d below = says x (and_parts _ _ all).0
each (x ∷ xs) all (suc k) d below = each xs (and_parts _ _ all).1 k d (omega arith)

-- a character of operands
abbrev pub is_solid : ℕ → Bool
is_solid c = is_allowed c && (not (is_blank c) && (not (is_semicolon c) && (not (is_colon c) && not (is_comma c))))

abbrev pub IsSolid : List ℕ → Type 0
IsSolid text = (list_all is_solid text ≡ true) × (0 < length text)

record SaysSolid (c : ℕ) : Type 0 where
  allowed : is_allowed c ≡ true
  no_blank : is_blank c ≡ false
  no_semicolon : is_semicolon c ≡ false
  no_colon : is_colon c ≡ false
  no_comma : is_comma c ≡ false

says_solid : (c : ℕ) → is_solid c ≡ true → SaysSolid c
says_solid c e =
    let p1 = and_parts _ _ e in
    let p2 = and_parts _ _ p1.1 in
    let p3 = and_parts _ _ p2.1 in
    let p4 = and_parts _ _ p3.1 in
    record { allowed = p1.0; no_blank = is_false _ p2.0; no_semicolon = is_false _ p3.0; no_colon = is_false _ p4.0; no_comma = is_false _ p4.1 }

each_solid : (xs : List ℕ) → list_all is_solid xs ≡ true → (k d : ℕ) → k < length xs → SaysSolid (get_or xs k d)
each_solid [] all k d below = absurd (omega arith)
each_solid (x ∷ xs) all zero d below = says_solid x (and_parts _ _ all).0
each_solid (x ∷ xs) all (suc k) d below = each_solid xs (and_parts _ _ all).1 k d (omega arith)

pub all_solid : (xs : List ℕ) → IsPlain xs → list_all is_solid xs ≡ true
all_solid [] all = refl
all_solid (x ∷ xs) all =
    let s = says x (and_parts _ _ all).0 in
    and_from _ _
    (and_from _ _ s.allowed (and_from _ _ (ap not s.no_blank) (and_from _ _ (ap not s.no_semicolon) (and_from _ _ (ap not s.no_colon) (ap not s.no_comma)))))
    (all_solid xs (and_parts _ _ all).1)

all_append : (p : ℕ → Bool) (xs ys : List ℕ) → list_all p xs ≡ true → list_all p ys ≡ true → list_all p (xs ++ ys) ≡ true
all_append p [] ys a b = b
all_append p (x ∷ xs) ys a b = and_from _ _ (and_parts _ _ a).0 (all_append p xs ys (and_parts _ _ a).1 b)

-- what a line may hold without a comment or a label
abbrev is_code : ℕ → Bool
is_code c = is_allowed c && (not (is_semicolon c) && not (is_colon c))

code_char : (c : ℕ) → SaysSolid c → is_code c ≡ true
code_char c s = and_from _ _ s.allowed (and_from _ _ (ap not s.no_semicolon) (ap not s.no_colon))

all_code : (xs : List ℕ) → list_all is_solid xs ≡ true → list_all is_code xs ≡ true
all_code [] all = refl
all_code (x ∷ xs) all = and_from _ _ (code_char x (says_solid x (and_parts _ _ all).0)) (all_code xs (and_parts _ _ all).1)

all_allowed : (xs : List ℕ) → list_all is_code xs ≡ true → list_all is_allowed xs ≡ true
all_allowed [] all = refl
all_allowed (x ∷ xs) all = and_from _ _ (and_parts _ _ (and_parts _ _ all).0).0 (all_allowed xs (and_parts _ _ all).1)

no_semicolons : (xs : List ℕ) → list_all is_code xs ≡ true → All (λ c. is_semicolon c ≡ false) xs
no_semicolons [] all k d below = absurd (omega arith)
no_semicolons (x ∷ xs) all zero d below = is_false _ (and_parts _ _ (and_parts _ _ (and_parts _ _ all).0).1).0
no_semicolons (x ∷ xs) all (suc k) d below = no_semicolons xs (and_parts _ _ all).1 k d (omega arith)

no_colons : (xs : List ℕ) → list_all is_code xs ≡ true → All (λ c. is_colon c ≡ false) xs
no_colons [] all k d below = absurd (omega arith)
no_colons (x ∷ xs) all zero d below = is_false _ (and_parts _ _ (and_parts _ _ (and_parts _ _ all).0).1).1
no_colons (x ∷ xs) all (suc k) d below = no_colons xs (and_parts _ _ all).1 k d (omega arith)

-- where nothing is found, the search ends at the end
nowhere : (p : ℕ → Bool) (xs : List ℕ) → All (λ c. p c ≡ false) xs → position_or_len p xs ≡ length xs
nowhere p xs none = position_or_len_is p xs (length xs) 0 (omega arith) (λ k below. none k 0 below) (λ below. absurd (omega arith))

module _ (line : List ℕ) (code : list_all is_code line ≡ true) (short : length line ≤ 255) where
  good_bytes : has_bad_bytes line ≡ false
  unfolding has_bad_bytes
  good_bytes =
      ap (λ b. b || not (list_all is_allowed line)) (le-ltb 255 (length line) short)
      ∙ ap not (all_allowed line code)

  whole_code : code_of line ≡ line
  whole_code = ap (λ n. take n line) (nowhere is_semicolon line (no_semicolons line code)) ∙ take_all (length line) line (omega arith)

  no_colon_in : list_any is_colon line ≡ false
  no_colon_in = list_any_none is_colon line (no_colons line code)

  no_label : label_of line ≡ None
  no_label = cond-false (list_any is_colon line) _ None no_colon_in

  statement : statement_of line ≡ without_leading_blanks line
  statement = ap without_leading_blanks (cond-false (list_any is_colon line) _ line no_colon_in)

-- the first byte is no blank
begins : (p : ℕ → Bool) (xs : List ℕ) → 0 < length xs → p (get_or xs 0 0) ≡ false → prefix_len p xs ≡ 0
begins p [] there e = absurd (omega arith)
begins p (x ∷ xs) there e = cond-false (p x) (1 + prefix_len p xs) 0 e

leading-blank : (xs : List ℕ) → 0 < length xs → is_blank (get_or xs 0 0) ≡ false → without_leading_blanks (32 ∷ xs) ≡ xs
unfolding without_leading_blanks
leading-blank xs there e = ap (λ n. drop (1 + n) (32 ∷ xs)) (begins is_blank xs there e)

leading-none : (xs : List ℕ) → 0 < length xs → is_blank (get_or xs 0 0) ≡ false → without_leading_blanks xs ≡ xs
unfolding without_leading_blanks
leading-none xs there e = ap (λ n. drop n xs) (begins is_blank xs there e)

trailing-none : (xs : List ℕ) → 0 < length xs → is_blank (get_or xs (length xs - 1) 0) ≡ false → without_trailing_blanks xs ≡ xs
unfolding without_trailing_blanks
trailing-none xs there last =
    let none : suffix_len is_blank xs ≡ length xs - length xs =
    suffix_len_is is_blank xs (length xs) 0 (omega arith) (λ k low high. absurd (omega arith)) (λ some. last) in
    take_all (length xs - suffix_len is_blank xs) xs (omega (arith, none))

no_both : (b c : Bool) → ((b && false) || c) ≡ c
no_both true c = refl
no_both false c = refl

-- ---- operands

-- their text: a comma and a blank between each two
abbrev pub joined : List (List ℕ) → List ℕ
joined [] = []
joined (text ∷ []) = text
joined (text ∷ more ∷ rest) = text ++ (44 ∷ 32 ∷ joined (more ∷ rest))

-- what stands behind a word
abbrev pub behind : List (List ℕ) → List ℕ
behind [] = []
behind (text ∷ texts) = 32 ∷ joined (text ∷ texts)

abbrev pub AreSolid : List (List ℕ) → Type 0
AreSolid [] = Unit {0}
AreSolid (text ∷ texts) = IsSolid text × AreSolid texts

joined_some : (text : List ℕ) (texts : List (List ℕ)) → AreSolid (text ∷ texts) → 0 < length (joined (text ∷ texts))
joined_some text [] all = all.0.1
joined_some text (more ∷ rest) all = omega (arith, length-append text (44 ∷ 32 ∷ joined (more ∷ rest)))

joined_begins : (text : List ℕ) (texts : List (List ℕ)) → AreSolid (text ∷ texts) → is_blank (get_or (joined (text ∷ texts)) 0 0) ≡ false
joined_begins text [] all = (each_solid text all.0.0 0 0 all.0.1).no_blank
joined_begins text (more ∷ rest) all =
    ap is_blank (get_or_append_left text (44 ∷ 32 ∷ joined (more ∷ rest)) 0 0 all.0.1) ∙ (each_solid text all.0.0 0 0 all.0.1).no_blank

joined_ends : (text : List ℕ) (texts : List (List ℕ)) → AreSolid (text ∷ texts)
    → is_blank (get_or (joined (text ∷ texts)) (length (joined (text ∷ texts)) - 1) 0) ≡ false
joined_ends text [] all = (each_solid text all.0.0 (length text - 1) 0 (omega (arith, all.0.1))).no_blank
joined_ends text (more ∷ rest) all =
    let last : List ℕ = joined (more ∷ rest) in
    let some : 0 < length last = joined_some more rest all.1 in
    let place : length (text ++ (44 ∷ 32 ∷ last)) - 1 ≡ length text + suc (suc (length last - 1)) =
    omega (arith, length-append text (44 ∷ 32 ∷ last)) in
    ap is_blank (ap (λ i. get_or (text ++ (44 ∷ 32 ∷ last)) i 0) place
    ∙ get_or-append-add text (44 ∷ 32 ∷ last) (suc (suc (length last - 1))) 0)
    ∙ joined_ends more rest all.1

joined_code : (texts : List (List ℕ)) → AreSolid texts → list_all is_code (joined texts) ≡ true
joined_code [] all = refl
joined_code (text ∷ []) all = all_code text all.0.0
joined_code (text ∷ more ∷ rest) all =
    all_append is_code text (44 ∷ 32 ∷ joined (more ∷ rest)) (all_code text all.0.0) (joined_code (more ∷ rest) all.1)

no_commas : (text : List ℕ) → list_all is_solid text ≡ true → All (λ c. is_comma c ≡ false) text
no_commas text all k d below = (each_solid text all k d below).no_comma

no_commas_behind : (text : List ℕ) → list_all is_solid text ≡ true → All (λ c. is_comma c ≡ false) (32 ∷ text)
no_commas_behind text all zero d below = refl
no_commas_behind text all (suc k) d below = no_commas text all k d (omega arith)

trimmed-solid : (text : List ℕ) → IsSolid text → trimmed text ≡ text
trimmed-solid text solid =
    let first = (each_solid text solid.0 0 0 solid.1).no_blank in
    let last = (each_solid text solid.0 (length text - 1) 0 (omega (arith, solid.1))).no_blank in
    ap without_trailing_blanks (leading-none text solid.1 first) ∙ trailing-none text solid.1 last

trimmed-behind : (text : List ℕ) → IsSolid text → trimmed (32 ∷ text) ≡ text
trimmed-behind text solid =
    let first = (each_solid text solid.0 0 0 solid.1).no_blank in
    let last = (each_solid text solid.0 (length text - 1) 0 (omega (arith, solid.1))).no_blank in
    ap without_trailing_blanks (leading-blank text solid.1 first) ∙ trailing-none text solid.1 last

-- a text and those behind it, cut at the commas
parts_cut : (first text : List ℕ) (texts : List (List ℕ)) → All (λ c. is_comma c ≡ false) first → trimmed first ≡ text
    → map trimmed (slice_split is_comma (32 ∷ joined texts)) ≡ texts
    → map trimmed (slice_split is_comma (first ++ (44 ∷ 32 ∷ joined texts))) ≡ text ∷ texts
parts_cut first text texts none same more =
    ap (map trimmed) (slice_split_at is_comma first 44 (32 ∷ joined texts) none refl)
    ∙ ap (λ t. t ∷ map trimmed (slice_split is_comma (32 ∷ joined texts))) same
    ∙ ap (λ ts. text ∷ ts) more

parts_behind : (text : List ℕ) (texts : List (List ℕ)) → AreSolid (text ∷ texts)
    → map trimmed (slice_split is_comma (32 ∷ joined (text ∷ texts))) ≡ text ∷ texts
parts_behind text [] all =
    ap (map trimmed) (slice_split_none is_comma (32 ∷ text) (no_commas_behind text all.0.0)) ∙ ap (λ t. t ∷ []) (trimmed-behind text all.0)
parts_behind text (more ∷ rest) all =
    parts_cut (32 ∷ text) text (more ∷ rest) (no_commas_behind text all.0.0) (trimmed-behind text all.0) (parts_behind more rest all.1)

parts_joined : (text : List ℕ) (texts : List (List ℕ)) → AreSolid (text ∷ texts)
    → map trimmed (slice_split is_comma (joined (text ∷ texts))) ≡ text ∷ texts
parts_joined text [] all =
    ap (map trimmed) (slice_split_none is_comma text (no_commas text all.0.0)) ∙ ap (λ t. t ∷ []) (trimmed-solid text all.0)
parts_joined text (more ∷ rest) all =
    parts_cut text text (more ∷ rest) (no_commas text all.0.0) (trimmed-solid text all.0) (parts_behind more rest all.1)

operands_joined : (text : List ℕ) (texts : List (List ℕ)) → AreSolid (text ∷ texts) → operands_in (joined (text ∷ texts)) ≡ text ∷ texts
unfolding operands_in
operands_joined text texts all =
    let there = joined_some text texts all in
    cond-false (length (joined (text ∷ texts)) == 0) [] (map trimmed (slice_split is_comma (joined (text ∷ texts)))) (ne_eqb _ 0 (λ e. omega (arith, there)))
    ∙ parts_joined text texts all

-- no part of a short text is a name that is too long
fit_more : (n : ℕ) (parts : List (List ℕ)) → list_all (λ part. nat_le (length part) n) parts ≡ true
    → list_all (λ part. nat_le (length part) (suc n)) parts ≡ true
fit_more n [] all = refl
fit_more n (part ∷ parts) all =
    let both = and_parts _ _ all in
    and_from _ _ (le-leb (length part) (suc n) (omega (arith, leb-true (length part) n both.0))) (fit_more n parts both.1)

fit_onto : (n x : ℕ) (parts : List (List ℕ)) → list_all (λ part. nat_le (length part) n) parts ≡ true
    → list_all (λ part. nat_le (length part) (suc n)) (onto_first x parts) ≡ true
fit_onto n x [] all = and_from _ _ (le-leb 1 (suc n) (omega arith)) refl
fit_onto n x (part ∷ parts) all =
    let both = and_parts _ _ all in
    and_from _ _ (le-leb (suc (length part)) (suc n) (omega (arith, leb-true (length part) n both.0))) (fit_more n parts both.1)

parts_short : (p : ℕ → Bool) (xs : List ℕ) → list_all (λ part. nat_le (length part) (length xs)) (slice_split p xs) ≡ true
parts_short p [] = refl
parts_short p (x ∷ xs) =
    elim (p x) as (λ b. list_all (λ part. nat_le (length part) (suc (length xs))) (cond b ([] ∷ slice_split p xs) (onto_first x (slice_split p xs))) ≡ true) [
      | true ↦ and_from _ _ (le-leb 0 (suc (length xs)) (omega arith)) (fit_more (length xs) (slice_split p xs) (parts_short p xs))
      | false ↦ fit_onto (length xs) x (slice_split p xs) (parts_short p xs)
    ]

no_long : (n : ℕ) (parts : List (List ℕ)) → n ≤ 32 → list_all (λ part. nat_le (length part) n) parts ≡ true → list_any is_long_name parts ≡ false
no_long n [] few all = refl
no_long n (part ∷ parts) few all =
    let both = and_parts _ _ all in
    ap (λ b. (begins_name (slice_index part 0) && b) || list_any is_long_name parts)
    (le-ltb 32 (length part) (omega (arith, few, leb-true (length part) n both.0)))
    ∙ no_both (begins_name (slice_index part 0)) (list_any is_long_name parts) ∙ no_long n parts few both.1

no_long_name : (text : List ℕ) → length text ≤ 32 → has_long_name text ≡ false
unfolding has_long_name
no_long_name text short = no_long (length text) (slice_split ends_name text) short (parts_short ends_name text)

module _ (o : List ℕ) (plain : IsPlain o) (there : 0 < length o) where
  -- it is one term
  pub whole_sum : sum_in o ≡ o
  unfolding sum_in
  whole_sum = cond-false (is_prefix (slice_index o 0)) (drop 1 o) o (each o plain 0 0 there).no_prefix

  pub one_term : terms_of (sum_in o) ≡ o ∷ []
  one_term =
      ap terms_of whole_sum
      ∙ slice_split_none is_sign o (λ k d below. (each o plain k d below).no_sign)

abbrev parsed_as : Option (List ℕ) → Option Word → List (List ℕ) → Parsed
parsed_as label word operands = record { label = label; word = word; operands = operands }

-- a line without a label
abbrev pub parts_of : Word → List (List ℕ) → Parsed
parts_of meaning operands = record { label = None; word = Some meaning; operands = operands }

module _ (isa : Isa) (names : Names) (line : List ℕ) (code : list_all is_code line ≡ true) (short : length line ≤ 255) (w o : List ℕ) (operands : List (List ℕ)) (meaning : Word) where
  module _ (word : word_of (without_leading_blanks line) ≡ w) (rest : behind_word (without_leading_blanks line) ≡ o) (parted : operands_in o ≡ operands) (named : has_long_name o ≡ false)
      (meant : word_meaning isa names false operands w ≡ Ok (Some meaning)) where
    is_statement : statement_of (code_of line) ≡ without_leading_blanks line
    is_statement = ap statement_of (whole_code line code short) ∙ statement line code short

    is_unlabelled : label_of (code_of line) ≡ None
    is_unlabelled = ap label_of (whole_code line code short) ∙ no_label line code short

    are_operands : operands_in (behind_word (statement_of (code_of line))) ≡ operands
    are_operands = ap (λ s. operands_in (behind_word s)) is_statement ∙ ap operands_in rest ∙ parted

    good_names : has_bad_name isa (code_of line) ≡ false
    unfolding has_bad_name
    good_names =
        ap (λ label. option_map_or (λ label. not (is_name isa label)) label false || has_long_name (behind_word (statement_of (code_of line)))) is_unlabelled
        ∙ ap (λ s. has_long_name (behind_word s)) is_statement
        ∙ ap has_long_name rest ∙ named

    is_meant : word_meaning isa names (is_some (label_of (code_of line))) (operands_in (behind_word (statement_of (code_of line))))
        (word_of (statement_of (code_of line))) ≡ Ok (Some meaning)
    is_meant =
        ap (λ label. word_meaning isa names (is_some label) (operands_in (behind_word (statement_of (code_of line)))) (word_of (statement_of (code_of line))))
        is_unlabelled
        ∙ ap (λ all. word_meaning isa names false all (word_of (statement_of (code_of line)))) are_operands
        ∙ ap (λ s. word_meaning isa names false operands (word_of s)) is_statement
        ∙ ap (word_meaning isa names false operands) word
        ∙ meant

    is_parsed : parsed isa names line ≡ Ok (parts_of meaning operands)
    is_parsed =
        parsed-statement isa names line (good_bytes line code short) good_names (Ok (Some meaning)) is_meant
        ∙ ap (λ label. Ok (parsed_as label (Some meaning) (operands_in (behind_word (statement_of (code_of line)))))) is_unlabelled
        ∙ ap (λ all. Ok (parsed_as None (Some meaning) all)) are_operands

module _ (isa : Isa) (names : Names) (w : List ℕ) (solid : IsSolid w) where
  word_visible : is_blank (get_or w 0 0) ≡ false
  word_visible = (each_solid w solid.0 0 0 solid.1).no_blank

  no_blanks : All (λ c. is_blank c ≡ false) w
  no_blanks k d below = (each_solid w solid.0 k d below).no_blank

  -- a word without an operand
  pub parsed-alone : length w ≤ 4 → (meaning : Word) → word_meaning isa names false [] w ≡ Ok (Some meaning)
      → parsed isa names (32 ∷ w) ≡ Ok (parts_of meaning [])
  unfolding operands_in has_long_name without_leading_blanks without_trailing_blanks
  parsed-alone short meaning meant =
      let starts : without_leading_blanks (32 ∷ w) ≡ w = leading-blank w solid.1 word_visible in
      let all : word_of w ≡ w = ap (λ n. take n w) (nowhere is_blank w no_blanks) ∙ take_all (length w) w (omega arith) in
      let rest : drop (length (word_of w)) w ≡ [] = ap (λ v. drop (length v) w) all ∙ drop_all (length w) w (omega arith) in
      is_parsed isa names (32 ∷ w) (and_from _ _ refl (all_code w solid.0)) (omega arith) w [] [] meaning
      (ap word_of starts ∙ all) (ap behind_word starts ∙ ap trimmed rest) refl refl meant

  -- a word with operands
  pub parsed-with : length w ≤ 4 → (text : List ℕ) (texts : List (List ℕ)) → AreSolid (text ∷ texts) → length (joined (text ∷ texts)) ≤ 32 → (meaning : Word)
      → word_meaning isa names false (text ∷ texts) w ≡ Ok (Some meaning)
      → parsed isa names (32 ∷ (w ++ (32 ∷ joined (text ∷ texts)))) ≡ Ok (parts_of meaning (text ∷ texts))
  parsed-with short text texts all few meaning meant =
      let o : List ℕ = joined (text ∷ texts) in
      let there_o : 0 < length o = joined_some text texts all in
      let line : List ℕ = 32 ∷ (w ++ (32 ∷ o)) in
      let starts : without_leading_blanks line ≡ w ++ (32 ∷ o) =
      leading-blank (w ++ (32 ∷ o)) (omega (arith, length-append w (32 ∷ o)))
      (ap is_blank (get_or_append_left w (32 ∷ o) 0 0 solid.1) ∙ word_visible) in
      let place : position_or_len is_blank (w ++ (32 ∷ o)) ≡ length w =
      position_or_len_is is_blank (w ++ (32 ∷ o)) (length w) 0 (omega (arith, length-append w (32 ∷ o)))
      (λ k below. ap is_blank (get_or_append_left w (32 ∷ o) 0 k below) ∙ no_blanks k 0 below)
      (λ below. ap is_blank (get_or_at w 32 o 0 (length w) refl)) in
      let word : word_of (w ++ (32 ∷ o)) ≡ w = ap (λ n. take n (w ++ (32 ∷ o))) place ∙ take_at w (32 ∷ o) (length w) refl in
      let rest : drop (length (word_of (w ++ (32 ∷ o)))) (w ++ (32 ∷ o)) ≡ 32 ∷ o =
      ap (λ v. drop (length v) (w ++ (32 ∷ o))) word ∙ drop_at w (32 ∷ o) (length w) refl in
      is_parsed isa names line (and_from _ _ refl (all_append is_code w (32 ∷ o) (all_code w solid.0) (and_from _ _ refl (joined_code (text ∷ texts) all))))
      (omega (arith, length-append w (32 ∷ o))) w o (text ∷ texts) meaning
      (ap word_of starts ∙ word)
      (ap behind_word starts ∙ ap trimmed rest ∙ ap without_trailing_blanks (leading-blank o there_o (joined_begins text texts all))
      ∙ trailing-none o there_o (joined_ends text texts all))
      (operands_joined text texts all) (no_long_name o few) meant

  -- either of these
  pub parsed-any : length w ≤ 4 → (texts : List (List ℕ)) → AreSolid texts → length (joined texts) ≤ 32 → (meaning : Word)
      → word_meaning isa names false texts w ≡ Ok (Some meaning) → parsed isa names (32 ∷ (w ++ behind texts)) ≡ Ok (parts_of meaning texts)
  parsed-any short [] all few meaning meant = ap (λ t. parsed isa names (32 ∷ t)) (append-nil w) ∙ parsed-alone short meaning meant
  parsed-any short (text ∷ texts) all few meaning meant = parsed-with short text texts all few meaning meant

-- its first character is no prefix, and it has no sign
pub plain_prefix : (o : List ℕ) → IsPlain o → 0 < length o → is_prefix (slice_index o 0) ≡ false
plain_prefix o plain there = (each o plain 0 0 there).no_prefix

pub plain_signs : (o : List ℕ) → IsPlain o → position_or_len is_sign o ≡ length o
plain_signs o plain = nowhere is_sign o (λ k d below. (each o plain k d below).no_sign)
