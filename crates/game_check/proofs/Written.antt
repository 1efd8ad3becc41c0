-- What the lines of claims say, as they are read: these claims.
use Rattle.std.proofs.Common.{◌≡◌, ℕ, ◌+◌, ◌-◌, ◌*◌, ◌<◌, true, false, ◌&&◌, eqb, List, [], ◌∷◌, ◌++◌, length, take, get_or, Some, None, Ok, refl, sym, ap, ◌∙◌, arith, inl, inr, append_assoc, add-one}
use Rattle.std.specs.Prelude.{flat_map, map, slice_index, ◌==◌}
use Rattle.std.specs.List.{All, list_all, sum_by}
use Rattle.std.specs.Option.{is_some, unwrap_or}
use Rattle.std.specs.Result.{result_ok}
use Rattle.std.specs.Ordering.{is_lt}
use Rattle.std.specs.Str.Lines.{lines}
use Rattle.std.proofs.lemmas.Bool.{and_from, cases_lt, le-leb}
use Rattle.std.proofs.Math.Seq.{take-suc}
use Rattle.std.proofs.lemmas.List.{append-nil, flat_map_more, get_or_append_left, get_or_at, length-append, nil_from_length}
use Rattle.std.proofs.lemmas.List.Elements.{All-append, All-cons, All-head, All-map, All-nil, All-tail}
use Rattle.std.proofs.lemmas.List.Folds.{flat_map-map, list_any-from_Any}
use Rattle.std.proofs.lemmas.List.Sums.{list_all-from_AllPass, sum_by-cons}
use Rattle.std.proofs.lemmas.Option.{slice_get-get_or}
use Rattle.vip_byte.proofs.ReadingLemmas.{IsReadUpTo, read_line, read_none, read-whole}
use Rattle.vip_byte.proofs.WrittenLemmas.{behind, hex4_read, hex4_word, is_line, is_word, line_of_words, lines_ended, word_loud, words_line}
use Rattle.vip_byte.specs.HexText.{hex4, words_text}
use Rattle.vip_byte.specs.Reading.{read}
use Rattle.vip_byte.specs.Text.{newline, words}
use Rattle.chip8_lang.specs.Editions.{memory_start}
use Rattle.chip8_lang.specs.declared.view.Edition.{Edition}
use Rattle.game_check.specs.declared.claim.Claim.{Claim}
use Rattle.game_check.specs.Closed.{cause_in, has_start, is_start}
use Rattle.game_check.specs.Grammar.{are_words, cause_after, claim_by, claim_format, claim_of as claim_in, is_behind, said, values, word_of}
use Rattle.game_check.specs.Least.{IsCovered, family_text, line_bytes, line_text, start_claim}
use Rattle.game_check.specs.Order.{IsAscending}
use Rattle.game_check.specs.Proof.{IsAccepted, closed_format, proof_of, refusal}
use Rattle.game_check.specs.Searching.{AreWords, IsWord, IsWritable}

-- ---- words

word_reads : (w : ℕ) → IsWord w → word_of (hex4 w) ≡ Some w
word_reads w below = ap result_ok (hex4_read w below)

words_are : (ws : List ℕ) → All IsWord ws → are_words (map hex4 ws) ≡ true
words_are [] all = refl
words_are (w ∷ ws) all = and_from _ _ (ap is_some (word_reads w (All-head IsWord w ws all))) (words_are ws (All-tail IsWord w ws all))

values_are : (ws : List ℕ) → All IsWord ws → values (map hex4 ws) ≡ ws
values_are [] all = refl
values_are (w ∷ ws) all =
    ap (λ o. unwrap_or o 0 ∷ values (map hex4 ws)) (word_reads w (All-head IsWord w ws all)) ∙ ap (λ r. w ∷ r) (values_are ws (All-tail IsWord w ws all))

text_behind : (ws : List ℕ) → words_text ws ≡ behind (map hex4 ws)
text_behind ws = sym (flat_map-map (λ word. 32 ∷ word) hex4 ws)

all_words : (ws : List ℕ) → list_all is_word (map hex4 ws) ≡ true
all_words ws =
    list_all-from_AllPass is_word (map hex4 ws) (All-map (λ word. is_word word ≡ true) hex4 ws (λ i d within. hex4_word (get_or ws i d)))

hex_words : (a : ℕ) (ws : List ℕ) → words (hex4 a ++ words_text ws) ≡ hex4 a ∷ map hex4 ws
hex_words a ws = ap (λ t. words (hex4 a ++ t)) (text_behind ws) ∙ words_line (hex4 a) (map hex4 ws) (hex4_word a) (all_words ws)

-- ---- lines

abbrev body : Claim → List ℕ
body c = hex4 c.point.pc ++ words_text (c.low ∷ c.high ∷ c.point.stack.items)

line_words : (c : Claim) → AreWords c → IsWritable c → All IsWord (c.low ∷ c.high ∷ c.point.stack.items)
line_words c are writable =
    All-cons IsWord c.low (c.high ∷ c.point.stack.items) (omega (arith, writable.rises, writable.high))
    (All-cons IsWord c.high c.point.stack.items (omega (arith, writable.high)) are.stack)

claim_made : (c : Claim) → AreWords c → IsWritable c → claim_by (c.point.pc ∷ c.low ∷ c.high ∷ c.point.stack.items) ≡ Ok c
unfolding claim_by
claim_made c are writable = rw (le-leb (length c.point.stack.items) 12 are.depth, le-leb c.low c.high writable.rises) refl

claim_in_words : (ws : List (List ℕ)) (numbers : List ℕ) (c : Claim) → are_words ws ≡ true → values ws ≡ numbers → claim_by numbers ≡ Ok c → claim_in ws ≡ Ok c
unfolding claim_in
claim_in_words ws numbers c all are made = rw (all, are, made) refl

said_in_words : (line first : List ℕ) (rest : List (List ℕ)) (c : Claim) → words line ≡ first ∷ rest → eqb (slice_index first 0) 35 ≡ false
    → claim_in (first ∷ rest) ≡ Ok c → said line ≡ Ok (Some c)
unfolding said
said_in_words line first rest c are mark made = rw (are, mark, made) refl

says_claim : (c : Claim) → AreWords c → IsWritable c → said (body c) ≡ Ok (Some c)
says_claim c are writable =
    let ws = c.low ∷ c.high ∷ c.point.stack.items in
    let all = line_words c are writable in
    let every = All-cons IsWord c.point.pc ws are.pc all in
    said_in_words (body c) (hex4 c.point.pc) (map hex4 ws) c (hex_words c.point.pc ws) (word_loud (hex4 c.point.pc) (hex4_word c.point.pc))
    (claim_in_words (map hex4 (c.point.pc ∷ ws)) (c.point.pc ∷ ws) c (words_are (c.point.pc ∷ ws) every) (values_are (c.point.pc ∷ ws) every)
    (claim_made c are writable))

body_line : (c : Claim) → is_line (body c) ≡ true
body_line c =
    let ws = c.low ∷ c.high ∷ c.point.stack.items in
    ap (λ t. is_line (hex4 c.point.pc ++ t)) (text_behind ws) ∙ line_of_words (hex4 c.point.pc) (map hex4 ws) (hex4_word c.point.pc) (all_words ws)

abbrev AreWritten : List Claim → Type 0
AreWritten = All (λ c. AreWords c × IsWritable c)

written_lines : (claims : List Claim) → lines (family_text claims) ≡ map body claims
unfolding family_text
written_lines claims =
    ap lines (sym (flat_map-map (λ line. line ++ newline) body claims))
    ∙ lines_ended (map body claims)
    (list_all-from_AllPass is_line (map body claims) (All-map (λ line. is_line line ≡ true) body claims (λ i d within. body_line (get_or claims i d))))

-- ---- the whole text

behind_all : (before : List Claim) (c : Claim) (left : List Claim) → IsAscending (before ++ c ∷ left) → is_behind before c ≡ true
behind_all before c left up = elim (cases_lt 0 (length before)) [
  | inr none ↦ rw (nil_from_length before (omega (arith, none))) refl
  | inl some ↦
      let less = up (length before - 1) (length before) c (omega (arith, some)) (omega (arith, length-append before (c ∷ left))) in
      let last : get_or (before ++ c ∷ left) (length before - 1) c ≡ get_or before (length before - 1) c =
      get_or_append_left before (c ∷ left) c (length before - 1) (omega (arith, some)) in
      let next : get_or (before ++ c ∷ left) (length before) c ≡ c = get_or_at before c left c (length before) refl in
      rw (slice_get-get_or before (length before - 1) c (omega (arith, some))) (ap is_lt (rw (last, next) at less))
]

module _ (text : List ℕ) where
  reads_claims : (left : List Claim) (done : List (List ℕ)) (before : List Claim) (number : ℕ) → IsReadUpTo claim_format text done (map body left) before number
      → IsAscending (before ++ left) → AreWritten left → read claim_format text ≡ Ok (before ++ left)
  unfolding cause_after
  reads_claims [] done before number so_far up all = read-whole claim_format text done before number so_far ∙ ap Ok (sym (append-nil before))
  reads_claims (c ∷ left) done before number so_far up all =
      let here = All-head (λ d. AreWords d × IsWritable d) c left all in
      let says = says_claim c here.0 here.1 in
      let fine : cause_after before (said (body c)) ≡ None = rw (says, behind_all before c left up) refl in
      let more = read_line claim_format text done (body c) (map body left) before number (Some c) so_far fine says in
      let one : (before ++ c ∷ []) ++ left ≡ before ++ c ∷ left = append_assoc before (c ∷ []) left in
      reads_claims left (done ++ body c ∷ []) (before ++ c ∷ []) (number + 1) more (rw one up) (All-tail (λ d. AreWords d × IsWritable d) c left all) ∙ ap Ok one

  module _ (e : Edition) (game : List ℕ) (claims : List Claim) where
    reads_closed : (left : List Claim) (done : List (List ℕ)) (before : List Claim) (number : ℕ)
        → IsReadUpTo (closed_format e game claims) text done (map body left) before number → AreWritten left
        → All (λ c. cause_in e game claims c ≡ None) left → read (closed_format e game claims) text ≡ Ok (before ++ left)
    unfolding refusal
    reads_closed [] done before number so_far all rules =
        read-whole (closed_format e game claims) text done before number so_far ∙ ap Ok (sym (append-nil before))
    reads_closed (c ∷ left) done before number so_far all rules =
        let here = All-head (λ d. AreWords d × IsWritable d) c left all in
        let says = says_claim c here.0 here.1 in
        let fine : refusal e game claims (said (body c)) ≡ None = rw says (All-head (λ d. cause_in e game claims d ≡ None) c left rules) in
        let more = read_line (closed_format e game claims) text done (body c) (map body left) before number (Some c) so_far fine says in
        reads_closed left (done ++ body c ∷ []) (before ++ c ∷ []) (number + 1) more (All-tail (λ d. AreWords d × IsWritable d) c left all)
        (All-tail (λ d. cause_in e game claims d ≡ None) c left rules)
        ∙ ap Ok (append_assoc before (c ∷ []) left)

started_there : (claims : List Claim) → IsCovered claims start_claim → has_start claims ≡ true
unfolding has_start
started_there claims known =
    let y = known.1 in
    let pc : (y.point.pc == memory_start) ≡ true = rw (ap (λ p. p.pc) known.4.point) refl in
    let empty : (length y.point.stack.items == 0) ≡ true = rw (ap (λ p. length p.stack.items) known.4.point) refl in
    let none : y.low ≡ 0 = omega (arith, known.4.low) in
    let low : (y.low == 0) ≡ true = rw none refl in
    list_any-from_Any is_start claims (
      known.0,
      known.1,
      known.2,
      known.3,
      and_from (y.point.pc == memory_start) (length y.point.stack.items == 0 && y.low == 0) pc
          (and_from (length y.point.stack.items == 0) (y.low == 0) empty low),
    )

-- the text of claims that keep each rule is accepted
pub written_accepted : (e : Edition) (game : List ℕ) (claims : List Claim) → IsAscending claims → IsCovered claims start_claim → All AreWords claims
    → All IsWritable claims → All (λ c. cause_in e game claims c ≡ None) claims → IsAccepted e game (family_text claims)
unfolding proof_of
written_accepted e game claims up start words writable rules =
    let text = family_text claims in
    let all : AreWritten claims = λ k c within. (words k c within, writable k c within) in
    let cut = written_lines claims in
    let says = reads_claims text claims [] [] 0 (rw cut at (read_none claim_format text)) up all in
    let closed = reads_closed text e game claims claims [] [] 0 (rw cut at (read_none (closed_format e game claims) text)) all rules in
    record { count = length claims; is = rw (says, started_there claims start, closed) refl }

-- and has so many bytes
words_length : (ws : List ℕ) → length (words_text ws) ≡ 5 * length ws
words_length [] = refl
words_length (w ∷ ws) = omega (arith, words_length ws)

pub written_length : (claims : List Claim) → length (family_text claims) ≡ sum_by line_bytes claims
unfolding family_text
written_length [] = refl
written_length (c ∷ claims) =
    let ws = c.low ∷ c.high ∷ c.point.stack.items in
    omega (
      arith,
      written_length claims,
      sum_by-cons line_bytes c claims,
      length-append (line_text c) (family_text claims),
      length-append (body c) newline,
      words_length ws,
    )

-- ---- how the text grows

all_more : (P : Claim → Type 0) (claims : List Claim) (c : Claim) → All P claims → P c → All P (claims ++ c ∷ [])
all_more P claims c all this = All-append P claims (c ∷ []) all (All-cons P c [] this (All-nil P))

pub text_none : family_text [] ≡ []
unfolding family_text
text_none = refl

pub text_more : (claims : List Claim) (k : ℕ) (c : Claim) → k < length claims → c ≡ get_or claims k c
    → family_text (take k claims) ++ line_text c ≡ family_text (take (k + 1) claims)
unfolding family_text
text_more claims k c within there =
    let next : take (k + 1) claims ≡ take k claims ++ c ∷ [] = rw add-one (take-suc claims k c within ∙ ap (λ x. take k claims ++ x ∷ []) (sym there)) in
    flat_map_more line_text [] (take k claims) c ∙ ap (flat_map line_text) (sym next)

pub words_more : (claims : List Claim) (k : ℕ) (c : Claim) → k < length claims → c ≡ get_or claims k c → All AreWords (take k claims) → AreWords c
    → All AreWords (take (k + 1) claims)
words_more claims k c within there all this =
    let next : take (k + 1) claims ≡ take k claims ++ c ∷ [] = rw add-one (take-suc claims k c within ∙ ap (λ x. take k claims ++ x ∷ []) (sym there)) in
    rw next (all_more AreWords (take k claims) c all this)
