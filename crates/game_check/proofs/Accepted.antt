-- An accepted certificate makes a closed family, and has a line for each of its claims.
use Rattle.std.proofs.Common.{◌≡◌, ℕ, zero, suc, ◌+◌, ◌-◌, ◌*◌, ◌<◌, ◌≤◌, true, false, Bool, ◌&&◌, leb, ltb, eqb, cond, List, [], ◌∷◌, ◌++◌, length, take, get_or, Option, Some, None, Result, Ok, Err, refl, ap, subst, ◌∙◌, arith, inl, inr}
use Rattle.std.specs.Prelude.{filter, not}
use Rattle.std.specs.List.{All, cons_option, list_all, list_any, onto_first, slice_split, sum_by}
use Rattle.std.specs.Option.{is_some, unwrap_or}
use Rattle.std.specs.Result.{result_ok, result_unwrap_or}
use Rattle.std.specs.Str.Lines.{lines, lines_of_parts, strip_carriage_return}
use Rattle.std.specs.Ordering.{is_eq}
use Rattle.std.proofs.Math.Seq.{take-suc, take-length}
use Rattle.std.proofs.lemmas.Bool.{and_parts, cases_Bool, eqb-true, leb-true, ltb-false}
use Rattle.std.proofs.lemmas.List.{length-map, length-take-le, nil_from_length}
use Rattle.std.proofs.lemmas.List.Elements.{All-cons, All-nil, filter_map-append}
use Rattle.std.proofs.lemmas.List.Folds.{Any-from_list_any}
use Rattle.std.proofs.lemmas.List.Splits.{length-slice_split, slice_split-cons_no, slice_split-cons_yes}
use Rattle.std.proofs.lemmas.List.Sums.{AllPass-from_list_all, sum_by-cons}
use Rattle.std.specs.Char.{is_digit}
use Rattle.std.specs.Str.Parse.{digits_value}
use Rattle.vip_byte.specs.Number.{number}
use Rattle.vip_byte.specs.Reading.{values_of, faults_of, read, ◌>>=◌}
use Rattle.vip_byte.specs.Text.{is_blank, is_silent, words}
use Rattle.chip8_lang.specs.Editions.{memory_start}
use Rattle.chip8_lang.specs.declared.view.Edition.{Edition}
use Rattle.game_check.specs.declared.claim.Claim.{Claim}
use Rattle.game_check.specs.declared.fault.ProofCause.{ProofCause}
use Rattle.game_check.specs.declared.fault.ProofFault.{ProofFault}
use Rattle.game_check.specs.Closed.{allows, has_start, high_after, instr_in, is_claimed, is_start, low_after, next_points, point}
use Rattle.game_check.specs.Grammar.{are_words, cause_after, order, claim_by, claim_format, claim_of as claim_in, claims_of, read_claims, said, values, word_of}
use Rattle.game_check.specs.Least.{IsClosed, IsCovered, IsFollowed, last_address, line_bytes, most_bytes, start_claim}
use Rattle.game_check.specs.Order.{IsAscending}
use Rattle.game_check.specs.Proof.{IsAccepted, closed_format, proof_of, started}
use Rattle.game_check.proofs.Covering.{point_is}
use Rattle.game_check.proofs.Faultless.{IsProof, accepted_is, faultless_line, read-Ok}
use Rattle.game_check.proofs.Games.{Parts, parts}
use Rattle.game_check.proofs.Ordered.{ascending_with, is_eq-true}

not_err : {A B : Type 0} {a : A} {b : B} → Err b ≡ Ok a → ⊥
not_err h = cc

ok_same : {A B : Type 0} {a b : A} → ◌≡◌ {A = Result A B} (Ok a) (Ok b) → a ≡ b
ok_same h = cc

-- ---- what a line says

-- a number of four digits
word_small : (word : List ℕ) → unwrap_or (word_of word) 0 ≤ last_address
unfolding number
word_small word = elim (cases_Bool (eqb (length word) 4)) [
  | inr other ↦ rw other (omega arith)
  | inl four ↦ rw four (elim (cases_Bool (eqb (length word) 0)) [
    | inl none ↦ rw none (omega arith)
    | inr some ↦ rw some (elim (cases_Bool (list_all (λ byte. is_digit byte 16) word)) [
      | inr bad ↦ rw bad (omega arith)
      | inl digits ↦ rw digits (elim (cases_Bool (ltb 0xffff (digits_value 16 word))) [
        | inl large ↦ rw large (omega arith)
        | inr fits ↦ rw fits (ltb-false 0xffff (digits_value 16 word) fits)
      ])
    ])
  ])
]

-- what the numbers of a claim are
record IsSaid (numbers : List ℕ) (c : Claim) : Type 0 where
  pub are : numbers ≡ c.point.pc ∷ c.low ∷ c.high ∷ c.point.stack.items
  pub rises : c.low ≤ c.high

claim_numbers : (numbers : List ℕ) (c : Claim) → claim_by numbers ≡ Ok c → IsSaid numbers c
unfolding claim_by
claim_numbers [] c h = absurd (not_err h)
claim_numbers (p ∷ []) c h = absurd (not_err h)
claim_numbers (p ∷ l ∷ []) c h = absurd (not_err h)
claim_numbers (p ∷ l ∷ m ∷ stack) c h = elim (cases_Bool (leb (length stack) 12 && leb l m)) [
  | inr other ↦ absurd (not_err (rw other at h))
  | inl fine ↦
      let is = ok_same (rw fine at h) in
      let rises = leb-true l m (and_parts (leb (length stack) 12) (leb l m) fine).1 in
      record {
        are = ap (λ d. d.point.pc ∷ d.low ∷ d.high ∷ d.point.stack.items) is;
        rises = omega (arith, rises, ap (λ d. d.low) is, ap (λ d. d.high) is);
      }
]

-- a line that says a claim
record IsLine (line : List ℕ) (c : Claim) : Type 0 where
  pub all : are_words (words line) ≡ true
  pub numbers : values (words line) ≡ c.point.pc ∷ c.low ∷ c.high ∷ c.point.stack.items
  pub rises : c.low ≤ c.high

line_is : (line : List ℕ) (c : Claim) → said line ≡ Ok (Some c) → IsLine line c
unfolding said claim_in
line_is line c h = elim (cases_Bool (is_silent (words line))) [
  | inl silent ↦ absurd (none_some (ok_same (rw silent at h)))
  | inr says ↦ elim (cases_Bool (are_words (words line))) [
    | inr other ↦ absurd (not_err (rw (says, other) at h))
    | inl all ↦
        let numbers = claim_numbers (values (words line)) c (by (claim_by (values (words line))) (rw (says, all) at h)) in
        record { all = all; numbers = numbers.are; rises = numbers.rises }
  ]
]
  where
    none_some : None ≡ Some c → ⊥
    none_some h = cc

    by : (r : Result Claim ProofCause) → (r >>= (λ d. Ok (Some d))) ≡ Ok (Some c) → r ≡ Ok c
    by (Err cause) h = absurd (not_err h)
    by (Ok d) h = cc

-- what holds of the claim of each line that says one
values_all : (P : Claim → Type 0) → ((line : List ℕ) (c : Claim) → said line ≡ Ok (Some c) → P c) → (ls : List (List ℕ)) → All P (values_of claim_format ls)
unfolding values_of
values_all P each [] = All-nil P
values_all P each (line ∷ ls) = by (said line) refl (values_all P each ls)
  where
    by : (r : Result (Option Claim) ProofCause) → said line ≡ r → All P (values_of claim_format ls)
        → All P (cons_option (result_unwrap_or r None) (values_of claim_format ls))
    by (Err cause) is others = others
    by (Ok None) is others = others
    by (Ok (Some c)) is others = All-cons P c (values_of claim_format ls) (each line c is) others

pub record IsSmall (c : Claim) : Type 0 where
  pub rises : c.low ≤ c.high
  pub high : c.high ≤ last_address

value_small : (ws : List (List ℕ)) (k : ℕ) → k < length (values ws) → get_or (values ws) k 0 ≤ last_address
value_small [] k within = absurd (omega (arith, within))
value_small (w ∷ ws) zero within = word_small w
value_small (w ∷ ws) (suc k) within = value_small ws k (omega (arith, within))

pub small_claims : (text : List ℕ) → All IsSmall (claims_of text)
small_claims text = values_all IsSmall small (lines text)
  where
    small : (line : List ℕ) (c : Claim) → said line ≡ Ok (Some c) → IsSmall c
    small line c says =
        let is = line_is line c says in
        let len = ap length is.numbers in
        let high = value_small (words line) 2 (omega (arith, len)) in
        record { rises = is.rises; high = omega (arith, high, ap (λ ns. get_or ns 2 0) is.numbers) }

-- ---- the order of the lines

in_order_up_to : (ls : List (List ℕ)) → faults_of claim_format ls ≡ [] → (n : ℕ) → n ≤ length ls → IsAscending (values_of claim_format (take n ls))
unfolding values_of cause_after
in_order_up_to ls none zero le = λ i j d before below. absurd (omega (arith, below))
in_order_up_to ls none (suc n) le =
    let line = get_or ls n [] in
    let before = take n ls in
    let more : values_of claim_format (take (suc n) ls) ≡ values_of claim_format before ++ cons_option (result_unwrap_or (said line) None) [] =
    ap (values_of claim_format) (take-suc ls n [] (omega (arith, le))) ∙ filter_map-append (λ l. result_unwrap_or (said l) None) before (line ∷ []) in
    rw more (by (said line) refl (in_order_up_to ls none n (omega (arith, le))) (faultless_line claim_format ls none n (omega (arith, le))))
  where
    by : (r : Result (Option Claim) ProofCause) → said (get_or ls n []) ≡ r → IsAscending (values_of claim_format (take n ls))
        → cause_after (values_of claim_format (take n ls)) (said (get_or ls n [])) ≡ None
        → IsAscending (values_of claim_format (take n ls) ++ cons_option (result_unwrap_or r None) [])
    by (Err cause) is up fine = absurd (some_none (rw is at fine))
      where
        some_none : {A : Type 0} {a : A} → Some a ≡ None → ⊥
        some_none h = cc
    by (Ok None) is up fine = ascending_with _ None up (rw is at fine)
    by (Ok (Some c)) is up fine = ascending_with _ (Some c) up (rw is at fine)

-- ---- the family

accepted_reads : (e : Edition) (game text : List ℕ) → IsAccepted e game text → faults_of claim_format (lines text) ≡ []
unfolding proof_of
accepted_reads e game text accepted = by (read_claims text) refl accepted.is
  where
    by : (r : Result (List Claim) ProofFault) → read_claims text ≡ r
        → (r >>= (λ claims. started claims >>= (λ start. read (closed_format e game claims) text >>= (λ closed. Ok (length claims))))) ≡ Ok accepted.count
        → faults_of claim_format (lines text) ≡ []
    by (Err fault) same is = cc
    by (Ok claims) same is = (read-Ok claim_format text claims same).faultless

module _ (e : Edition) (game text : List ℕ) (accepted : IsAccepted e game text) where
  abbrev pub family : List Claim
  family = claims_of text

  pub proof : IsProof e game text
  proof = accepted_is e game text accepted

  in_order : IsAscending family
  in_order = subst (λ ls. IsAscending (values_of claim_format ls)) (take-length (lines text))
      (in_order_up_to (lines text) (accepted_reads e game text accepted) (length (lines text)) (omega arith))

  starts : IsCovered family start_claim
  unfolding has_start
  starts =
      let found = Any-from_list_any is_start family proof.start in
      let sides = and_parts (eqb found.1.point.pc memory_start) (eqb (length found.1.point.stack.items) 0 && eqb found.1.low 0) found.4 in
      let rest = and_parts (eqb (length found.1.point.stack.items) 0) (eqb found.1.low 0) sides.1 in
      let empty : found.1.point.stack.items ≡ [] = nil_from_length found.1.point.stack.items (omega (arith, eqb-true _ _ rest.0)) in (
        found.0,
        found.1,
        found.2,
        found.3,
        record {
          point = ap (λ pc. point pc found.1.point.stack.items) (eqb-true found.1.point.pc memory_start sides.0) ∙ ap (λ s. point memory_start s) empty;
          low = omega (arith, eqb-true found.1.low 0 rest.1);
          high = omega arith;
        },
      )

  goes_round : (c : Claim) → Parts e game family c → IsFollowed game family c
  goes_round c said k p within =
      let i = instr_in game c.point.pc in
      let each = AllPass-from_list_all (is_claimed family (low_after i c) (high_after i c)) (next_points i c.point) said.onward k p within in
      let q = get_or (next_points i c.point) k p in
      let sides = and_parts (leb (high_after i c) 0xffff) (list_any (allows (low_after i c) (high_after i c) q) family) each in
      let fits = leb-true _ _ sides.0 in
      let found = Any-from_list_any (allows (low_after i c) (high_after i c) q) family sides.1 in
      let is = and_parts (is_eq (order found.1.point q)) (leb found.1.low (low_after i c) && leb (high_after i c) found.1.high) found.4 in
      let range = and_parts (leb found.1.low (low_after i c)) (leb (high_after i c) found.1.high) is.1 in
      let low = leb-true _ _ range.0 in
      let high = leb-true _ _ range.1 in
      let small : IsSmall found.1 = subst IsSmall found.3 (small_claims text found.0 found.1 found.2) in (
        found.0,
        found.1,
        found.2,
        found.3,
        record {
          point = point_is found.1.point q (is_eq-true _ is.0);
          low = omega (arith, low, small.rises, small.high);
          high = omega (arith, high, fits);
        },
      )

  -- the claims of an accepted certificate are a closed family
  pub accepted_closed : IsClosed e game family
  accepted_closed = record {
    in_order = in_order;
    start = starts;
    steps = λ k d within going. goes_round (get_or family k d) (parts e game family (get_or family k d) (proof.closed k d within));
  }

-- ---- the bytes of a certificate

-- the parts of a text, each with one byte more
abbrev room : List (List ℕ) → ℕ
room = sum_by (λ part. length part + 1)

room-onto : (b : ℕ) (parts : List (List ℕ)) → 0 < length parts → room (onto_first b parts) ≡ room parts + 1
room-onto b [] some = absurd (omega (arith, some))
room-onto b (part ∷ parts) some = omega (arith, sum_by-cons (λ p. length p + 1) (b ∷ part) parts, sum_by-cons (λ p. length p + 1) part parts)

some_part : (p : ℕ → Bool) (text : List ℕ) → 0 < length (slice_split p text)
some_part p text = omega (arith, length-slice_split p text)

split_room : (p : ℕ → Bool) (text : List ℕ) → room (slice_split p text) ≡ length text + 1
split_room p [] = refl
split_room p (b ∷ text) = elim (cases_Bool (p b)) [
  | inl cut ↦ rw (slice_split-cons_yes p b text cut) (omega (arith, split_room p text, sum_by-cons (λ q. length q + 1) [] (slice_split p text)))
  | inr on ↦ rw (slice_split-cons_no p b text on) (omega (arith, split_room p text, room-onto b (slice_split p text) (some_part p text)))
]

filter_room : (p : List ℕ → Bool) (parts : List (List ℕ)) → room (filter p parts) ≤ room parts
filter_room p [] = omega arith
filter_room p (part ∷ parts) =
    let rest = filter_room p parts in
    elim (cases_Bool (p part)) [
      | inl kept ↦
          rw kept (omega (arith, rest, sum_by-cons (λ q. length q + 1) part parts, sum_by-cons (λ q. length q + 1) part (filter p parts)))
      | inr gone ↦ rw gone (omega (arith, rest, sum_by-cons (λ q. length q + 1) part parts))
    ]

strip_shorter : (line : List ℕ) → length (strip_carriage_return line) ≤ length line
strip_shorter line = elim (cases_Bool (ends line)) [ inl cut ↦ rw cut (omega (arith, length-take-le (length line - 1) line)) | inr whole ↦ rw whole (omega arith) ]
  where
    ends : List ℕ → Bool
    ends line = eqb (get_or line (length line - 1) 0) 13

lines_room : (parts : List (List ℕ)) → room (lines_of_parts parts) ≤ room parts
lines_room [] = omega arith
lines_room (part ∷ []) = elim (cases_Bool (eqb (length part) 0)) [ inl empty ↦ rw empty (omega arith) | inr some ↦ rw some (omega arith) ]
lines_room (part ∷ next ∷ parts) =
    let rest = lines_room (next ∷ parts) in
    let cut = strip_shorter part in
    omega (
      arith,
      rest,
      cut,
      sum_by-cons (λ q. length q + 1) part (next ∷ parts),
      sum_by-cons (λ q. length q + 1) (strip_carriage_return part) (lines_of_parts (next ∷ parts)),
    )

words_room : (ws : List (List ℕ)) → are_words ws ≡ true → room ws ≡ 5 * length ws
words_room [] all = refl
words_room (w ∷ ws) all =
    let sides = and_parts (is_some (word_of w)) (are_words ws) all in
    omega (arith, words_room ws sides.1, sum_by-cons (λ q. length q + 1) w ws, four (eqb (length w) 4) refl sides.0)
  where
    four : (b : Bool) → eqb (length w) 4 ≡ b → is_some (cond b (result_ok (number 16 w 0xffff)) None) ≡ true → length w ≡ 4
    four true is some = eqb-true (length w) 4 is
    four false is some = cc

line_room : (line : List ℕ) (c : Claim) → said line ≡ Ok (Some c) → line_bytes c ≤ length line + 1
unfolding words
line_room line c says =
    let is = line_is line c says in
    let len = ap length is.numbers in
    let made = words_room (words line) is.all in
    let fits = filter_room (λ part. not (eqb (length part) 0)) (slice_split is_blank line) in
    omega (arith, len, made, fits, split_room is_blank line, length-map (words line) (λ word. unwrap_or (word_of word) 0))

values_room : (ls : List (List ℕ)) → sum_by line_bytes (values_of claim_format ls) ≤ room ls
unfolding values_of
values_room [] = omega arith
values_room (line ∷ ls) = by (said line) refl (values_room ls)
  where
    by : (r : Result (Option Claim) ProofCause) → said line ≡ r → sum_by line_bytes (values_of claim_format ls) ≤ room ls
        → sum_by line_bytes (cons_option (result_unwrap_or r None) (values_of claim_format ls)) ≤ room (line ∷ ls)
    by (Err cause) is rest = omega (arith, rest, sum_by-cons (λ q. length q + 1) line ls)
    by (Ok None) is rest = omega (arith, rest, sum_by-cons (λ q. length q + 1) line ls)
    by (Ok (Some c)) is rest =
        let here = line_room line c is in
        omega (arith, rest, here, sum_by-cons (λ q. length q + 1) line ls, sum_by-cons line_bytes c (values_of claim_format ls))

fives : (claims : List Claim) → sum_by line_bytes claims ≡ 5 * sum_by (λ c. 3 + length c.point.stack.items) claims
fives [] = refl
fives (c ∷ claims) = omega (arith, fives claims, sum_by-cons line_bytes c claims, sum_by-cons (λ d. 3 + length d.point.stack.items) c claims)

-- the last line may lack its end, but five bytes divide no text that is one longer than the longest
pub accepted_bytes : (text : List ℕ) → length text ≤ most_bytes → sum_by line_bytes (claims_of text) ≤ most_bytes
accepted_bytes text fits =
    let said = values_room (lines text) in
    let cut = lines_room (slice_split (λ b. eqb b 10) text) in
    omega (arith, said, cut, fits, split_room (λ b. eqb b 10) text, fives (claims_of text))
