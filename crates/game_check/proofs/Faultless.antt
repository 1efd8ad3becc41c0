-- A certificate without a fault is one of closed claims, one of which is of the start.
use Rattle.std.proofs.Common.{◌≡◌, ℕ, ◌+◌, ◌<◌, ◌⊎◌, Bool, true, false, List, [], ◌∷◌, ◌++◌, length, get_or, take, Option, Some, None, Result, Ok, Err, refl, sym, ap, subst, cond, zero-add, ◌∙◌, arith, inr}
use Rattle.std.specs.List.{All, cons_option, filter_map, range_with_len}
use Rattle.std.specs.Option.{option_map}
use Rattle.std.specs.Result.{IfErr, IfOk, result_unwrap_or}
use Rattle.std.specs.Str.Lines.{lines}
use Rattle.std.proofs.lemmas.List.Elements.{All-cons, All-head, All-nil, All-tail, All-from_get_or}
use Rattle.std.proofs.lemmas.List.FromFn.{get_or-range_with_len, length-range_with_len}
use Rattle.std.proofs.lemmas.List.{append-nil}
use Rattle.vip_byte.proofs.ReadingLemmas.{IsReadUpTo, read_line, read_none, read-refused, read-whole}
use Rattle.vip_byte.specs.Reading.{Format, values_of, fault_at, faults_of, read, unless_faulty, ◌>>=◌}
use Rattle.chip8_lang.specs.declared.view.Edition.{Edition}
use Rattle.game_check.specs.declared.claim.Claim.{Claim}
use Rattle.game_check.specs.declared.fault.ProofCause.{ProofCause}
use Rattle.game_check.specs.declared.fault.ProofCause.TheVariants.{NoStart}
use Rattle.game_check.specs.declared.fault.ProofFault.{ProofFault}
use Rattle.game_check.specs.declared.fault.ProofFault.TheVariants.{Fault, NoMemory}
use Rattle.game_check.specs.Closed.{cause_in, has_start}
use Rattle.game_check.specs.Grammar.{claims_of, claim_format, read_claims, said}
use Rattle.game_check.specs.Proof.{closed_format, proof_of, refusal, started, IsAccepted}

-- what a filter finds nothing in
nothing_found : {X Y : Type 0} (f : X → Option Y) (xs : List X) → filter_map f xs ≡ [] → All (λ x. f x ≡ None) xs
nothing_found f [] none = All-nil _
nothing_found f (x ∷ xs) none = All-cons (λ y. f y ≡ None) x xs (first (f x) none) (nothing_found f xs (rest (f x) none))
  where
    first : (o : Option _) → cons_option o (filter_map f xs) ≡ [] → o ≡ None
    first None h = refl
    first (Some y) h = cc

    rest : (o : Option _) → cons_option o (filter_map f xs) ≡ [] → filter_map f xs ≡ []
    rest None h = h
    rest (Some y) h = cc

module _ {Value Cause Fault : Type 0} (format : Format Value Cause Fault) where
  -- a text that is read has the values of its lines, and none of them has a fault
  pub record IsRead (text : List ℕ) (values : List Value) : Type 0 where
    pub worth : values ≡ values_of format (lines text)
    pub faultless : faults_of format (lines text) ≡ []

  pub read-Ok : (text : List ℕ) (values : List Value) → read format text ≡ Ok values → IsRead text values
  unfolding read
  read-Ok text values is = by (faults_of format (lines text)) refl is
    where
      by : (faults : List Fault) → faults_of format (lines text) ≡ faults → unless_faulty format (values_of format (lines text)) faults ≡ Ok values
          → IsRead text values
      by [] same is = record { worth = sym (ap (λ r. result_unwrap_or r []) is); faultless = same }
      by (fault ∷ faults) same is = cc

  -- each line is accepted behind those before it
  pub faultless_line : (ls : List (List ℕ)) → faults_of format ls ≡ [] → (i : ℕ) → i < length ls
      → format.refused (values_of format (take i ls)) (format.said (get_or ls i [])) ≡ None
  unfolding faults_of
  faultless_line ls none i within =
      let all = nothing_found (fault_at format ls) (range_with_len 0 (length ls)) none in
      let here = all i 0 (omega (arith, within, length-range_with_len 0 (length ls))) in
      unmapped (format.fault (i + 1)) _ (rw (get_or-range_with_len 0 (length ls) i 0 within, zero-add i) at here)
    where
      unmapped : {A B : Type 0} (f : A → B) (o : Option A) → option_map f o ≡ None → o ≡ None
      unmapped f None h = refl
      unmapped f (Some a) h = cc

-- ---- closed claims

module _ (e : Edition) (game : List ℕ) (claims : List Claim) where
  abbrev pub IsClosed : Claim → Type 0
  IsClosed c = cause_in e game claims c ≡ None

  closed_values : (ls : List (List ℕ)) → All (λ line. refusal e game claims (said line) ≡ None) ls → All IsClosed (values_of claim_format ls)
  unfolding values_of refusal
  closed_values [] accepted = All-nil IsClosed
  closed_values (line ∷ ls) accepted =
      by (said line) (All-head (λ l. refusal e game claims (said l) ≡ None) line ls accepted)
      (closed_values ls (All-tail (λ l. refusal e game claims (said l) ≡ None) line ls accepted))
    where
      by : (says : Result (Option Claim) ProofCause) → refusal e game claims says ≡ None → All IsClosed (values_of claim_format ls)
          → All IsClosed (cons_option (result_unwrap_or says None) (values_of claim_format ls))
      by (Err cause) h others = cc
      by (Ok None) h others = others
      by (Ok (Some c)) h others = All-cons IsClosed c (values_of claim_format ls) h others

  pub all_closed : (text : List ℕ) (values : List Claim) → read (closed_format e game claims) text ≡ Ok values → All IsClosed (claims_of text)
  all_closed text values is =
      let none = (read-Ok (closed_format e game claims) text values is).faultless in
      closed_values (lines text)
      (All-from_get_or (λ line. refusal e game claims (said line) ≡ None) (lines text) []
      (λ i within. faultless_line (closed_format e game claims) (lines text) none i within))

-- what an accepted certificate is
pub record IsProof (e : Edition) (game text : List ℕ) : Type 0 where
  pub start : has_start (claims_of text) ≡ true
  pub closed : All (IsClosed e game (claims_of text)) (claims_of text)

pub accepted_is : (e : Edition) (game text : List ℕ) → IsAccepted e game text → IsProof e game text
unfolding proof_of
accepted_is e game text accepted = by (read_claims text) refl accepted.is
  where
    by : (r : Result (List Claim) ProofFault) → read_claims text ≡ r
        → (r >>= (λ claims. started claims >>= (λ start. read (closed_format e game claims) text >>= (λ closed. Ok (length claims))))) ≡ Ok accepted.count
        → IsProof e game text
    by (Err fault) same is = cc
    by (Ok claims) same is = by_start (has_start claims) refl is
      where
        by_start : (b : Bool) → has_start claims ≡ b
            → (cond b (Ok claims) (Err (Fault 1 NoStart))
            >>= (λ start. read (closed_format e game claims) text >>= (λ closed. Ok (length claims)))) ≡ Ok accepted.count
            → IsProof e game text
        by_start false start is = cc
        by_start true start is = by_closed (read (closed_format e game claims) text) refl is
          where
            all : claims ≡ claims_of text
            all = (read-Ok claim_format text claims same).worth

            by_closed : (r : Result (List Claim) ProofFault) → read (closed_format e game claims) text ≡ r
                → (r >>= (λ closed. Ok (length claims))) ≡ Ok accepted.count → IsProof e game text
            by_closed (Err fault) closed is = cc
            by_closed (Ok values) closed is = record {
              start = rw all at start;
              closed = rw all at (all_closed e game claims text values closed);
            }

-- ---- how a certificate is checked

module _ (e : Edition) (game : List ℕ) (claims : List Claim) (text : List ℕ) where
  -- the first lines `done` say closed claims; `left` are the others
  abbrev pub AreClosedUpTo : List (List ℕ) → List (List ℕ) → ℕ → Type 0
  AreClosedUpTo done left number = IsReadUpTo (closed_format e game claims) text done left (values_of (closed_format e game claims) done) number

  pub closed_none : AreClosedUpTo [] (lines text) 0
  unfolding values_of
  closed_none = read_none (closed_format e game claims) text

  says_some : (says : Result (Option Claim) ProofCause) → refusal e game claims says ≡ None → (value : Option Claim) × (says ≡ Ok value)
  unfolding refusal
  says_some (Err cause) h = cc
  says_some (Ok value) h = (value, refl)

  pub closed_line : (done : List (List ℕ)) (line : List ℕ) (left : List (List ℕ)) (number : ℕ)
      → AreClosedUpTo done (line ∷ left) number → refusal e game claims (said line) ≡ None → AreClosedUpTo (done ++ line ∷ []) left (number + 1)
  closed_line done line left number so_far allowed =
      let format = closed_format e game claims in
      let says = says_some (said line) allowed in
      let more = read_line format text done line left (values_of format done) number says.0 so_far allowed says.1 in
      subst (λ values. IsReadUpTo format text (done ++ line ∷ []) left values (number + 1)) more.said_so_far more

  pub closed_whole : (done : List (List ℕ)) (number : ℕ) → AreClosedUpTo done [] number → read (closed_format e game claims) text ≡ Ok (claims_of text)
  unfolding values_of
  closed_whole done number so_far =
      let format = closed_format e game claims in
      read-whole format text done (values_of format done) number so_far
      ∙ ap (λ ls. Ok (values_of format ls)) (sym (so_far.whole ∙ append-nil done))

  pub not_closed : (done : List (List ℕ)) (line : List ℕ) (left : List (List ℕ)) (number : ℕ) (cause : ProofCause)
      → AreClosedUpTo done (line ∷ left) number → refusal e game claims (said line) ≡ Some cause
      → read (closed_format e game claims) text ≡ Err (Fault (number + 1) cause)
  not_closed done line left number cause so_far refused =
      read-refused (closed_format e game claims) text done line left _ number cause so_far refused

-- what an answer says
pub counts : (p : Result ℕ ProofFault) (r : Result ℕ ProofFault) → r ≡ p → IfOk r (λ count. p ≡ Ok count)
counts p (Ok count) is = sym is
counts p (Err fault) is = tt

pub faults : (p : Result ℕ ProofFault) (r : Result ℕ ProofFault) → r ≡ p → IfErr r (λ fault. (fault ≡ NoMemory) ⊎ (p ≡ Err fault))
faults p (Ok count) is = tt
faults p (Err fault) is = inr (sym is)

pub shows : (e : Edition) (game text : List ℕ) (r : Result ℕ ProofFault) → r ≡ proof_of e game text → (P : Type 0) → (IsAccepted e game text → P)
    → IfOk r (λ count. P)
shows e game text (Ok count) is P law = law (record { count = count; is = sym is })
shows e game text (Err fault) is P law = tt

-- the answers
module _ (e : Edition) (game text : List ℕ) where
  pub proof-unread : (fault : ProofFault) → read_claims text ≡ Err fault → proof_of e game text ≡ Err fault
  unfolding proof_of
  proof-unread fault is = rw is refl

  module _ (claims : List Claim) (are : read_claims text ≡ Ok claims) where
    pub proof-unstarted : has_start claims ≡ false → proof_of e game text ≡ Err (Fault 1 NoStart)
    unfolding proof_of
    proof-unstarted start = rw (are, start) refl

    pub proof-open : has_start claims ≡ true → (fault : ProofFault) → read (closed_format e game claims) text ≡ Err fault → proof_of e game text ≡ Err fault
    unfolding proof_of
    proof-open start fault is = rw (are, start, is) refl

    pub proof-closed : has_start claims ≡ true → (values : List Claim) → read (closed_format e game claims) text ≡ Ok values
        → proof_of e game text ≡ Ok (length claims)
    unfolding proof_of
    proof-closed start values is = rw (are, start, is) refl
