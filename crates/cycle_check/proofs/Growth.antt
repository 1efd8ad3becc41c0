-- A certificate as it grows line by line.
use Rattle.std.proofs.Common.{◌≡◌, ℕ, ◌+◌, ◌-◌, ◌<◌, ◌≤◌, ◌⊎◌, inl, inr, true, List, [], ◌∷◌, ◌++◌, length, get_or, Option, Some, None, Result, Ok, Err, refl, sym, ap, subst, ◌∙◌, arith}
use Rattle.std.specs.Option.{option_to_list}
use Rattle.std.specs.Result.{result_err, result_ok}
use Rattle.std.specs.Str.Lines.{lines}
use Rattle.std.proofs.lemmas.Bool.{cases_Bool, ltb-true}
use Rattle.std.proofs.lemmas.List.{append-nil}
use Rattle.std.proofs.lemmas.List.Elements.{filter_map-append}
use Rattle.std.proofs.lemmas.List.Sorted.{IsNonDecreasingBy-push}
use Rattle.std.proofs.lemmas.Option.{slice_get-get_or}
use Rattle.vip_byte.specs.Reading.{read, ◌>>=◌}
use Rattle.vip_byte.proofs.ReadingLemmas.{IsReadUpTo, read_line, read_none, read-refused, read-whole}
use Rattle.cycle_check.specs.declared.fault.CertCause.{CertCause}
use Rattle.cycle_check.specs.declared.fault.CertCause.TheVariants.{Order}
use Rattle.cycle_check.specs.declared.fault.CertFault.TheVariants.{Fault}
use Rattle.cycle_check.specs.declared.grammar.Bound.{Bound}
use Rattle.cycle_check.specs.declared.grammar.Line.{Line}
use Rattle.cycle_check.specs.declared.grammar.Statement.{Statement}
use Rattle.cycle_check.specs.declared.grammar.Statement.TheVariants.{Within, At}
use Rattle.cycle_check.specs.Certificate.{Certificate, bound_of, line_of, lines_of, certificate_of, certificate_format, in_order, is_behind, next_of, said, stated}
use Rattle.cycle_check.specs.Reading.{AreRising, IsRead, extended}

-- ---- answers of two steps

-- a second step that answers Ok comes behind a first one that does
pub bind-ok : {A B Cause : Type 0} (first : Result A Cause) (next : A → Result B Cause) (y : B) → (first >>= next) ≡ Ok y
    → (x : A) × (first ≡ Ok x) × (next x ≡ Ok y)
bind-ok (Ok x) next y is = (x, refl, is)
bind-ok (Err cause) next y is = cc

pub ok_is : {A Cause : Type 0} (x y : A) → (let first : Result A Cause = Ok x in first ≡ Ok y) → x ≡ y
ok_is x y is = cc

cases_Result : {A Cause : Type 0} (r : Result A Cause) → ((x : A) × (r ≡ Ok x)) ⊎ (result_ok r ≡ None)
cases_Result (Ok x) = inl (x, refl)
cases_Result (Err cause) = inr refl

-- ---- one line more

-- what was said makes the certificate, which has its bound as soon as something was said
pub record IsGrown (statements : List (List (List ℕ))) (draft : Certificate) : Type 0 where
  pub is : draft ≡ certificate_of statements
  pub begun : draft.bound ≡ None → statements ≡ []

pub grown-none : IsGrown [] (certificate_of [])
grown-none = record { is = refl; begun = λ none. refl }

ordered_is : (before : List Line) (line ordered : Line) → in_order before line ≡ Ok ordered → ordered ≡ line
ordered_is before line ordered is = elim (cases_Bool (is_behind before line.address)) [
  | inl behind ↦ sym (ok_is line ordered (rw behind at is))
  | inr before_ ↦ let wrong : Err Order ≡ Ok ordered = rw before_ at is in cc
]

-- the first line is the bound
bound-made : (words : List (List ℕ)) (bound : Bound) → bound_of words ≡ Ok bound → IsGrown (words ∷ []) (extended (certificate_of []) (Some (Within bound)))
bound-made words bound is = record { is = rw is refl; begun = λ none. cc }

grown-first : (words : List (List ℕ)) (statement : Statement) → stated None [] words ≡ Ok statement
    → IsGrown (words ∷ []) (extended (certificate_of []) (Some statement))
grown-first words statement is =
    let bound = bind-ok (bound_of words) (λ b. Ok (Within b)) statement is in
    let P : Statement → Type 0 = λ s. IsGrown (words ∷ []) (extended (certificate_of []) (Some s)) in
    subst P (ok_is (Within bound.0) statement bound.2) (bound-made words bound.0 bound.1)

-- a later line is that of an address
line-made : (first : List (List ℕ)) (others : List (List (List ℕ))) (bound : Bound) (words : List (List ℕ)) (line : Line) → bound_of first ≡ Ok bound
    → line_of words ≡ Ok line → IsGrown (first ∷ (others ++ words ∷ [])) (extended (certificate_of (first ∷ others)) (Some (At line)))
line-made first others bound words line begun is = record {
  is = rw (filter_map-append (λ w. result_ok (line_of w)) others (words ∷ []), is) refl;
  begun = λ none. let wrong : Some bound ≡ None = rw begun at none in cc;
}

grown-next : (first : List (List ℕ)) (others : List (List (List ℕ))) (bound : Bound) (words : List (List ℕ)) (statement : Statement)
    → bound_of first ≡ Ok bound → stated (Some bound) (lines_of others) words ≡ Ok statement
    → IsGrown (first ∷ (others ++ words ∷ [])) (extended (certificate_of (first ∷ others)) (Some statement))
grown-next first others bound words statement begun is =
    let line = bind-ok (line_of words) (λ l. in_order (lines_of others) l >>= (λ o. Ok (At o))) statement is in
    let ordered = bind-ok (in_order (lines_of others) line.0) (λ o. Ok (At o)) statement line.2 in
    let P : Statement → Type 0 = λ s. IsGrown (first ∷ (others ++ words ∷ [])) (extended (certificate_of (first ∷ others)) (Some s)) in
    subst P (ap At (sym (ordered_is (lines_of others) line.0 ordered.0 ordered.1)) ∙ ok_is (At ordered.0) statement ordered.2)
    (line-made first others bound words line.0 begun line.1)

grown-said : (before : List (List (List ℕ))) (draft : Certificate) (words : List (List ℕ)) (statement : Statement) → IsGrown before draft
    → stated draft.bound draft.lines words ≡ Ok statement → IsGrown (before ++ words ∷ []) (extended draft (Some statement))
grown-said [] draft words statement grown is =
    let Says : Certificate → Type 0 = λ c. stated c.bound c.lines words ≡ Ok statement in
    let P : Certificate → Type 0 = λ c. IsGrown (words ∷ []) (extended c (Some statement)) in
    subst P (sym grown.is) (grown-first words statement (subst Says grown.is is))
grown-said (first ∷ others) draft words statement grown is = elim (cases_Result (bound_of first)) [
  | inl found ↦
      let Says : Certificate → Type 0 = λ c. stated c.bound c.lines words ≡ Ok statement in
      let P : Certificate → Type 0 = λ c. IsGrown (first ∷ (others ++ words ∷ [])) (extended c (Some statement)) in
      subst P (sym grown.is) (grown-next first others found.0 words statement found.1 (rw found.1 at (subst Says grown.is is)))
  | inr none ↦ let wrong = grown.begun (ap (λ c. c.bound) grown.is ∙ none) in cc
]

pub grown-line : (before : List (List (List ℕ))) (draft : Certificate) (says : Option (List (List ℕ))) (statement : Option Statement)
    → IsGrown before draft → next_of draft says ≡ Ok statement → IsGrown (before ++ option_to_list says) (extended draft statement)
grown-line before draft None statement grown is = rw (append-nil, ← ok_is None statement is) grown
grown-line before draft (Some words) statement grown is =
    let said = bind-ok (stated draft.bound draft.lines words) (λ s. Ok (Some s)) statement is in
    rw (← ok_is (Some said.0) statement said.2) (grown-said before draft words said.0 grown said.1)

-- ---- the lines of a text up to one of them

pub record IsReadSoFar (text : List ℕ) (done left : List (List ℕ)) (number : ℕ) (draft : Certificate) : Type 0 where
  pub statements : List (List (List ℕ))
  pub upto : IsReadUpTo certificate_format text done left statements number
  pub grown : IsGrown statements draft

pub so_far-none : (text : List ℕ) → IsReadSoFar text [] (lines text) 0 (certificate_of [])
so_far-none text = record { statements = []; upto = read_none certificate_format text; grown = grown-none }

-- what the next line says behind the statements
next-behind : (statements : List (List (List ℕ))) (draft : Certificate) (line : List ℕ) (answer : Result (Option Statement) CertCause)
    → IsGrown statements draft
    → next_of draft (said line) ≡ answer → next_of (certificate_of statements) (said line) ≡ answer
next-behind statements draft line answer grown is =
    let P : Certificate → Type 0 = λ c. next_of c (said line) ≡ answer in
    subst P grown.is is

pub so_far-next : (text : List ℕ) (done : List (List ℕ)) (line : List ℕ) (left : List (List ℕ)) (number : ℕ) (draft : Certificate)
    (statement : Option Statement)
    → IsReadSoFar text done (line ∷ left) number draft → next_of draft (said line) ≡ Ok statement
    → IsReadSoFar text (done ++ line ∷ []) left (number + 1) (extended draft statement)
so_far-next text done line left number draft statement so_far is =
    let allowed = ap result_err (next-behind so_far.statements draft line (Ok statement) so_far.grown is) in
    record {
      statements = so_far.statements ++ option_to_list (said line);
      upto = read_line certificate_format text done line left so_far.statements number (said line) so_far.upto allowed refl;
      grown = grown-line so_far.statements draft (said line) statement so_far.grown is;
    }

pub so_far-refused : (text : List ℕ) (done : List (List ℕ)) (line : List ℕ) (left : List (List ℕ)) (number : ℕ) (draft : Certificate) (cause : CertCause)
    → IsReadSoFar text done (line ∷ left) number draft → next_of draft (said line) ≡ Err cause
    → read certificate_format text ≡ Err (Fault (number + 1) cause)
so_far-refused text done line left number draft cause so_far is =
    read-refused certificate_format text done line left so_far.statements number cause so_far.upto
    (ap result_err (next-behind so_far.statements draft line (Err cause) so_far.grown is))

pub so_far-whole : (text : List ℕ) (done : List (List ℕ)) (number : ℕ) (draft : Certificate) → IsReadSoFar text done [] number draft → IsRead text draft
so_far-whole text done number draft so_far = record {
  statements = so_far.statements;
  says = read-whole certificate_format text done so_far.statements number so_far.upto;
  is = so_far.grown.is;
}

-- ---- addresses that don't fall

last_below : (lines : List Line) (address : ℕ) → is_behind lines address ≡ true → (d : Line) → 0 < length lines
    → (get_or lines (length lines - 1) d).address ≤ address
last_below lines address behind d some =
    let last = slice_get-get_or lines (length lines - 1) d (omega (arith, some)) in
    let below = ltb-true (get_or lines (length lines - 1) d).address address (rw last at behind) in
    omega (arith, below)

pub rising-push : (lines : List Line) (line : Line) → AreRising lines → is_behind lines line.address ≡ true → AreRising (lines ++ line ∷ [])
rising-push lines line rising behind = IsNonDecreasingBy-push (λ l. l.address) lines line rising (last_below lines line.address behind)
