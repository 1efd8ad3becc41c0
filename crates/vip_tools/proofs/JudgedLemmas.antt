-- The laws of judgements and of their chains.
use Rattle.std.proofs.Common.{◌≡◌, ℕ, List, inl, inr, Result, Ok, Err, sym, subst, ap}
use Rattle.vip_tools.specs.declared.refusal.Refusal.{Refusal}
use Rattle.vip_tools.specs.declared.status.Status.{Status}
use Rattle.vip_tools.specs.Judged.{Answers, Cause, By, Judged, Of, RefusedBy, Verdict, bind, cause_of, each, judged, only}
use Rattle.vip_tools.specs.Judged.Verdict.{Given, Refused, GivenUp}
use Rattle.vip_tools.specs.Judged.Cause.{Elsewhere, Memory, Fault, Nothing}

-- ---- refusals: a `?` passes on what a chain comes to

module _ {A : Type 0} (J J' : Judged A) (so : (v : Verdict A) → J v → J' v) where
  by-so : (c : Cause) → By J c → By J' c
  by-so Elsewhere by = by
  by-so Memory by = tt
  by-so (Fault status report) by = so _ by
  by-so (Nothing report) by = so _ by

  pub refused-so : (refusal : Refusal) → RefusedBy J refusal → RefusedBy J' refusal
  refused-so refusal by = by-so (cause_of refusal) by

module _ {A B : Type 0} (J : Judged A) (K : A → Judged B) where
  pub by-first : (c : Cause) → By J c → By (bind J K) c
  by-first Elsewhere by = by
  by-first Memory by = tt
  by-first (Fault status report) by = inl by
  by-first (Nothing report) by = inl by

  -- the first is refused
  pub refused-first : (refusal : Refusal) → RefusedBy J refusal → RefusedBy (bind J K) refusal
  refused-first refusal by = by-first (cause_of refusal) by

  -- it gives a value, and what comes of that comes of the chain
  pub behind : (a : A) → J (Given a) → (v : Verdict B) → K a v → bind J K v
  behind a gives (Given b) comes = record { value = a; gives = gives; here = comes }
  behind a gives (Refused status report) comes = inr (record { value = a; gives = gives; here = comes })
  behind a gives (GivenUp report) comes = inr (record { value = a; gives = gives; here = comes })

  pub refused-behind : (a : A) → J (Given a) → (refusal : Refusal) → RefusedBy (K a) refusal → RefusedBy (bind J K) refusal
  refused-behind a gives = refused-so (K a) (bind J K) (behind a gives)

  pub answers-behind : (a : A) → J (Given a) → (r : Result B Refusal) → Answers (K a) r → Answers (bind J K) r
  answers-behind a gives (Ok b) answer = behind a gives (Given b) answer
  answers-behind a gives (Err refusal) answer = refused-behind a gives refusal answer

-- what gives a value of which this holds is never refused
pub by-each : {A B : Type 0} (P : A → Type 0) (J : Judged B) (c : Cause) → By (each P) c → By J c
by-each P J Elsewhere by = by
by-each P J Memory by = tt
by-each P J (Fault status report) by = absurd by
by-each P J (Nothing report) by = absurd by

-- a chain is refused as one with another end is that is refused alike
module _ {A B C : Type 0} (J : Judged A) (K : A → Judged B) (K' : A → Judged C) where
  pub by-tail : ((a : A) (c : Cause) → By (K a) c → By (K' a) c) → (c : Cause) → By (bind J K) c → By (bind J K') c
  by-tail so Elsewhere by = by
  by-tail so Memory by = tt
  by-tail so (Fault status report) (inl by) = inl by
  by-tail so (Fault status report) (inr x) = inr (record { value = x.value; gives = x.gives; here = so x.value (Fault status report) x.here })
  by-tail so (Nothing report) (inl by) = inl by
  by-tail so (Nothing report) (inr x) = inr (record { value = x.value; gives = x.gives; here = so x.value (Nothing report) x.here })

-- judgements with the same faults are refused alike
module _ {A B F : Type 0} (Is : A → Type 0) (Is' : B → Type 0) (IsFault : F → Type 0) (told : F → Refusal) where
  by-alike : (c : Cause) → By (judged Is IsFault told) c → By (judged Is' IsFault told) c
  by-alike Elsewhere by = by
  by-alike Memory by = tt
  by-alike (Fault status report) by = by
  by-alike (Nothing report) by = by

  pub refused-alike : (refusal : Refusal) → RefusedBy (judged Is IsFault told) refusal → RefusedBy (judged Is' IsFault told) refusal
  refused-alike refusal by = by-alike (cause_of refusal) by

-- ---- at most one verdict

-- two verdicts are refusals with the same status, or values of which this holds; what was given up isn't compared
module _ {A : Type 0} where
  abbrev pub Agree : (A → A → Type 0) → Verdict A → Verdict A → Type 0
  Agree Same (GivenUp r) w = Unit {0}
  Agree Same v (GivenUp r) = Unit {0}
  Agree Same (Given a) (Given b) = Same a b
  Agree Same (Refused s r) (Refused t q) = s ≡ t
  Agree Same (Given a) (Refused t q) = ⊥
  Agree Same (Refused s r) (Given b) = ⊥

  -- the verdicts of both agree
  abbrev pub AgreeOn : (A → A → Type 0) → Judged A → Judged A → Type 0
  AgreeOn Same J J' = (v w : Verdict A) → J v → J' w → Agree Same v w

  -- any two values
  abbrev pub Any : A → A → Type 0
  Any a b = Unit {0}

  -- where one has at most one verdict, so has what is the same
  pub same_agree : {S : Type 0} (Same : A → A → Type 0) (K : S → Judged A) → ((s : S) → AgreeOn Same (K s) (K s)) → (s t : S) → s ≡ t → AgreeOn Same (K s) (K t)
  same_agree Same K once s t same = subst (λ t. AgreeOn Same (K s) (K t)) same (once s)

  pub each_agree : (Same : A → A → Type 0) (P Q : A → Type 0) → ((a b : A) → P a → Q b → Same a b) → AgreeOn Same (each P) (each Q)
  each_agree Same P Q same (Given a) (Given b) x y = same a b x y
  each_agree Same P Q same (Given a) (Refused t q) x y = y
  each_agree Same P Q same (Given a) (GivenUp q) x y = tt
  each_agree Same P Q same (Refused s r) w x y = absurd x
  each_agree Same P Q same (GivenUp r) w x y = tt

  pub only_agree : (a : A) → AgreeOn (λ b c. b ≡ c) (only a) (only a)
  only_agree a = each_agree (λ b c. b ≡ c) (λ b. b ≡ a) (λ b. b ≡ a) (λ b c x y. cc)

-- a chain has at most one where its links have
module _ {A B : Type 0} (Same : A → A → Type 0) (Ends : B → B → Type 0) (J J' : Judged A) (K K' : A → Judged B) (first : AgreeOn Same J J')
    (rest : (a b : A) → J (Given a) → J' (Given b) → Same a b → AgreeOn Ends (K a) (K' b)) where
  both : (v w : Verdict B) → Of J (λ a. K a v) → Of J' (λ a. K' a w) → Agree Ends v w
  both v w x y = rest x.value y.value x.gives y.gives (first (Given x.value) (Given y.value) x.gives y.gives) v w x.here y.here

  pub bind_agree : AgreeOn Ends (bind J K) (bind J' K')
  bind_agree (Given a) (Given b) x y = both (Given a) (Given b) x y
  bind_agree (Given a) (Refused t q) x (inl y) = absurd (first (Given x.value) (Refused t q) x.gives y)
  bind_agree (Given a) (Refused t q) x (inr y) = both (Given a) (Refused t q) x y
  bind_agree (Given a) (GivenUp q) x y = tt
  bind_agree (Refused s r) (Given b) (inl x) y = absurd (first (Refused s r) (Given y.value) x y.gives)
  bind_agree (Refused s r) (Given b) (inr x) y = both (Refused s r) (Given b) x y
  bind_agree (Refused s r) (Refused t q) (inl x) (inl y) = first (Refused s r) (Refused t q) x y
  bind_agree (Refused s r) (Refused t q) (inl x) (inr y) = absurd (first (Refused s r) (Given y.value) x y.gives)
  bind_agree (Refused s r) (Refused t q) (inr x) (inl y) = absurd (first (Given x.value) (Refused t q) x.gives y)
  bind_agree (Refused s r) (Refused t q) (inr x) (inr y) = both (Refused s r) (Refused t q) x y
  bind_agree (Refused s r) (GivenUp q) x y = tt
  bind_agree (GivenUp r) w x y = tt

-- a judgement by its values and its faults, which all have one status, and of which none is there beside a value
module _ {A F : Type 0} (Same : A → A → Type 0) (Is Is' : A → Type 0) (IsFault IsFault' : F → Type 0) (told : F → Refusal)
    (values : (a b : A) → Is a → Is' b → Same a b)
    (apart : (a : A) (f : F) (status : Status) (report : List ℕ) → Is a → IsFault' f → cause_of (told f) ≡ Fault status report → ⊥)
    (apart' : (a : A) (f : F) (status : Status) (report : List ℕ) → Is' a → IsFault f → cause_of (told f) ≡ Fault status report → ⊥)
    (faults : (f g : F) (s t : Status) (r q : List ℕ) → IsFault f → IsFault' g → cause_of (told f) ≡ Fault s r → cause_of (told g) ≡ Fault t q → s ≡ t) where
  pub judged_agree : AgreeOn Same (judged Is IsFault told) (judged Is' IsFault' told)
  judged_agree (Given a) (Given b) x y = values a b x y
  judged_agree (Given a) (Refused t q) x y = apart a y.fault t q x y.is y.tells
  judged_agree (Given a) (GivenUp q) x y = tt
  judged_agree (Refused s r) (Given b) x y = apart' b x.fault s r y x.is x.tells
  judged_agree (Refused s r) (Refused t q) x y = faults x.fault y.fault s t r q x.is y.is x.tells y.tells
  judged_agree (Refused s r) (GivenUp q) x y = tt
  judged_agree (GivenUp r) w x y = tt

-- the answer of a function is one
module _ {A F : Type 0} (result : Result A F) (told : F → Refusal) where
  pub result_agree : AgreeOn (λ a b. a ≡ b) (judged (λ a. result ≡ Ok a) (λ f. result ≡ Err f) told) (judged (λ a. result ≡ Ok a) (λ f. result ≡ Err f) told)
  result_agree = judged_agree (λ a b. a ≡ b) _ _ _ _ told (λ a b x y. cc) (λ a f s r x y z. cc) (λ a f s r x y z. cc) (λ f g s t r q x y z w. cc)

-- what a search answers that is never refused isn't compared
module _ {A F : Type 0} (Is Is' : A → Type 0) (IsFault IsFault' : F → Type 0) (told : F → Refusal)
    (never : (f : F) (status : Status) (report : List ℕ) → cause_of (told f) ≡ Fault status report → ⊥) where
  pub search_agree : AgreeOn Any (judged Is IsFault told) (judged Is' IsFault' told)
  search_agree =
      judged_agree Any Is Is' IsFault IsFault' told (λ a b x y. tt) (λ a f s r x y z. never f s r z) (λ a f s r x y z. never f s r z)
      (λ f g s t r q x y z w. absurd (never f s r z))

-- one outcome alone
pub alone_agree : {A : Type 0} (Same : A → A → Type 0) (u t v w : Verdict A) → Agree Same u t → v ≡ u → w ≡ t → Agree Same v w
alone_agree Same u t v w same x y = rw (x, y) same

-- ---- which statuses come, which values, and who may give up

module _ {A : Type 0} where
  abbrev pub Sound : (Status → Type 0) → (A → Type 0) → Type 0 → Verdict A → Type 0
  Sound Due Values Up (Given a) = Values a
  Sound Due Values Up (Refused status report) = Due status
  Sound Due Values Up (GivenUp report) = Up

  abbrev pub AllSound : (Status → Type 0) → (A → Type 0) → Type 0 → Judged A → Type 0
  AllSound Due Values Up J = (v : Verdict A) → J v → Sound Due Values Up v

  pub alone_sound : (Due : Status → Type 0) (Values : A → Type 0) (Up : Type 0) (u v : Verdict A) → Sound Due Values Up u → v ≡ u → Sound Due Values Up v
  alone_sound Due Values Up u v sound same = subst (Sound Due Values Up) (sym same) sound

  pub each_sound : (Due : Status → Type 0) (Values : A → Type 0) (Up : Type 0) (P : A → Type 0) → ((a : A) → P a → Values a) → AllSound Due Values Up (each P)
  each_sound Due Values Up P values (Given a) x = values a x
  each_sound Due Values Up P values (Refused status report) x = absurd x
  each_sound Due Values Up P values (GivenUp report) x = absurd x

abbrev pub IsFine : (Status → Type 0) → Type 0 → Cause → Type 0
IsFine Due Up Elsewhere = Unit {0}
IsFine Due Up Memory = Unit {0}
IsFine Due Up (Fault status report) = Due status
IsFine Due Up (Nothing report) = Up

module _ {A F : Type 0} (Due : Status → Type 0) (Values : A → Type 0) (Up : Type 0) (Is : A → Type 0) (IsFault : F → Type 0) (told : F → Refusal)
    (values : (a : A) → Is a → Values a) (fine : (f : F) → IsFault f → IsFine Due Up (cause_of (told f))) where
  pub judged_sound : AllSound Due Values Up (judged Is IsFault told)
  judged_sound (Given a) x = values a x
  judged_sound (Refused status report) x = subst (IsFine Due Up) x.tells (fine x.fault x.is)
  judged_sound (GivenUp report) x = subst (IsFine Due Up) x.tells (fine x.fault x.is)

-- those of a chain are those of its links
module _ {A B : Type 0} (Due : Status → Type 0) (Values : A → Type 0) (Ends : B → Type 0) (Up : Type 0) (J : Judged A) (K : A → Judged B)
    (first : AllSound Due Values Up J) (rest : (a : A) → AllSound Due Ends Up (K a)) where
  pub bind_sound : AllSound Due Ends Up (bind J K)
  bind_sound (Given b) x = rest x.value (Given b) x.here
  bind_sound (Refused status report) (inl x) = first (Refused status report) x
  bind_sound (Refused status report) (inr x) = rest x.value (Refused status report) x.here
  bind_sound (GivenUp report) (inl x) = first (GivenUp report) x
  bind_sound (GivenUp report) (inr x) = rest x.value (GivenUp report) x.here

-- ---- values

module _ {A : Type 0} where
  value_or : A → Verdict A → A
  value_or other (Given a) = a
  value_or other (Refused status report) = other
  value_or other (GivenUp report) = other

  -- a verdict gives one value
  pub same_value : (a b : A) → Given a ≡ Given b → a ≡ b
  unfolding value_or
  same_value a b same = ap (value_or a) same

-- a chain behind what is never refused comes to what comes behind it
pub behind-each : {A B : Type 0} (P : A → Type 0) (K : A → Judged B) (v : Verdict B) → bind (each P) K v → Of (each P) (λ a. K a v)
behind-each P K (Given b) x = x
behind-each P K (Refused status report) (inl x) = absurd x
behind-each P K (Refused status report) (inr x) = x
behind-each P K (GivenUp report) (inl x) = absurd x
behind-each P K (GivenUp report) (inr x) = x
