-- What a verb answers, from the answers of its parts.
use Rattle.std.proofs.Common.{◌≡◌, ℕ, List, [], ◌∷◌, ap, refl, sym, subst, Result, Ok, Err, IsErrAnd, Vec}
use Rattle.std.specs.Prelude.{IfOk, IfErr}
use Rattle.vip_tools.specs.declared.refusal.Refusal.{Refusal}
use Rattle.vip_tools.specs.declared.refusal.Refusal.TheVariants.{NoMemory}
use Rattle.vip_tools.specs.declared.status.Status.TheVariants.{Done}
use Rattle.vip_tools.specs.Judged.{AnswersAs, Judged, RefusedBy, bind}
use Rattle.vip_tools.specs.Judged.Verdict.{Given}
use Rattle.vip_tools.specs.Outcome.{Output, Shown, Writes}
use Rattle.vip_tools.specs.Work.{TextAnswers}
use Rattle.vip_tools.proofs.JudgedLemmas.{behind, refused-behind, refused-first}

-- a refusal that is passed on
pub passed :
    {A : Type 0} (P : Result A Refusal → Type 0) (refusal : Refusal) (r : Result A Refusal)
    → IsErrAnd r (λ e. e ≡ refusal) → P (Err refusal) → P r
passed P refusal (Ok a) is holds = absurd is
passed P refusal (Err e) is holds = subst (λ e. P (Err e)) (sym is) holds

-- the text of a chain, behind what its first link gives
pub text-behind : {A Z : Type 0} (J : Judged A) (K : A → Judged Output) (a : A) → J (Given a) → (r : Result (Vec ℕ Z) Refusal) → TextAnswers (K a) r → TextAnswers (bind J K) r
text-behind J K a gives (Ok text) answer = behind J K a gives _ answer
text-behind J K a gives (Err refusal) answer = refused-behind J K a gives refusal answer

-- a text that is found is written, as it is shown
pub shown-behind : {Z : Type 0} (J : Judged (List ℕ)) (shown : List ℕ → List ℕ) (found : List ℕ) → J (Given found) → (r : Result (Vec ℕ Z) Refusal)
    → IfOk r (λ text. text.items ≡ shown found) → IfErr r (λ refusal. refusal ≡ NoMemory) → TextAnswers (bind J (λ text. Writes (shown text))) r
shown-behind J shown found gives (Ok text) is none = record { value = found; gives = gives; here = ap (λ written. Shown (written ∷ []) Done []) is }
shown-behind J shown found gives (Err refusal) is none = subst (λ refusal. RefusedBy (bind J (λ text. Writes (shown text))) refusal) (sym none) tt

-- one that is answered is written as it is
pub written-of : {Z : Type 0} (J : Judged (List ℕ)) (r : Result (Vec ℕ Z) Refusal) → AnswersAs (λ (text : Vec ℕ Z). text.items) J r → TextAnswers (bind J Writes) r
written-of J (Ok text) gives = record { value = text.items; gives = gives; here = refl }
written-of J (Err refusal) by = refused-first J Writes refusal by
