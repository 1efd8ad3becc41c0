use Rattle.std.proofs.Common.{◌≡◌, ◌∙◌, refl, sym, ap, ℕ, Bool, true, false, List, []}
use Rattle.std.proofs.lemmas.Str.{IsUtf8-from_is_utf8, is_utf8-from_IsUtf8}
use Rattle.std.specs.Str.{IsUtf8, is_utf8}
use Rattle.vip_words.specs.Why.{text_if}
use Rattle.vip_words.proofs.why.name_text.Goals as goal

pub returns-in-Ok : goal.returns-in-Ok
returns-in-Ok c =
    c.in-Ok.ensures.cases.0 ∙ sym (ap (λ holds. text_if holds c.args.name.now) (is_utf8-from_IsUtf8 c.args.name.now c.in-Ok.ensures.cases.1))

-- what isn't UTF-8 is left out
left_out : (name : List ℕ) (holds : Bool) → is_utf8 name ≡ holds → (IsUtf8 name → ⊥) → [] ≡ text_if holds name
left_out name false is none = refl
left_out name true is none = absurd (none (IsUtf8-from_is_utf8 name is))

pub returns-in-Err : goal.returns-in-Err
returns-in-Err c = left_out c.args.name.now (is_utf8 c.args.name.now) refl c.in-Err.ensures.cases.0
