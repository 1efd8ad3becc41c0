use Rattle.std.proofs.Common.{◌≡◌, ◌∙◌, Bor, List, ℕ, [], ◌∷◌, Bool, true, false, refl, ap, sym, map, find, option_map, string_bytes}
use Rattle.std.specs.Prelude.{if◌then◌else◌, not, Option, Some}
use Rattle.vip_words.specs.Rules.{Word, every_option, is_once}
use Rattle.vip_words.proofs.broken.twice.Goals as goal

found : (p : Word → Bool) (lines : List (Bor (List ℕ) × Bor (List ℕ)))
    → option_map (λ line. line.0.now) (find (λ line. p line.0.now) lines) ≡ find p (map (λ line. line.0.now) lines)
found p [] = refl
found p (line ∷ lines) =
    elim (p line.0.now) as (λ b. option_map (λ line. line.0.now) (if b then Some line else find (λ line. p line.0.now) lines)
    ≡ (if b then Some line.0.now else find p (map (λ line. line.0.now) lines))) [
      | true ↦ refl
      | false ↦ found p lines
    ]

-- among the options of the table, which are all that the program has
option_of : (p : Word → Bool) (lines : List (Bor (List ℕ) × Bor (List ℕ))) (line : Option (Bor (List ℕ) × Bor (List ℕ)))
    → line ≡ find (λ line. p line.0.now) lines → map (λ line. line.0.now) lines ≡ every_option
    → option_map (λ line. line.0.now) line ≡ find p every_option
option_of p lines line is these = ap (option_map (λ line. line.0.now)) is ∙ (found p lines ∙ ap (find p) these)

pub returns-in-Some : goal.returns-in-Some
returns-in-Some c =
    option_of (λ option. not (is_once (map string_bytes c.args.words.now) option)) (_ ∷ _ ∷ _ ∷ _ ∷ _ ∷ _ ∷ _ ∷ _ ∷ _ ∷ _ ∷ _ ∷ _ ∷ _ ∷ _ ∷ _ ∷ _ ∷ []) _
    (sym c.in-Some.is ∙ c.twice_of.ensures) refl

pub returns-in-None : goal.returns-in-None
returns-in-None c =
    option_of (λ option. not (is_once (map string_bytes c.args.words.now) option)) (_ ∷ _ ∷ _ ∷ _ ∷ _ ∷ _ ∷ _ ∷ _ ∷ _ ∷ _ ∷ _ ∷ _ ∷ _ ∷ _ ∷ _ ∷ _ ∷ []) _
    (sym c.in-None.is ∙ c.twice_of.ensures) refl
