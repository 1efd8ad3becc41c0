use Rattle.std.proofs.Common.{◌≡◌, ◌∙◌, Bor, List, ℕ, [], ◌∷◌, true, false, refl, ap, sym, map, find, option_map}
use Rattle.std.specs.Option.{option_map_or}
use Rattle.std.specs.Prelude.{bytes_eq, if◌then◌else◌, Option, Some}
use Rattle.vip_words.specs.Rules.{Word}
use Rattle.vip_words.specs.Table.{about, about_options}
use Rattle.vip_words.proofs.table.about.Goals as goal

-- a line about an option, as its bytes
abbrev line_of : Bor (List ℕ) × Bor (List ℕ) → Word × List ℕ
line_of line = (line.0.now, line.1.now)

found : (option : Word) (lines : List (Bor (List ℕ) × Bor (List ℕ)))
    → option_map line_of (find (λ line. bytes_eq option line.0.now) lines) ≡ find (λ line. bytes_eq option line.0) (map line_of lines)
found option [] = refl
found option (line ∷ lines) =
    elim (bytes_eq option line.0.now) as (λ b. option_map line_of (if b then Some line else find (λ line. bytes_eq option line.0.now) lines)
    ≡ (if b then Some (line_of line) else find (λ line. bytes_eq option line.0) (map line_of lines))) [
      | true ↦ refl
      | false ↦ found option lines
    ]

-- of the table's lines
text_of : (option : Word) (lines : List (Bor (List ℕ) × Bor (List ℕ))) (line : Option (Bor (List ℕ) × Bor (List ℕ)))
    → line ≡ find (λ line. bytes_eq option line.0.now) lines → map line_of lines ≡ about_options
    → option_map_or (λ line. line.1) (option_map line_of line) [] ≡ about option
text_of option lines line is these =
    ap (λ line. option_map_or (λ line. line.1) (option_map line_of line) []) is
    ∙ ap (λ line. option_map_or (λ line. line.1) line []) (found option lines)
    ∙ ap (λ lines. option_map_or (λ line. line.1) (find (λ line. bytes_eq option line.0) lines) []) these

pub returns-in-Some : goal.returns-in-Some
returns-in-Some c =
    text_of c.args.option.now (_ ∷ _ ∷ _ ∷ _ ∷ _ ∷ _ ∷ _ ∷ _ ∷ _ ∷ _ ∷ _ ∷ _ ∷ _ ∷ _ ∷ _ ∷ _ ∷ []) _ (sym c.in-Some.is ∙ c.line_about.ensures) refl

pub returns-in-None : goal.returns-in-None
returns-in-None c =
    text_of c.args.option.now (_ ∷ _ ∷ _ ∷ _ ∷ _ ∷ _ ∷ _ ∷ _ ∷ _ ∷ _ ∷ _ ∷ _ ∷ _ ∷ _ ∷ _ ∷ _ ∷ []) _ (sym c.in-None.is ∙ c.line_about.ensures) refl
