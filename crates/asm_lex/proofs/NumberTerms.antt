-- An operand is a number exactly where each of its terms is a term and no register.
use Rattle.std.proofs.Common.{◌≡◌, ◌∙◌, ap, sym, ℕ, refl, Bool, true, false, List, [], ◌∷◌}
use Rattle.std.specs.Prelude.{◌&&◌, ◌||◌, not}
use Rattle.std.specs.List.{list_all, list_any}
use Rattle.asm_lex.specs.declared.shape.Isa.{Isa}
use Rattle.asm_lex.specs.declared.shape.Isa.TheVariants.{Cdp1802, Chip8}
use Rattle.asm_lex.specs.Expressions.{is_expression, is_term, terms_of, sum_in}
use Rattle.asm_lex.specs.Names.{Names, is_number, is_register, names_register}

abbrev pub is_number_term : Isa → Names → List ℕ → Bool
is_number_term isa names term = is_term isa term && not (is_register isa names term)

-- both of two conditions of bits
both : (p a r b : Bool) → ((p && a) && not (r || b)) ≡ ((p && not r) && (a && not b))
both false a r b = refl
both true false r b = by_second r
  where
    by_second : (r : Bool) → false ≡ (not r && false)
    by_second true = refl
    by_second false = refl
both true true true b = refl
both true true false b = refl

all_apart : (p r : List ℕ → Bool) (terms : List (List ℕ)) → (list_all p terms && not (list_any r terms)) ≡ list_all (λ term. p term && not (r term)) terms
all_apart p r [] = refl
all_apart p r (t ∷ ts) = both (p t) (list_all p ts) (r t) (list_any r ts) ∙ ap (λ rest. (p t && not (r t)) && rest) (all_apart p r ts)

none_there : (terms : List (List ℕ)) → list_any (λ term. false) terms ≡ false
none_there [] = refl
none_there (t ∷ ts) = none_there ts

registers_there : (isa : Isa) (names : Names) (text : List ℕ) → names_register isa names text ≡ list_any (is_register isa names) (terms_of (sum_in text))
unfolding names_register is_register
registers_there Cdp1802 names text = sym (none_there (terms_of (sum_in text)))
registers_there Chip8 names text = refl

pub number_by_terms : (isa : Isa) (names : Names) (text : List ℕ) → is_number isa names text ≡ list_all (is_number_term isa names) (terms_of (sum_in text))
unfolding is_number is_expression
number_by_terms isa names text =
    ap (λ found. list_all (is_term isa) (terms_of (sum_in text)) && not found) (registers_there isa names text)
    ∙ all_apart (is_term isa) (is_register isa names) (terms_of (sum_in text))
