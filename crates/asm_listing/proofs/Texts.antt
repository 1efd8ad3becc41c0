-- Texts to which more is appended.
use Rattle.std.proofs.Common.{◌≡◌, ℕ, refl, List, [], ◌∷◌, ◌++◌, ◌∙◌, Ok, Err, Result}
use Rattle.std.specs.Prelude.{OnOk, fold}
use Rattle.std.proofs.lemmas.List.{append_assoc}

pub on_ok : {X E : Type 0} {P Q : Type 0} (r : Result X E) → (P → Q) → OnOk r P → OnOk r Q
on_ok (Ok x) f p = f p
on_ok (Err e) f p = tt

-- pieces that were appended one after another
abbrev pub onto : List (List ℕ) → List ℕ → List ℕ
onto [] last = last
onto (piece ∷ pieces) last = piece ++ onto pieces last

pub all_appended : (pieces : List (List ℕ)) (text last : List ℕ) → fold (λ text piece. text ++ piece) text pieces ++ last ≡ text ++ onto pieces last
all_appended [] text last = refl
all_appended (piece ∷ pieces) text last = all_appended pieces (text ++ piece) last ∙ append_assoc text piece (onto pieces last)
