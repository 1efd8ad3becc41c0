-- The numbers of a line.
use Rattle.std.proofs.Common.{◌≡◌, ℕ, ◌<◌, true, false, List, [], ◌∷◌, ◌++◌, length, None, Err, refl, ap, ◌∙◌, arith, inl, inr}
use Rattle.std.specs.Option.{unwrap_or}
use Rattle.std.proofs.lemmas.Bool.{cases_Bool, lt-leb}
use Rattle.std.proofs.lemmas.List.{append-nil, length-append, length-map}
use Rattle.std.proofs.lemmas.List.Folds.{list_all-append}
use Rattle.game_check.specs.declared.fault.ProofCause.TheVariants.{BadLine}
use Rattle.game_check.specs.Grammar.{are_words, claim_by, claim_of, values, word_of}

-- the first words `done` of a line are these numbers; `left` are the others
pub record AreReadUpTo (all done left : List (List ℕ)) (numbers : List ℕ) : Type 0 where
  pub whole : all ≡ done ++ left
  pub words : are_words done ≡ true
  pub worth : numbers ≡ values done

-- a word that is no number
not_words : (done : List (List ℕ)) (word : List ℕ) (left : List (List ℕ)) → are_words done ≡ true → word_of word ≡ None
    → are_words (done ++ word ∷ left) ≡ false
not_words done word left words is = list_all-append _ done (word ∷ left) ∙ rw (words, is) refl

pub claim-none : (all done : List (List ℕ)) (word : List ℕ) (left : List (List ℕ)) (numbers : List ℕ)
    → AreReadUpTo all done (word ∷ left) numbers → word_of word ≡ None → claim_of all ≡ Err BadLine
unfolding claim_of
claim-none all done word left numbers so_far is = rw (so_far.whole, not_words done word left so_far.words is) refl

-- too many numbers
claim_by-long : (numbers : List ℕ) → 15 < length numbers → claim_by numbers ≡ Err BadLine
unfolding claim_by
claim_by-long [] long = absurd (omega (arith, long))
claim_by-long (a ∷ []) long = absurd (omega (arith, long))
claim_by-long (a ∷ b ∷ []) long = absurd (omega (arith, long))
claim_by-long (a ∷ b ∷ c ∷ stack) long = rw (lt-leb (length stack) 12 (omega (arith, long))) refl

claim-long : (words : List (List ℕ)) → 15 < length words → claim_of words ≡ Err BadLine
unfolding claim_of
claim-long words long = elim (cases_Bool (are_words words)) [
  | inl all ↦ rw all (claim_by-long (values words) (omega (arith, long, length-map words (λ word. unwrap_or (word_of word) 0))))
  | inr other ↦ rw other refl
]

pub claim-full : (all done : List (List ℕ)) (word : List ℕ) (left : List (List ℕ)) (numbers : List ℕ)
    → AreReadUpTo all done (word ∷ left) numbers → length numbers ≡ 15 → claim_of all ≡ Err BadLine
claim-full all done word left numbers so_far full =
    claim-long all
    (omega (
      arith,
      full,
      ap length so_far.whole,
      length-append done (word ∷ left),
      ap length so_far.worth,
      length-map done
          (λ word. unwrap_or (word_of word) 0),
    ))

-- all words
pub claim-whole : (all done : List (List ℕ)) (numbers : List ℕ) → AreReadUpTo all done [] numbers → claim_of all ≡ claim_by numbers
unfolding claim_of
claim-whole all done numbers so_far = rw (so_far.whole, append-nil, so_far.words, so_far.worth) refl
