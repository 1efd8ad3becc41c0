-- One command more.
use Rattle.std.proofs.Common.{◌≡◌, ℕ, zero, suc, ◌+◌, ◌<◌, ◌≤◌, List, [], ◌∷◌, ◌++◌, length, take, drop, get_or, refl, sym, ap, ◌∙◌, arith, append_assoc, append-nil}
use Rattle.std.proofs.lemmas.List.{take-append-drop, take_more}
use Rattle.std.proofs.Math.Seq.{drop-cons}
use Rattle.vip_words.specs.declared.debug_commands.Command.{Command}
use Rattle.vip_words.specs.Spoken.{Spoken}
use Rattle.vip_debug.specs.Fold.{after_all, all_pieces, echoed}

module _ {P : Type 0} (after : Command → P → P) (pieces : Command → P → List (List ℕ)) where
  pub after-more : (cs : List Spoken) (c : Spoken) (p : P) → after_all after (cs ++ c ∷ []) p ≡ after c.command (after_all after cs p)
  after-more [] c p = refl
  after-more (x ∷ cs) c p = after-more cs c (after x.command p)

  pub pieces-more : (cs : List Spoken) (c : Spoken) (rest : List Spoken) (p : P)
      → all_pieces after pieces (cs ++ c ∷ rest) p ≡ all_pieces after pieces cs
      p ++ (echoed c (pieces c.command (after_all after cs p)) ++ all_pieces after pieces rest (after c.command (after_all after cs p)))
  pieces-more [] c rest p = refl
  pieces-more (x ∷ cs) c rest p =
      ap (λ more. echoed x (pieces x.command p) ++ more) (pieces-more cs c rest (after x.command p))
      ∙ sym (append_assoc (echoed x (pieces x.command p)) (all_pieces after pieces cs (after x.command p))
      (echoed c (pieces c.command (after_all after cs (after x.command p))) ++ all_pieces after pieces rest
      (after c.command (after_all after cs (after x.command p)))))

  pub pieces-last : (cs : List Spoken) (c : Spoken) (p : P) → all_pieces after pieces (cs ++ c ∷ []) p ≡ all_pieces after pieces cs p
      ++ echoed c (pieces c.command (after_all after cs p))
  pieces-last cs c p = pieces-more cs c [] p ∙ ap (λ more. all_pieces after pieces cs p ++ more) (append-nil (echoed c (pieces c.command (after_all after cs p))))

-- ---- by a place in all commands

-- the commands before one, that one, and those behind it
pub split-at : (cs : List Spoken) (k : ℕ) (c : Spoken) → k < length cs → c ≡ get_or cs k c → cs ≡ take k cs ++ c ∷ drop (suc k) cs
split-at cs k c below is =
    sym (take-append-drop k cs) ∙ ap (λ more. take k cs ++ more) (drop-cons cs k c below ∙ ap (λ d. d ∷ drop (suc k) cs) (sym is))

-- those up to one
pub taken-to : (cs : List Spoken) (k : ℕ) (c : Spoken) → k < length cs → c ≡ get_or cs k c → take (k + 1) cs ≡ take k cs ++ c ∷ []
taken-to cs k c below is = take_more cs k c below ∙ ap (λ d. take k cs ++ d ∷ []) (sym is)

pub all-taken : (cs : List Spoken) (k : ℕ) → length cs ≤ k → take k cs ≡ cs
all-taken [] zero past = refl
all-taken [] (suc k) past = refl
all-taken (c ∷ cs) zero past = absurd (omega (arith, past))
all-taken (c ∷ cs) (suc k) past = ap (λ more. c ∷ more) (all-taken cs k (omega (arith, past)))
