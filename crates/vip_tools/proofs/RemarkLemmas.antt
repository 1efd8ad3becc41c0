-- A certificate is accepted with the names of labels as it is without them.
use Rattle.std.proofs.Common.{◌≡◌, ℕ, true, List, Some, Result, Ok, Err, eqb, refl, subst, ap, ap₂, inl, inr}
use Rattle.std.specs.Prelude.{is_some, length, nat_le}
use Rattle.std.specs.Result.{result_ok}
use Rattle.std.proofs.lemmas.Bool.{and_parts, cases_Bool, eqb-true}
use Rattle.chip8_lang.specs.declared.view.Edition.{Edition}
use Rattle.asm_core.specs.Origins.{Origins}
use Rattle.cycle_check.specs.Closed.{checked}
use Rattle.cycle_check.specs.declared.Within.{Within}
use Rattle.game_check.specs.Proof.{IsAccepted, proof_of}
use Rattle.vip_tools.specs.Remarks.{is_safe, is_same, promised, proof_shown, routine_shown, says_same, with_remarks}
use Rattle.vip_tools.specs.Files.{most_text}

-- ---- of a game

counted : {F : Type 0} (r : Result ℕ F) → is_some (result_ok r) ≡ true → (count : ℕ) × (r ≡ Ok count)
counted (Ok count) is = (count, refl)
counted (Err fault) is = cc

taken : (e : Edition) (game text : List ℕ) → is_safe e game text ≡ true → IsAccepted e game text
unfolding is_safe
taken e game text is =
    let found = counted (proof_of e game text) (and_parts (nat_le (length text) most_text) _ is).1 in
    record { count = found.0; is = found.1 }

pub proof-accepted : (e : Edition) (game : List ℕ) (origins : Origins) (text : List ℕ) → IsAccepted e game text → IsAccepted e game (proof_shown e game origins text)
unfolding proof_shown
proof-accepted e game origins text accepted = elim (cases_Bool (is_safe e game (with_remarks origins text))) [
  | inl safe ↦ rw safe (taken e game (with_remarks origins text) safe)
  | inr other ↦ rw other accepted
]

-- ---- of a routine

same_within : (a b : Within) → is_same (Some a) (Some b) ≡ true → a ≡ b
same_within a b is =
    let parts = and_parts (eqb a.entry b.entry) _ is in
    let within : ℕ → ℕ → Within = λ entry limit. record { entry = entry; limit = limit } in
    ap₂ within (eqb-true a.entry b.entry parts.0) (eqb-true a.limit b.limit parts.1)

same_promise : {F : Type 0} (r : Result Within F) (within : Within) → is_same (result_ok r) (Some within) ≡ true → r ≡ Ok within
same_promise (Ok a) within is = ap Ok (same_within a within is)
same_promise (Err fault) within is = cc

pub routine-accepted : (rom : List ℕ) (origins : Origins) (text : List ℕ) (within : Within) → checked rom text ≡ Ok within
    → checked rom (routine_shown rom origins text) ≡ Ok within
unfolding routine_shown says_same
routine-accepted rom origins text within accepted = elim (cases_Bool (says_same rom (with_remarks origins text) text)) [
  | inl same ↦
      let parts = and_parts (nat_le (length (with_remarks origins text)) most_text) _ same in
      rw same (same_promise (checked rom (with_remarks origins text)) within
      (subst (λ r. is_same (promised rom (with_remarks origins text)) (result_ok r) ≡ true) accepted parts.1))
  | inr other ↦ rw other accepted
]
