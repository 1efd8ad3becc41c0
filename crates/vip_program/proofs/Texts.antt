-- Texts that are appended one behind the other.
use Rattle.std.proofs.Common.{◌≡◌, ℕ, zero, suc, ◌<◌, List, [], ◌++◌, length, sym, ap, ◌∙◌, append_assoc, arith}
use Rattle.std.specs.Prelude.{◌≤◌, codes, decimal}
use Rattle.std.proofs.lemmas.Fmt.{length-decimal-le}
use Rattle.machine.specs.Board.{Machine, Case, case_of}
use Rattle.machine.specs.Board.Case.{Idle}
use Rattle.machine.specs.Keys.{Keys}
use Rattle.machine.specs.Run.{states}
use Rattle.vip_board.proofs.Along.{length-states}
use Rattle.vip_program.specs.Lines.{cycle_column, line_of, line_from, moves_text}

pub appended : (old middle new first second : List ℕ) → middle ≡ old ++ first → new ≡ middle ++ second → new ≡ old ++ (first ++ second)
appended old middle new first second before more = more ∙ ap (λ text. text ++ second) before ∙ append_assoc old first second

module _ (rom : List ℕ) (held : ℕ → Keys) (b : Machine) (old new : List ℕ) where
  -- what is appended is what the line says, where the first move has this case
  pub says : (k : Case) (moves : List Machine) → case_of b ≡ k → new ≡ old ++ moves_text rom held k b moves
      → new ≡ old ++ moves_text rom held (case_of b) b moves
  says k moves is text = text ∙ sym (ap (λ k. old ++ moves_text rom held k b moves) is)

  -- the idle cycles of a stretch
  pub says-idle : (middle : List ℕ) (made : ℕ) → case_of b ≡ Idle → middle ≡ old ++ codes " IDLE " → new ≡ middle ++ decimal made
      → new ≡ old ++ moves_text rom held (case_of b) b (states rom held b made)
  says-idle middle made is before more =
      says Idle (states rom held b made) is
      (appended old middle new (codes " IDLE ") (decimal made) before more
      ∙ ap (λ n. old ++ (codes " IDLE " ++ decimal n)) (sym (length-states rom held made b)))

  -- a whole line, without its end
  pub line-is : (made : ℕ) → 0 < made → (first : List ℕ) → first ≡ [] ++ cycle_column b
      → new ≡ first ++ moves_text rom held (case_of b) b (states rom held b made)
      → new ≡ line_of rom held (states rom held b made)
  unfolding line_from
  line-is zero some first x y = absurd (omega (arith, some))
  line-is (suc n) some first x y = y ∙ ap (λ text. text ++ moves_text rom held (case_of b) b (states rom held b (suc n))) x

-- a number of at most ten digits
pub short : (n : ℕ) (text : List ℕ) → n < 10_000_000_000 → text ≡ decimal n → length text ≤ 10
short n text few is = rw is (length-decimal-le 10 n (omega arith) few (omega (arith, few)))
