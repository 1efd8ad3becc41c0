-- What a certificate proves, or its first fault.
use Rattle.std.specs.Prelude.{◌≡◌, ℕ, if◌then◌else◌, List, length, Option, Some, None, Result, Ok, Err}
use Rattle.vip_byte.specs.Reading.{Format, read, ◌>>=◌}
use Rattle.chip8_lang.specs.declared.view.Edition.{Edition}
use Rattle.game_check.specs.declared.claim.Claim.{Claim}
use Rattle.game_check.specs.declared.fault.ProofCause.{ProofCause}
use Rattle.game_check.specs.declared.fault.ProofCause.TheVariants.{NoStart}
use Rattle.game_check.specs.declared.fault.ProofFault.{ProofFault}
use Rattle.game_check.specs.declared.fault.ProofFault.TheVariants.{Fault}
use Rattle.game_check.specs.Grammar.{said, read_claims}
use Rattle.game_check.specs.Closed.{cause_in, has_start}

-- among some claims a line is refused where it says one that isn't closed
unfoldable pub refusal : Edition → List ℕ → List Claim → Result (Option Claim) ProofCause → Option ProofCause
refusal e game claims (Err cause) = Some cause
refusal e game claims (Ok None) = None
refusal e game claims (Ok (Some claim)) = cause_in e game claims claim

abbrev pub closed_format : Edition → List ℕ → List Claim → Format Claim ProofCause ProofFault
closed_format e game claims = record { said = said; refused = λ before says. refusal e game claims says; fault = Fault }

-- one of the claims is of the start, which is said of line 1
abbrev pub started : List Claim → Result (List Claim) ProofFault
started claims = if has_start claims then Ok claims else Err (Fault 1 NoStart)

-- How many lines of a certificate say something, or its first fault: all lines are looked through for their form and order, then the start is
-- looked for, and then all lines are looked through for whether they are closed.
unfoldable pub proof_of : Edition → List ℕ → List ℕ → Result ℕ ProofFault
proof_of e game text = do
  claims ← read_claims text
  start ← started claims
  closed ← read (closed_format e game claims) text
  Ok (length claims)

-- a certificate without a fault
pub record IsAccepted (e : Edition) (game text : List ℕ) : Type 0 where
  pub count : ℕ
  pub is : proof_of e game text ≡ Ok count
