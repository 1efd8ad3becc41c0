-- The answer of a check, by what was read of the certificate.
use Rattle.std.proofs.Common.{◌≡◌, ℕ, List, Some, None, Result, Err, ap, sym, ◌∙◌}
use Rattle.std.specs.Str.Lines.{lines}
use Rattle.vip_byte.specs.Reading.{read, ◌>>=◌}
use Rattle.cycle_check.specs.declared.Within.{Within}
use Rattle.cycle_check.specs.declared.fault.CertCause.TheVariants.{BadLine}
use Rattle.cycle_check.specs.declared.fault.CertFault.{CertFault}
use Rattle.cycle_check.specs.declared.fault.CertFault.TheVariants.{Fault}
use Rattle.cycle_check.specs.declared.grammar.Bound.{Bound}
use Rattle.cycle_check.specs.Exits.{exits_by, exits_in, exits_of}
use Rattle.cycle_check.specs.Certificate.{Certificate, certificate_of, certificate_format, numbers_from}
use Rattle.cycle_check.specs.Closed.{checked, fault_in, judged, unless}
use Rattle.cycle_check.specs.Reading.{IsRead}

module _ (rom text : List ℕ) where
  -- the answer for what was read
  abbrev told : Certificate → Result Within CertFault
  told draft = judged rom (numbers_from 1 (lines text)) draft.lines draft.bound

  pub checked-refused : (fault : CertFault) → read certificate_format text ≡ Err fault → checked rom text ≡ Err fault
  unfolding checked
  checked-refused fault refused = ap (λ r. r >>= (λ statements. told (certificate_of statements))) refused

  checked-told : (draft : Certificate) → IsRead text draft → checked rom text ≡ told draft
  unfolding checked
  checked-told draft is_read =
      ap (λ r. r >>= (λ statements. told (certificate_of statements))) is_read.says ∙ ap told (sym is_read.is)

  pub checked-silent : (draft : Certificate) → IsRead text draft → draft.bound ≡ None → checked rom text ≡ Err (Fault 1 BadLine)
  checked-silent draft is_read none = checked-told draft is_read ∙ ap (judged rom (numbers_from 1 (lines text)) draft.lines) none

  pub checked-judged : (draft : Certificate) (bound : Bound) → IsRead text draft → draft.bound ≡ Some bound
      → checked rom text ≡ unless (numbers_from 1 (lines text)) bound (fault_in rom bound draft.lines)
  checked-judged draft bound is_read bounded = checked-told draft is_read ∙ ap (judged rom (numbers_from 1 (lines text)) draft.lines) bounded

  pub exits_in-judged : (draft : Certificate) → IsRead text draft → exits_in rom text ≡ exits_by rom draft.lines draft.bound
  unfolding exits_in
  exits_in-judged draft is_read = ap (exits_of rom) is_read.says ∙ ap (λ d. exits_by rom d.lines d.bound) (sym is_read.is)
