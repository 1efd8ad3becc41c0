use Rattle.std.proofs.Common.{◌∙◌, sym, ap, inl, inr, refl}
use Rattle.std.proofs.lemmas.Result.{err_from_is_err_and}
use Rattle.std.specs.Str.Lines.{lines}
use Rattle.cycle_check.specs.Certificate.{numbers_from}
use Rattle.cycle_check.specs.Closed.{unless}
use Rattle.cycle_check.proofs.Answered.{checked-refused, checked-silent, checked-judged}
use Rattle.cycle_check.proofs.Soundness.{accepted-within}
use Rattle.cycle_check.proofs.accept.Goals as goal

pub returns-in_err-certificate-clause-fault : goal.returns-in_err-certificate-clause-fault
returns-in_err-certificate-clause-fault c =
    let p = err_from_is_err_and c.from_residual.result c.from_residual.ensures.1 in
    rw (p.1, p.2) (elim c.in_err-certificate.ensures.fault [
      | inl none ↦ inl none
      | inr refused ↦ inr (checked-refused c.args.rom.now c.args.text.now _ refused)
    ])

pub returns-in_default-clause-fault : goal.returns-in_default-clause-fault
returns-in_default-clause-fault c =
    inr (checked-silent c.args.rom.now c.args.text.now c.in_ok-certificate.certificate c.in_ok-certificate.ensures.read (sym c.bound.ensures ∙ c.in_default.is))

pub returns-in-Some-fault_in-clause-fault : goal.returns-in-Some-fault_in-clause-fault
returns-in-Some-fault_in-clause-fault c =
    let judged = checked-judged c.args.rom.now c.args.text.now c.in_ok-certificate.certificate c.in-Some.bound c.in_ok-certificate.ensures.read
    (sym c.bound.ensures ∙ c.in-Some.is) in
    let found = rw c.lines.ensures.items at (sym c.fault_in.ensures ∙ c.in-Some-fault_in.is) in
    inr (judged ∙ rw (found, c.statement_number.ensures) refl)

pub returns-in-None-clause-accepted : goal.returns-in-None-clause-accepted
returns-in-None-clause-accepted c =
    let judged = checked-judged c.args.rom.now c.args.text.now c.in_ok-certificate.certificate c.in-Some.bound c.in_ok-certificate.ensures.read
    (sym c.bound.ensures ∙ c.in-Some.is) in
    let fine = rw c.lines.ensures.items at (sym c.fault_in.ensures ∙ c.in-None.is) in
    judged ∙ ap (unless (numbers_from 1 (lines c.args.text.now)) c.in-Some.bound) fine

pub returns-in-None-clause-within : goal.returns-in-None-clause-within
returns-in-None-clause-within c =
    let judged = checked-judged c.args.rom.now c.args.text.now c.in_ok-certificate.certificate c.in-Some.bound c.in_ok-certificate.ensures.read
    (sym c.bound.ensures ∙ c.in-Some.is) in
    let fine = rw c.lines.ensures.items at (sym c.fault_in.ensures ∙ c.in-None.is) in
    accepted-within c.args.rom.now c.args.text.now _ (record { size = c.told-rom; bytes = c.fits-rom })
    (judged ∙ ap (unless (numbers_from 1 (lines c.args.text.now)) c.in-Some.bound) fine)
