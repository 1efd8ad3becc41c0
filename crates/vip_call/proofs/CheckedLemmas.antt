-- What is told of a source that is checked agrees with what `asm` makes of it.
use Rattle.std.proofs.Common.{◌≡◌, ◌+◌, ℕ, refl, sym, ap, ◌∙◌, List, length, Bool, true, false, inl, inr}
use Rattle.std.proofs.lemmas.Bool.{both_ways}
use Rattle.asm_lex.specs.declared.shape.Isa.{Isa}
use Rattle.asm_core.specs.Made.{IsFirstOf}
use Rattle.asm_core.specs.declared.fault.AsmFault.{AsmFault}
use Rattle.asm_core.specs.declared.fault.AsmFault.TheVariants as asm
use Rattle.asm_core.specs.Sources.{NoFault, HasFirstFault, fault_1, fault_2, source_lines}
use Rattle.asm_core.specs.Told.{told}
use Rattle.asm_core.specs.declared.fault.AsmCause.{AsmCause}
use Rattle.asm_core.proofs.Agrees.{agrees}
use Rattle.asm_core.proofs.Cells.{each_none-any, any-each_none}
use Rattle.asm_listing.specs.Told.{has_told}
use Rattle.vip_tools.specs.Judged.{cause_of}
use Rattle.vip_tools.specs.Judged.Cause.{Fault}
use Rattle.vip_tools.specs.Judged.Verdict.{Refused}
use Rattle.vip_tools.specs.Opening.{source_refusal}
use Rattle.vip_tools.specs.Sources.{AsmComes}
use Rattle.vip_tools.proofs.JudgedLemmas.{same_value}
use Rattle.vip_tools.specs.Status.{checked_status}
use Rattle.vip_tools.specs.declared.status.Status.{Status}
use Rattle.vip_tools.specs.declared.status.Status.TheVariants.{BadSource, Done}
use Rattle.vip_call.specs.Top.{AgreesWithAsm, Call, ChecksSources}

module _ (isa : Isa) (source : List (List ℕ)) where
  -- a source without a fault has no first one
  no_first : NoFault (fault_1 isa source) (length source) → NoFault (fault_2 isa source) (length source) → (line : ℕ) (cause : AsmCause)
      → HasFirstFault isa source line cause → ⊥
  no_first none none' line cause (i, at, inl first) = let here = none i first.inside in let there = first.here in cc
  no_first none none' line cause (i, at, inr first) = let here = none' i first.1.inside in let there = first.1.here in cc

-- `asm` of the same source isn't refused
pub asm_refused : (isa : Isa) (source : List ℕ) (raw : Bool) (status : Status) (report : List ℕ) → AsmComes isa raw source (Refused status report)
    → NoFault (fault_1 isa (source_lines source)) (length (source_lines source)) → NoFault (fault_2 isa (source_lines source)) (length (source_lines source)) → ⊥
asm_refused isa source raw status report (inl x) none none' = by_fault x.fault x.is x.tells
  where
    by_fault : (f : AsmFault) → IsFirstOf isa (source_lines source) f → cause_of (source_refusal f) ≡ Fault status report → ⊥
    by_fault (asm.Fault line cause) first tells = no_first isa (source_lines source) none none' line cause first
    by_fault asm.NoMemory first tells = cc
asm_refused isa source raw status report (inr made) none none' = elim made.here [
  | inl x ↦ absurd x
  | inr x ↦ let no = x.here in cc
]

-- ---- the status

done-clean : (faulty : Bool) → checked_status faulty ≡ Done → faulty ≡ false
done-clean true e = cc
done-clean false e = refl

bad-faulty : (faulty : Bool) → checked_status faulty ≡ BadSource → faulty ≡ true
bad-faulty true e = refl
bad-faulty false e = cc

agrees_with_asm : (source : List ℕ) (isa : Isa) (status : Status) → status ≡ checked_status (has_told isa (source_lines source)) → AgreesWithAsm source isa status
agrees_with_asm source isa status is = record {
  clean = λ done raw refused report comes.
      let none = (agrees isa lines).none (any-each_none (told isa lines) (length lines) (done-clean (has_told isa lines) (sym is ∙ done))) in
      asm_refused isa source raw refused report comes none.0 none.1;
  faulty = λ bad raw pieces done report comes.
      both_ways (has_told isa lines) (each_none-any (told isa lines) (length lines) ((agrees isa lines).told_none comes.gives.no_fault_1 comes.gives.no_fault_2))
      (bad-faulty (has_told isa lines) (sym is ∙ bad));
  first = λ i finding first raw. inl (record { fault = asm.Fault (i + 1) finding.cause; is = (agrees isa lines).first i finding first; tells = refl });
}
  where
    lines : List (List ℕ)
    lines = source_lines source

pub checks_sources : (call : Call) → ChecksSources call
checks_sources call asked source name isa pieces status report asks comes =
    agrees_with_asm source isa status (ap (λ o. o.status) (same_value (record { pieces = pieces; status = status; report = report }) _ comes))
