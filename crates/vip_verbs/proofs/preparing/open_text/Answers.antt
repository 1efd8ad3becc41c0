use Rattle.std.proofs.Common.{◌≡◌, ℕ, Result, arith, subst, sym}
use Rattle.std.specs.Prelude.{Vec}
use Rattle.std.specs.declared.alloc.Global.{Global}
use Rattle.vip_tools.specs.Certificates.{TimingComes}
use Rattle.vip_tools.specs.Sources.{AsmComes, DisComes, ListComes}
use Rattle.vip_tools.specs.declared.refusal.Refusal.{Refusal}
use Rattle.vip_tools.specs.Judged.{Judged}
use Rattle.vip_tools.specs.Outcome.{Output}
use Rattle.vip_tools.specs.Work.{TextAnswers}
use Rattle.vip_verbs.specs.declared.prepared.Prepared.{Prepared}
use Rattle.vip_verbs.specs.Outcome.{DigestComes, TextVerbComes}
use Rattle.vip_verbs.specs.Prepared.{PrepareAnswers, texted}
use Rattle.vip_verbs.proofs.WorkLemmas.{checked-answers, text-answers}
use Rattle.vip_verbs.proofs.preparing.open_text.Goals as goal

pub returns-in-Asm : goal.returns-in-Asm
returns-in-Asm c = rw (c.in-Asm.is, c.text.ensures) (text-answers (AsmComes c.in-Asm.isa c.in-Asm.raw c.args.file.now) _ c.asm.ensures)

pub returns-in-Check : goal.returns-in-Check
returns-in-Check c =
    rw (c.in-Check.is, c.checked.ensures) (checked-answers c.in-Check.isa c.in-Check.name c.args.file.now _ (rw c.as_slice.ensures at c.check.ensures))

pub returns-in-List : goal.returns-in-List
returns-in-List c = rw (c.in-List.is, c.text-in-List.ensures) (text-answers (ListComes c.in-List.isa c.args.file.now) _ c.list.ensures)

pub dis-requires : goal.dis-requires
dis-requires c =
    let fits = rw c.in-Dis.is at c.requires in
    let most = c.address.ensures.most in
    rw c.isa.ensures (record { least = c.address.ensures.least; most = most; fits = omega (arith, most, c.address.ensures.value, fits) })

pub returns-in-Dis : goal.returns-in-Dis
returns-in-Dis c =
    let place = c.in-Dis.place in
    rw (c.in-Dis.is, c.text-in-Dis.ensures)
    (text-answers (DisComes place.isa place.address c.args.file.now) _ (rw (c.isa.ensures, c.address.ensures.value) at c.dis.ensures))

-- (what comes of it is a variable here, since each address of the source counts in that of `timing`)
module _ (J : Judged Output) where
  by_text : (r : Result (Vec ℕ Global) Refusal) (p : Result Prepared Refusal) → p ≡ texted r → TextAnswers J r → PrepareAnswers J p
  by_text r p is answers = subst (PrepareAnswers J) (sym is) (text-answers J r answers)

pub returns-in-Timing : goal.returns-in-Timing
returns-in-Timing c =
    let comes = TimingComes c.args.file.now c.in-Timing.entry c.in-Timing.p c.in-Timing.k in
    subst (λ verb. PrepareAnswers (TextVerbComes verb c.args.file.now) c.text-in-Timing.result) (sym c.in-Timing.is)
    (by_text comes _ _ c.text-in-Timing.ensures c.timing.ensures)

pub returns-in-Digest : goal.returns-in-Digest
returns-in-Digest c = rw (c.in-Digest.is, c.text-in-Digest.ensures) (text-answers (DigestComes c.in-Digest.limit c.args.file.now) _ c.digest.ensures)
