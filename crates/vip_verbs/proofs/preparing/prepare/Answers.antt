use Rattle.vip_words.specs.Request.{map_code}
use Rattle.vip_tools.specs.Code.{GameComes}
use Rattle.vip_tools.specs.Certificates.{CertifyComes, CyclesComes, SafeComes}
use Rattle.vip_tools.specs.Judged.{bind}
use Rattle.vip_tools.specs.Outcome.{Writes}
use Rattle.vip_verbs.specs.Outcome.{own_text}
use Rattle.vip_verbs.proofs.WorkLemmas.{text-answers}
use Rattle.vip_verbs.proofs.preparing.prepare.Goals as goal

pub returns-in-Run : goal.returns-in-Run
returns-in-Run c = rw c.in-Run.is c.open_run.ensures

pub returns-in-Program : goal.returns-in-Program
returns-in-Program c = rw c.in-Program.is c.open_program.ensures

pub returns-in-Resumed : goal.returns-in-Resumed
returns-in-Resumed c = rw c.in-Resumed.is c.open_resumed.ensures

pub open_resumed-requires : goal.open_resumed-requires
open_resumed-requires c = rw c.in-Resumed.is at c.requires

pub open_run-requires : goal.open_run-requires
open_run-requires c = rw c.in-Run.is at c.requires

pub open_program-requires : goal.open_program-requires
open_program-requires c = rw c.in-Program.is at c.requires

pub returns-in-Text : goal.returns-in-Text
returns-in-Text c = rw c.in-Text.is (rw c.as_slice-in-Text.ensures.value at c.open_text.ensures)

pub returns-in-Cycles : goal.returns-in-Cycles
returns-in-Cycles c =
    rw (c.in-Cycles.is, c.text.ensures)
    (text-answers (CyclesComes c.in-Cycles.source.items c.in-Cycles.certificate.items c.in-Cycles.exits) _
    (rw (c.as_slice-in-Cycles.ensures.value, c.as_slice-in-Cycles-2.ensures.value) at c.cycles.ensures))

pub returns-in-Safe : goal.returns-in-Safe
returns-in-Safe c =
    let game = map_code (λ bytes. bytes.items) c.in-Safe.game in
    rw (c.in-Safe.is, c.text-in-Safe.ensures)
    (text-answers (bind (GameComes c.in-Safe.edition game) (λ game. SafeComes c.in-Safe.edition game c.in-Safe.certificate.items)) _
    (rw c.as_slice-in-Safe.ensures.value at c.safe_code.ensures))

pub returns-in-Certify : goal.returns-in-Certify
returns-in-Certify c =
    rw (c.in-Certify.is, c.text-in-Certify.ensures)
    (text-answers (bind (GameComes c.in-Certify.edition (map_code (λ bytes. bytes.items) c.in-Certify.game)) (CertifyComes c.in-Certify.edition (map_code (λ bytes. bytes.items) c.in-Certify.game))) _ c.certify.ensures)

pub returns-in-Own : goal.returns-in-Own
returns-in-Own c = rw (c.in-Own.is, c.text-in-Own.ensures) (text-answers (Writes (own_text c.in-Own.own)) _ c.own_text.ensures)
