use Rattle.vip_words.specs.Request.{asked_of}
use Rattle.vip_tools.specs.Files.{loaded_of}
use Rattle.vip_tools.proofs.WorkLemmas.{passed}
use Rattle.vip_verbs.specs.Prepared.{OpenAnswers}
use Rattle.vip_verbs.proofs.WorkLemmas.{files-refused, open-answers}
use Rattle.vip_verbs.proofs.preparing.open.Goals as goal

pub returns-in_err-request : goal.returns-in_err-request
returns-in_err-request g c =
    passed (OpenAnswers (asked_of c.args.request) (g.F.Files.meaning c.args.files.now) (g.F.Files.meaning c.load.new.files)) _ _
    c.from_residual.ensures.1 (files-refused _ _ _ _ c.in_err-request.ensures)

pub prepare-requires : goal.prepare-requires
prepare-requires g c = c.in_ok-request.ensures.loads.fit

pub returns : goal.returns
returns g c = open-answers _ _ _ (loaded_of c.in_ok-request.request) c.in_ok-request.ensures _ c.prepare.ensures
