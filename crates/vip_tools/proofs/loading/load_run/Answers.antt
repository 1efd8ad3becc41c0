use Rattle.std.proofs.Common.{Global}
use Rattle.vip_words.specs.Request.{map_run}
use Rattle.vip_tools.specs.Loading.{RunLoads}
use Rattle.vip_tools.proofs.LoadingLemmas.{run-keys, run-loads, run-show, run-start}
use Rattle.vip_tools.proofs.WorkLemmas.{passed}
use Rattle.vip_tools.proofs.loading.load_run.Goals as goal

pub returns-in_err-start : goal.returns-in_err-start
returns-in_err-start g c =
    let asked = map_run (λ name. name.now) c.args.run in
    passed (RunLoads {Z = Global} _ _ asked) _ _ c.from_residual.ensures.1 (run-start _ _ (g.F.Files.meaning c.args.files.now) asked c.in_err-start.field-0.0 c.in_err-start.ensures)

pub returns-in_err-show : goal.returns-in_err-show
returns-in_err-show g c =
    let asked = map_run (λ name. name.now) c.args.run in
    passed (RunLoads {Z = Global} _ _ asked) _ _ c.from_residual-in_err-show.ensures.1
    (run-show _ _ _ asked c.in_ok-start.start c.in_err-show.field-0.0 c.in_ok-start.ensures c.in_err-show.ensures)

pub returns-in_err-keys : goal.returns-in_err-keys
returns-in_err-keys g c =
    let asked = map_run (λ name. name.now) c.args.run in
    passed (RunLoads {Z = Global} _ _ asked) _ _ c.from_residual-in_err-keys.ensures.1
    (run-keys _ _ _ asked _ c.in_ok-start.start c.in_ok-show.show c.in_err-keys.field-0.0 c.in_ok-start.ensures c.in_ok-show.ensures c.in_err-keys.ensures)

pub returns : goal.returns
returns g c =
    run-loads _ _ _ (map_run (λ name. name.now) c.args.run) _ c.in_ok-start.start c.in_ok-show.show c.in_ok-keys.keys c.in_ok-start.ensures c.in_ok-show.ensures c.in_ok-keys.ensures
