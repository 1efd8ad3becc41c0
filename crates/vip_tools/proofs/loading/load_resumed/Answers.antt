use Rattle.std.proofs.Common.{Global}
use Rattle.vip_words.specs.Request.{map_resumed}
use Rattle.vip_tools.specs.Loading.{ResumedLoads}
use Rattle.vip_tools.proofs.LoadingLemmas.{resumed-file, resumed-keys, resumed-loads, resumed-show}
use Rattle.vip_tools.proofs.WorkLemmas.{passed}
use Rattle.vip_tools.proofs.loading.load_resumed.Goals as goal

pub returns-in_err-state : goal.returns-in_err-state
returns-in_err-state g c =
    let asked = map_resumed (λ name. name.now) c.args.run in
    passed (ResumedLoads {Z = Global} _ _ asked) _ _ c.from_residual.ensures.1
    (resumed-file _ _ (g.F.Files.meaning c.args.files.now) asked _ c.program_state_file.ensures c.in_err-state.field-0.0 c.in_err-state.ensures)

pub returns-in_err-show : goal.returns-in_err-show
returns-in_err-show g c =
    let asked = map_resumed (λ name. name.now) c.args.run in
    passed (ResumedLoads {Z = Global} _ _ asked) _ _ c.from_residual-in_err-show.ensures.1
    (resumed-show _ _ _ asked _ c.program_state_file.ensures c.in_ok-state.state c.in_ok-state.ensures c.in_err-show.field-0.0 c.in_err-show.ensures)

pub returns-in_err-keys : goal.returns-in_err-keys
returns-in_err-keys g c =
    let asked = map_resumed (λ name. name.now) c.args.run in
    passed (ResumedLoads {Z = Global} _ _ asked) _ _ c.from_residual-in_err-keys.ensures.1
    (resumed-keys _ _ _ asked _ c.program_state_file.ensures c.in_ok-state.state c.in_ok-state.ensures _ c.in_ok-show.show c.in_err-keys.field-0.0 c.in_ok-show.ensures c.in_err-keys.ensures)

pub returns : goal.returns
returns g c =
    resumed-loads _ _ _ (map_resumed (λ name. name.now) c.args.run) _ c.program_state_file.ensures c.in_ok-state.state c.in_ok-state.ensures _
    c.in_ok-show.show c.in_ok-keys.keys c.in_ok-show.ensures c.in_ok-keys.ensures
