use Rattle.std.proofs.Common.{Global}
use Rattle.vip_words.specs.Request.{map_program}
use Rattle.vip_tools.specs.Loading.{ProgramLoads}
use Rattle.vip_tools.proofs.LoadingLemmas.{program-file, program-keys, program-loads, program-show}
use Rattle.vip_tools.proofs.WorkLemmas.{passed}
use Rattle.vip_tools.proofs.loading.load_program.Goals as goal

pub returns-in_err-content : goal.returns-in_err-content
returns-in_err-content g c =
    let asked = map_program (λ name. name.now) c.args.run in
    passed (ProgramLoads {Z = Global} _ _ asked) _ _ c.from_residual.ensures.1 (program-file _ _ (g.F.Files.meaning c.args.files.now) asked _ c.program_code.ensures c.in_err-content.field-0.0 c.in_err-content.ensures)

pub returns-in_err-show : goal.returns-in_err-show
returns-in_err-show g c =
    let asked = map_program (λ name. name.now) c.args.run in
    passed (ProgramLoads {Z = Global} _ _ asked) _ _ c.from_residual-in_err-show.ensures.1
    (program-show _ _ _ asked _ c.program_code.ensures c.in_ok-content.content c.in_ok-content.ensures c.in_err-show.field-0.0 c.in_err-show.ensures)

pub returns-in_err-keys : goal.returns-in_err-keys
returns-in_err-keys g c =
    let asked = map_program (λ name. name.now) c.args.run in
    passed (ProgramLoads {Z = Global} _ _ asked) _ _ c.from_residual-in_err-keys.ensures.1
    (program-keys _ _ _ asked _ c.program_code.ensures c.in_ok-content.content c.in_ok-content.ensures _ c.in_ok-show.show c.in_err-keys.field-0.0 c.in_ok-show.ensures c.in_err-keys.ensures)

pub returns : goal.returns
returns g c =
    program-loads _ _ _ (map_program (λ name. name.now) c.args.run) _ c.program_code.ensures c.in_ok-content.content c.in_ok-content.ensures _ _
    c.in_ok-show.show c.in_ok-keys.keys c.with_file.ensures c.in_ok-show.ensures c.in_ok-keys.ensures
