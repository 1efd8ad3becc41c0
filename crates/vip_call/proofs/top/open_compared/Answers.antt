use Rattle.std.proofs.Common.{Err, map, subst, sym}
use Rattle.std.specs.Prelude.{string_bytes}
use Rattle.vip_tools.proofs.WorkLemmas.{passed}
use Rattle.vip_call.specs.Words.{OpensWords}
use Rattle.vip_call.proofs.TopLemmas.{wants_behind}
use Rattle.vip_call.proofs.top.open_compared.Goals as goal

pub returns-in_err-check_roms : goal.returns-in_err-check_roms
returns-in_err-check_roms g c =
    let Opens = OpensWords (map string_bytes c.args.words.now) (g.F.Files.meaning c.args.files.now) (g.F.Files.meaning c.open.new.files) in
    passed Opens _ _ c.from_residual-in_err-check_roms.ensures.1
    (subst (λ refusal. Opens (Err refusal)) (sym c.in_err-check_roms.ensures) (wants_behind _ _ _ _ c.in_ok-prepared.ensures))
