use Rattle.std.proofs.Common.{Global}
use Rattle.vip_tools.specs.Files.{seen_wanted}
use Rattle.vip_tools.specs.Loading.{PairLoads}
use Rattle.vip_tools.proofs.LoadingLemmas.{pair-first, pair-loads, pair-second}
use Rattle.vip_tools.proofs.WorkLemmas.{passed}
use Rattle.vip_tools.proofs.loading.load_pair.Goals as goal

pub returns-in_err-first : goal.returns-in_err-first
returns-in_err-first g c =
    passed (PairLoads {Z = Global} _ _ (seen_wanted c.args.first.now) (seen_wanted c.args.second.now)) _ _ c.from_residual.ensures.1
    (pair-first _ _ _ _ c.in_err-first.field-0.0 c.in_err-first.ensures)

pub returns-in_err-second : goal.returns-in_err-second
returns-in_err-second g c =
    passed (PairLoads {Z = Global} _ _ (seen_wanted c.args.first.now) (seen_wanted c.args.second.now)) _ _ c.from_residual-in_err-second.ensures.1
    (pair-second _ _ _ _ _ c.in_ok-first.first c.in_err-second.field-0.0 c.in_ok-first.ensures c.in_err-second.ensures)

pub returns : goal.returns
returns g c = pair-loads _ _ _ _ _ c.in_ok-first.first c.in_ok-second.second c.in_ok-first.ensures c.in_ok-second.ensures
