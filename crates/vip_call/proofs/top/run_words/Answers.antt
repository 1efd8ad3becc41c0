use Rattle.vip_call.proofs.TopLemmas.{opened_ready}
use Rattle.vip_call.proofs.top.run_words.Goals as goal

pub end-requires : goal.end-requires
end-requires g c = opened_ready _ _ _ _ c.open-opened.ensures

pub returns : goal.returns
returns g c = c.every_call.ensures _ _ _ _ _ _ _ _ _ c.open-opened.ensures c.end.ensures
