use Rattle.std.proofs.Common.{refl}
use Rattle.vip_program.proofs.Counting.{counted-none}
use Rattle.vip_program.proofs.counts.Counts.new.Goals as goal

pub returns : goal.returns
returns c =
    counted-none _ c.none.result c.none.ensures (c.in_ok-steps.ensures.items_if_clones_equal (λ copy is. is)) refl refl refl c.behind.ensures.framed
    c.behind.ensures.next c.behind.ensures.few
