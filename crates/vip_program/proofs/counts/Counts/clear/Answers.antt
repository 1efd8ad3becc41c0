use Rattle.std.proofs.Common.{refl, ap, ◌∙◌, replicate}
use Rattle.vip_program.proofs.Counting.{counted-none}
use Rattle.vip_program.proofs.counts.Counts.clear.Goals as goal

pub returns : goal.returns
returns c =
    counted-none _ c.none.result c.none.ensures (c.fill.ensures.items (λ copy is. is) ∙ ap (λ n. replicate n c.none.result) c.args.self.now.steps_len) refl refl refl
    c.behind-self.ensures.framed c.behind-self.ensures.next c.behind-self.ensures.few
