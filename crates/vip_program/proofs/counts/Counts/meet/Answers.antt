use Rattle.std.proofs.Common.{sym, subst, ◌++◌, ◌∷◌, []}
use Rattle.vip_program.specs.Counts.{Counted}
use Rattle.vip_program.proofs.Counting.{none-met}
use Rattle.vip_program.proofs.counts.Counts.meet.Goals as goal

pub returns-in-None : goal.returns-in-None
returns-in-None c points counted behind =
    let none = none-met c.args.self.now points counted c.in-None.is in
    subst (λ ps. Counted c.meet_first.new.self (ps ++ c.args.point ∷ [])) (sym none)
    (c.meet_first.ensures (subst (Counted c.args.self.now) none counted))
