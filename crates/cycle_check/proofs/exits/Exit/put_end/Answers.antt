use Rattle.std.proofs.Common.{ap, ◌∙◌, ◌++◌}
use Rattle.std.specs.Prelude.{codes}
use Rattle.vip_byte.specs.HexText.{hex4}
use Rattle.cycle_check.proofs.Appends.{two_more}
use Rattle.cycle_check.proofs.exits.Exit.put_end.Goals as goal

pub returns-in-Some-clause-items : goal.returns-in-Some-clause-items
returns-in-Some-clause-items c =
    rw c.in-Some.is
    (two_more c.args.into.now.items (codes " to ") (hex4 c.in-Some.to) c.put.new.into.items c.put-in-Some.new.into.items c.put.ensures.items
    (c.put-in-Some.ensures.items ∙ ap (λ text. c.put.new.into.items ++ text) c.hex4.ensures))
