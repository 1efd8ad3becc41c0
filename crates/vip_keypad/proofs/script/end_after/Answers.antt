use Rattle.std.proofs.Common.{ap, arith}
use Rattle.std.proofs.lemmas.Bool.{lt-leb}
use Rattle.vip_keypad.proofs.script.end_after.Goals as goal

pub returns-in-Some : goal.returns-in-Some
returns-in-Some c = λ t until k d low below.
    let next = ap (λ entry. entry.cycle) (c.in-Some.ensures.lookup.3.1 d) in
    let not_before_next = c.requires.in_order c.args.count k d low below in
    lt-leb _ t (omega (arith, not_before_next, next, c.from.ensures, until))
