use Rattle.std.proofs.Common.{◌≡◌, ◌-◌, ◌<◌, ◌∙◌, length, get_or, ap, arith}
use Rattle.std.proofs.lemmas.Bool.{le-leb}
use Rattle.std.proofs.lemmas.List.{get_or_default}
use Rattle.vip_keypad.proofs.script.start_after.Goals as goal

pub returns-in_default : goal.returns-in_default
returns-in_default c = λ t from k d low below.
    let entries = c.args.entries.now in
    let last = c.args.count - 1 in
    let there : last < length entries = omega (arith, c.in_default, c.requires.within) in
    let is : c.from.result ≡ (get_or entries last d).cycle = c.from.ensures ∙ ap (λ entry. entry.cycle) (get_or_default entries last _ d there) in
    let not_past_last = c.requires.in_order k last d (omega (arith, below)) there in
    le-leb _ t (omega (arith, not_past_last, is, from))
