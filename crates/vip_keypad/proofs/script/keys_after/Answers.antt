use Rattle.std.proofs.Common.{◌≡◌, ◌+◌, ◌-◌, ◌∙◌, ap, map, take, arith}
use Rattle.vip_keypad.specs.Entries.{event_of_entry, held_after}
use Rattle.vip_keypad.proofs.script.keys_after.Goals as goal

pub returns-in_default : goal.returns-in_default
returns-in_default c = λ k below.
    let count : c.args.count - 1 + 1 ≡ c.args.count = omega (arith, c.in_default) in
    c.requires.searchable.keys (c.args.count - 1) k _ (omega (arith, c.in_default, c.requires.within)) below
    ∙ ap (λ n. held_after (map event_of_entry (take n c.args.entries.now)) k) count
