use Rattle.std.proofs.Common.{◌∙◌, sym}
use Rattle.vip_keypad.proofs.EntriesLemmas.{held_at-entries}
use Rattle.vip_keypad.proofs.script.stretch_in.Goals as goal

pub returns : goal.returns
returns c = λ t k from until below.
    let entries = c.args.entries.now in
    c.keys_after.ensures k below
    ∙ sym (held_at-entries entries t k c.count_until-count.result c.count_until-count.ensures.within (c.start_after.ensures t from)
    (c.end_after.ensures t until))
