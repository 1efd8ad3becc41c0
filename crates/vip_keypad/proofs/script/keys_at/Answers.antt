use Rattle.std.proofs.Common.{◌∙◌, sym}
use Rattle.vip_keypad.proofs.EntriesLemmas.{held_at-entries}
use Rattle.vip_keypad.proofs.script.keys_at.Goals as goal

pub returns : goal.returns
returns c = λ k below.
    c.keys_after.ensures k below
    ∙ sym (held_at-entries c.args.entries.now c.args.t k c.count_until.result c.count_until.ensures.within c.count_until.ensures.past
    c.count_until.ensures.future)
