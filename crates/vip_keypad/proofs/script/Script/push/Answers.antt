use Rattle.std.proofs.Common.{◌∙◌, ap, sym, cond, eqb}
use Rattle.vip_keypad.specs.Entries.{held_after}
use Rattle.vip_keypad.proofs.EntriesLemmas.{AreSearchable-push}
use Rattle.vip_keypad.proofs.script.Script.push.Goals as goal

pub invariant_of-self-2 : goal.invariant_of-self-2
invariant_of-self-2 c =
    let event = c.event.inside in
    let above = rw (← c.self.view_is, ← c.event.view_is) at c.requires in
    rw c.in_ok-push.ensures.items
    (AreSearchable-push c.self.inside.entries.items _ c.self.invariant above
    (λ k below. c.after-keys.ensures k below
    ∙ ap (cond (eqb event.key k) event.down) (c.last_keys.ensures k below ∙ ap (λ events. held_after events k) (sym c.self.view_is))))
