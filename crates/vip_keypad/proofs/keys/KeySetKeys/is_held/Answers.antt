use Rattle.std.proofs.Common.{◌∙◌, sym}
use Rattle.vip_keypad.proofs.HeldLemmas.{held-key}
use Rattle.vip_keypad.proofs.keys.KeySetKeys.is_held.Goals as goal

pub returns : goal.returns
returns c = c.contains.ensures ∙ sym (held-key c.args.self.now.bits c.args._t c.args.key c.requires)
