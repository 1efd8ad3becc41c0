use Rattle.std.proofs.Common.{sym}
use Rattle.vip_keypad.proofs.HeldLemmas.{held-key}
use Rattle.vip_keypad.proofs.keys.KeySetKeys.stretch_at.Goals as goal

pub returns : goal.returns
returns c = λ t k from until below. sym (held-key c.args.self.now.bits t k below)
