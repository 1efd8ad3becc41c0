use Rattle.vip_keypad.proofs.KeySetLemmas.{has_key-clear, has_key-set}
use Rattle.vip_keypad.proofs.key_set.KeySet.after.Goals as goal

pub returns-then-down : goal.returns-then-down
returns-then-down c = λ k below. rw c.if-down.true (has_key-set c.args.self.bits c.args.key k c.requires)

pub returns-else-down : goal.returns-else-down
returns-else-down c = λ k below. rw c.if-down.false (has_key-clear c.args.self.bits c.args.key k c.requires below)
