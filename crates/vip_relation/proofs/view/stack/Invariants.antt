use Rattle.std.proofs.Common.{◌≡◌}
use Rattle.chip8_lang.specs.Editions.{stack_top}
use Rattle.chip8_lang.specs.Places.{addresses}
use Rattle.vip_relation.proofs.view.stack.Given as goal

-- the first addresses are there
abbrev pub invariant-loop-k : goal.invariant-loop-k
invariant-loop-k l = l.addresses.items ≡ addresses l.memory.ram (stack_top l.fn.edition) l.k
