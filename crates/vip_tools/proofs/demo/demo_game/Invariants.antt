use Rattle.std.proofs.Common.{◌≡◌}
use Rattle.vip_tools.specs.Demo.{random}
use Rattle.vip_tools.proofs.DemoLemmas.{bytes_to}
use Rattle.vip_tools.proofs.demo.demo_game.Given as goal

-- the opcodes so far, and the random number of the last one
abbrev pub invariant-loop : goal.invariant-loop
invariant-loop l = record {
  x : l.x ≡ random l.number l.counter;
  game : l.game.items ≡ bytes_to l.number l.counter;
}
