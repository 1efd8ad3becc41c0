use Rattle.std.proofs.Common.{◌≡◌}
use Rattle.vip_cpu.specs.declared.cpu.Phase.TheVariants.{Boundary}
use Rattle.test_machine.proofs.processor.small_rom.follows.Given as goal

abbrev pub invariant-loop-line : goal.invariant-loop-line
invariant-loop-line l = l.board.phase ≡ Boundary
