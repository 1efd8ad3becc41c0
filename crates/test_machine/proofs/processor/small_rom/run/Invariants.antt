use Rattle.std.proofs.Common.{◌≡◌}
use Rattle.vip_cpu.specs.declared.cpu.Phase.TheVariants.{Boundary}
use Rattle.test_machine.proofs.processor.small_rom.run.Given as goal

abbrev pub invariant-loop-move : goal.invariant-loop-move
invariant-loop-move l = l.board.phase ≡ Boundary
