use Rattle.std.proofs.Common.{◌≡◌}
use Rattle.vip_cpu.specs.declared.cpu.Phase.TheVariants.{Boundary}
use Rattle.test_machine.proofs.processor.on_board.makes.Given as goal

abbrev pub invariant-loop-move : goal.invariant-loop-move
invariant-loop-move l = l.board.phase ≡ Boundary
