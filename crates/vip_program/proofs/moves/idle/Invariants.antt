use Rattle.std.proofs.Common.{◌≡◌, ◌-◌, ◌≤◌}
use Rattle.machine.specs.Board.{case_of}
use Rattle.vip_cpu.specs.declared.cpu.Phase.TheVariants.{Boundary}
use Rattle.vip_program.specs.Moves.{is_idle}
use Rattle.vip_program.proofs.Makes.{Making}
use Rattle.vip_program.proofs.moves.idle.Given as goal

abbrev pub invariant-loop-made : goal.invariant-loop-made
invariant-loop-made l = record {
  boundary : l.board.phase ≡ Boundary;
  few : l.made ≤ l.count;
  making : Making (λ b. is_idle (case_of b)) l.limit l.fn.board l.board l.made;
}

abbrev pub decreases-loop-made : goal.decreases-loop-made
decreases-loop-made l = l.count - l.made
