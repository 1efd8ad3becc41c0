use Rattle.std.proofs.Common.{◌≡◌, ◌-◌, ◌<◌, false}
use Rattle.machine.specs.Instruction.{at}
use Rattle.vip_cpu.specs.declared.cpu.Phase.TheVariants.{Boundary}
use Rattle.vip_board.specs.Moves.{later, Passes, Worked}
use Rattle.vip_board.proofs.board.Board.work.Given as goal

-- so many instructions are made, and behind the last one the board doesn't have to be looked at
abbrev pub invariant-loop-stops : goal.invariant-loop-stops
invariant-loop-stops g l =
    record {
      worked : Worked l.most (g.S.Stops.stands l.stops) l.fn.self l.self l.made l.passed;
      here : 0 < l.made → Passes (g.S.Stops.stands l.stops) l.fn.self (later l.self l.passed);
      boundary : l.self.phase ≡ Boundary;
      awake : l.self.machine.regs.idle ≡ false;
      address : l.address ≡ at l.self.machine.regs l.self.machine.regs.p;
    }

-- the cycles that are left
abbrev pub decreases-loop-stops : goal.decreases-loop-stops
decreases-loop-stops g l = l.most - l.passed
