use Rattle.std.proofs.Common.{◌≡◌, ◌+◌, ◌-◌}
use Rattle.vip_device.proofs.Moving.{Moves}
use Rattle.vip_device.proofs.run.run_board.Given as goal

-- the board made moves alone
abbrev pub invariant-loop-code : goal.invariant-loop-code
invariant-loop-code g l =
    record { moves : Moves l.fn.board l.board; rom : l.device.rom ≡ l.fn.device.rom; kind : l.device.kind ≡ l.fn.device.kind }

-- the cycles that are left
abbrev pub decreases-loop-code : goal.decreases-loop-code
decreases-loop-code g l = l.limit + 1 - l.board.machine.cycle
