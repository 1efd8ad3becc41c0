use Rattle.std.proofs.Common.{◌+◌, ◌-◌, ◌<◌}
use Rattle.vip_board.specs.Moves.{Made}
use Rattle.vip_board.proofs.Through.{Looks}
use Rattle.vip_board.proofs.board.Board.run.Given as goal

-- so many moves are made, and behind the last one the board doesn't have to be looked at
abbrev pub invariant-loop-stops : goal.invariant-loop-stops
invariant-loop-stops g l =
    record {
      made : Made l.limit (g.S.Stops.stands l.stops) l.fn.self l.self l.made;
      here : 0 < l.made → Looks (g.S.Stops.stands l.stops) l.fn.self l.self;
    }

-- the cycles that are left
abbrev pub decreases-loop-stops : goal.decreases-loop-stops
decreases-loop-stops g l = l.limit + 1 - l.self.machine.cycle
