-- The parts of a chip between two moves.
use Rattle.std.specs.Prelude.{◌≤◌, ◌==◌, if◌then◌else◌, Some, None}
use Rattle.vip_video.specs.Chip.{Chip}
use Rattle.vip_video.specs.Kept.{HasRoom}
use Rattle.vip_video.specs.Lines.{so_far, AreFilled}
use Rattle.vip_video.specs.declared.parts.VideoParts.{VideoParts}

-- the chip that they are of; the display is as it was when the last cycle ended
abbrev pub chip_of : VideoParts → Chip
chip_of p =
    record {
      cycles = p.cycles;
      on = p.on;
      cycle_on = p.on;
      pictures =
          record {
            shown = p.shown;
            lines = so_far p.lines p.lengths;
            count = p.count;
            finished = if p.count == 0 then None else Some p.finished;
          };
    }

-- a chip can have them: there are no more pictures than cycles, no line has more than its bytes so far, and in the frame there is room for those to come
pub record ArePossible (p : VideoParts) : Type 0 where
  pub count : p.count ≤ p.cycles
  pub filled : AreFilled p.lines p.lengths
  pub room : HasRoom p.cycles (so_far p.lines p.lengths)
