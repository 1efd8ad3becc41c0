use Rattle.rom_board.proofs.LeastBounds.{every_bound, every_taken}
use Rattle.rom_board.proofs.LeastKeys.{every_boot, every_key_bound, key_missed, key_taken}
use Rattle.rom_board.proofs.LeastRuns.{every_point, every_point_behind}
use Rattle.rom_board.proofs.bounds.least_bounds.Goals as goal

pub returns : goal.returns
returns c = record {
  boot = every_boot;
  points = every_point;
  points_behind = every_point_behind;
  holds = every_bound;
  taken = every_taken;
  key = every_key_bound;
  key_taken = key_taken;
  key_missed = key_missed;
}
