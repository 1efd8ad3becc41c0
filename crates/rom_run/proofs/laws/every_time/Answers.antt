use Rattle.rom_run.proofs.Timeline.{every_time, every_time_behind}
use Rattle.rom_run.proofs.laws.every_time.Goals as goal

pub returns : goal.returns
returns c = record { from_reset = every_time; from_any_start = every_time_behind }
