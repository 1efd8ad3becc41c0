use Rattle.rom_run.proofs.Run.{every_picture, every_picture_behind}
use Rattle.rom_run.proofs.laws.every_picture.Goals as goal

pub returns : goal.returns
returns c = record { from_reset = every_picture; from_any_start = every_picture_behind }
