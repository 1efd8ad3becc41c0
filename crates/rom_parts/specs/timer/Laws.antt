-- What is proved of the interrupt routine.
use Rattle.std.specs.Prelude.{ℕ, List}
use Rattle.chip8_lang.specs.declared.view.Edition.{Edition}
use Rattle.rom_parts.specs.timer.Routine.{RunTick}
use Rattle.rom_parts.specs.timer.Scan.{RunScan, RunPicture}

pub record TimerLaws (rom : Edition → List ℕ) : Type 0 where
  pub tick : RunTick rom
  pub scan : RunScan rom
  pub picture : RunPicture rom
