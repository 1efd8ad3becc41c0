use Rattle.std.specs.List.{AllWithin}
use Rattle.cycle_check.specs.Found.{leaves_rom}
use Rattle.cycle_check.proofs.find.leave_rom.Given as goal

abbrev pub invariant-loop-exit : goal.invariant-loop-exit
invariant-loop-exit l = AllWithin (λ exit. leaves_rom exit.to) l.exits 0 l.exit-index
