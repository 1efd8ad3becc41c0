use Rattle.std.proofs.Common.{◌≡◌, ◌++◌, take}
use Rattle.std.specs.Prelude.{flat_map}
use Rattle.cycle_check.specs.Exits.{exit_line}
use Rattle.vip_tools.specs.Certificates.{within_line}
use Rattle.vip_tools.proofs.certificates.routine_text.Given as goal

abbrev pub invariant-loop-exit : goal.invariant-loop-exit
invariant-loop-exit l = l.text.items ≡ within_line l.fn.within ++ flat_map exit_line (take l.exit-index l.exits)
