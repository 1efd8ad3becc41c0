use Rattle.std.proofs.Common.{◌≡◌, ◌++◌, take}
use Rattle.std.specs.Prelude.{flat_map, codes}
use Rattle.cycle_check.specs.Exits.{exit_line}
use Rattle.cycle_check.specs.Found.{certificate_text}
use Rattle.cycle_check.proofs.write.text_of.Given as goal

abbrev pub invariant-loop-exit : goal.invariant-loop-exit
invariant-loop-exit l =
    l.text.items ≡ certificate_text l.bound l.lines ++ flat_map (λ exit. codes "# " ++ exit_line exit) (take l.exit-index l.exits)
