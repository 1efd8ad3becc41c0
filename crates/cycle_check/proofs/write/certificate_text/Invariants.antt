use Rattle.std.proofs.Common.{◌≡◌, ◌++◌, take}
use Rattle.std.specs.Prelude.{flat_map}
use Rattle.cycle_check.specs.Found.{bound_text, line_text}
use Rattle.cycle_check.proofs.write.certificate_text.Given as goal

abbrev pub invariant-loop-line : goal.invariant-loop-line
invariant-loop-line l = l.text.items ≡ bound_text l.bound ++ flat_map line_text (take l.line-index l.lines)
