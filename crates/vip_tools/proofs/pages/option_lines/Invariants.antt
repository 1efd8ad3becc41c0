use Rattle.std.proofs.Common.{◌≡◌, take}
use Rattle.std.specs.List.{flat_map}
use Rattle.vip_tools.specs.Help.{option_line}
use Rattle.vip_tools.proofs.pages.option_lines.Given as goal

-- the lines of the options that were gone through
abbrev pub invariant-loop-option : goal.invariant-loop-option
invariant-loop-option l = l.text.items ≡ flat_map (λ option. option_line option.now) (take l.option-index l.options)
