use Rattle.std.proofs.Common.{◌≡◌, take}
use Rattle.std.specs.List.{flat_map}
use Rattle.vip_tools.specs.Help.{option_text}
use Rattle.vip_tools.proofs.pages.options_text.Given as goal

-- the options that were gone through
abbrev pub invariant-loop-option : goal.invariant-loop-option
invariant-loop-option l = l.text.items ≡ flat_map (λ option. option_text option.now) (take l.option-index l.options)
