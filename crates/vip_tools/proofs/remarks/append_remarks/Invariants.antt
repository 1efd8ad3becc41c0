use Rattle.std.proofs.Common.{◌≡◌, ◌++◌}
use Rattle.std.specs.Prelude.{codes, flat_map}
use Rattle.vip_tools.specs.Remarks.{remarks_at}
use Rattle.vip_tools.proofs.remarks.append_remarks.Given as goal

-- what is appended, with the remarks that are left, is all of them
abbrev pub invariant-loop-label : goal.invariant-loop-label
invariant-loop-label l =
    l.text.items ++ flat_map (λ label. codes "# " ++ label) l.label-iterator ≡ l.fn.text.items ++ remarks_at l.origins l.address
