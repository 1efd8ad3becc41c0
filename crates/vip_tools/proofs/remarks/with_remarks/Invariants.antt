use Rattle.std.proofs.Common.{◌≡◌, ◌++◌, ◌∷◌}
use Rattle.std.specs.Prelude.{flat_map, zip}
use Rattle.vip_tools.specs.Remarks.{remarked_line, with_remarks}
use Rattle.vip_tools.proofs.remarks.with_remarks.Given as goal

-- what is written, with the lines that are left, is the whole text
abbrev pub invariant-loop-line : goal.invariant-loop-line
invariant-loop-line l =
    l.all.items ++ flat_map (λ pair. remarked_line l.origins pair.0 pair.1) (zip (l.before ∷ l.line-iterator) l.line-iterator)
    ≡ with_remarks l.origins l.text
