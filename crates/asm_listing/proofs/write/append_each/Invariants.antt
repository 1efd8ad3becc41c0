use Rattle.std.proofs.Common.{◌≡◌, ◌++◌, drop, List, ℕ, Bor}
use Rattle.std.specs.Prelude.{flat_map}
use Rattle.asm_listing.proofs.write.append_each.Given as goal

-- what is left gives the rest of the text
abbrev pub invariant-loop-part : goal.invariant-loop-part
invariant-loop-part l =
    l.text.items ++ flat_map (λ (part : Bor (List ℕ)). part.now) (drop l.part-index l.parts)
    ≡ l.fn.text.items ++ flat_map (λ (part : Bor (List ℕ)). part.now) l.parts
