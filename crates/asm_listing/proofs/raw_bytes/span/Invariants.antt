use Rattle.asm_listing.specs.Raw.{IsSpan}
use Rattle.asm_listing.proofs.raw_bytes.span.Given as goal

-- the span of the addresses before this one
abbrev pub invariant-loop-address : goal.invariant-loop-address
invariant-loop-address l = IsSpan l.made l.address l.span
