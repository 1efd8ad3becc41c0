use Rattle.std.proofs.Common.{◌≡◌, ◌++◌, drop}
use Rattle.std.specs.Prelude.{flat_map}
use Rattle.asm_listing.specs.Remedies.{piece}
use Rattle.asm_listing.proofs.remedies.expand.Given as goal

-- what is left gives the rest of the text
abbrev pub invariant-loop-byte : goal.invariant-loop-byte
invariant-loop-byte l =
    l.text.items ++ flat_map (piece l.word l.rest l.middle) (drop l.byte-index l.says) ≡ flat_map (piece l.word l.rest l.middle) l.says
