use Rattle.std.proofs.Common.{◌≡◌, drop}
use Rattle.chip8_image.specs.Parts.{part_among, part_of}
use Rattle.chip8_image.proofs.part.Given as goal

-- the areas up to this one don't have the address
abbrev pub invariant-loop-area : goal.invariant-loop-area
invariant-loop-area l = part_among (drop l.area-index l.area-items) l.address ≡ part_of l.address
