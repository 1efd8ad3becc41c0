use Rattle.std.proofs.Common.{◌≡◌, drop, map, find}
use Rattle.asm_listing.specs.Habits.{row_of}
use Rattle.asm_listing.specs.Remedies.{fits}
use Rattle.asm_listing.proofs.remedies.first_that_fits.Given as goal

-- the first that fits is the first of those that are left
abbrev pub invariant-loop-row : goal.invariant-loop-row
invariant-loop-row l = find (fits l.isa l.word l.first l.text) (map row_of (drop l.row-index l.rows)) ≡ find (fits l.isa l.word l.first l.text) (map row_of l.rows)
