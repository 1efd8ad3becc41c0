use Rattle.std.proofs.Common.{◌≡◌, ℕ, ◌*◌, ◌≤◌, List}
use Rattle.vip_program.specs.declared.counts.Point.{Point}
use Rattle.vip_program.specs.Counts.{Counted}
use Rattle.vip_program.specs.Figures.{most_number}
use Rattle.vip_program.specs.Profile.{Code}
use Rattle.vip_program.specs.Sums.{IsShown}
use Rattle.vip_program.proofs.Rows.{SummedTo}
use Rattle.vip_program.proofs.sums.sums_under.Given as goal

-- the rows of the addresses so far are summed up
abbrev pub invariant-loop-pc : goal.invariant-loop-pc
invariant-loop-pc g l = record {
  so_far :
      (points : List Point) (code : ℕ → Code) → Counted l.counts points → IsShown (g.C.Codes.code l.codes) code
      → SummedTo points l.origins code l.label l.from l.pc l.sums.steps l.sums.cycles;
  steps : l.sums.steps ≤ most_number * l.pc;
  cycles : l.sums.cycles ≤ most_number * l.pc;
}
