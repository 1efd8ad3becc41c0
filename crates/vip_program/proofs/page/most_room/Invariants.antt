use Rattle.std.proofs.Common.{ℕ, ◌≤◌, ◌<◌}
use Rattle.asm_core.specs.Labels.{label_lines}
use Rattle.vip_program.specs.Sums.{lines_room}
use Rattle.vip_program.proofs.page.most_room.Given as goal

-- the most of the addresses so far
abbrev pub invariant-loop-address : goal.invariant-loop-address
invariant-loop-address l = record { all : (address : ℕ) → address < l.address → lines_room (label_lines l.labels address) ≤ l.most }
