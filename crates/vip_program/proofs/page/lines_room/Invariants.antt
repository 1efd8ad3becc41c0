use Rattle.std.proofs.Common.{◌≡◌, ◌++◌, map}
use Rattle.asm_core.specs.Labels.{label_lines}
use Rattle.vip_program.specs.Sums.{lines_room}
use Rattle.vip_program.proofs.page.lines_room.Given as goal

-- the room of the lines so far, and the others are left
abbrev pub invariant-loop-line : goal.invariant-loop-line
invariant-loop-line l = record {
  room : l.room ≡ lines_room (map (λ line. line.now) l.yielded);
  rest : label_lines l.labels l.address ≡ map (λ line. line.now) l.yielded ++ l.line-iterator;
}
