use Rattle.std.proofs.Common.{◌≡◌, ◌+◌, ◌++◌, ◌≤◌, length, map, vec_capacity}
use Rattle.std.specs.List.{flat_map}
use Rattle.asm_core.specs.Labels.{label_lines}
use Rattle.vip_program.specs.Profile.{sum_line}
use Rattle.vip_program.specs.Sums.{lines_room}
use Rattle.vip_program.proofs.profile_text.append_sums.Given as goal

-- the lines so far are written, and there is room for the others
abbrev pub invariant-loop-line : goal.invariant-loop-line
invariant-loop-line l = record {
  text : l.text.items ≡ l.fn.text.items ++ flat_map (sum_line l.sums.steps l.sums.cycles) (map (λ line. line.now) l.yielded);
  rest : label_lines l.origins.labels l.address ≡ map (λ line. line.now) l.yielded ++ l.line-iterator;
  size : length l.text.items + lines_room l.line-iterator ≤ length l.fn.text.items + lines_room (label_lines l.origins.labels l.address);
  room : vec_capacity l.fn.text ≤ vec_capacity l.text;
}
