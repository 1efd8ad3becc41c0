use Rattle.std.proofs.Common.{◌≡◌, ◌-◌, ◌≤◌, vec_len}
use Rattle.vip_outside.specs.Files.{and_read}
use Rattle.vip_outside.specs.Files.Answer.{Start}
use Rattle.vip_outside.proofs.real_files.read_start.Given as goal

-- the bytes fit, and are those that the system gave so far
abbrev pub invariant-loop-bytes : goal.invariant-loop-bytes
invariant-loop-bytes g l = record {
  fits : vec_len l.bytes ≤ l.most;
  log : g.S.System.log l.system ≡ and_read l.name (Start l.bytes.items) (g.S.System.log l.fn.system);
}

-- each read but the last gives at least one byte, which fits
abbrev pub decreases-loop-bytes : goal.decreases-loop-bytes
decreases-loop-bytes g l = l.most - vec_len l.bytes
