use Rattle.std.proofs.Common.{◌≡◌, ℕ, ◌<◌, eqb, false, get_or}
use Rattle.vip_byte.proofs.line.line_len.Given as goal

-- no newline so far
abbrev pub invariant-loop-place : goal.invariant-loop-place
invariant-loop-place l = (k : ℕ) → k < l.place → eqb (get_or l.text k 0) 10 ≡ false
