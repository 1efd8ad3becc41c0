use Rattle.std.proofs.Common.{◌≡◌, ℕ, ◌<◌, false, get_or}
use Rattle.vip_byte.specs.Text.{is_blank}
use Rattle.vip_byte.proofs.line.word_len.Given as goal

-- no blank so far
abbrev pub invariant-loop-place : goal.invariant-loop-place
invariant-loop-place l = (k : ℕ) → k < l.place → is_blank (get_or l.line k 0) ≡ false
