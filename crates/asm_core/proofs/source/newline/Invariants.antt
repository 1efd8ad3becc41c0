use Rattle.std.proofs.Common.{◌≡◌, ℕ, ◌<◌, false, get_or}
use Rattle.asm_core.specs.Cuts.{is_newline}
use Rattle.asm_core.proofs.source.newline.Given as goal

-- no byte so far ends a line
abbrev pub invariant-loop-place : goal.invariant-loop-place
invariant-loop-place l = (k : ℕ) → k < l.place → is_newline (get_or l.text k 0) ≡ false
