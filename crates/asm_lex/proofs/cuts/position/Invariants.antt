use Rattle.std.proofs.Common.{◌≡◌, ℕ, ◌<◌, false, get_or}
use Rattle.asm_lex.specs.Cuts.{stops}
use Rattle.asm_lex.proofs.cuts.position.Given as goal

-- no byte so far is one at which the text is cut
abbrev pub invariant-loop-place : goal.invariant-loop-place
invariant-loop-place l = (k : ℕ) → k < l.place → stops l.stop (get_or l.text k 0) ≡ false
