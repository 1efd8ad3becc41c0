use Rattle.std.proofs.Common.{◌≡◌, ℕ, ◌<◌, false, get_or}
use Rattle.asm_lex.specs.Bytes.{is_semicolon}
use Rattle.asm_listing.proofs.comments.code_end.Given as goal

-- no byte so far begins a comment
abbrev pub invariant-loop-place : goal.invariant-loop-place
invariant-loop-place l = (k : ℕ) → k < l.place → is_semicolon (get_or l.line k 0) ≡ false
