use Rattle.std.proofs.Common.{◌≡◌, ℕ, ◌<◌, true, get_or}
use Rattle.vip_byte.specs.Text.{is_blank}
use Rattle.asm_lex.proofs.cuts.leading_blanks.Given as goal

-- each byte so far is a blank
abbrev pub invariant-loop-place : goal.invariant-loop-place
invariant-loop-place l = (k : ℕ) → k < l.place → is_blank (get_or l.text k 0) ≡ true
