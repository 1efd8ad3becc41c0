use Rattle.std.proofs.Common.{◌≡◌, ◌<◌, ℕ, false}
use Rattle.asm_core.specs.Made.{made_byte}
use Rattle.vip_tools.specs.Code.{is_stray}
use Rattle.vip_tools.proofs.code.stray.Given as goal

-- no address before this one has such a byte
abbrev pub invariant-loop-address : goal.invariant-loop-address
invariant-loop-address l = (a : ℕ) → a < l.address → is_stray (made_byte l.made) a ≡ false
