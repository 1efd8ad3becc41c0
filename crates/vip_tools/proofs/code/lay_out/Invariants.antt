use Rattle.std.proofs.Common.{◌≡◌, ◌<◌, ℕ, get_or}
use Rattle.asm_core.specs.Made.{made_byte}
use Rattle.vip_tools.proofs.CertificateLemmas.{byte_by}
use Rattle.vip_tools.proofs.code.lay_out.Given as goal

-- the bytes before this one are those assembled
abbrev pub invariant-loop-offset : goal.invariant-loop-offset
invariant-loop-offset l = (k : ℕ) → k < l.offset → get_or l.into k 0 ≡ byte_by (made_byte l.made) l.start k
