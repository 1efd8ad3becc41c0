use Rattle.std.proofs.Common.{◌≡◌, ℕ, eqb, false, take}
use Rattle.std.specs.List.{list_any}
use Rattle.vip_outside.proofs.mem_files.MemFiles.is_named.Given as goal

-- no call so far is the next one
abbrev pub invariant-loop-call : goal.invariant-loop-call
invariant-loop-call l = list_any (λ (call : ℕ). eqb call l.self.calls) (take l.call-index l.named) ≡ false
