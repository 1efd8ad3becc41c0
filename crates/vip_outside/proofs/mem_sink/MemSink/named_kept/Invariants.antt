use Rattle.std.proofs.Common.{◌≡◌, ℕ, ◌<◌, eqb, false, get_or}
use Rattle.vip_outside.proofs.mem_sink.MemSink.named_kept.Given as goal

-- no entry so far is that of the next call
abbrev pub invariant-loop-entry : goal.invariant-loop-entry
invariant-loop-entry l = (k : ℕ) → k < l.entry-index → eqb (get_or l.named k (0, 0)).0 l.self.calls ≡ false
