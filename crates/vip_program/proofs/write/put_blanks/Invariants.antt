use Rattle.std.proofs.Common.{◌≡◌, ◌+◌, ◌++◌, length, replicate}
use Rattle.vip_program.proofs.write.put_blanks.Given as goal

abbrev pub invariant-loop-blank : goal.invariant-loop-blank
invariant-loop-blank l =
    (l.into.items ≡ l.initial.into.items ++ replicate l._blank 32) × (length l.into.items ≡ length l.initial.into.items + l._blank)
