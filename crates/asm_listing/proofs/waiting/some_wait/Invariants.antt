use Rattle.std.proofs.Common.{◌≡◌}
use Rattle.std.specs.Prelude.{slice_index_or}
use Rattle.std.specs.List.{list_any, range_with_len}
use Rattle.asm_lex.specs.Names.{value_in}
use Rattle.asm_lex.specs.Spans.{text_at}
use Rattle.asm_core.specs.Operands.{is_waiting}
use Rattle.asm_listing.specs.Told.{no_span}
use Rattle.asm_listing.proofs.waiting.some_wait.Given as goal

-- one of the operands so far waits
abbrev pub invariant-loop-k : goal.invariant-loop-k
invariant-loop-k l =
    l.some
    ≡ list_any (λ k. is_waiting l.isa (value_in l.fixed) l.behind l.entry k (text_at l.line (slice_index_or l.spans k no_span))) (range_with_len 0 l.k)
