use Rattle.std.proofs.Common.{◌≡◌, ◌∙◌, ℕ, Bool, List, sym, ap}
use Rattle.std.specs.Prelude.{◌||◌, slice_index_or}
use Rattle.asm_lex.specs.declared.shape.Span.{Span}
use Rattle.asm_lex.specs.Names.{value_in}
use Rattle.asm_lex.specs.Spans.{text_at}
use Rattle.asm_core.specs.Operands.{is_waiting}
use Rattle.asm_listing.specs.Told.{no_span}
use Rattle.asm_listing.proofs.Counted.{any-more}
use Rattle.asm_listing.proofs.waiting.some_wait.Goals.{then-some, else-some}
use Rattle.asm_listing.proofs.waiting.some_wait.Goals as goal

pub loop-k-preserved : goal.loop-k-preserved
loop-k-preserved c =
    let k = c.loop-k.k in
    let line = c.args.line.now in
    let g : List ℕ → Bool = λ text. is_waiting c.args.isa (value_in c.args.fixed.now) c.args.behind c.args.entry k text in
    let f : ℕ → Bool = λ k.
    is_waiting c.args.isa (value_in c.args.fixed.now) c.args.behind c.args.entry k (text_at line (slice_index_or c.args.spans.now k no_span)) in
    let text : c.text_at-text.result.now ≡ text_at line (slice_index_or c.args.spans.now k no_span) =
    c.text_at-text.ensures ∙ ap (λ (span : Span). text_at line span) c.span_at.ensures.span in
    let some : c.if-some.some ≡ (c.loop-k.some || f k) = elim c.if-some.branch [
      | then-some w ↦ w.some-is ∙ w.if-some.true ∙ sym (ap (λ b. b || f k) w.if-some.true)
      | else-some w ↦ w.some-is ∙ w.is_waiting-some.ensures ∙ ap g text ∙ sym (ap (λ b. b || f k) w.if-some.false)
    ] in
    some ∙ ap (λ b. b || f k) c.loop-k.invariant ∙ sym (any-more f k)
