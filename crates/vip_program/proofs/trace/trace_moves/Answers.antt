use Rattle.std.proofs.Common.{◌≡◌, ◌++◌, ◌∙◌, [], List, ℕ, ap, sym}
use Rattle.vip_program.proofs.Tracing.{tracing-next, fails-at, fails-at-label, traces, none-asked, none-made}
use Rattle.vip_program.proofs.trace.trace_moves.Goals as goal

-- a line with its end
ended : (end none piece line text : List ℕ) (behind : List ℕ) → end ≡ none ++ behind → none ≡ [] → piece ≡ end → line ≡ text ++ piece → line ≡ text ++ behind
ended end none piece line text behind makes empty is all = all ∙ ap (λ xs. text ++ xs) (is ∙ makes ∙ ap (λ xs. xs ++ behind) empty)

pub loop-made-preserved : goal.loop-made-preserved
loop-made-preserved g c =
    tracing-next _ _ _ _ _ _ _ _ _ _ c.loop-made.invariant _ _ c.next_line-made.ensures.line
    (ended _ _ _ _ _ _ c.put_line_end.ensures.items c.clear.ensures c.as_slice.ensures.value c.put.ensures.items) _ _ c.next_line-made.ensures.boundary
    (rw c.next_place-place.ensures at c.in_ok-put_labels.ensures)
    (rw c.as_slice-in-loop-made.ensures.value at c.in_ok-put.ensures.answer)

pub returns-in_err-put_labels : goal.returns-in_err-put_labels
returns-in_err-put_labels g c =
    fails-at-label _ _ _ _ _ _ _ _ _ _ c.loop-made.invariant _ _ c.next_line-made.ensures.line
    (ended _ _ _ _ _ _ c.put_line_end.ensures.items c.clear.ensures c.as_slice.ensures.value c.put.ensures.items) _ _ c.from_residual.ensures.0
    (rw c.next_place-place.ensures at c.in_err-put_labels.ensures)

pub returns-in_err-put : goal.returns-in_err-put
returns-in_err-put g c =
    fails-at _ _ _ _ _ _ _ _ _ _ c.loop-made.invariant _ _ c.next_line-made.ensures.line
    (ended _ _ _ _ _ _ c.put_line_end.ensures.items c.clear.ensures c.as_slice.ensures.value c.put.ensures.items) _ _ _ c.from_residual-in_err-put.ensures.0
    (rw c.next_place-place.ensures at c.in_ok-put_labels.ensures)
    (rw c.as_slice-in-loop-made.ensures.value at c.in_err-put.ensures.answer)

pub returns-else-goes_on : goal.returns-else-goes_on
returns-else-goes_on g c =
    traces _ _ _ _ _ _ _ _ c.loop-made.invariant (none-made _ _ _ _ _ _ _ _ c.loop-made.invariant (sym c.goes_on.ensures.goes ∙ c.if-goes_on.false))

pub returns-after-loop-made : goal.returns-after-loop-made
returns-after-loop-made g c = traces _ _ _ _ _ _ _ _ c.loop-made.invariant (none-asked _ _ _ _ _ _ _ _ c.loop-made.invariant c.loop-made-test.false)
