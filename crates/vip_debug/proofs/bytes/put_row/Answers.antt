use Rattle.std.proofs.Common.{subst, ap, ◌∙◌, ◌++◌}
use Rattle.vip_outside.specs.Sink.{PutAnswers}
use Rattle.vip_debug.specs.BoardShown.{row}
use Rattle.vip_debug.proofs.Lines.{joined-3}
use Rattle.vip_debug.proofs.bytes.put_row.Goals as goal

pub returns : goal.returns
unfolding row
returns g c =
    subst (λ piece. PutAnswers piece (g.O.Sink.meaning c.args.out.now) (g.O.Sink.meaning c.put-3.new.self) c.put-3.result)
    (joined-3 _ _ _ _ _ _ _ _ c.new-text.ensures (c.put.ensures.items ∙ ap (λ xs. c.new-text.result.items ++ xs) c.hex4.ensures) c.put_bytes.ensures.items
    c.put-2.ensures.items c.as_slice.ensures.value)
    c.put-3.ensures.answer
