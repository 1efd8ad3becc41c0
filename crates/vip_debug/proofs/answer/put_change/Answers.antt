use Rattle.std.proofs.Common.{subst}
use Rattle.vip_outside.specs.Sink.{PutsWhole, PutFails}
use Rattle.vip_outside.specs.Pieces.{PutsAll, FailsWithin, StreamAnswers}
use Rattle.vip_debug.specs.BoardShown.{rows}
use Rattle.vip_debug.proofs.Lines.{change-fails, change-fails-before, change-goes}
use Rattle.vip_debug.proofs.answer.put_change.Goals as goal

pub returns-in_err-put : goal.returns-in_err-put
returns-in_err-put g c =
    let change = c.args.change.now in
    change-fails change.line.items (rows c.args.address change.before.items) (rows c.args.address change.after.items) _ _ _ c.from_residual.ensures.0
    (subst (λ piece. PutFails piece (g.O.Sink.meaning c.args.out.now) (g.O.Sink.meaning c.put.new.self)) c.as_slice.ensures.value c.in_err-put.ensures.answer)

pub returns-in_err-put_rows : goal.returns-in_err-put_rows
returns-in_err-put_rows g c =
    let change = c.args.change.now in
    change-fails-before change.line.items (rows c.args.address change.before.items) (rows c.args.address change.after.items) _ _ _ _
    (subst (λ piece. PutsWhole piece (g.O.Sink.meaning c.args.out.now) (g.O.Sink.meaning c.put.new.self)) c.as_slice.ensures.value c.in_ok-put.ensures.answer)
    c.from_residual-in_err-put_rows.ensures.0
    (subst (λ bytes. FailsWithin (rows c.args.address bytes) (g.O.Sink.meaning c.put.new.self) (g.O.Sink.meaning c.put_rows.new.out))
    c.as_slice-2.ensures.value c.in_err-put_rows.ensures)

pub returns : goal.returns
returns g c =
    let change = c.args.change.now in
    change-goes change.line.items (rows c.args.address change.before.items) (rows c.args.address change.after.items) _ _ _ _
    (subst (λ piece. PutsWhole piece (g.O.Sink.meaning c.args.out.now) (g.O.Sink.meaning c.put.new.self)) c.as_slice.ensures.value c.in_ok-put.ensures.answer)
    _
    (subst (λ bytes. PutsAll (rows c.args.address bytes) (g.O.Sink.meaning c.put.new.self) (g.O.Sink.meaning c.put_rows.new.out)) c.as_slice-2.ensures.value
    c.in_ok-put_rows.ensures)
    (subst (λ bytes. StreamAnswers (rows c.args.address bytes) (g.O.Sink.meaning c.put_rows.new.out) (g.O.Sink.meaning c.put_rows-2.new.out)
    c.put_rows-2.result) c.as_slice-3.ensures.value c.put_rows-2.ensures)
