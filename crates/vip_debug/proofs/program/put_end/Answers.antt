use Rattle.std.proofs.Common.{[], ◌∙◌, sym, subst}
use Rattle.vip_outside.specs.Pieces.{StreamAnswers, PutsAll}
use Rattle.vip_outside.proofs.PiecesLemmas.{PutsAll-nil, StreamAnswers-one}
use Rattle.vip_debug.proofs.Sleeping.{ended-idle, ended-goes, ended-early}
use Rattle.vip_debug.proofs.program.put_end.Goals as goal

pub returns-in-Idle : goal.returns-in-Idle
returns-in-Idle g c =
    subst (λ lines. StreamAnswers lines (g.O.Sink.meaning c.args.out.now) (g.O.Sink.meaning c.put_idle.new.out) c.put_idle.result)
    (ended-idle c.args.board.now.machine c.args.completed [] _ (sym c.in-Idle.is ∙ c.ending.ensures)) (StreamAnswers-one _ _ _ _ c.put_idle.ensures)

pub returns-in-AtLimit : goal.returns-in-AtLimit
returns-in-AtLimit g c =
    subst (λ lines. PutsAll lines (g.O.Sink.meaning c.args.out.now) (g.O.Sink.meaning c.args.out.now))
    (ended-goes c.args.board.now.machine c.args.completed [] (sym c.in-AtLimit.is ∙ c.ending.ensures) c.if-completed.true) (PutsAll-nil _)

pub returns-in-AtLimit-2 : goal.returns-in-AtLimit-2
returns-in-AtLimit-2 g c =
    subst (λ lines. StreamAnswers lines (g.O.Sink.meaning c.args.out.now) (g.O.Sink.meaning c.put.new.self) c.put.result)
    (ended-early c.args.board.now.machine c.args.completed [] (sym c.in-AtLimit.is ∙ c.ending.ensures) c.if-completed.false)
    (StreamAnswers-one _ _ _ _ c.put.ensures.answer)
