use Rattle.std.proofs.Common.{◌∙◌, None, sym, subst}
use Rattle.vip_outside.specs.Pieces.{StreamAnswers}
use Rattle.vip_outside.proofs.PiecesLemmas.{StreamAnswers-one}
use Rattle.vip_debug.specs.Answered.{completed_lines}
use Rattle.vip_debug.specs.Commands.{came}
use Rattle.vip_debug.proofs.TargetMoving.{fits, lines-completed}
use Rattle.vip_debug.specs.Game.{run_at}
use Rattle.vip_debug.specs.Answers.{begun, place_of, ran}
use Rattle.vip_debug.proofs.Answering.{writes-stop, writes-lines, writes-end}
use Rattle.vip_debug.proofs.Moving.{makes-came}
use Rattle.vip_debug.proofs.run.put_running.Goals as goal

pub returns-in-Some-clause-makes : goal.returns-in-Some-clause-makes
returns-in-Some-clause-makes g c =
    makes-came _ _ _ c.board-board.ensures.follows c.args.running _ c.run_game-completed.ensures.moved c.run_game-completed.ensures.comes

pub returns-in-Some-clause-lines : goal.returns-in-Some-clause-lines
returns-in-Some-clause-lines g c =
    let old = c.args.vip.now in
    let makes = makes-came _ _ _ c.board-board.ensures.follows c.args.running _ c.run_game-completed.ensures.moved c.run_game-completed.ensures.comes in
    let there = ran (begun old) c.args.limit c.args.running (place_of old) in
    let r = run_at (begun old) old.moves in
    let lines = completed_lines None r c.args.running (came r c.args.limit c.args.running).moves in
    subst (λ pieces. StreamAnswers pieces (g.O.Sink.meaning c.args.out.now) (g.O.Sink.meaning c.put_stop.new.out) c.put_stop.result)
    (writes-stop old _ c.board-board.ensures.follows there _ makes.same makes.place c.run_game-completed.ensures.comes.completed lines c.in-Some.stop
    (sym c.in-Some.is ∙ c.stop.ensures)) (StreamAnswers-one _ _ _ _ c.put_stop.ensures)

pub put_completed-requires : goal.put_completed-requires
put_completed-requires g c = fits None c.args.running _ _ _ (c.run_game-completed.ensures.shown c.if-completed.true)

pub returns-in-None-clause-makes : goal.returns-in-None-clause-makes
returns-in-None-clause-makes g c =
    makes-came _ _ _ c.board-board.ensures.follows c.args.running _ c.run_game-completed.ensures.moved c.run_game-completed.ensures.comes

pub returns-in-None-clause-lines : goal.returns-in-None-clause-lines
returns-in-None-clause-lines g c =
    let old = c.args.vip.now in
    let makes = makes-came _ _ _ c.board-board.ensures.follows c.args.running _ c.run_game-completed.ensures.moved c.run_game-completed.ensures.comes in
    let there = ran (begun old) c.args.limit c.args.running (place_of old) in
    let r = run_at (begun old) old.moves in
    let lines = completed_lines None r c.args.running (came r c.args.limit c.args.running).moves in
    let written = lines-completed r c.args.limit _ _ _ c.run_game-completed.ensures.comes None c.args.running _ _ c.board-board.ensures.board
    (c.run_game-completed.ensures.shown c.if-completed.true) in
    subst (λ pieces. StreamAnswers pieces (g.O.Sink.meaning c.args.out.now) (g.O.Sink.meaning c.put_completed.new.out) c.put_completed.result)
    (written ∙ writes-lines old _ c.board-board.ensures.follows there _ makes.same makes.place c.run_game-completed.ensures.comes.completed lines
    (sym c.in-None.is ∙ c.stop.ensures) c.if-completed.true) c.put_completed.ensures

pub returns-in-None-2-clause-makes : goal.returns-in-None-2-clause-makes
returns-in-None-2-clause-makes g c =
    makes-came _ _ _ c.board-board.ensures.follows c.args.running _ c.run_game-completed.ensures.moved c.run_game-completed.ensures.comes

pub returns-in-None-2-clause-lines : goal.returns-in-None-2-clause-lines
returns-in-None-2-clause-lines g c =
    let old = c.args.vip.now in
    let makes = makes-came _ _ _ c.board-board.ensures.follows c.args.running _ c.run_game-completed.ensures.moved c.run_game-completed.ensures.comes in
    let there = ran (begun old) c.args.limit c.args.running (place_of old) in
    let r = run_at (begun old) old.moves in
    let lines = completed_lines None r c.args.running (came r c.args.limit c.args.running).moves in
    subst (λ pieces. StreamAnswers pieces (g.O.Sink.meaning c.args.out.now) (g.O.Sink.meaning c.put.new.self) c.put.result)
    (writes-end old _ c.board-board.ensures.follows there _ makes.same makes.place c.run_game-completed.ensures.comes.completed lines
    (sym c.in-None.is ∙ c.stop.ensures) c.if-completed.false) (StreamAnswers-one _ _ _ _ c.put.ensures.answer)
