use Rattle.std.proofs.Common.{◌≡◌, ◌++◌, ◌∙◌, Some, refl, sym, ap₂, subst}
use Rattle.vip_outside.specs.Pieces.{StreamAnswers}
use Rattle.vip_outside.proofs.PiecesLemmas.{StreamAnswers-one}
use Rattle.vip_program.specs.Trace.{sleeps}
use Rattle.vip_debug.specs.TargetRun.{run_from, state_of}
use Rattle.vip_debug.specs.Commands.{came}
use Rattle.vip_debug.specs.Answered.{completed_lines}
use Rattle.vip_debug.proofs.TargetMoving.{fits, labels-completed, lines-completed}
use Rattle.vip_debug.specs.Programs.{changing, ended_lines, gone_lines, comes_to}
use Rattle.vip_debug.proofs.Sleeping.{ended-idle, ended-goes, ended-early, one-answers, stands-there}
use Rattle.vip_debug.proofs.program.put_going.Goals as goal

pub put_gone-requires : goal.put_gone-requires
put_gone-requires g c = fits (Some c.args.origins.now) c.args.running _ _ _ (c.run_program-completed.ensures.shown c.if-completed.true)

pub returns-in-Idle : goal.returns-in-Idle
returns-in-Idle g c =
    let s = c.args.board.now in
    let r = run_from sleeps s in
    let to = came r c.args.limit c.args.running in
    let a = c.run_program-completed.ensures.comes in
    let lines = changing s.rom s.script c.args.limit c.args.origins.now c.args.running s.machine ++ completed_lines (Some c.args.origins.now) r c.args.running to.moves in
    let there : c.run_program-completed.new.board.machine ≡ state_of r to.moves = a.machine in
    let same = ap₂ (λ b done. ended_lines b done lines) there a.completed in
    one-answers c.args.limit (gone_lines s.rom s.script c.args.limit c.args.origins.now c.args.running) (comes_to s.rom s.script c.args.limit c.args.running) s
    c.run_program-completed.new.board _ _ c.put_idle.result
    (subst (λ ps. StreamAnswers ps (g.O.Sink.meaning c.args.out.now) (g.O.Sink.meaning c.put_idle.new.out) c.put_idle.result)
    (ended-idle c.run_program-completed.new.board.machine c.run_program-completed.result lines _ (sym c.in-Idle.is ∙ c.ending.ensures) ∙ same)
    (StreamAnswers-one _ _ _ _ c.put_idle.ensures))
    (stands-there c.args.limit s to _ _ a)

pub returns-in-AtLimit : goal.returns-in-AtLimit
returns-in-AtLimit g c =
    let s = c.args.board.now in
    let r = run_from sleeps s in
    let to = came r c.args.limit c.args.running in
    let a = c.run_program-completed.ensures.comes in
    let lines = changing s.rom s.script c.args.limit c.args.origins.now c.args.running s.machine ++ completed_lines (Some c.args.origins.now) r c.args.running to.moves in
    let there : c.run_program-completed.new.board.machine ≡ state_of r to.moves = a.machine in
    let same = ap₂ (λ b done. ended_lines b done lines) there a.completed in
    one-answers c.args.limit (gone_lines s.rom s.script c.args.limit c.args.origins.now c.args.running) (comes_to s.rom s.script c.args.limit c.args.running) s
    c.run_program-completed.new.board _ _ c.put_gone.result
    (subst (λ ps. StreamAnswers ps (g.O.Sink.meaning c.args.out.now) (g.O.Sink.meaning c.put_gone.new.out) c.put_gone.result)
    (ap₂ (λ first more. first ++ more)
    (labels-completed c.args.origins.now s.rom s.script c.args.limit c.args.running s.machine _ (c.run_program-completed.ensures.shown c.if-completed.true))
    (lines-completed r c.args.limit to _ _ a (Some c.args.origins.now) c.args.running _ _ refl (c.run_program-completed.ensures.shown c.if-completed.true))
    ∙ ended-goes c.run_program-completed.new.board.machine c.run_program-completed.result lines (sym c.in-AtLimit.is ∙ c.ending.ensures) c.if-completed.true
    ∙ same) c.put_gone.ensures)
    (stands-there c.args.limit s to _ _ a)

pub returns-in-AtLimit-2 : goal.returns-in-AtLimit-2
returns-in-AtLimit-2 g c =
    let s = c.args.board.now in
    let r = run_from sleeps s in
    let to = came r c.args.limit c.args.running in
    let a = c.run_program-completed.ensures.comes in
    let lines = changing s.rom s.script c.args.limit c.args.origins.now c.args.running s.machine ++ completed_lines (Some c.args.origins.now) r c.args.running to.moves in
    let there : c.run_program-completed.new.board.machine ≡ state_of r to.moves = a.machine in
    let same = ap₂ (λ b done. ended_lines b done lines) there a.completed in
    one-answers c.args.limit (gone_lines s.rom s.script c.args.limit c.args.origins.now c.args.running) (comes_to s.rom s.script c.args.limit c.args.running) s
    c.run_program-completed.new.board _ _ c.put.result
    (subst (λ ps. StreamAnswers ps (g.O.Sink.meaning c.args.out.now) (g.O.Sink.meaning c.put.new.self) c.put.result)
    (ended-early c.run_program-completed.new.board.machine c.run_program-completed.result lines (sym c.in-AtLimit.is ∙ c.ending.ensures) c.if-completed.false
    ∙ same) (StreamAnswers-one _ _ _ _ c.put.ensures.answer))
    (stands-there c.args.limit s to _ _ a)
