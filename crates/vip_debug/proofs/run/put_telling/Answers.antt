use Rattle.std.proofs.Common.{◌∙◌, ap, subst}
use Rattle.vip_outside.specs.Pieces.{StreamAnswers}
use Rattle.vip_debug.specs.BoardParts.{clear_reads}
use Rattle.vip_debug.specs.Code.{code_lines}
use Rattle.vip_outside.proofs.PiecesLemmas.{StreamAnswers-one}
use Rattle.vip_debug.proofs.Answering.{code-told, screen-told, state-told}
use Rattle.vip_debug.proofs.run.put_telling.Goals as goal

pub returns-in-State : goal.returns-in-State
returns-in-State g c =
    rw c.in-State.is
    (subst (λ pieces. StreamAnswers pieces (g.O.Sink.meaning c.args.out.now) (g.O.Sink.meaning c.put_state.new.out) c.put_state.result)
    (state-told c.args.looks.now c.args.vip.now c.requires) (StreamAnswers-one _ _ _ _ c.put_state.ensures))

pub returns-in-Screen : goal.returns-in-Screen
returns-in-Screen g c =
    rw c.in-Screen.is
    (subst (λ pieces. StreamAnswers pieces (g.O.Sink.meaning c.args.out.now) (g.O.Sink.meaning c.put_screen.new.out) c.put_screen.result)
    (screen-told c.args.looks.now c.args.vip.now c.requires) (StreamAnswers-one _ _ _ _ c.put_screen.ensures))

pub returns-in-Code : goal.returns-in-Code
returns-in-Code g c =
    let memory = rw c.board.ensures.board at c.memory.ensures in
    let lines = ap (λ m. code_lines (clear_reads m) c.args.looks.now.origins c.in-Code.address c.in-Code.count) memory in
    rw c.in-Code.is
    (subst (λ pieces. StreamAnswers pieces (g.O.Sink.meaning c.args.out.now) (g.O.Sink.meaning c.put_code.new.out) c.put_code.result)
    (lines ∙ code-told c.args.looks.now c.args.vip.now c.requires c.in-Code.address c.in-Code.count) c.put_code.ensures)
