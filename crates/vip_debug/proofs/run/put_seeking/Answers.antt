use Rattle.std.proofs.Common.{◌∙◌, [], ◌∷◌, sym, subst}
use Rattle.vip_outside.specs.Pieces.{StreamAnswers}
use Rattle.vip_outside.proofs.PiecesLemmas.{StreamAnswers-one}
use Rattle.chip8_lang.specs.View.{view_at}
use Rattle.vip_relation.specs.State.{state_after}
use Rattle.vip_text.specs.Traces.{told_line}
use Rattle.vip_debug.specs.Answers.{begun, place_of, sought}
use Rattle.vip_debug.proofs.Answering.{writes-stop, writes-lines, writes-end, point-lines}
use Rattle.vip_debug.proofs.run.put_seeking.Goals as goal

pub returns-in-Some-clause-lines : goal.returns-in-Some-clause-lines
returns-in-Some-clause-lines g c =
    let old = c.args.vip.now in
    let a = c.seek-completed.ensures.arrives in
    let there = sought (begun old) c.args.limit c.args.seeking (place_of old) in
    let lines = told_line c.args.looks.now.origins c.args.looks.now.columns (view_at (begun old).edition (state_after (begun old) there.place.moves)) ∷ [] in
    subst (λ pieces. StreamAnswers pieces (g.O.Sink.meaning c.args.out.now) (g.O.Sink.meaning c.put_stop.new.out) c.put_stop.result)
    (writes-stop old _ c.seek-completed.ensures.follows there _ a.makes.same a.makes.place a.completed lines c.in-Some.stop
    (sym c.in-Some.is ∙ c.stop.ensures)) (StreamAnswers-one _ _ _ _ c.put_stop.ensures)

pub returns-in-None-clause-lines : goal.returns-in-None-clause-lines
returns-in-None-clause-lines g c =
    let old = c.args.vip.now in
    let a = c.seek-completed.ensures.arrives in
    let there = sought (begun old) c.args.limit c.args.seeking (place_of old) in
    let lines = told_line c.args.looks.now.origins c.args.looks.now.columns (view_at (begun old).edition (state_after (begun old) there.place.moves)) ∷ [] in
    let written = point-lines old _ c.seek-completed.ensures.follows there _ a.makes.same a.makes.place a.completed c.args.looks.now c.requires.follows in
    subst (λ pieces. StreamAnswers pieces (g.O.Sink.meaning c.args.out.now) (g.O.Sink.meaning c.put_point.new.out) c.put_point.result)
    (written ∙ writes-lines old _ c.seek-completed.ensures.follows there _ a.makes.same a.makes.place a.completed lines (sym c.in-None.is ∙ c.stop.ensures)
    c.if-completed.true) (StreamAnswers-one _ _ _ _ c.put_point.ensures)

pub returns-in-None-2-clause-lines : goal.returns-in-None-2-clause-lines
returns-in-None-2-clause-lines g c =
    let old = c.args.vip.now in
    let a = c.seek-completed.ensures.arrives in
    let there = sought (begun old) c.args.limit c.args.seeking (place_of old) in
    let lines = told_line c.args.looks.now.origins c.args.looks.now.columns (view_at (begun old).edition (state_after (begun old) there.place.moves)) ∷ [] in
    subst (λ pieces. StreamAnswers pieces (g.O.Sink.meaning c.args.out.now) (g.O.Sink.meaning c.put.new.self) c.put.result)
    (writes-end old _ c.seek-completed.ensures.follows there _ a.makes.same a.makes.place a.completed lines (sym c.in-None.is ∙ c.stop.ensures)
    c.if-completed.false) (StreamAnswers-one _ _ _ _ c.put.ensures.answer)
