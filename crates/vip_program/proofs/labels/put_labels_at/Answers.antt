use Rattle.std.proofs.Common.{◌++◌, ◌∷◌, [], ◌∙◌, ap, append-nil, append_assoc, map, subst, sym}
use Rattle.std.proofs.lemmas.List.{map-append}
use Rattle.vip_outside.specs.Pieces.{PutsAll}
use Rattle.vip_outside.proofs.PiecesLemmas.{PutsAll-nil, PutsAll-snoc, StreamAnswers-fault}
use Rattle.vip_program.proofs.labels.put_labels_at.Goals as goal

pub loop-line-init : goal.loop-line-init
loop-line-init g c = record {
  puts = PutsAll-nil _;
  rest = sym (c.into_iter-line-iterator.ensures.into_iter_gives ∙ c.labels_over-line-items.ensures);
}

pub loop-line-preserved : goal.loop-line-preserved
loop-line-preserved g c =
    let done = map (λ line. line.now) c.loop-line.yielded in
    rw map-append
    (record {
      puts = PutsAll-snoc done c.in-Some.line.now _ _ _ c.loop-line.invariant.puts c.in_ok-put.ensures.answer;
      rest = c.loop-line.invariant.rest ∙ ap (λ rest. done ++ rest) c.in-Some.ensures.steps ∙ sym (append_assoc done (c.in-Some.line.now ∷ []) c.next.new.self);
    })

pub returns-in_err-put : goal.returns-in_err-put
returns-in_err-put g c =
    let done = map (λ line. line.now) c.loop-line.yielded in
    StreamAnswers-fault _ done c.in-Some.line.now c.next.new.self _ _ _ _
    (c.loop-line.invariant.rest ∙ ap (λ rest. done ++ rest) c.in-Some.ensures.steps) c.from_residual.ensures.0 c.loop-line.invariant.puts
    c.in_err-put.ensures.answer

pub returns : goal.returns
returns g c =
    let done = map (λ line. line.now) c.loop-line.yielded in
    subst (λ pieces. PutsAll pieces (g.O.Sink.meaning c.args.out.now) (g.O.Sink.meaning c.loop-line.out))
    (sym (c.loop-line.invariant.rest ∙ ap (λ rest. done ++ rest) c.in-None.ensures.steps.0 ∙ append-nil done)) c.loop-line.invariant.puts
