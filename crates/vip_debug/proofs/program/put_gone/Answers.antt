use Rattle.std.proofs.Common.{◌≡◌, ℕ, List, [], ◌++◌, ap, refl, subst, sym}
use Rattle.asm_core.specs.Origins.{Origins}
use Rattle.vip_words.specs.declared.debug_commands.Running.{Running}
use Rattle.vip_words.specs.declared.debug_commands.Running.TheVariants.{Watch}
use Rattle.vip_outside.specs.Pieces.{StreamAnswers}
use Rattle.vip_outside.proofs.PiecesLemmas.{FailsWithin-more, StreamAnswers-append, StreamAnswers-err}
use Rattle.vip_debug.specs.declared.moves.Change.{Change}
use Rattle.vip_debug.specs.BoardParts.{labels_by, lines_by}
use Rattle.vip_debug.proofs.program.put_gone.Goals as goal

other : (origins : Origins) (running : Running) (change : Change) → ((x y : ℕ) → running ≡ Watch x y → ⊥) → labels_by origins running change ≡ []
other origins (Watch x y) change watches = absurd (watches x y refl)
other origins _ change watches = refl

pub returns-in_err-put_labels-in-Watch : goal.returns-in_err-put_labels-in-Watch
returns-in_err-put_labels-in-Watch g c =
    let lines = lines_by c.args.running c.args.board.now c.args.change.now in
    subst (λ first. StreamAnswers (first ++ lines) (g.O.Sink.meaning c.args.out.now) (g.O.Sink.meaning c.put_labels.new.out) c.from_residual.result)
    (sym (ap (λ running. labels_by c.args.origins.now running c.args.change.now) c.in-Watch.is))
    (StreamAnswers-err _ _ _ _ c.from_residual.ensures.0 (FailsWithin-more _ lines _ _ c.in_err-put_labels-in-Watch.ensures))

pub returns-in_ok-put_labels-in-Watch : goal.returns-in_ok-put_labels-in-Watch
returns-in_ok-put_labels-in-Watch g c =
    let lines = lines_by c.args.running c.args.board.now c.args.change.now in
    subst (λ first. StreamAnswers (first ++ lines) (g.O.Sink.meaning c.args.out.now) (g.O.Sink.meaning c.put_completed.new.out) c.put_completed.result)
    (sym (ap (λ running. labels_by c.args.origins.now running c.args.change.now) c.in-Watch.is))
    (StreamAnswers-append _ lines _ _ _ _ c.in_ok-put_labels-in-Watch.ensures c.put_completed.ensures)

pub returns-in_default : goal.returns-in_default
returns-in_default g c =
    let lines = lines_by c.args.running c.args.board.now c.args.change.now in
    subst (λ first. StreamAnswers (first ++ lines) (g.O.Sink.meaning c.args.out.now) (g.O.Sink.meaning c.put_completed-in_default.new.out) c.put_completed-in_default.result)
    (sym (other c.args.origins.now c.args.running c.args.change.now c.in_default.not-Watch)) c.put_completed-in_default.ensures
