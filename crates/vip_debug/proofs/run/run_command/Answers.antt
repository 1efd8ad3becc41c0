use Rattle.std.proofs.Common.{subst}
use Rattle.vip_outside.specs.Pieces.{StreamAnswers}
use Rattle.vip_debug.proofs.Moving.{shown-here}
use Rattle.vip_debug.proofs.run.run_command.Goals as goal

pub returns-in-Shows-clause-pieces : goal.returns-in-Shows-clause-pieces
returns-in-Shows-clause-pieces g c =
    rw c.in-Shows.is
    (subst (λ pieces. StreamAnswers pieces (g.O.Sink.meaning c.args.out.now) (g.O.Sink.meaning c.put_showing.new.out) c.put_showing.result)
    (shown-here c.args.looks.now.origins c.args.vip.now c.requires.follows _ c.board.ensures.board c.in-Shows.showing) c.put_showing.ensures)
