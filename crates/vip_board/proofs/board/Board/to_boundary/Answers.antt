use Rattle.std.proofs.Common.{sym, subst, ap, ◌∙◌}
use Rattle.machine.specs.Ranges.{FitsMachine}
use Rattle.machine.proofs.Fits.{move-fits}
use Rattle.vip_board.specs.Seen.{Seen, held_by}
use Rattle.vip_board.specs.Moves.{moved}
use Rattle.vip_board.specs.Shown.{CarriesOn}
use Rattle.vip_board.proofs.Shown.{carries-on}
use Rattle.vip_board.proofs.board.Board.to_boundary.Goals as goal

pub returns-clause-pictures : goal.returns-clause-pictures
returns-clause-pictures g c =
    let s = c.args.self.now in
    let C : Seen → Type 0 = λ v. CarriesOn s v in
    subst C (sym (c.make.ensures.moved ∙ ap moved c.look_ahead.ensures)) (carries-on s)

pub returns-clause-fits : goal.returns-clause-fits
returns-clause-fits g c rom machine =
    let s = c.args.self.now in
    let F : Seen → Type 0 = λ v. FitsMachine v.machine in
    subst F (sym (c.make.ensures.moved ∙ ap moved c.look_ahead.ensures)) (move-fits s.rom (held_by s) rom s.machine machine)
