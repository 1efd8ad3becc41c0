use Rattle.vip_program.proofs.Instructing.{profile-fails, profiled}
use Rattle.vip_program.proofs.profile.show_profile.Goals as goal

pub returns-in_err-put : goal.returns-in_err-put
returns-in_err-put g c =
    profile-fails c.args.page.now c.args.board.now c.count_moves.new.board c.args.limit c.count_moves.new.profile c.count_moves.ensures.profiles _ _ _
    c.from_residual.ensures.0 _ c.in_err-put.ensures

pub returns : goal.returns
returns g c =
    profiled c.args.page.now c.args.board.now c.count_moves.new.board c.args.limit c.count_moves.new.profile c.count_moves.ensures.profiles _ _
    c.count_moves.ensures.moved _ c.in_ok-put.ensures _ c.ending.ensures
