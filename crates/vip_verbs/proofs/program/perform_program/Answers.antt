use Rattle.std.proofs.Common.{arith}
use Rattle.vip_verbs.proofs.ProgramLemmas.{program-performs, standing-of}
use Rattle.vip_verbs.proofs.program.perform_program.Goals as goal

pub returns-in-Trace : goal.returns-in-Trace
returns-in-Trace g c = rw (c.in-Trace.is, c.program_ran.ensures) (program-performs _ _ _ _ _ _ c.show_trace.ensures)

pub returns-in-Pictures : goal.returns-in-Pictures
returns-in-Pictures g c = rw (c.in-Pictures.is, c.program_ran-in-Pictures.ensures) (program-performs _ _ _ _ _ _ c.show_pictures.ensures)

pub show_profile-requires : goal.show_profile-requires
show_profile-requires g c =
    let begins = c.requires.begins in record { boundary = c.requires.boundary; within = omega (arith, begins) }

pub returns-in-Profile : goal.returns-in-Profile
returns-in-Profile g c = rw (c.in-Profile.is, c.program_ran-in-Profile.ensures) (program-performs _ _ _ _ _ _ c.show_profile.ensures)

pub perform_board-requires : goal.perform_board-requires
perform_board-requires g c = standing-of c.args.board.now c.requires

pub returns-in-Board : goal.returns-in-Board
returns-in-Board g c = rw c.in-Board.is c.perform_board.ensures
