use Rattle.std.proofs.Common.{◌≡◌, arith}
use Rattle.vip_verbs.proofs.ProgramLemmas.{program-debugs, program-saves}
use Rattle.vip_verbs.proofs.program.perform_board.Goals as goal

pub run_program_commands-requires : goal.run_program_commands-requires
run_program_commands-requires g c = let last = c.limit_at-last.ensures in record { boundary = c.requires.boundary; within = omega (arith, last) }

pub save_program-requires : goal.save_program-requires
save_program-requires g c = let last = c.limit_at-last.ensures in record { boundary = c.requires.boundary; within = omega (arith, last) }

pub returns-in-Commands : goal.returns-in-Commands
returns-in-Commands g c =
    rw (c.in-Commands.is, c.program_ran.ensures)
    (program-debugs c.in-Commands.origins c.args.limit c.in-Commands.commands c.args.board.now _ _ _ _ (rw c.limit_at-last.ensures at c.run_program_commands.ensures))

pub returns-in-State : goal.returns-in-State
returns-in-State g c =
    rw (c.in-State.is, c.program_ran-in-State.ensures)
    (program-saves c.args.limit c.args.board.now _ _ _ (rw c.limit_at-last.ensures at c.save_program.ensures))
