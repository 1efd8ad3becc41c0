use Rattle.vip_debug.specs.Programs.{machine_at}
use Rattle.vip_show.specs.Written.{program_pieces_of}
use Rattle.vip_verbs.proofs.ProgramLemmas.{save-fails}
use Rattle.vip_verbs.proofs.program.save_program.Goals as goal

pub returns : goal.returns
returns g c =
    let stands = c.run_program_to-end.ensures.stands in
    (rw (stands.rom, stands.machine) at c.in_ok-put_program_state.ensures.answer, c.run_program_to-end.ensures.ending)

pub returns-in_err-put_program_state : goal.returns-in_err-put_program_state
returns-in_err-put_program_state g c =
    let stands = c.run_program_to-end.ensures.stands in
    save-fails c.args.limit c.args.board.now _ _ _ c.from_residual.ensures.0
    (rw (stands.rom, stands.machine) at c.in_err-put_program_state.ensures.answer)
