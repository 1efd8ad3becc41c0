use Rattle.std.proofs.Common.{[], ◌∷◌}
use Rattle.vip_outside.proofs.PiecesLemmas.{FailsWithin-snoc, PutsAll-nil, PutsAll-one, StreamAnswers-append, StreamAnswers-err, StreamAnswers-one}
use Rattle.vip_show.specs.Written.{program_part_of, program_pieces_of}
use Rattle.vip_show.proofs.ProgramStates.{program-goes-on}
use Rattle.vip_show.proofs.writing.put_program_state.Goals as goal

pub returns-clause-answer : goal.returns-clause-answer
returns-clause-answer g c =
    let b = c.args.board.now in
    StreamAnswers-append (program_part_of b.machine ∷ []) (b.rom ∷ []) _ _ _ _
    (PutsAll-one (program_part_of b.machine) _ _ (rw (c.as_slice.ensures.value, c.put_program_part.ensures) at c.in_ok-put.ensures.answer))
    (StreamAnswers-one b.rom _ _ _ (rw (c.as_slice-2.ensures.value, c.put_rom.ensures, c.memory.ensures) at c.put-2.ensures.answer))

pub returns-in_err-put-clause-answer : goal.returns-in_err-put-clause-answer
returns-in_err-put-clause-answer g c =
    let b = c.args.board.now in
    StreamAnswers-err (program_pieces_of b.rom b.machine) _ _ _ c.from_residual.ensures.0
    (FailsWithin-snoc [] (program_part_of b.machine) (b.rom ∷ []) _ _ _ (PutsAll-nil _)
    (rw (c.as_slice.ensures.value, c.put_program_part.ensures) at c.in_err-put.ensures.answer))

pub returns-clause-law : goal.returns-clause-law
returns-clause-law g c = program-goes-on c.args.board.now.rom c.args.board.now.machine

pub returns-in_err-put-clause-law : goal.returns-in_err-put-clause-law
returns-in_err-put-clause-law g c = program-goes-on c.args.board.now.rom c.args.board.now.machine
