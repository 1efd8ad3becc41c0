use Rattle.std.proofs.Common.{subst, sym}
use Rattle.vip_device.proofs.Moving.{Moves, alike-of, machine-of}
use Rattle.vip_device.proofs.run.run_device.Goals as goal
use Rattle.vip_device.proofs.run.run_device.Goals.{After-store, in-Places, in-Dispatch, in-Limit}

moved : (c : After-store) → Moves c.board_of-board.result c.match-wanted.board
moved c =
    elim c.match-wanted.branch [
      | in-Places w ↦ subst (Moves c.board_of-board.result) (sym w.board-is) w.run_board-code.ensures.moves
      | in-Dispatch w ↦ subst (Moves c.board_of-board.result) (sym w.board-is) w.run_board-code-in-Dispatch.ensures.moves
      | in-Limit w ↦ subst (Moves c.board_of-board.result) (sym w.board-is) w.run_board-code-in-Limit.ensures.moves
    ]

pub returns-clause-machine : goal.returns-clause-machine
returns-clause-machine c =
    machine-of c.board_of-board.result c.match-wanted.board _ _ _ _ c.board_of-board.ensures.machine c.board_of-board.ensures.rom
    c.board_of-board.ensures.script c.store.ensures.machine (moved c)

pub returns-clause-alike : goal.returns-clause-alike
returns-clause-alike c script fits_rom fits alike =
    alike-of c.board_of-board.result c.match-wanted.board _ _ _ _ script c.board_of-board.ensures.machine c.board_of-board.ensures.rom
    c.board_of-board.ensures.script c.store.ensures.machine (moved c) fits_rom fits alike
