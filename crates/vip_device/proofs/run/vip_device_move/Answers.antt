use Rattle.vip_device.proofs.Moving.{one-of}
use Rattle.vip_device.proofs.run.vip_device_move.Goals as goal

pub returns-clause-machine : goal.returns-clause-machine
returns-clause-machine c =
    one-of c.board_of-board.result c.to_boundary-moved.new.self _ _ _ _ c.board_of-board.ensures.machine c.board_of-board.ensures.rom
    c.board_of-board.ensures.script c.store.ensures.machine c.to_boundary-moved.result c.to_boundary-moved.ensures.kept
    c.to_boundary-moved.ensures.moved
