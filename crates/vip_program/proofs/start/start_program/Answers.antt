use Rattle.std.proofs.Common.{refl, ◌∙◌, ap}
use Rattle.machine.specs.Board.{Machine}
use Rattle.vip_program.proofs.Starts.{starts}
use Rattle.vip_program.proofs.start.start_program.Goals as goal
use Rattle.vip_program.proofs.start.start_program.Goals.{in-Rom, in-Ram}

pub returns-clause-board : goal.returns-clause-board
returns-clause-board c = elim c.match-memory.branch [
  | in-Rom w ↦
      w.board-is ∙ starts c.args.memory c.args.rom.now c.args.ram.now c.rom_of.result c.args.script.now c.in_ok-board.board c.load.new.self c.load.new.self
      (c.in_ok-board.ensures.board) c.rom_of.ensures c.load.ensures
      (rw (w.in-Rom.is, c.load.ensures, c.in_ok-board.ensures.board) refl)
  | in-Ram w ↦
      w.board-is ∙ starts c.args.memory c.args.rom.now c.args.ram.now c.rom_of.result c.args.script.now c.in_ok-board.board c.load.new.self w.clear_latch.new.self
      (c.in_ok-board.ensures.board) c.rom_of.ensures c.load.ensures
      (rw (w.in-Ram.is) w.clear_latch.ensures)
]
