use Rattle.std.proofs.Common.{◌++◌, ◌∙◌, ap}
use Rattle.machine.specs.Board.Case.{Dma}
use Rattle.vip_board.specs.Seen.{held_by}
use Rattle.vip_program.specs.Lines.{dma_text}
use Rattle.vip_program.proofs.Makes.{case-named, one-instruction, one-interrupt, idles, scans}
use Rattle.vip_program.proofs.Texts.{appended, says, says-idle}
use Rattle.vip_program.proofs.moves.make_line.Goals as goal

pub returns-in-Instruction-clause-stretch : goal.returns-in-Instruction-clause-stretch
returns-in-Instruction-clause-stretch c =
    one-instruction _ _ _ _ c.requires.some c.requires.within c.requires.goes c.make.ensures.moved
    (case-named c.args.board.now.machine _ c.in-Instruction.ensures)

pub returns-in-Interrupt-clause-stretch : goal.returns-in-Interrupt-clause-stretch
returns-in-Interrupt-clause-stretch c =
    one-interrupt _ _ _ _ c.requires.some c.requires.within c.requires.goes c.make-in-Interrupt.ensures.moved
    (case-named c.args.board.now.machine _ c.in-Interrupt.ensures)

pub returns-in-Idle-clause-stretch : goal.returns-in-Idle-clause-stretch
returns-in-Idle-clause-stretch c =
    idles _ _ _ _ _ c.requires.goes c.requires.some (case-named c.args.board.now.machine _ c.in-Idle.ensures) c.idle-cycles.ensures.makes

pub returns-in-Idle-clause-items : goal.returns-in-Idle-clause-items
returns-in-Idle-clause-items c =
    says-idle c.args.board.now.rom (held_by c.args.board.now) c.args.board.now.machine _ _ _ _ (case-named c.args.board.now.machine _ c.in-Idle.ensures)
    c.put.ensures.items c.put_number.ensures.items

pub returns-in-Dma-clause-stretch : goal.returns-in-Dma-clause-stretch
returns-in-Dma-clause-stretch c =
    scans _ _ _ _ _ c.requires.goes c.requires.some (case-named c.args.board.now.machine _ c.in-Dma.ensures) _ c.raster_line-line.ensures c.scan.ensures.makes

pub returns-in-Dma-clause-items : goal.returns-in-Dma-clause-items
returns-in-Dma-clause-items c =
    says c.args.board.now.rom (held_by c.args.board.now) c.args.board.now.machine _ _ Dma _ (case-named c.args.board.now.machine _ c.in-Dma.ensures)
    (appended _ _ _ _ _ (c.put_dma.ensures.items ∙ ap (λ address. c.args.into.now.items ++ dma_text address) c.dma_address.ensures) c.scan.ensures.items)
