use Rattle.std.proofs.Common.{◌∙◌, sym}
use Rattle.vip_board.specs.declared.board.Move.TheVariants.{Dma, Interrupt, Idle}
use Rattle.vip_board.proofs.Lengths.{one-long}
use Rattle.vip_board.proofs.board.Board.length_by.Goals as goal

pub returns-in-Dma : goal.returns-in-Dma
returns-in-Dma g c = one-long c.args.self.now.rom c.args.self.now.machine Dma (sym c.in-Dma.is ∙ c.next_by.ensures) (λ none. none)

pub returns-in-Interrupt : goal.returns-in-Interrupt
returns-in-Interrupt g c = one-long c.args.self.now.rom c.args.self.now.machine Interrupt (sym c.in-Interrupt.is ∙ c.next_by.ensures) (λ none. none)

pub returns-in-Idle : goal.returns-in-Idle
returns-in-Idle g c = one-long c.args.self.now.rom c.args.self.now.machine Idle (sym c.in-Idle.is ∙ c.next_by.ensures) (λ none. none)
