use Rattle.std.proofs.Common.{sym, ap, ◌∙◌}
use Rattle.machine.specs.Board.{byte_of}
use Rattle.vip_program.proofs.Bus.{fetched-same, fetched-other}
use Rattle.vip_program.proofs.line.sent_byte.Goals as goal

pub returns-then-x-p : goal.returns-then-x-p
returns-then-x-p c =
    rw (c.read.ensures, c.memory.ensures, c.add16.ensures)
    (ap (byte_of c.args.board.now.rom c.args.board.now.machine)
    (sym (fetched-same c.args.board.now.machine.regs c.x.result c.p.result c.r-address.result (rw c.cpu-cpu.ensures at c.x.ensures.value)
    (rw c.cpu-cpu.ensures at c.p.ensures.value) c.x.ensures.below c.p.ensures.below (rw c.cpu-cpu.ensures at c.r-address.ensures.word)
    (c.x.ensures.value ∙ sym c.x-2.ensures.value ∙ c.if-x-p.true))))

pub returns-else-x-p : goal.returns-else-x-p
returns-else-x-p c =
    rw (c.read-else-x-p.ensures, c.memory-else-x-p.ensures)
    (ap (byte_of c.args.board.now.rom c.args.board.now.machine)
    (sym (fetched-other c.args.board.now.machine.regs c.x.result c.p.result c.r-address.result (rw c.cpu-cpu.ensures at c.x.ensures.value)
    (rw c.cpu-cpu.ensures at c.p.ensures.value) c.x.ensures.below c.p.ensures.below (rw c.cpu-cpu.ensures at c.r-address.ensures.word)
    (λ same. c.if-x-p.false (c.x-2.ensures.value ∙ sym c.x.ensures.value ∙ same)))))
