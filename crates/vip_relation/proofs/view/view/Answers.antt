use Rattle.std.proofs.Common.{◌≡◌, ap, sym, ◌∙◌}
use Rattle.machine.specs.Bank.{word_of}
use Rattle.vip_cpu.specs.Cycle.{Processor}
use Rattle.vip_relation.proofs.Reading.{view_at-parts}
use Rattle.vip_relation.proofs.view.view.Goals as goal

pub returns : goal.returns
returns g c =
    let timers : c.args.board.now.machine.regs.r.r8 ≡ word_of c.r-timers.result =
    sym (ap (λ (p : Processor). p.regs.r.r8) c.cpu-cpu.ensures) ∙ c.r-timers.ensures.word in
    rw (view_at-parts c.args.edition c.args.board.now.machine, timers, c.variables.ensures, c.opcode.ensures, c.stack.ensures, c.ram_byte.ensures, c.now.ensures, c.q.ensures, c.r.ensures.number, c.r-pc.ensures.number, c.r-2.ensures.number, c.r-3.ensures.number, c.cpu-cpu.ensures, c.memory-memory.ensures)
