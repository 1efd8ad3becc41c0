use Rattle.std.proofs.Common.{subst, ap, ◌∙◌, ◌++◌}
use Rattle.vip_cpu.specs.Cycle.{Processor}
use Rattle.vip_outside.specs.Sink.{PutAnswers}
use Rattle.vip_debug.specs.BoardShown.{registers_text}
use Rattle.vip_debug.proofs.Lines.{joined-3}
use Rattle.vip_debug.proofs.registers.put_registers_line.Goals as goal

pub returns : goal.returns
returns g c =
    subst (λ piece. PutAnswers piece (g.O.Sink.meaning c.args.out.now) (g.O.Sink.meaning c.put-3.new.self) c.put-3.result)
    (joined-3 _ _ _ _ _ _ _ _ c.new-text.ensures c.put.ensures.items
    (c.put_registers.ensures.items ∙ ap (λ (cpu : Processor). c.put.new.into.items ++ registers_text cpu.regs 16) c.cpu.ensures) c.put-2.ensures.items
    c.as_slice.ensures.value)
    c.put-3.ensures.answer
