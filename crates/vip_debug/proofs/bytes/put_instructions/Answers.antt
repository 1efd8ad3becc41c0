use Rattle.std.proofs.Common.{◌+◌, sym, subst, arith}
use Rattle.vip_debug.specs.BoardParts.{reads}
use Rattle.vip_debug.proofs.Disassembling.{Disassembles, disassembles-first, disassembles-next, disassembles-fail, disassembles-end, disassembles-all}
use Rattle.vip_debug.proofs.bytes.put_instructions.Goals as goal

pub loop-line-init : goal.loop-line-init
loop-line-init g c =
    subst (λ at. Disassembles c.args.origins.now c.args.memory.now.latch c.args.layout (reads c.args.memory.now) c.args.address c.args.count (g.O.Sink.meaning c.args.out.now)
    (g.O.Sink.meaning c.args.out.now) at 0) (sym c.from-at.ensures)
    (disassembles-first c.args.origins.now c.args.memory.now.latch c.args.layout (reads c.args.memory.now) c.args.address c.args.count _ (omega arith))

pub returns-then-at-ge-END : goal.returns-then-at-ge-END
returns-then-at-ge-END g c = disassembles-end _ _ _ _ _ _ _ _ _ _ c.loop-line.invariant (omega arith)

pub returns-in_err-put_instruction : goal.returns-in_err-put_instruction
returns-in_err-put_instruction g c =
    disassembles-fail _ _ _ _ _ _ _ _ _ _ _ c.loop-line.invariant (omega arith) c.loop-line-test.true _ _ c.from_residual.ensures.0 c.in_err-put_instruction.ensures

pub loop-line-preserved : goal.loop-line-preserved
loop-line-preserved g c =
    subst (λ shown. Disassembles c.args.origins.now c.args.memory.now.latch c.args.layout (reads c.args.memory.now) c.args.address c.args.count (g.O.Sink.meaning c.args.out.now)
    (g.O.Sink.meaning c.put_instruction.new.out) (c.loop-line.at + shown) (c.loop-line._line + 1)) (sym c.from.ensures)
    (disassembles-next _ _ _ _ _ _ _ _ _ _ _ c.loop-line.invariant (omega arith) c.loop-line-test.true _ c.in_ok-put_instruction.ensures)

pub returns : goal.returns
returns g c = disassembles-all _ _ _ _ _ _ _ _ _ _ c.loop-line.invariant (omega arith)
