use Rattle.std.proofs.Common.{◌≡◌, ◌++◌, ◌∙◌, arith, ap}
use Rattle.vip_debug.specs.BoardShown.{registers_text}
use Rattle.vip_debug.proofs.Lines.{registers-none, registers-more}
use Rattle.vip_debug.proofs.registers.put_registers.Goals as goal

pub loop-number-init : goal.loop-number-init
loop-number-init c = record { len = omega arith; items = registers-none _ _ }

pub loop-number-preserved : goal.loop-number-preserved
loop-number-preserved c = record {
  len = omega arith;
  items =
      c.put-in-loop-number.ensures.items
      ∙ ap (λ xs. xs ++ c.hex4.result) c.put.ensures.items
      ∙ registers-more c.args.cpu.now.regs c.loop-number.number c.args.into.now.items c.loop-number.into.items c.hex4.result c.r.result
      c.loop-number.invariant.items c.r.ensures.number c.hex4.ensures;
}

pub returns-clause-items : goal.returns-clause-items
returns-clause-items c =
    let all : c.loop-number.number ≡ 16 = omega arith in
    c.loop-number.invariant.items ∙ ap (λ n. c.args.into.now.items ++ registers_text c.args.cpu.now.regs n) all
