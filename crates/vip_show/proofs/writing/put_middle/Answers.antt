use Rattle.std.proofs.Common.{◌+◌, ◌*◌, [], ◌∷◌}
use Rattle.std.specs.Int.{w64, to_be_bytes}
use Rattle.machine.specs.Bit.{bit}
use Rattle.vip_show.specs.Written.{register_bytes}
use Rattle.vip_show.proofs.Files.{four}
use Rattle.vip_show.proofs.writing.put_middle.Goals as goal

pub returns-clause-items : goal.returns-clause-items
returns-clause-items c =
    let b = c.args.board.now.machine in
    rw (
      c.put-2.ensures.items,
      c.put_registers.ensures.items,
      c.put.ensures.items,
      c.to_be_bytes.ensures,
      c.now.ensures,
      c.number.ensures,
      c.number-2.ensures,
      c.df.ensures,
      c.q.ensures,
      c.d.ensures,
      c.t.ensures,
      c.x.ensures.value,
      c.p.ensures.value,
      c.latched.ensures.value,
      c.keypad.ensures,
      c.cpu-cpu.ensures,
    )
    (four c.args.into.now.items (to_be_bytes w64 b.cycle) (register_bytes b.regs.r 16)
    (b.regs.d ∷ b.regs.t ∷ (16 * b.regs.x + b.regs.p) ∷ (b.regs.df + 2 * bit b.regs.q) ∷ b.key ∷ []))
