use Rattle.std.proofs.Common.{◌∙◌, length, ap, sym, subst, arith}
use Rattle.machine.specs.Ranges.{FitsRegs}
use Rattle.vip_cpu.specs.Cycle.{Processor}
use Rattle.vip_keypad.specs.KeypadState.{KeypadState}
use Rattle.vip_memory.specs.Contents.{Contents}
use Rattle.vip_board.proofs.board.Board+Script.stand.Goals as goal

pub returns-clause-fits : goal.returns-clause-fits
returns-clause-fits c =
    let ram = ap (λ (m : Contents). m.ram) c.in_ok-memory.ensures in
    let rom = ap (λ (m : Contents). m.rom) c.in_ok-memory.ensures in
    let latched = ap (λ (k : KeypadState). k.latched) c.in_ok-keypad.ensures in
    let old = c.from_parts-cpu.ensures.fits in (
      record {
        regs = subst (λ (p : Processor). FitsRegs p.regs) (sym c.switch.ensures) (record { r = old.r; d = old.d; df = old.df; p = old.p; x = old.x; t = old.t });
        ram = rw ram (λ a. omega (arith, c.type_inv.ram a));
        size = ap length ram ∙ c.requires.ram;
        key = omega (arith, latched, c.requires.key);
      },
      record { size = ap length rom ∙ c.requires.rom; bytes = rw rom (λ a. omega (arith, c.type_inv.rom a)) },
    )
