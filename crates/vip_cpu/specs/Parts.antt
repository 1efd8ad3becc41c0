-- The registers that a processor is made of: interrupts are enabled, and it doesn't idle.
use Rattle.std.specs.Prelude.{true, false}
use Rattle.machine.specs.Bank.{bank_of}
use Rattle.machine.specs.Instruction.{Regs}
use Rattle.vip_cpu.specs.declared.registers.Parts.{Parts}
use Rattle.machine.specs.Bit.{bit}

abbrev pub regs_of : Parts → Regs
regs_of parts =
    record {
      r = bank_of parts.r;
      d = parts.d;
      df = bit parts.df;
      p = parts.p;
      x = parts.x;
      t = parts.t;
      q = parts.q;
      ie = true;
      idle = false;
    }
