-- The machine of a device. Every content of the struct is one.
use Rattle.std.specs.Prelude.{ℕ, ◌%◌, ◌==◌, not, Bool, List}
use Rattle.machine.specs.Bank.{bank_of}
use Rattle.machine.specs.Bit.{bit}
use Rattle.machine.specs.Board.{Machine}
use Rattle.machine.specs.Instruction.{Regs}
use Rattle.vip_device.specs.declared.device.VipDevice.{VipDevice}
use Rattle.vip_device.specs.declared.device.VipRegisters.{VipRegisters}

-- a flag is set if its byte isn't 0
abbrev pub is_set : ℕ → Bool
is_set byte = not (byte == 0)

-- the registers of the processor: P and X count modulo 16
abbrev pub regs_in : VipRegisters → Regs
regs_in a =
    record {
      r = bank_of a.r;
      d = a.d;
      df = bit (is_set a.df);
      p = a.p % 16;
      x = a.x % 16;
      t = a.t;
      q = is_set a.q;
      ie = is_set a.ie;
      idle = is_set a.idle;
    }

-- the whole machine
abbrev pub machine_in : VipDevice → Machine
machine_in d =
    record {
      regs = regs_in d.registers;
      ram = d.ram;
      latch = is_set d.registers.latch;
      on = is_set d.registers.display;
      key = d.registers.key % 16;
      cycle = d.cycle;
    }
