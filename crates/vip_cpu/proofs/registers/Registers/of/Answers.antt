use Rattle.std.proofs.Common.{◌≤◌, arith, Bool, true, false}
use Rattle.machine.specs.Bit.{bit}
use Rattle.vip_cpu.proofs.registers.Registers.of.Goals as goal

bit-fits : (b : Bool) → bit b ≤ 1
bit-fits true = omega arith
bit-fits false = omega arith

pub returns-clause-fits : goal.returns-clause-fits
returns-clause-fits c =
    record {
      r = c.of.ensures.fits;
      d = c.byte.ensures.below;
      df = bit-fits c.args.parts.now.df;
      p = c.requires.p;
      x = c.requires.x;
      t = c.byte-2.ensures.below;
    }
