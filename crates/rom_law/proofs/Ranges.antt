-- Ticks keep the ranges of the machine, as moves do.
use Rattle.std.proofs.Common.{ℕ, ◌<◌, ◌≤◌, sym, ◌∙◌, ap, subst, arith, false, not, slice_index, ◌⊎◌, inl, inr}
use Rattle.std.specs.Prelude.{◌==◌}
use Rattle.std.proofs.lemmas.Bool.{cases_lt}
use Rattle.machine.specs.Bank.{Word, word, value, up}
use Rattle.machine.specs.Board.{Machine}
use Rattle.machine.specs.Schedule.{Tick, fallen}
use Rattle.machine.specs.Ranges.{FitsWord, FitsBank, FitsRegs, FitsMachine}
use Rattle.machine.proofs.Ranges.{up_fits}

fallen_fits : (w : Word) → FitsWord w → FitsWord (fallen w)
fallen_fits w f = record { hi = omega (arith, f.hi); lo = omega (arith, f.lo) }

-- a tick
pub tick_fits : (low : ℕ) (b c : Machine) → FitsMachine b → Tick low b c → FitsMachine c
tick_fits low b c h k =
    record {
      regs = subst FitsRegs (sym (ap (λ (z : Machine). z.regs) k.is)) regs;
      ram = ram;
      size = k.size ∙ h.size;
      key = subst (λ z. z < 16) (sym (ap (λ (z : Machine). z.key) k.is)) h.key;
    }
  where
    r : FitsBank b.regs.r
    r = h.regs.r

    regs : FitsRegs (record b.regs {
      r =
          record b.regs.r { r0 = c.regs.r.r0; r8 = fallen b.regs.r.r8; r9 = up b.regs.r.r9; rf = word b.regs.r.rf.hi c.regs.r.rf.lo };
      t = c.regs.t;
      q = not (b.regs.r.r8.lo == 0);
      idle = false;
    })
    regs =
        record {
          r = record {
            r0 = k.r0_fits;
            r1 = r.r1;
            r2 = r.r2;
            r3 = r.r3;
            r4 = r.r4;
            r5 = r.r5;
            r6 = r.r6;
            r7 = r.r7;
            r8 = fallen_fits b.regs.r.r8 r.r8;
            r9 = up_fits b.regs.r.r9;
            ra = r.ra;
            rb = r.rb;
            rc = r.rc;
            rd = r.rd;
            re = r.re;
            rf = record { hi = r.rf.hi; lo = k.rf_fits };
          };
          d = h.regs.d;
          df = h.regs.df;
          p = h.regs.p;
          x = h.regs.x;
          t = k.t_fits;
        }

    ram : (a : ℕ) → slice_index c.ram a < 256
    ram a = go (cases_lt a low) (cases_lt a (value b.regs.r.r2))
      where
        go : (a < low) ⊎ (low ≤ a) → (a < value b.regs.r.r2) ⊎ (value b.regs.r.r2 ≤ a) → slice_index c.ram a < 256
        go (inr l) (inl m) = k.bytes_fit a (l, m)
        go (inl l) z = rw (k.kept a (λ f. omega (arith, l, f.0))) (h.ram a)
        go (inr l) (inr m) = rw (k.kept a (λ f. omega (arith, m, f.1))) (h.ram a)
