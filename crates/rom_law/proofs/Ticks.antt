-- A tick after ticks.
use Rattle.std.proofs.Common.{◌≡◌, ℕ, suc, ◌<◌, ◌≤◌, refl, sym, ◌∙◌, ap, subst, arith, false, not}
use Rattle.std.specs.Prelude.{◌==◌}
use Rattle.machine.specs.Bank.{word, value, up}
use Rattle.machine.specs.Board.{Machine}
use Rattle.machine.specs.Schedule.{Tick, IsFree, fallen}
use Rattle.rom_law.specs.Later.{Steady, After, later}

-- no tick
pub after_none : (low : ℕ) (b : Machine) → After low 0 b b
after_none low b = record { is = refl; size = refl; ram = λ a k. refl }

-- c after a tick that leaves R0, RF.0, T, RAM and the cycle number as they are in d
abbrev ticked : Machine → Machine → Machine
ticked c d =
    record c {
      regs = record c.regs {
        r = record c.regs.r { r0 = d.regs.r.r0; r8 = fallen c.regs.r.r8; r9 = up c.regs.r.r9; rf = word c.regs.r.rf.hi d.regs.r.rf.lo };
        t = d.regs.t;
        q = not (c.regs.r.r8.lo == 0);
        idle = false;
      };
      ram = d.ram;
      cycle = d.cycle;
    }

steady_kept : (low : ℕ) (b : Machine) (a : ℕ) → Steady low b.regs a → IsFree low b a → ⊥
steady_kept low b a k f = omega (arith, k f.0, f.1)

-- one tick more
pub after_tick : (low n : ℕ) (b c d : Machine) → b.regs.idle ≡ false → After low n b c → Tick low c d → After low (suc n) b d
after_tick low n b c d e h k =
    record {
      is =
          k.is
          ∙ ap (λ (z : Machine). ticked z d) h.is
          ∙ (λ i. record last {
            regs = record last.regs { r = record last.regs.r { rf = sym (ap (λ (z : Machine). z.regs.r.rf) k.is) i }; idle = sym e i };
          });
      size = k.size ∙ h.size;
      ram = λ a l. k.kept a (λ f. steady_kept low b a l (subst (λ y. (low ≤ a) × (a < value y)) r2 f)) ∙ h.ram a l;
    }
  where
    last : Machine
    last = later (suc n) d.regs.r.r0 d.regs.r.rf d.regs.t d.ram d.cycle b

    r2 : c.regs.r.r2 ≡ b.regs.r.r2
    r2 = ap (λ (z : Machine). z.regs.r.r2) h.is

-- a tick ends the wait that IDL began
abbrev pub woken : Machine → Machine
woken b = record b { regs = record b.regs { idle = false } }

pub after_wait : (low : ℕ) (b c : Machine) → Tick low b c → After low 1 (woken b) c
after_wait low b c k =
    record {
      is =
          k.is
          ∙ (λ i. record last {
            regs = record last.regs { r = record last.regs.r { rf = sym (ap (λ (z : Machine). z.regs.r.rf) k.is) i } };
          });
      size = k.size;
      ram = λ a l. k.kept a (steady_kept low b a l);
    }
  where
    last : Machine
    last = later 1 c.regs.r.r0 c.regs.r.rf c.regs.t c.ram c.cycle (woken b)

-- what ticks leave
module _ {low n : ℕ} {b c : Machine} (h : After low n b c) where
  pub after_idle : c.regs.idle ≡ b.regs.idle
  after_idle = ap (λ (z : Machine). z.regs.idle) h.is
