use Rattle.std.proofs.Common.{◌≡◌, ℕ, ◌∙◌, refl, sym, ap, subst}
use Rattle.machine.specs.Instruction.{Regs}
use Rattle.vip_cpu.specs.Acts.{Acts}
use Rattle.vip_cpu.specs.Cycle.{Processor, after, begun_as, next_of, cycle_in}
use Rattle.vip_cpu.specs.declared.cpu.Phase.TheVariants.{Boundary}
use Rattle.vip_cpu.specs.declared.cpu.Next.{Next}
use Rattle.vip_cpu.specs.declared.cpu.Next.TheVariants.{Dma, Interrupt, Idle, Fetch}
use Rattle.vip_cpu.proofs.cpu.Cpu.cycle.Goals as goal

-- the first cycle of a move calls nothing
quiet : {X : Type 0} (writes sends receives : X → ℕ → ℕ → X → Type 0) (next : Next) (s : Regs) (m : ℕ → ℕ) (bus : X)
    → Acts writes sends receives (begun_as next s m).effect 0 bus bus
quiet writes sends receives Dma s m bus = (refl, refl)
quiet writes sends receives Interrupt s m bus = (refl, refl)
quiet writes sends receives Idle s m bus = (refl, refl)
quiet writes sends receives Fetch s m bus = (refl, refl)

pub returns-in-Boundary : goal.returns-in-Boundary
returns-in-Boundary g c =
    let s : Processor = c.args.self.now in
    let byte = g.B.Bus.byte c.args.bus.now in
    let starts : s.phase ≡ Boundary = sym (ap (λ (p : Processor). p.phase) c.self.view_is) ∙ c.in-Boundary.is in
    subst (λ phase. (taken : ℕ) × (let y = cycle_in phase s.regs byte (g.B.Bus.flags c.args.bus.now) c.args.dma c.args.int taken in
    (c.begin.new.self ≡ after y) × (c.begin.result ≡ y.did)
    × Acts g.B.Bus.writes g.B.Bus.sends g.B.Bus.receives y.effect taken c.args.bus.now c.args.bus.now)) (sym starts) (
      0,
      (
        c.begin.ensures.processor,
        c.begin.ensures.did,
        quiet g.B.Bus.writes g.B.Bus.sends g.B.Bus.receives (next_of s.regs c.args.dma c.args.int) s.regs byte c.args.bus.now,
      ),
    )
