-- One machine cycle of the CDP1802 (data sheet, "State Codes"): S0 fetches, S1 executes or idles, S2 is a DMA cycle, and S3 an
-- interrupt.
use Rattle.std.specs.Prelude.{◌-◌, ◌==◌, ◌&&◌, ◌≤◌, if◌then◌else◌, ℕ, Bool}
use Rattle.machine.specs.Opcodes.{cycles_of}
use Rattle.machine.specs.Instruction.{Regs, Effect, only, executed, inputs, at, stepped, after_dma, interrupted}
use Rattle.vip_cpu.specs.declared.cpu.Phase.{Phase}
use Rattle.vip_cpu.specs.declared.cpu.Phase.TheVariants.{Boundary, Middle}
use Rattle.vip_cpu.specs.declared.cpu.Next.{Next}
use Rattle.vip_cpu.specs.declared.cpu.Next.TheVariants.{Dma as NextDma, Interrupt as NextInterrupt, Idle as NextIdle, Fetch as NextFetch}
use Rattle.vip_cpu.specs.declared.cpu.Did.{Did}
use Rattle.vip_cpu.specs.declared.cpu.Did.TheVariants.{Fetch, Execute, Dma, Interrupt, Idle}

-- A processor between two machine cycles: its registers, and where it stands: at a boundary, where a move starts, or in the middle of
-- an instruction, with the opcode in hand and the cycles left.
pub record Processor : Type 0 where
  pub regs : Regs
  pub phase : Phase

-- what a machine cycle makes: the registers, the action at a port and the write, where the processor then stands, and the kind of cycle
pub record Cycle : Type 0 where
  pub effect : Effect
  pub phase : Phase
  pub did : Did

-- the processor after it
abbrev pub after : Cycle → Processor
after c = record { regs = c.effect.regs; phase = c.phase }

-- a cycle that changes nothing on the bus
abbrev pub quiet : Regs → Phase → Did → Cycle
quiet s phase did = record { effect = only s; phase = phase; did = did }

-- What the move is that starts: a DMA cycle where DMA is wanted, else an interrupt where INT is active and IE is 1, else an idle cycle
-- after IDL, else an instruction.
abbrev pub next_of : Regs → Bool → Bool → Next
next_of s dma int = if dma then NextDma else if s.ie && int then NextInterrupt else if s.idle then NextIdle else NextFetch

-- The first cycle of a move, over the registers and the bytes of memory. Behind the fetch of an instruction its other cycles are left.
abbrev pub begun_as : Next → Regs → (ℕ → ℕ) → Cycle
begun_as NextDma s m = quiet (after_dma s) Boundary (Dma (m (at s 0)))
begun_as NextInterrupt s m = quiet (interrupted s) Boundary Interrupt
begun_as NextIdle s m = quiet s Boundary Idle
begun_as NextFetch s m = quiet (stepped s s.p) (Middle (m (at s s.p)) (cycles_of (m (at s s.p)) - 1)) Fetch

abbrev pub begun : Regs → (ℕ → ℕ) → Bool → Bool → Cycle
begun s m dma int = begun_as (next_of s dma int) s m

-- The last cycle of an instruction: all of it but the fetch. It takes the flags of this cycle, and `taken` from the bus at an INP.
abbrev pub ended : ℕ → Regs → (ℕ → ℕ) → (ℕ → Bool) → ℕ → Cycle
ended opcode s m f taken = record { effect = executed opcode s (inputs s m f taken); phase = Boundary; did = Execute }

abbrev pub cycle_in : Phase → Regs → (ℕ → ℕ) → (ℕ → Bool) → Bool → Bool → ℕ → Cycle
cycle_in Boundary s m f dma int taken = begun s m dma int
cycle_in (Middle opcode left) s m f dma int taken =
    if left == 1 then ended opcode s m f taken else quiet s (Middle opcode (left - 1)) Execute

-- one machine cycle, by the bytes of memory, the flags, the request for DMA, INT, and the byte that the bus takes from a port
abbrev pub cycle : Processor → (ℕ → ℕ) → (ℕ → Bool) → Bool → Bool → ℕ → Cycle
cycle c m f dma int taken = cycle_in c.phase c.regs m f dma int taken

-- in the middle of an instruction one or two cycles are left
abbrev pub HasCyclesLeft : Phase → Type 0
HasCyclesLeft Boundary = Unit {0}
HasCyclesLeft (Middle opcode left) = (1 ≤ left) × (left ≤ 2)
