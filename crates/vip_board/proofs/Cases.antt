-- A move that is one machine cycle: a DMA cycle, an interrupt and an idle cycle.
use Rattle.std.proofs.Common.{◌≡◌, ℕ, List, Bool, true, false, ◌&&◌, if◌then◌else◌, refl, sym, ap, ◌∙◌}
use Rattle.machine.specs.Instruction.{Regs}
use Rattle.machine.specs.Keys.{Event, held_at}
use Rattle.machine.specs.Signals.{dma_at, int_at}
use Rattle.machine.specs.Board.{Machine, Case, case_of, moved_in, length_in, byte_of}
use Rattle.machine.specs.Board.Case.{Dma as DmaCase, Interrupt as InterruptCase, Idle as IdleCase}
use Rattle.machine.proofs.Moves.{case_dma, case_interrupt, case_idle}
use Rattle.vip_cpu.specs.Cycle.{begun_as}
use Rattle.vip_cpu.specs.declared.cpu.Phase.TheVariants.{Boundary}
use Rattle.vip_cpu.specs.declared.cpu.Did.TheVariants.{Fetch, Interrupt, Idle, Dma}
use Rattle.vip_cpu.specs.declared.cpu.Next.{Next}
use Rattle.vip_cpu.specs.declared.cpu.Next.TheVariants.{Dma as NextDma, Interrupt as NextInterrupt, Idle as NextIdle, Fetch as NextFetch}
use Rattle.vip_video.specs.Chip.{Pictures}
use Rattle.vip_board.specs.Seen.{Seen, cycled, cycle_of}
use Rattle.vip_board.specs.Moves.{name_of, name_in, moved, pictures_after, scanned_over, bus_byte_in}

-- ---- a board at a boundary

abbrev pub resting : List ℕ → List Event → Machine → Pictures → Seen
resting rom script b p = record { machine = b; phase = Boundary; pictures = p; rom = rom; script = script }

abbrev pub at_rest : Seen → Seen
at_rest s = resting s.rom s.script s.machine s.pictures

pub rests : (s : Seen) → s.phase ≡ Boundary → s ≡ at_rest s
rests s h = ap (λ p. record s { phase = p }) h

pub moved-rests : (s : Seen) → s.phase ≡ Boundary → moved (at_rest s) ≡ moved s
moved-rests s h = sym (ap moved (rests s h))

pub moved-in : (rom : List ℕ) (script : List Event) (b : Machine) (p : Pictures) (k : Case) → case_of b ≡ k
    → moved (resting rom script b p)
    ≡ resting rom script (moved_in k rom (held_at script) b) (scanned_over (length_in k rom b) b.cycle b.on (bus_byte_in k rom b) p)
unfolding pictures_after
moved-in rom script b p k e = rw e

-- ---- which case a cycle is

-- the move that starts, by the request for DMA, an interrupt that is taken, and whether the processor idles
abbrev pub next_by : Bool → Bool → Bool → Next
next_by x y z = if x then NextDma else if y then NextInterrupt else if z then NextIdle else NextFetch

by_dma : (x y z : Bool) (s : Regs) (m : ℕ → ℕ) (v : ℕ) → (begun_as (next_by x y z) s m).did ≡ Dma v → x ≡ true
by_dma true y z s m v h = refl
by_dma false true z s m v h = cc
by_dma false false true s m v h = cc
by_dma false false false s m v h = cc

by_interrupt : (x y z : Bool) (s : Regs) (m : ℕ → ℕ) → (begun_as (next_by x y z) s m).did ≡ Interrupt → (x ≡ false) × (y ≡ true)
by_interrupt true y z s m h = cc
by_interrupt false true z s m h = (refl, refl)
by_interrupt false false true s m h = cc
by_interrupt false false false s m h = cc

by_idle : (x y z : Bool) (s : Regs) (m : ℕ → ℕ) → (begun_as (next_by x y z) s m).did ≡ Idle → (x ≡ false) × (y ≡ false) × (z ≡ true)
by_idle true y z s m h = cc
by_idle false true z s m h = cc
by_idle false false true s m h = (refl, refl, refl)
by_idle false false false s m h = cc

pub by_fetch : (x y z : Bool) (s : Regs) (m : ℕ → ℕ) → (begun_as (next_by x y z) s m).did ≡ Fetch → (x ≡ false) × (y ≡ false) × (z ≡ false)
by_fetch true y z s m h = cc
by_fetch false true z s m h = cc
by_fetch false false true s m h = cc
by_fetch false false false s m h = (refl, refl, refl)

-- a move and its name
pub record Is (s : Seen) (k : Case) : Type 0 where
  pub case : case_of s.machine ≡ k
  pub whole : cycled (at_rest s) ≡ moved (at_rest s)

module _ (rom : List ℕ) (script : List Event) (b : Machine) (p : Pictures) where
  abbrev first : Seen
  first = resting rom script b p

  -- after a move of one cycle
  abbrev landed : Case → Seen
  landed k =
      resting rom script (moved_in k rom (held_at script) b) (scanned_over (length_in k rom b) b.cycle b.on (bus_byte_in k rom b) p)

  is_dma : (v : ℕ) → (cycle_of first).did ≡ Dma v → Is first DmaCase
  is_dma v h =
      let d = by_dma (dma_at b.cycle b.on) (b.regs.ie && int_at b.cycle b.on) b.regs.idle b.regs (byte_of rom b) v h in
      let k : case_of b ≡ DmaCase = case_dma b d in
      let step : cycled first ≡ landed DmaCase = rw d in
      record { case = k; whole = step ∙ sym (moved-in rom script b p DmaCase k) }

  is_interrupt : (cycle_of first).did ≡ Interrupt → Is first InterruptCase
  is_interrupt h =
      let t = by_interrupt (dma_at b.cycle b.on) (b.regs.ie && int_at b.cycle b.on) b.regs.idle b.regs (byte_of rom b) h in
      let k : case_of b ≡ InterruptCase = case_interrupt b t.0 t.1 in
      let step : cycled first ≡ landed InterruptCase = rw (t.0, t.1) in
      record { case = k; whole = step ∙ sym (moved-in rom script b p InterruptCase k) }

  is_idle : (cycle_of first).did ≡ Idle → Is first IdleCase
  is_idle h =
      let t = by_idle (dma_at b.cycle b.on) (b.regs.ie && int_at b.cycle b.on) b.regs.idle b.regs (byte_of rom b) h in
      let k : case_of b ≡ IdleCase = case_idle b t.0 t.1 t.2 in
      let step : cycled first ≡ landed IdleCase = rw (t.0, t.1, t.2) in
      record { case = k; whole = step ∙ sym (moved-in rom script b p IdleCase k) }

-- ---- the same of a board at a boundary

pub record IsMove (s : Seen) (k : Case) : Type 0 where
  pub case : case_of s.machine ≡ k
  pub whole : cycled s ≡ moved s

carried : (s : Seen) (k : Case) → s.phase ≡ Boundary → Is (at_rest s) k → IsMove s k
carried s k h i = record { case = i.case; whole = ap cycled (rests s h) ∙ i.whole ∙ moved-rests s h }

pub dma-move : (s : Seen) (v : ℕ) → s.phase ≡ Boundary → (cycle_of s).did ≡ Dma v → IsMove s DmaCase
dma-move s v h d =
    carried s DmaCase h (is_dma s.rom s.script s.machine s.pictures v (sym (ap (λ x. (cycle_of x).did) (rests s h)) ∙ d))

pub interrupt-move : (s : Seen) → s.phase ≡ Boundary → (cycle_of s).did ≡ Interrupt → IsMove s InterruptCase
interrupt-move s h d =
    carried s InterruptCase h (is_interrupt s.rom s.script s.machine s.pictures (sym (ap (λ x. (cycle_of x).did) (rests s h)) ∙ d))

pub idle-move : (s : Seen) → s.phase ≡ Boundary → (cycle_of s).did ≡ Idle → IsMove s IdleCase
idle-move s h d =
    carried s IdleCase h (is_idle s.rom s.script s.machine s.pictures (sym (ap (λ x. (cycle_of x).did) (rests s h)) ∙ d))

pub name-in : (b : Machine) (k : Case) → case_of b ≡ k → name_of b ≡ name_in k b
name-in b k e = rw e
