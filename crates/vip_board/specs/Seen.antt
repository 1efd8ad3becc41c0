-- A board as its callers see it, and its machine cycles.
use Rattle.std.specs.Prelude.{ℕ, ◌+◌, List, Option, Some, None}
use Rattle.machine.specs.Keys.{Event, Keys, held_at}
use Rattle.machine.specs.Signals.{int_at, dma_at, efx_at}
use Rattle.machine.specs.Board.{Machine, acted, byte_of, flags_of}
use Rattle.vip_cpu.specs.Cycle.{Cycle, cycle_in}
use Rattle.vip_cpu.specs.declared.cpu.Phase.{Phase}
use Rattle.vip_cpu.specs.declared.cpu.Did.{Did}
use Rattle.vip_cpu.specs.declared.cpu.Did.TheVariants.{Dma}
use Rattle.vip_memory.specs.Contents.{Contents}
use Rattle.vip_video.specs.Chip.{Pictures, scanned}

-- the machine, where the processor stands (at a boundary, or in the middle of an instruction), what the video chip has of pictures, the
-- ROM, and the key script
pub record Seen : Type 0 where
  pub machine : Machine
  pub phase : Phase
  pub pictures : Pictures
  pub rom : List ℕ
  pub script : List Event

-- what memory holds
abbrev pub contents_of : Seen → Contents
contents_of s = record { ram = s.machine.ram; rom = s.rom; latch = s.machine.latch }

-- the keys that the script holds down
abbrev pub held_by : Seen → ℕ → Keys
held_by s = held_at s.script

-- the processor's next machine cycle; every INP takes 00
abbrev pub cycle_of : Seen → Cycle
cycle_of s =
    let b = s.machine in
    cycle_in s.phase b.regs (byte_of s.rom b) (flags_of (efx_at b.cycle b.on) (held_by s b.cycle b.key)) (dma_at b.cycle b.on) (int_at b.cycle b.on) 0

-- the byte that a DMA cycle put on the bus
abbrev pub byte_in : Did → Option ℕ
byte_in (Dma byte) = Some byte
byte_in _ = None

-- the board after it
abbrev pub cycled : Seen → Seen
cycled s =
    let c = cycle_of s in
    record s {
      machine = record (acted c.effect s.machine) { cycle = s.machine.cycle + 1 };
      phase = c.phase;
      pictures = scanned s.machine.cycle s.machine.on (byte_in c.did) s.pictures;
    }
