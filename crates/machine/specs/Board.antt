-- The board: the state of the machine, and its moves, which are its atomic steps.
use Rattle.std.specs.Prelude.{ℕ, ◌+◌, ◌%◌, ◌==◌, ◌&&◌, if◌then◌else◌, Bool, true, false, List, ◌++◌, length, drop, replicate, Option, Some, None}
use Rattle.machine.specs.Opcodes.{cycles_of}
use Rattle.machine.specs.Instruction.{Regs, Effect, Port, at, instruction, after_dma, interrupted, regs_after_reset}
use Rattle.machine.specs.Instruction.Port.{Send, Receive}
use Rattle.machine.specs.Memory.{read, written}
use Rattle.machine.specs.Signals.{int_at, dma_at, efx_at}
use Rattle.machine.specs.Keys.{Keys}

-- The state of the machine: the registers, the 4,096 bytes of RAM, the boot latch, the display switch, the latched key, and the
-- number of machine cycles since reset. The ROM and the keys that are held down stand beside it.
pub record Machine : Type 0 where
  pub regs : Regs
  pub ram : List ℕ
  pub latch : Bool
  pub on : Bool
  pub key : ℕ
  pub cycle : ℕ

-- After reset RAM is 0, the boot latch is set, the display is off, and key 0 is latched.
abbrev pub after_reset : Machine
after_reset = record { regs = regs_after_reset; ram = replicate 0x1000 0; latch = true; on = false; key = 0; cycle = 0 }

-- a game lies in RAM from 0200 on
abbrev pub start : List ℕ → Machine
start game = record after_reset { ram = replicate 0x200 0 ++ game ++ drop (0x200 + length game) (replicate 0x1000 0) }

-- ---- the ports; what is not named has no effect

-- OUT 1 turns the display off, and INP 1 on
abbrev pub on_after : Option Port → Bool → Bool
on_after None on = on
on_after (Some (Send port byte)) on = if port == 1 then false else on
on_after (Some (Receive port)) on = if port == 1 then true else on

-- OUT 2 latches the low four bits of the byte as the key
abbrev pub key_after : Option Port → ℕ → ℕ
key_after None key = key
key_after (Some (Send port byte)) key = if port == 2 then byte % 16 else key
key_after (Some (Receive port)) key = key

-- OUT 4 clears the boot latch for good
abbrev pub latch_after : Option Port → Bool → Bool
latch_after None latch = latch
latch_after (Some (Send port byte)) latch = if port == 4 then false else latch
latch_after (Some (Receive port)) latch = latch

-- RAM after at most one write
abbrev pub ram_after : Option (ℕ × ℕ) → Bool → List ℕ → List ℕ
ram_after None latch ram = ram
ram_after (Some w) latch ram = written latch ram w.0 w.1

-- An instruction's effect on the machine. A change that it makes at a port is seen from the next move on, so its write goes by the
-- latch before it.
abbrev pub acted : Effect → Machine → Machine
acted e b =
    record b {
      regs = e.regs;
      ram = ram_after e.write b.latch b.ram;
      latch = latch_after e.port b.latch;
      on = on_after e.port b.on;
      key = key_after e.port b.key;
    }

-- EF1 is EFX, EF3 is whether the latched key is held down, and EF2 and EF4 are 0
abbrev pub flags_of : Bool → Bool → ℕ → Bool
flags_of efx held flag = if flag == 1 then efx else if flag == 3 then held else false

-- the byte at each address
abbrev pub byte_of : List ℕ → Machine → ℕ → ℕ
byte_of rom b = read rom b.latch b.ram

-- the opcode at R(P)
abbrev pub opcode_of : List ℕ → Machine → ℕ
opcode_of rom b = byte_of rom b (at b.regs b.regs.p)

-- A main move of a machine that doesn't idle: one instruction, with a value of EFX and the keys that are held down. Every INP takes
-- 00. The cycle number plays no part and stays.
abbrev pub main_move : List ℕ → Bool → Keys → Machine → Machine
main_move rom efx held b = acted (instruction b.regs (byte_of rom b) (flags_of efx (held b.key)) 0) b

-- ---- the move that a machine makes

-- what starts in this cycle: the first that applies of a DMA cycle, an interrupt, an idle cycle and an instruction
pub data Case : Type 0 where
  Dma : Case
  Interrupt : Case
  Idle : Case
  Instruction : Case

abbrev pub case_of : Machine → Case
case_of b =
    if dma_at b.cycle b.on then Dma
    else if b.regs.ie && int_at b.cycle b.on then Interrupt
    else if b.regs.idle then Idle
    else Instruction

-- the machine cycles of a move
abbrev pub length_in : Case → List ℕ → Machine → ℕ
length_in Instruction rom b = cycles_of (opcode_of rom b)
length_in _ rom b = 1

abbrev pub length_of : List ℕ → Machine → ℕ
length_of rom b = length_in (case_of b) rom b

-- the byte that a DMA cycle puts on the bus, M(R(0))
abbrev pub dma_byte : List ℕ → Machine → ℕ
dma_byte rom b = byte_of rom b (at b.regs 0)

-- What each case makes of the machine. The keys are given by the cycle; an instruction has EFX and the keys of the cycle after its
-- fetch.
abbrev pub moved_in : Case → List ℕ → (ℕ → Keys) → Machine → Machine
moved_in Dma rom held b = record b { regs = after_dma b.regs; cycle = b.cycle + 1 }
moved_in Interrupt rom held b = record b { regs = interrupted b.regs; cycle = b.cycle + 1 }
moved_in Idle rom held b = record b { cycle = b.cycle + 1 }
moved_in Instruction rom held b =
    record (main_move rom (efx_at (b.cycle + 1) b.on) (held (b.cycle + 1)) b) { cycle = b.cycle + cycles_of (opcode_of rom b) }

-- the move of the board
abbrev pub move : List ℕ → (ℕ → Keys) → Machine → Machine
move rom held b = moved_in (case_of b) rom held b
