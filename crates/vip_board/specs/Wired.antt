-- The wires of the board: how the board is seen, and what the processor's calls make of it.
use Rattle.std.specs.Prelude.{ℕ, Option, Some}
use Rattle.machine.specs.Instruction.{Port}
use Rattle.machine.specs.Memory.{written}
use Rattle.machine.specs.Board.{on_after, key_after, latch_after, ram_after}
use Rattle.vip_cpu.specs.Cycle.{Processor}
use Rattle.vip_board.specs.Seen.{Seen}
use Rattle.vip_board.specs.declared.wires.Wires.{Wires}

-- the board of a processor and what it is wired to
abbrev pub seen_of : {K : Type 0} → Processor → Wires K → Seen
seen_of cpu w =
    record {
      machine =
          record {
            regs = cpu.regs;
            ram = w.memory.ram;
            latch = w.memory.latch;
            on = w.video.on;
            key = w.keypad.latched;
            cycle = w.video.cycles;
          };
      phase = cpu.phase;
      pictures = w.video.pictures;
      rom = w.memory.rom;
      script = w.keypad.script;
    }

-- after an action at a port, and after a write
abbrev pub after_port : {K : Type 0} → Port → Wires K → Wires K
after_port p w =
    record w {
      video = record w.video { on = on_after (Some p) w.video.on };
      keypad = record w.keypad { latched = key_after (Some p) w.keypad.latched };
      memory = record w.memory { latch = latch_after (Some p) w.memory.latch };
    }

abbrev pub after_write : {K : Type 0} → ℕ → ℕ → Wires K → Wires K
after_write address value w = record w { memory = record w.memory { ram = written w.memory.latch w.memory.ram address value } }

-- after at most one of each: the write goes by the latch before
abbrev pub after_calls : {K : Type 0} → Option Port → Option (ℕ × ℕ) → Wires K → Wires K
after_calls port write w =
    record w {
      video = record w.video { on = on_after port w.video.on };
      keypad = record w.keypad { latched = key_after port w.keypad.latched };
      memory = record w.memory { latch = latch_after port w.memory.latch; ram = ram_after write w.memory.latch w.memory.ram };
    }
