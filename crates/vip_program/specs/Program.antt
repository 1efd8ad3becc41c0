-- A program on the board: where its bytes lie, and the board with which it starts or goes on. After reset the boot latch makes the ROM be read at 0000
-- too (RCA's instruction manual of the COSMAC VIP, "Logic"); a program of the manual's listings lies in RAM from 0000 on and starts there.
-- That both are started with no monitor program between is this project's profile.
use Rattle.std.specs.Prelude.{ℕ, ◌-◌, List, ◌++◌, length, replicate, Bool, true, false}
use Rattle.machine.specs.Board.{after_reset}
use Rattle.machine.specs.Keys.{Event}
use Rattle.vip_board.specs.Seen.{Seen}
use Rattle.vip_cpu.specs.declared.cpu.Phase.TheVariants.{Boundary}
use Rattle.vip_text.specs.ProgramFile.{machine_in, rom_in}
use Rattle.vip_video.specs.Chip.{nothing_before, nothing_yet}
use Rattle.vip_program.specs.declared.start.Memory.{Memory}
use Rattle.vip_program.specs.declared.start.Memory.TheVariants.{Rom, Ram}

-- the bytes of each memory
abbrev pub rom_size : ℕ
rom_size = 0x800

abbrev pub ram_size : ℕ
ram_size = 0x1000

-- these bytes, and 00 behind them up to a size
abbrev pub padded : ℕ → List ℕ → List ℕ
padded size bytes = bytes ++ replicate (size - length bytes) 0

-- the boot latch, which is clear where a program starts in RAM
abbrev pub latch_under : Memory → Bool
latch_under Rom = true
latch_under Ram = false

-- the board before the first move, with these bytes of the ROM and of the RAM and a key script: as after reset but for the RAM and the latch
abbrev pub started : Memory → List ℕ → List ℕ → List Event → Seen
started memory rom ram script =
    record {
      machine = record after_reset { ram = padded ram_size ram; latch = latch_under memory };
      phase = Boundary;
      pictures = nothing_yet;
      rom = padded rom_size rom;
      script = script;
    }

-- the board that goes on in the machine of an accepted file, with a key script
abbrev pub resumed : List ℕ → List Event → Seen
resumed file script =
    record {
      machine = machine_in file;
      phase = Boundary;
      pictures = nothing_before (machine_in file).cycle;
      rom = rom_in file;
      script = script;
    }
