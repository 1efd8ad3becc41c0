-- The board with which a program starts.
use Rattle.std.proofs.Common.{◌≡◌, ℕ, ◌+◌, Bool, List, ◌++◌, length, drop, replicate, refl, ap, ◌∙◌, arith}
use Rattle.std.proofs.lemmas.List.{drop-replicate}
use Rattle.machine.specs.Board.{after_reset}
use Rattle.machine.specs.Instruction.{Regs}
use Rattle.machine.specs.Keys.{Event}
use Rattle.vip_board.specs.Seen.{Seen}
use Rattle.vip_cpu.specs.declared.cpu.Phase.TheVariants.{Boundary}
use Rattle.vip_memory.specs.Contents.{loaded}
use Rattle.vip_text.specs.ProgramFile.{machine_in, part, rom_in, switch}
use Rattle.vip_text.specs.StateFile.{shown}
use Rattle.vip_video.specs.Chip.{nothing_before, nothing_yet}
use Rattle.vip_program.specs.Program.{latch_under, padded, ram_size, resumed, rom_size, started}
use Rattle.vip_program.specs.declared.start.Memory.{Memory}

laid : (ram : List ℕ) → loaded (replicate 0x1000 0) 0 ram ≡ padded ram_size ram
laid ram =
    let none : 0 + length ram ≡ length ram = omega arith in
    ap (λ n. ram ++ drop n (replicate 0x1000 0)) none ∙ ap (λ rest. ram ++ rest) (drop-replicate (length ram) 0x1000 0)

-- after a reset with a ROM, with these bytes loaded into the RAM and the latch as it is due
pub starts : (memory : Memory) (rom ram bytes : List ℕ) (script : List Event) (b c d : Seen)
    → b ≡ record { machine = after_reset; phase = Boundary; pictures = nothing_yet; rom = bytes; script = script } → bytes ≡ padded rom_size rom
    → c ≡ record b { machine = record b.machine { ram = loaded b.machine.ram 0 ram } }
    → d ≡ record c { machine = record c.machine { latch = latch_under memory } }
    → d ≡ started memory rom ram script
starts memory rom ram bytes script b c d reset rom_is load latch = rw (latch, load, reset, rom_is, laid ram) refl

-- ---- in the machine of a file

pub resumes : (file : List ℕ) (script : List Event) (b : Seen) (regs : Regs) (ram rom : List ℕ) (latch on ie idle : Bool) (key cycle : ℕ)
    → b ≡ record {
      machine = record { regs = record regs { ie = ie; idle = idle }; ram = ram; latch = latch; on = on; key = key; cycle = cycle };
      phase = Boundary;
      pictures = nothing_before cycle;
      rom = rom;
      script = script;
    }
    → regs ≡ (shown (part file)).regs → ram ≡ (machine_in file).ram → rom ≡ rom_in file
    → latch ≡ switch 1 file → on ≡ switch 2 file → ie ≡ switch 4 file → idle ≡ switch 8 file
    → key ≡ (machine_in file).key → cycle ≡ (machine_in file).cycle → b ≡ resumed file script
resumes file script b regs ram rom latch on ie idle key cycle is regs_is ram_is rom_is latch_is on_is ie_is idle_is key_is cycle_is =
    rw (is, regs_is, ram_is, rom_is, latch_is, on_is, ie_is, idle_is, key_is, cycle_is) refl
