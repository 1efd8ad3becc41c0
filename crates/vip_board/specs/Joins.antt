-- The linked move of a board as its callers see it, and the machine cycle that ends an instruction of a joined board.
use Rattle.std.specs.Prelude.{◌≡◌, ℕ, ◌+◌, Option, None}
use Rattle.machine.specs.Opcodes.{opcode_number}
use Rattle.machine.specs.Signals.{efx_at}
use Rattle.machine.specs.Board.{acted, byte_of}
use Rattle.vip_cpu.specs.Cycle.{Cycle, ended}
use Rattle.vip_cpu.specs.declared.cpu.Phase.{Phase}
use Rattle.vip_cpu.specs.declared.cpu.Phase.TheVariants.{Boundary, Middle}
use Rattle.vip_video.specs.Chip.{scanned}
use Rattle.vip_board.specs.Seen.{Seen, held_by}
use Rattle.vip_board.specs.Moves.{pictures_after}
use Rattle.vip_board.specs.Linked.{Joined, joined, linked_flags, taken_at, linked_move}

-- the board's linked move: the machine after it, and both wires
abbrev pub linked : Seen → Option ℕ → Option ℕ → Joined
linked s incoming outgoing = linked_move s.rom (held_by s) (joined s.machine incoming outgoing)

-- the board after it; its cycles and their bytes are those of the board alone
abbrev pub linked_moved : Seen → Option ℕ → Option ℕ → Seen
linked_moved s incoming outgoing =
    record s { machine = (linked s incoming outgoing).machine; pictures = pictures_after s.rom s.machine s.pictures }

-- ---- the last machine cycle of an instruction

-- one machine cycle of an instruction is left
abbrev pub IsLast : Phase → Type 0
IsLast phase = (opcode : ℕ) × (phase ≡ Middle opcode 1)

abbrev pub opcode_in : Phase → ℕ
opcode_in Boundary = 0
opcode_in (Middle opcode left) = opcode

-- with these wires
abbrev pub last_cycle : Seen → Option ℕ → Option ℕ → Cycle
last_cycle s incoming outgoing =
    let b = s.machine in
    ended (opcode_in s.phase) b.regs (byte_of s.rom b) (linked_flags (efx_at b.cycle b.on) (held_by s b.cycle b.key) incoming outgoing)
    (taken_at (opcode_number (opcode_in s.phase)) incoming)

-- the board after it
abbrev pub last_cycled : Seen → Option ℕ → Option ℕ → Seen
last_cycled s incoming outgoing =
    let c = last_cycle s incoming outgoing in
    record s {
      machine = record (acted c.effect s.machine) { cycle = s.machine.cycle + 1 };
      phase = c.phase;
      pictures = scanned s.machine.cycle s.machine.on None s.pictures;
    }
