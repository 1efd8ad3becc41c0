-- A machine that is joined to two wires at port 3, and its moves (this project's profile). One wire comes in, the other goes out. What isn't
-- named here is as in a move of the board alone.
use Rattle.std.specs.Prelude.{ℕ, ◌+◌, ◌==◌, if◌then◌else◌, Bool, List, Option, Some, None, is_some, unwrap_or}
use Rattle.machine.specs.Opcodes.{cycles_of, opcode_number}
use Rattle.machine.specs.Instruction.{Effect, Port, instruction}
use Rattle.machine.specs.Instruction.Port.{Send, Receive}
use Rattle.machine.specs.Signals.{efx_at}
use Rattle.machine.specs.Board.{Machine, Case, case_of, acted, flags_of, byte_of, opcode_of, moved_in}
use Rattle.machine.specs.Board.Case.{Dma, Interrupt, Idle, Instruction}
use Rattle.machine.specs.Keys.{Keys}

-- a machine with both wires, each of which is empty or holds one byte
pub record Joined : Type 0 where
  pub machine : Machine
  pub incoming : Option ℕ
  pub outgoing : Option ℕ

abbrev pub joined : Machine → Option ℕ → Option ℕ → Joined
joined b incoming outgoing = record { machine = b; incoming = incoming; outgoing = outgoing }

-- EF2 is whether the incoming wire is full, and EF4 whether the outgoing one is
abbrev pub linked_flags : Bool → Bool → Option ℕ → Option ℕ → ℕ → Bool
linked_flags efx held incoming outgoing flag =
    if flag == 2 then is_some incoming else if flag == 4 then is_some outgoing else flags_of efx held flag

-- the byte that INP takes: at port 3 that of the incoming wire, and 00 where the wire is empty and at every other port
abbrev pub taken_at : ℕ → Option ℕ → ℕ
taken_at port incoming = if port == 3 then unwrap_or incoming 0x00 else 0x00

-- INP 3 empties the incoming wire
abbrev pub incoming_after : Option Port → Option ℕ → Option ℕ
incoming_after None incoming = incoming
incoming_after (Some (Send port byte)) incoming = incoming
incoming_after (Some (Receive port)) incoming = if port == 3 then None else incoming

-- a byte goes onto an empty wire; a full one keeps its own, and the byte is lost
abbrev pub filled : ℕ → Option ℕ → Option ℕ
filled byte None = Some byte
filled byte (Some first) = Some first

-- OUT 3 puts its byte on the outgoing wire
abbrev pub outgoing_after : Option Port → Option ℕ → Option ℕ
outgoing_after None outgoing = outgoing
outgoing_after (Some (Send port byte)) outgoing = if port == 3 then filled byte outgoing else outgoing
outgoing_after (Some (Receive port)) outgoing = outgoing

-- an instruction's effect, where both wires are as they are at the start of the move
abbrev pub linked_effect : List ℕ → Bool → Keys → Joined → Effect
linked_effect rom efx held j =
    let b = j.machine in
    instruction b.regs (byte_of rom b) (linked_flags efx (held b.key) j.incoming j.outgoing)
    (taken_at (opcode_number (opcode_of rom b)) j.incoming)

-- what each case of a move makes; a DMA cycle, an interrupt and an idle cycle leave the wires
abbrev pub linked_in : Case → List ℕ → (ℕ → Keys) → Joined → Joined
linked_in Dma rom held j = record j { machine = moved_in Dma rom held j.machine }
linked_in Interrupt rom held j = record j { machine = moved_in Interrupt rom held j.machine }
linked_in Idle rom held j = record j { machine = moved_in Idle rom held j.machine }
linked_in Instruction rom held j =
    let b = j.machine in
    let e = linked_effect rom (efx_at (b.cycle + 1) b.on) (held (b.cycle + 1)) j in
    record {
      machine = record (acted e b) { cycle = b.cycle + cycles_of (opcode_of rom b) };
      incoming = incoming_after e.port j.incoming;
      outgoing = outgoing_after e.port j.outgoing;
    }

-- the linked move
abbrev pub linked_move : List ℕ → (ℕ → Keys) → Joined → Joined
linked_move rom held j = linked_in (case_of j.machine) rom held j
