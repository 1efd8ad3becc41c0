-- The laws of a bus, for the wires of a joined board: those of the wires of the board. The proofs stand here, and not in proofs/, since the
-- `impl` of a trait takes its laws from specs/ alone.
use Rattle.std.proofs.Common.{◌≡◌, ◌≢◌, ◌⊎◌, ℕ, refl}
use Rattle.std.specs.Prelude.{Some}
use Rattle.machine.specs.Instruction.Port.{Receive}
use Rattle.machine.specs.Memory.{read}
use Rattle.vip_board.specs.Linked.{taken_at, incoming_after}
use Rattle.vip_board.specs.Wired.{after_port, after_write}
use Rattle.vip_board.specs.Laws.{write-keeps, write-puts, receive-keeps}
use Rattle.vip_board.specs.declared.port.Joined.{Joined}

pub joined-write-keeps : {K : Type 0} (j : Joined K) (a v : ℕ) (k : Joined K)
    → (k.wires.ghost_name ≡ j.wires.ghost_name) × (k.wires.now ≡ after_write a v j.wires.now) × (k.incoming ≡ j.incoming) × (k.outgoing ≡ j.outgoing)
    → (i : ℕ) → i ≢ a → read k.wires.now.memory.rom k.wires.now.memory.latch k.wires.now.memory.ram i
    ≡ read j.wires.now.memory.rom j.wires.now.memory.latch j.wires.now.memory.ram i
joined-write-keeps j a v k e i h = write-keeps j.wires.now a v k.wires.now e.1 i h

pub joined-write-puts : {K : Type 0} (j : Joined K) (a v : ℕ) (k : Joined K)
    → (k.wires.ghost_name ≡ j.wires.ghost_name) × (k.wires.now ≡ after_write a v j.wires.now) × (k.incoming ≡ j.incoming) × (k.outgoing ≡ j.outgoing)
    → (read k.wires.now.memory.rom k.wires.now.memory.latch k.wires.now.memory.ram a ≡ v)
    ⊎ (read k.wires.now.memory.rom k.wires.now.memory.latch k.wires.now.memory.ram a
    ≡ read j.wires.now.memory.rom j.wires.now.memory.latch j.wires.now.memory.ram a)
joined-write-puts j a v k e = write-puts j.wires.now a v k.wires.now e.1

pub joined-receive-keeps : {K : Type 0} (j : Joined K) (p v : ℕ) (k : Joined K)
    → (v ≡ taken_at p j.incoming) × (k.wires.ghost_name ≡ j.wires.ghost_name) × (k.wires.now ≡ after_port (Receive p) j.wires.now)
    × (k.incoming ≡ incoming_after (Some (Receive p)) j.incoming) × (k.outgoing ≡ j.outgoing) → (i : ℕ)
    → read k.wires.now.memory.rom k.wires.now.memory.latch k.wires.now.memory.ram i
    ≡ read j.wires.now.memory.rom j.wires.now.memory.latch j.wires.now.memory.ram i
joined-receive-keeps j p v k e = receive-keeps j.wires.now p 0 k.wires.now (refl, e.2)
