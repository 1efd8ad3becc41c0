-- Which instructions may change a byte that is watched.
use Rattle.std.specs.Prelude.{ℕ, ◌-◌, ◌==◌, ◌&&◌, Bool, false, nat_le, nat_lt}
use Rattle.machine.specs.Instruction.{Regs, at, stepped}
use Rattle.machine.specs.Memory.{read}
use Rattle.machine.specs.Opcodes.{kind_of, opcode_number}
use Rattle.machine.specs.declared.Kind.{Kind}
use Rattle.machine.specs.declared.Kind.TheVariants.{Str, Inp, Stxd, Sav, Mark, Out}
use Rattle.vip_memory.specs.Contents.{Contents}
use Rattle.vip_debug.specs.declared.watched.Watched.{Watched}

-- the byte at an address is watched
abbrev pub holds : Watched → ℕ → Bool
holds w address = nat_le w.address address && nat_lt (address - w.address) w.count

-- R(n) points to one behind the fetch, which moves the program counter on
abbrev pub reaches : Watched → Regs → ℕ → Bool
reaches w s n = holds w (at (stepped s s.p) n)

-- An instruction writes to a watched byte, by the register that points to where it writes; or it clears the boot latch, which is set. All others leave
-- the watched bytes.
abbrev pub may_change_by : Kind → ℕ → Watched → Regs → Bool → Bool
may_change_by Str n w s latch = reaches w s n
may_change_by Inp n w s latch = reaches w s s.x
may_change_by Stxd n w s latch = reaches w s s.x
may_change_by Sav n w s latch = reaches w s s.x
may_change_by Mark n w s latch = reaches w s 2
may_change_by Out n w s latch = (n == 4) && latch
may_change_by _ n w s latch = false

-- the next instruction does
abbrev pub may_change : Watched → Regs → Contents → Bool
may_change w s m =
    let opcode = read m.rom m.latch m.ram (at s s.p) in
    may_change_by (kind_of opcode) (opcode_number opcode) w s m.latch
