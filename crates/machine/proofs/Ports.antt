-- An instruction that sends a byte to a port writes nothing.
use Rattle.std.proofs.Common.{◌≡◌, ℕ, refl}
use Rattle.std.specs.Prelude.{Some, None}
use Rattle.machine.specs.declared.Kind.{Kind}
use Rattle.machine.specs.declared.Kind.TheVariants.{Out, Str}
use Rattle.machine.specs.Instruction.{Regs, Inputs, effect}
use Rattle.machine.specs.Instruction.Port.{Send}

pub send-writes_nothing : (k : Kind) (n : ℕ) (s : Regs) (i : Inputs) (port byte : ℕ) → (effect k n s i).port ≡ Some (Send port byte)
    → (effect k n s i).write ≡ None
send-writes_nothing Out n s i port byte h = refl
send-writes_nothing Str n s i port byte h = cc
send-writes_nothing _ n s i port byte h = cc
