-- What an instruction of the CDP1802 names (RCA's data sheet, "Instruction Summary"): a register R(N), the flag that it tests, or a port.
use Rattle.std.specs.Prelude.{ℕ, ◌<◌}
use Rattle.machine.specs.declared.Kind.{Kind}
use Rattle.machine.specs.declared.Kind.TheVariants.{B1, B2, B3, B4, Bn1, Bn2, Bn3, Bn4, Out, Inp}
use Rattle.vip_isa.specs.Rows.{operands_of}
use Rattle.vip_isa.specs.declared.rows.Operands.{Operands}
use Rattle.vip_isa.specs.declared.rows.Operands.TheVariants as stands
use Rattle.vip_program.specs.declared.names.Names.{Names}
use Rattle.vip_program.specs.declared.names.Names.TheVariants.{Nothing, Register, Flag, Output, Input}

-- by what stands behind its mnemonic: a register alone is told by this
abbrev pub register_in : Operands → ℕ → Names
register_in stands.Register n = Register n
register_in _ n = Nothing

-- by the kind of an opcode and the number in it
abbrev pub names_in : Kind → ℕ → Names
names_in B1 n = Flag 1
names_in Bn1 n = Flag 1
names_in B2 n = Flag 2
names_in Bn2 n = Flag 2
names_in B3 n = Flag 3
names_in Bn3 n = Flag 3
names_in B4 n = Flag 4
names_in Bn4 n = Flag 4
names_in Out n = Output n
names_in Inp n = Input n
names_in kind n = register_in (operands_of kind) n

-- what is named is there: sixteen registers, four flags, and port 1 to 7
abbrev pub IsNamed : Names → Type 0
IsNamed (Register n) = n < 16
IsNamed (Flag flag) = (0 < flag) × (flag < 5)
IsNamed (Output port) = port < 8
IsNamed (Input port) = port < 8
IsNamed _ = Unit {0}
