-- The rows of each group of instructions, as the data sheet lists them, and the kind of each row. Opcode 0x68, which the
-- data sheet leaves out, is one of the control instructions.
use Rattle.std.specs.Prelude.{ℕ, if◌then◌else◌, Bool, true, false}
use Rattle.machine.specs.Opcodes.{kind_of, cycles_of}
use Rattle.machine.specs.declared.Kind.{Kind}
use Rattle.machine.specs.declared.Kind.TheVariants.{Idl, Ldn, Inc, Dec, Br, Bq, Bz, Bdf, B1, B2, B3, B4, Skp, Bnq, Bnz, Bnf, Bn1, Bn2, Bn3, Bn4, Lda, Str, Irx, Out, Undefined, Inp, Ret, Dis, Ldxa, Stxd, Adc, Sdb, Shrc, Smb, Sav, Mark, Req, Seq, Adci, Sdbi, Shlc, Smbi, Glo, Ghi, Plo, Phi, Lbr, Lbq, Lbz, Lbdf, Nop, Lsnq, Lsnz, Lsnf, Lskp, Lbnq, Lbnz, Lbnf, Lsie, Lsq, Lsz, Lsdf, Sep, Sex, Ldx, Or, And, Xor, Add, Sd, Shr, Sm, Ldi, Ori, Ani, Xri, Adi, Sdi, Shl, Smi}
use Rattle.vip_cpu.specs.declared.groups.Memory.{Memory}
use Rattle.vip_cpu.specs.declared.groups.Memory.TheVariants as memory
use Rattle.vip_cpu.specs.declared.groups.Register.{Register}
use Rattle.vip_cpu.specs.declared.groups.Register.TheVariants as register
use Rattle.vip_cpu.specs.declared.groups.Logic.{Logic}
use Rattle.vip_cpu.specs.declared.groups.Logic.TheVariants as logic
use Rattle.vip_cpu.specs.declared.groups.Arithmetic.{Arithmetic}
use Rattle.vip_cpu.specs.declared.groups.Arithmetic.TheVariants as arithmetic
use Rattle.vip_cpu.specs.declared.groups.ShortBranch.{ShortBranch}
use Rattle.vip_cpu.specs.declared.groups.ShortBranch.TheVariants as short_branch
use Rattle.vip_cpu.specs.declared.groups.LongBranch.{LongBranch}
use Rattle.vip_cpu.specs.declared.groups.LongBranch.TheVariants as long_branch
use Rattle.vip_cpu.specs.declared.groups.Skip.{Skip}
use Rattle.vip_cpu.specs.declared.groups.Skip.TheVariants as skip
use Rattle.vip_cpu.specs.declared.groups.Control.{Control}
use Rattle.vip_cpu.specs.declared.groups.Control.TheVariants as control
use Rattle.vip_cpu.specs.declared.groups.InputOutput.{InputOutput}
use Rattle.vip_cpu.specs.declared.groups.InputOutput.TheVariants as input_output
use Rattle.vip_cpu.specs.declared.groups.Group.{Group}
use Rattle.vip_cpu.specs.declared.groups.Group.TheVariants as group

abbrev pub memory_kind : Memory → Kind
memory_kind memory.Ldn = Ldn
memory_kind memory.Lda = Lda
memory_kind memory.Ldx = Ldx
memory_kind memory.Ldxa = Ldxa
memory_kind memory.Ldi = Ldi
memory_kind memory.Str = Str
memory_kind memory.Stxd = Stxd

abbrev pub register_kind : Register → Kind
register_kind register.Inc = Inc
register_kind register.Dec = Dec
register_kind register.Irx = Irx
register_kind register.Glo = Glo
register_kind register.Plo = Plo
register_kind register.Ghi = Ghi
register_kind register.Phi = Phi

abbrev pub logic_kind : Logic → Kind
logic_kind logic.Or = Or
logic_kind logic.Ori = Ori
logic_kind logic.Xor = Xor
logic_kind logic.Xri = Xri
logic_kind logic.And = And
logic_kind logic.Ani = Ani
logic_kind logic.Shr = Shr
logic_kind logic.Shrc = Shrc
logic_kind logic.Shl = Shl
logic_kind logic.Shlc = Shlc

abbrev pub arithmetic_kind : Arithmetic → Kind
arithmetic_kind arithmetic.Add = Add
arithmetic_kind arithmetic.Adi = Adi
arithmetic_kind arithmetic.Adc = Adc
arithmetic_kind arithmetic.Adci = Adci
arithmetic_kind arithmetic.Sd = Sd
arithmetic_kind arithmetic.Sdi = Sdi
arithmetic_kind arithmetic.Sdb = Sdb
arithmetic_kind arithmetic.Sdbi = Sdbi
arithmetic_kind arithmetic.Sm = Sm
arithmetic_kind arithmetic.Smi = Smi
arithmetic_kind arithmetic.Smb = Smb
arithmetic_kind arithmetic.Smbi = Smbi

abbrev pub short_branch_kind : ShortBranch → Kind
short_branch_kind short_branch.Br = Br
short_branch_kind short_branch.Bz = Bz
short_branch_kind short_branch.Bnz = Bnz
short_branch_kind short_branch.Bdf = Bdf
short_branch_kind short_branch.Bnf = Bnf
short_branch_kind short_branch.Bq = Bq
short_branch_kind short_branch.Bnq = Bnq
short_branch_kind short_branch.B1 = B1
short_branch_kind short_branch.Bn1 = Bn1
short_branch_kind short_branch.B2 = B2
short_branch_kind short_branch.Bn2 = Bn2
short_branch_kind short_branch.B3 = B3
short_branch_kind short_branch.Bn3 = Bn3
short_branch_kind short_branch.B4 = B4
short_branch_kind short_branch.Bn4 = Bn4

abbrev pub long_branch_kind : LongBranch → Kind
long_branch_kind long_branch.Lbr = Lbr
long_branch_kind long_branch.Lbz = Lbz
long_branch_kind long_branch.Lbnz = Lbnz
long_branch_kind long_branch.Lbdf = Lbdf
long_branch_kind long_branch.Lbnf = Lbnf
long_branch_kind long_branch.Lbq = Lbq
long_branch_kind long_branch.Lbnq = Lbnq

abbrev pub skip_kind : Skip → Kind
skip_kind skip.Skp = Skp
skip_kind skip.Lskp = Lskp
skip_kind skip.Lsz = Lsz
skip_kind skip.Lsnz = Lsnz
skip_kind skip.Lsdf = Lsdf
skip_kind skip.Lsnf = Lsnf
skip_kind skip.Lsq = Lsq
skip_kind skip.Lsnq = Lsnq
skip_kind skip.Lsie = Lsie

abbrev pub control_kind : Control → Kind
control_kind control.Idl = Idl
control_kind control.Nop = Nop
control_kind control.Sep = Sep
control_kind control.Sex = Sex
control_kind control.Seq = Seq
control_kind control.Req = Req
control_kind control.Sav = Sav
control_kind control.Mark = Mark
control_kind control.Ret = Ret
control_kind control.Dis = Dis
control_kind control.Undefined = Undefined

abbrev pub input_output_kind : InputOutput → Kind
input_output_kind input_output.Out = Out
input_output_kind input_output.Inp = Inp

-- the kind of a row
abbrev pub kind_in : Group → Kind
kind_in (group.Memory row) = memory_kind row
kind_in (group.Register row) = register_kind row
kind_in (group.Logic row) = logic_kind row
kind_in (group.Arithmetic row) = arithmetic_kind row
kind_in (group.ShortBranch row) = short_branch_kind row
kind_in (group.LongBranch row) = long_branch_kind row
kind_in (group.Skip row) = skip_kind row
kind_in (group.Control row) = control_kind row
kind_in (group.InputOutput row) = input_output_kind row

-- the kinds that test no flag, use no port and don't start to idle
abbrev pub is_plain : Kind → Bool
is_plain Idl = false
is_plain B1 = false
is_plain B2 = false
is_plain B3 = false
is_plain B4 = false
is_plain Bn1 = false
is_plain Bn2 = false
is_plain Bn3 = false
is_plain Bn4 = false
is_plain Out = false
is_plain Inp = false
is_plain _ = true

-- the machine cycles of an opcode of such a kind, and 0 for every other one
abbrev pub plain_cycles : ℕ → ℕ
plain_cycles opcode = if is_plain (kind_of opcode) then cycles_of opcode else 0
