-- The rows of the "Instruction Summary" in RCA's data sheet of the CDP1802: the opcode of each kind, its operands, the numbers in it, its
-- size and its mnemonic. `Opcodes` of the crate `machine` has the kind, the number and the cycles of each opcode.
use Rattle.std.specs.Prelude.{◌+◌, ◌≤◌, ℕ, List, codes}
use Rattle.machine.specs.declared.Kind.{Kind}
use Rattle.machine.specs.declared.Kind.TheVariants.{Idl, Ldn, Inc, Dec, Br, Bq, Bz, Bdf, B1, B2, B3, B4, Skp, Bnq, Bnz, Bnf, Bn1, Bn2, Bn3, Bn4, Lda, Str, Irx, Out, Undefined, Inp, Ret, Dis, Ldxa, Stxd, Adc, Sdb, Shrc, Smb, Sav, Mark, Req, Seq, Adci, Sdbi, Shlc, Smbi, Glo, Ghi, Plo, Phi, Lbr, Lbq, Lbz, Lbdf, Nop, Lsnq, Lsnz, Lsnf, Lskp, Lbnq, Lbnz, Lbnf, Lsie, Lsq, Lsz, Lsdf, Sep, Sex, Ldx, Or, And, Xor, Add, Sd, Shr, Sm, Ldi, Ori, Ani, Xri, Adi, Sdi, Shl, Smi}
use Rattle.machine.specs.Opcodes.{kind_of, opcode_number}
use Rattle.vip_isa.specs.declared.Op.{Op}
use Rattle.vip_isa.specs.declared.rows.Operands.{Operands}
use Rattle.vip_isa.specs.declared.rows.Operands.TheVariants.{Nothing, Register, Port, Byte, Short, Long, Data}

-- the opcode of a kind, less the number in its low half
abbrev pub first_of : Kind → ℕ
first_of Idl = 0x00
first_of Ldn = 0x00
first_of Inc = 0x10
first_of Dec = 0x20
first_of Br = 0x30
first_of Bq = 0x31
first_of Bz = 0x32
first_of Bdf = 0x33
first_of B1 = 0x34
first_of B2 = 0x35
first_of B3 = 0x36
first_of B4 = 0x37
first_of Skp = 0x38
first_of Bnq = 0x39
first_of Bnz = 0x3a
first_of Bnf = 0x3b
first_of Bn1 = 0x3c
first_of Bn2 = 0x3d
first_of Bn3 = 0x3e
first_of Bn4 = 0x3f
first_of Lda = 0x40
first_of Str = 0x50
first_of Irx = 0x60
first_of Out = 0x60
first_of Undefined = 0x68
first_of Inp = 0x68
first_of Ret = 0x70
first_of Dis = 0x71
first_of Ldxa = 0x72
first_of Stxd = 0x73
first_of Adc = 0x74
first_of Sdb = 0x75
first_of Shrc = 0x76
first_of Smb = 0x77
first_of Sav = 0x78
first_of Mark = 0x79
first_of Req = 0x7a
first_of Seq = 0x7b
first_of Adci = 0x7c
first_of Sdbi = 0x7d
first_of Shlc = 0x7e
first_of Smbi = 0x7f
first_of Glo = 0x80
first_of Ghi = 0x90
first_of Plo = 0xa0
first_of Phi = 0xb0
first_of Lbr = 0xc0
first_of Lbq = 0xc1
first_of Lbz = 0xc2
first_of Lbdf = 0xc3
first_of Nop = 0xc4
first_of Lsnq = 0xc5
first_of Lsnz = 0xc6
first_of Lsnf = 0xc7
first_of Lskp = 0xc8
first_of Lbnq = 0xc9
first_of Lbnz = 0xca
first_of Lbnf = 0xcb
first_of Lsie = 0xcc
first_of Lsq = 0xcd
first_of Lsz = 0xce
first_of Lsdf = 0xcf
first_of Sep = 0xd0
first_of Sex = 0xe0
first_of Ldx = 0xf0
first_of Or = 0xf1
first_of And = 0xf2
first_of Xor = 0xf3
first_of Add = 0xf4
first_of Sd = 0xf5
first_of Shr = 0xf6
first_of Sm = 0xf7
first_of Ldi = 0xf8
first_of Ori = 0xf9
first_of Ani = 0xfa
first_of Xri = 0xfb
first_of Adi = 0xfc
first_of Sdi = 0xfd
first_of Shl = 0xfe
first_of Smi = 0xff

-- What stands behind the mnemonic of a kind: a register R(N) or a port, by the number in the opcode; a byte behind it; the low byte of an address on the
-- page of that byte, for the short branches; the two bytes of an address, for the long ones; or nothing. Opcode 68 stands as data itself.
abbrev pub operands_of : Kind → Operands
operands_of Ldn = Register
operands_of Inc = Register
operands_of Dec = Register
operands_of Lda = Register
operands_of Str = Register
operands_of Glo = Register
operands_of Ghi = Register
operands_of Plo = Register
operands_of Phi = Register
operands_of Sep = Register
operands_of Sex = Register
operands_of Out = Port
operands_of Inp = Port
operands_of Adci = Byte
operands_of Sdbi = Byte
operands_of Smbi = Byte
operands_of Ldi = Byte
operands_of Ori = Byte
operands_of Ani = Byte
operands_of Xri = Byte
operands_of Adi = Byte
operands_of Sdi = Byte
operands_of Smi = Byte
operands_of Br = Short
operands_of Bq = Short
operands_of Bz = Short
operands_of Bdf = Short
operands_of B1 = Short
operands_of B2 = Short
operands_of B3 = Short
operands_of B4 = Short
operands_of Bnq = Short
operands_of Bnz = Short
operands_of Bnf = Short
operands_of Bn1 = Short
operands_of Bn2 = Short
operands_of Bn3 = Short
operands_of Bn4 = Short
operands_of Lbr = Long
operands_of Lbq = Long
operands_of Lbz = Long
operands_of Lbdf = Long
operands_of Lbnq = Long
operands_of Lbnz = Long
operands_of Lbnf = Long
operands_of Undefined = Data
operands_of _ = Nothing

-- The numbers that a kind can have, from the least to the greatest: LDN names R(1) to R(F), for its 0 is IDL; the other kinds with a
-- register name R(0) to R(F); OUT and INP name port 1 to 7; and all others have none, which is 0.
abbrev pub least_of : Kind → ℕ
least_of Ldn = 1
least_of Out = 1
least_of Inp = 1
least_of _ = 0

abbrev pub greatest_with : Operands → ℕ
greatest_with Register = 15
greatest_with Port = 7
greatest_with _ = 0

abbrev pub greatest_of : Kind → ℕ
greatest_of kind = greatest_with (operands_of kind)

-- the number of an opcode's parts is one that its kind can have
pub record IsValid (op : Op) : Type 0 where
  pub from_least : least_of op.kind ≤ op.n
  pub to_greatest : op.n ≤ greatest_of op.kind

-- the opcode that has these parts
abbrev pub opcode_of : Op → ℕ
opcode_of op = first_of op.kind + op.n

-- the parts of an opcode
abbrev pub decoded : ℕ → Op
decoded byte = record { kind = kind_of byte; n = opcode_number byte }

-- the size in bytes: that of the opcode, and of what stands behind it
abbrev pub size_with : Operands → ℕ
size_with Byte = 2
size_with Short = 2
size_with Long = 3
size_with _ = 1

abbrev pub size_of : Kind → ℕ
size_of kind = size_with (operands_of kind)

-- the mnemonic; opcode 68 has none, and is written as data
abbrev pub mnemonic_of : Kind → List ℕ
mnemonic_of Idl = codes "IDL"
mnemonic_of Ldn = codes "LDN"
mnemonic_of Inc = codes "INC"
mnemonic_of Dec = codes "DEC"
mnemonic_of Br = codes "BR"
mnemonic_of Bq = codes "BQ"
mnemonic_of Bz = codes "BZ"
mnemonic_of Bdf = codes "BDF"
mnemonic_of B1 = codes "B1"
mnemonic_of B2 = codes "B2"
mnemonic_of B3 = codes "B3"
mnemonic_of B4 = codes "B4"
mnemonic_of Skp = codes "SKP"
mnemonic_of Bnq = codes "BNQ"
mnemonic_of Bnz = codes "BNZ"
mnemonic_of Bnf = codes "BNF"
mnemonic_of Bn1 = codes "BN1"
mnemonic_of Bn2 = codes "BN2"
mnemonic_of Bn3 = codes "BN3"
mnemonic_of Bn4 = codes "BN4"
mnemonic_of Lda = codes "LDA"
mnemonic_of Str = codes "STR"
mnemonic_of Irx = codes "IRX"
mnemonic_of Out = codes "OUT"
mnemonic_of Undefined = codes "DB"
mnemonic_of Inp = codes "INP"
mnemonic_of Ret = codes "RET"
mnemonic_of Dis = codes "DIS"
mnemonic_of Ldxa = codes "LDXA"
mnemonic_of Stxd = codes "STXD"
mnemonic_of Adc = codes "ADC"
mnemonic_of Sdb = codes "SDB"
mnemonic_of Shrc = codes "SHRC"
mnemonic_of Smb = codes "SMB"
mnemonic_of Sav = codes "SAV"
mnemonic_of Mark = codes "MARK"
mnemonic_of Req = codes "REQ"
mnemonic_of Seq = codes "SEQ"
mnemonic_of Adci = codes "ADCI"
mnemonic_of Sdbi = codes "SDBI"
mnemonic_of Shlc = codes "SHLC"
mnemonic_of Smbi = codes "SMBI"
mnemonic_of Glo = codes "GLO"
mnemonic_of Ghi = codes "GHI"
mnemonic_of Plo = codes "PLO"
mnemonic_of Phi = codes "PHI"
mnemonic_of Lbr = codes "LBR"
mnemonic_of Lbq = codes "LBQ"
mnemonic_of Lbz = codes "LBZ"
mnemonic_of Lbdf = codes "LBDF"
mnemonic_of Nop = codes "NOP"
mnemonic_of Lsnq = codes "LSNQ"
mnemonic_of Lsnz = codes "LSNZ"
mnemonic_of Lsnf = codes "LSNF"
mnemonic_of Lskp = codes "LSKP"
mnemonic_of Lbnq = codes "LBNQ"
mnemonic_of Lbnz = codes "LBNZ"
mnemonic_of Lbnf = codes "LBNF"
mnemonic_of Lsie = codes "LSIE"
mnemonic_of Lsq = codes "LSQ"
mnemonic_of Lsz = codes "LSZ"
mnemonic_of Lsdf = codes "LSDF"
mnemonic_of Sep = codes "SEP"
mnemonic_of Sex = codes "SEX"
mnemonic_of Ldx = codes "LDX"
mnemonic_of Or = codes "OR"
mnemonic_of And = codes "AND"
mnemonic_of Xor = codes "XOR"
mnemonic_of Add = codes "ADD"
mnemonic_of Sd = codes "SD"
mnemonic_of Shr = codes "SHR"
mnemonic_of Sm = codes "SM"
mnemonic_of Ldi = codes "LDI"
mnemonic_of Ori = codes "ORI"
mnemonic_of Ani = codes "ANI"
mnemonic_of Xri = codes "XRI"
mnemonic_of Adi = codes "ADI"
mnemonic_of Sdi = codes "SDI"
mnemonic_of Shl = codes "SHL"
mnemonic_of Smi = codes "SMI"
