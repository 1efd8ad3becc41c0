-- The 256 opcodes of the CDP1802 (data sheet, "Instruction Summary"): the kind of each one, the number in its low half, and
-- its machine cycles.
use Rattle.std.specs.Prelude.{ℕ, ◌-◌, ◌/◌, ◌%◌, ◌==◌, if◌then◌else◌, List, [], ◌∷◌, slice_index_or}
use Rattle.machine.specs.declared.Kind.{Kind}
use Rattle.machine.specs.declared.Kind.TheVariants.{Idl, Ldn, Inc, Dec, Br, Bq, Bz, Bdf, B1, B2, B3, B4, Skp, Bnq, Bnz, Bnf, Bn1, Bn2, Bn3, Bn4, Lda, Str, Irx, Out, Undefined, Inp, Ret, Dis, Ldxa, Stxd, Adc, Sdb, Shrc, Smb, Sav, Mark, Req, Seq, Adci, Sdbi, Shlc, Smbi, Glo, Ghi, Plo, Phi, Lbr, Lbq, Lbz, Lbdf, Nop, Lsnq, Lsnz, Lsnf, Lskp, Lbnq, Lbnz, Lbnf, Lsie, Lsq, Lsz, Lsdf, Sep, Sex, Ldx, Or, And, Xor, Add, Sd, Shr, Sm, Ldi, Ori, Ani, Xri, Adi, Sdi, Shl, Smi}

-- the kind of each opcode, by rows of sixteen
abbrev pub kinds : List Kind
kinds =
    Idl ∷ Ldn ∷ Ldn ∷ Ldn ∷ Ldn ∷ Ldn ∷ Ldn ∷ Ldn ∷ Ldn ∷ Ldn ∷ Ldn ∷ Ldn ∷ Ldn ∷ Ldn ∷ Ldn ∷ Ldn ∷
    Inc ∷ Inc ∷ Inc ∷ Inc ∷ Inc ∷ Inc ∷ Inc ∷ Inc ∷ Inc ∷ Inc ∷ Inc ∷ Inc ∷ Inc ∷ Inc ∷ Inc ∷ Inc ∷
    Dec ∷ Dec ∷ Dec ∷ Dec ∷ Dec ∷ Dec ∷ Dec ∷ Dec ∷ Dec ∷ Dec ∷ Dec ∷ Dec ∷ Dec ∷ Dec ∷ Dec ∷ Dec ∷
    Br ∷ Bq ∷ Bz ∷ Bdf ∷ B1 ∷ B2 ∷ B3 ∷ B4 ∷ Skp ∷ Bnq ∷ Bnz ∷ Bnf ∷ Bn1 ∷ Bn2 ∷ Bn3 ∷ Bn4 ∷
    Lda ∷ Lda ∷ Lda ∷ Lda ∷ Lda ∷ Lda ∷ Lda ∷ Lda ∷ Lda ∷ Lda ∷ Lda ∷ Lda ∷ Lda ∷ Lda ∷ Lda ∷ Lda ∷
    Str ∷ Str ∷ Str ∷ Str ∷ Str ∷ Str ∷ Str ∷ Str ∷ Str ∷ Str ∷ Str ∷ Str ∷ Str ∷ Str ∷ Str ∷ Str ∷
    Irx ∷ Out ∷ Out ∷ Out ∷ Out ∷ Out ∷ Out ∷ Out ∷ Undefined ∷ Inp ∷ Inp ∷ Inp ∷ Inp ∷ Inp ∷ Inp ∷ Inp ∷
    Ret ∷ Dis ∷ Ldxa ∷ Stxd ∷ Adc ∷ Sdb ∷ Shrc ∷ Smb ∷ Sav ∷ Mark ∷ Req ∷ Seq ∷ Adci ∷ Sdbi ∷ Shlc ∷ Smbi ∷
    Glo ∷ Glo ∷ Glo ∷ Glo ∷ Glo ∷ Glo ∷ Glo ∷ Glo ∷ Glo ∷ Glo ∷ Glo ∷ Glo ∷ Glo ∷ Glo ∷ Glo ∷ Glo ∷
    Ghi ∷ Ghi ∷ Ghi ∷ Ghi ∷ Ghi ∷ Ghi ∷ Ghi ∷ Ghi ∷ Ghi ∷ Ghi ∷ Ghi ∷ Ghi ∷ Ghi ∷ Ghi ∷ Ghi ∷ Ghi ∷
    Plo ∷ Plo ∷ Plo ∷ Plo ∷ Plo ∷ Plo ∷ Plo ∷ Plo ∷ Plo ∷ Plo ∷ Plo ∷ Plo ∷ Plo ∷ Plo ∷ Plo ∷ Plo ∷
    Phi ∷ Phi ∷ Phi ∷ Phi ∷ Phi ∷ Phi ∷ Phi ∷ Phi ∷ Phi ∷ Phi ∷ Phi ∷ Phi ∷ Phi ∷ Phi ∷ Phi ∷ Phi ∷
    Lbr ∷ Lbq ∷ Lbz ∷ Lbdf ∷ Nop ∷ Lsnq ∷ Lsnz ∷ Lsnf ∷ Lskp ∷ Lbnq ∷ Lbnz ∷ Lbnf ∷ Lsie ∷ Lsq ∷ Lsz ∷ Lsdf ∷
    Sep ∷ Sep ∷ Sep ∷ Sep ∷ Sep ∷ Sep ∷ Sep ∷ Sep ∷ Sep ∷ Sep ∷ Sep ∷ Sep ∷ Sep ∷ Sep ∷ Sep ∷ Sep ∷
    Sex ∷ Sex ∷ Sex ∷ Sex ∷ Sex ∷ Sex ∷ Sex ∷ Sex ∷ Sex ∷ Sex ∷ Sex ∷ Sex ∷ Sex ∷ Sex ∷ Sex ∷ Sex ∷
    Ldx ∷ Or ∷ And ∷ Xor ∷ Add ∷ Sd ∷ Shr ∷ Sm ∷ Ldi ∷ Ori ∷ Ani ∷ Xri ∷ Adi ∷ Sdi ∷ Shl ∷ Smi ∷
    []

-- the kind of an opcode; a number of 256 or more is no opcode
abbrev pub kind_of : ℕ → Kind
kind_of byte = slice_index_or kinds byte Undefined

-- The number in the low half of an opcode: N for the kinds that name a register, 1 to 7 for OUT, and for INP the same ports at
-- 9 to F. The other kinds have none, which is 0 here.
abbrev pub number_in : Kind → ℕ → ℕ
number_in Ldn byte = byte % 16
number_in Inc byte = byte % 16
number_in Dec byte = byte % 16
number_in Lda byte = byte % 16
number_in Str byte = byte % 16
number_in Out byte = byte % 16
number_in Inp byte = byte % 16 - 8
number_in Glo byte = byte % 16
number_in Ghi byte = byte % 16
number_in Plo byte = byte % 16
number_in Phi byte = byte % 16
number_in Sep byte = byte % 16
number_in Sex byte = byte % 16
number_in _ byte = 0

abbrev pub opcode_number : ℕ → ℕ
opcode_number byte = number_in (kind_of byte) byte

-- opcodes C0 to CF take three machine cycles, one to fetch and two to execute; all others take two
abbrev pub cycles_of : ℕ → ℕ
cycles_of byte = if byte / 16 == 0xc then 3 else 2
