-- What the rows of the CDP1802's instruction table (data sheet, "Instruction Summary") say to a certificate: which registers a row
-- assigns, and where it goes on. A row assigns D or a register where it says so, whatever the value. The machine's instruction
-- semantics are `Instruction` of the crate `machine`, with which this table is proved to agree.
use Rattle.std.specs.Prelude.{ℕ, ◌+◌, ◌*◌, ◌/◌, ◌%◌, ◌==◌, if◌then◌else◌, Bool, true, false, Option, Some, None}
use Rattle.machine.specs.declared.Kind.{Kind}
use Rattle.machine.specs.declared.Kind.TheVariants.{Idl, Ldn, Inc, Dec, Br, Bq, Bz, Bdf, B1, B2, B3, B4, Skp, Bnq, Bnz, Bnf, Bn1, Bn2, Bn3, Bn4, Lda, Irx, Out, Undefined, Inp, Ret, Dis, Ldxa, Stxd, Adc, Sdb, Shrc, Smb, Mark, Adci, Sdbi, Shlc, Smbi, Glo, Ghi, Plo, Phi, Lbr, Lbq, Lbz, Lbdf, Lsnq, Lsnz, Lsnf, Lskp, Lbnq, Lbnz, Lbnf, Lsie, Lsq, Lsz, Lsdf, Sep, Sex, Ldx, Or, And, Xor, Add, Sd, Shr, Sm, Ldi, Ori, Ani, Xri, Adi, Sdi, Shl, Smi}
use Rattle.cycle_check.specs.declared.table.When.{When}
use Rattle.cycle_check.specs.declared.table.When.TheVariants.{Always, Zero, NotZero, Either}
use Rattle.cycle_check.specs.declared.table.Flow.{Flow}
use Rattle.cycle_check.specs.declared.table.Flow.TheVariants.{Straight, Skip, Short, Long, LongSkip, Leave}
use Rattle.cycle_check.specs.declared.table.Ways.{Ways}

-- ---- which registers a row assigns

-- IDL, RET, DIS, MARK and opcode 68, which no certificate covers
abbrev pub is_refused : Kind → Bool
is_refused Idl = true
is_refused Undefined = true
is_refused Ret = true
is_refused Dis = true
is_refused Mark = true
is_refused _ = false

-- D
abbrev pub assigns_d : Kind → Bool
assigns_d Ldn = true
assigns_d Lda = true
assigns_d Inp = true
assigns_d Ldxa = true
assigns_d Adc = true
assigns_d Sdb = true
assigns_d Shrc = true
assigns_d Smb = true
assigns_d Adci = true
assigns_d Sdbi = true
assigns_d Shlc = true
assigns_d Smbi = true
assigns_d Glo = true
assigns_d Ghi = true
assigns_d Ldx = true
assigns_d Or = true
assigns_d And = true
assigns_d Xor = true
assigns_d Add = true
assigns_d Sd = true
assigns_d Shr = true
assigns_d Sm = true
assigns_d Ldi = true
assigns_d Ori = true
assigns_d Ani = true
assigns_d Xri = true
assigns_d Adi = true
assigns_d Sdi = true
assigns_d Shl = true
assigns_d Smi = true
assigns_d _ = false

-- R(N), or a half of it
abbrev pub assigns_named : Kind → Bool
assigns_named Inc = true
assigns_named Dec = true
assigns_named Lda = true
assigns_named Plo = true
assigns_named Phi = true
assigns_named _ = false

-- R(X)
abbrev pub assigns_pointed : Kind → Bool
assigns_pointed Irx = true
assigns_pointed Out = true
assigns_pointed Ldxa = true
assigns_pointed Stxd = true
assigns_pointed _ = false

-- ---- where a row goes on

-- How an instruction goes on: to the next one, two bytes on, by a short or a long branch, by a long skip, or not with this program
-- counter. BZ, BNZ, LBZ and LBNZ are the branches on D; every other condition may hold or not, that of LSZ and LSNZ too.
abbrev pub flow_of : Kind → ℕ → ℕ → Flow
flow_of Br n p = Short Always
flow_of Bz n p = Short Zero
flow_of Bnz n p = Short NotZero
flow_of Bq n p = Short Either
flow_of Bdf n p = Short Either
flow_of B1 n p = Short Either
flow_of B2 n p = Short Either
flow_of B3 n p = Short Either
flow_of B4 n p = Short Either
flow_of Bnq n p = Short Either
flow_of Bnf n p = Short Either
flow_of Bn1 n p = Short Either
flow_of Bn2 n p = Short Either
flow_of Bn3 n p = Short Either
flow_of Bn4 n p = Short Either
flow_of Skp n p = Skip
flow_of Lbr n p = Long Always
flow_of Lbz n p = Long Zero
flow_of Lbnz n p = Long NotZero
flow_of Lbq n p = Long Either
flow_of Lbdf n p = Long Either
flow_of Lbnq n p = Long Either
flow_of Lbnf n p = Long Either
flow_of Lskp n p = LongSkip Always
flow_of Lsnq n p = LongSkip Either
flow_of Lsnz n p = LongSkip Either
flow_of Lsnf n p = LongSkip Either
flow_of Lsie n p = LongSkip Either
flow_of Lsq n p = LongSkip Either
flow_of Lsz n p = LongSkip Either
flow_of Lsdf n p = LongSkip Either
flow_of Sep n p = if n == p then Straight else Leave
flow_of _ n p = Straight

-- one way on, and none with this program counter
abbrev pub one : ℕ → Ways
one to = record { first = record { to = Some to; when = Always }; second = None }

abbrev pub none : Ways
none = record { first = record { to = None; when = Always }; second = None }

-- two ways on, the first under one condition and the second under another
abbrev pub two : ℕ → When → ℕ → When → Ways
two first when second other = record { first = record { to = Some first; when = when }; second = Some (record { to = Some second; when = other }) }

-- under a condition to one address, else to another
abbrev pub branch : When → ℕ → ℕ → Ways
branch Always taken other = one taken
branch Zero taken other = two taken Zero other NotZero
branch NotZero taken other = two taken NotZero other Zero
branch Either taken other = two taken Either other Either

-- The ways of an instruction at an address, by the two bytes behind its opcode. A short branch stays in the page of its second byte. The
-- bytes of the instruction lie in the ROM, so no address passes FFFF.
abbrev pub ways_of : Flow → ℕ → ℕ → ℕ → ℕ → Ways
ways_of Straight size address next after = one (address + size)
ways_of Skip size address next after = one (address + 2)
ways_of (Short when) size address next after = branch when ((address + 1) / 256 * 256 + next) (address + 2)
ways_of (Long when) size address next after = branch when (next * 256 + after) (address + 3)
ways_of (LongSkip when) size address next after = branch when (address + 3) (address + 1)
ways_of Leave size address next after = none

-- ---- what a row leaves in X and in the counter register

-- X is N after SEX N, else what it was
abbrev pub x_after : Kind → ℕ → Option ℕ → Option ℕ
x_after Sex n x = Some n
x_after _ n x = x

-- R(N).0, where N is the counter register and D is known or not; none is any value from 0 to 255
abbrev pub low_after : Kind → Option ℕ → ℕ → Option ℕ
low_after Dec d v = Some ((v + 255) % 256)
low_after Inc d v = Some ((v + 1) % 256)
low_after Lda d v = Some ((v + 1) % 256)
low_after Plo d v = d
low_after _ d v = Some v
