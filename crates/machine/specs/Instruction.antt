-- One instruction of the CDP1802 by the rows of the data sheet's "Instruction Summary": the new registers, at most one action at a
-- port, and at most one write. What the data sheet leaves open, opcode 68 and the value of INP, is this project's profile.
use Rattle.std.specs.Prelude.{ℕ, ◌+◌, ◌-◌, ◌*◌, ◌/◌, ◌%◌, ◌==◌, if◌then◌else◌, Bool, true, false, not, Option, Some, None, bit_and, bit_or, bit_xor}
use Rattle.machine.specs.Bank.{Word, word, value, up, down, Bank, get, put, zeros}
use Rattle.machine.specs.Opcodes.{kind_of, opcode_number}
use Rattle.machine.specs.declared.Kind.{Kind}
use Rattle.machine.specs.declared.Kind.TheVariants.{Idl, Ldn, Inc, Dec, Br, Bq, Bz, Bdf, B1, B2, B3, B4, Skp, Bnq, Bnz, Bnf, Bn1, Bn2, Bn3, Bn4, Lda, Str, Irx, Out, Undefined, Inp, Ret, Dis, Ldxa, Stxd, Adc, Sdb, Shrc, Smb, Sav, Mark, Req, Seq, Adci, Sdbi, Shlc, Smbi, Glo, Ghi, Plo, Phi, Lbr, Lbq, Lbz, Lbdf, Nop, Lsnq, Lsnz, Lsnf, Lskp, Lbnq, Lbnz, Lbnf, Lsie, Lsq, Lsz, Lsdf, Sep, Sex, Ldx, Or, And, Xor, Add, Sd, Shr, Sm, Ldi, Ori, Ani, Xri, Adi, Sdi, Shl, Smi}

-- The registers of the processor: R(0) to R(F), the accumulator D with its carry DF, the four bits P that number the program
-- counter, the four bits X that number the data pointer, T, the output flip-flop Q, the interrupt enable IE, and whether the
-- processor idles after IDL. DF is a number, 0 or 1, since DF and D are the two digits of one sum.
pub record Regs : Type 0 where
  pub r : Bank
  pub d : ℕ
  pub df : ℕ
  pub p : ℕ
  pub x : ℕ
  pub t : ℕ
  pub q : Bool
  pub ie : Bool
  pub idle : Bool

-- What an instruction reads after its fetch: the byte at each address, M(R(P)) and the byte after that, the flags EF1 to EF4, and
-- the byte that the bus takes from a port.
pub record Inputs : Type 0 where
  pub byte : ℕ → ℕ
  pub next : ℕ
  pub after : ℕ
  pub flag : ℕ → Bool
  pub taken : ℕ

-- an action at a port: OUT sends it a byte, and INP receives one from it
pub data Port : Type 0 where
  Send : (port byte : ℕ) → Port
  Receive : (port : ℕ) → Port

-- what an instruction makes: the registers, the action at a port, and the address and the byte of the write
pub record Effect : Type 0 where
  pub regs : Regs
  pub port : Option Port
  pub write : Option (ℕ × ℕ)

-- nothing but registers, or a write too
abbrev pub only : Regs → Effect
only s = record { regs = s; port = None; write = None }

abbrev pub writes : Regs → ℕ → ℕ → Effect
writes s address byte = record { regs = s; port = None; write = Some (address, byte) }

-- the address in R(n)
abbrev pub at : Regs → ℕ → ℕ
at s n = value (get s.r n)

-- M(R(X))
abbrev pub operand : Regs → Inputs → ℕ
operand s i = i.byte (at s s.x)

-- R(n) = w
abbrev pub with_reg : Regs → ℕ → Word → Regs
with_reg s n w = record s { r = put s.r n w }

-- R(n) + 1 and R(n) - 1
abbrev pub stepped : Regs → ℕ → Regs
stepped s n = with_reg s n (up (get s.r n))

abbrev pub stepped_back : Regs → ℕ → Regs
stepped_back s n = with_reg s n (down (get s.r n))

-- D = byte
abbrev pub loaded : Regs → ℕ → Regs
loaded s byte = record s { d = byte }

-- DF, D = n, a sum of nine bits. A difference is taken with 256 added, so DF is 1 exactly where there was no borrow.
abbrev pub df_d : Regs → ℕ → Regs
df_d s n = record s { d = n % 256; df = n / 256 }

-- a short branch puts the next byte into R(P).0; one that isn't taken steps over it
abbrev pub branched : Regs → Bool → ℕ → Regs
branched s taken next = with_reg s s.p (if taken then word (get s.r s.p).hi next else up (get s.r s.p))

-- a long branch puts both bytes into R(P); one that isn't taken steps over them
abbrev pub long_branched : Regs → Bool → ℕ → ℕ → Regs
long_branched s taken next after = with_reg s s.p (if taken then word next after else up (up (get s.r s.p)))

-- a long skip adds 2 to R(P)
abbrev pub skipped : Regs → Bool → Regs
skipped s applies = with_reg s s.p (if applies then up (up (get s.r s.p)) else get s.r s.p)

-- RET and DIS
abbrev pub returned : Regs → ℕ → Bool → Regs
returned s byte enable = record (stepped s s.x) { x = byte / 16; p = byte % 16; ie = enable }

-- MARK: T = (X,P), X = P, R(2) - 1
abbrev pub marked : Regs → Regs
marked s = record (stepped_back s 2) { t = s.x * 16 + s.p; x = s.p }

-- The rows. The opcode at R(P) was fetched and R(P) grew by 1; n is the number in the opcode. A sum without carry is written without
-- it, and the borrow of a difference is 1 - DF.
abbrev pub effect : Kind → ℕ → Regs → Inputs → Effect
effect Idl n s i = only (record s { idle = true })
effect Ldn n s i = only (loaded s (i.byte (at s n)))
effect Inc n s i = only (stepped s n)
effect Dec n s i = only (stepped_back s n)
effect Br n s i = only (branched s true i.next)
effect Bq n s i = only (branched s s.q i.next)
effect Bz n s i = only (branched s (s.d == 0) i.next)
effect Bdf n s i = only (branched s (s.df == 1) i.next)
effect B1 n s i = only (branched s (i.flag 1) i.next)
effect B2 n s i = only (branched s (i.flag 2) i.next)
effect B3 n s i = only (branched s (i.flag 3) i.next)
effect B4 n s i = only (branched s (i.flag 4) i.next)
effect Skp n s i = only (stepped s s.p)
effect Bnq n s i = only (branched s (not s.q) i.next)
effect Bnz n s i = only (branched s (not (s.d == 0)) i.next)
effect Bnf n s i = only (branched s (not (s.df == 1)) i.next)
effect Bn1 n s i = only (branched s (not (i.flag 1)) i.next)
effect Bn2 n s i = only (branched s (not (i.flag 2)) i.next)
effect Bn3 n s i = only (branched s (not (i.flag 3)) i.next)
effect Bn4 n s i = only (branched s (not (i.flag 4)) i.next)
effect Lda n s i = only (loaded (stepped s n) (i.byte (at s n)))
effect Str n s i = writes s (at s n) s.d
effect Irx n s i = only (stepped s s.x)
effect Out n s i = record { regs = stepped s s.x; port = Some (Send n (operand s i)); write = None }
effect Undefined n s i = only s
effect Inp n s i = record { regs = loaded s i.taken; port = Some (Receive n); write = Some (at s s.x, i.taken) }
effect Ret n s i = only (returned s (operand s i) true)
effect Dis n s i = only (returned s (operand s i) false)
effect Ldxa n s i = only (loaded (stepped s s.x) (operand s i))
effect Stxd n s i = writes (stepped_back s s.x) (at s s.x) s.d
effect Adc n s i = only (df_d s (operand s i + s.d + s.df))
effect Sdb n s i = only (df_d s (operand s i + 256 - s.d - (1 - s.df)))
effect Shrc n s i = only (record s { d = s.d / 2 + 128 * s.df; df = s.d % 2 })
effect Smb n s i = only (df_d s (s.d + 256 - operand s i - (1 - s.df)))
effect Sav n s i = writes s (at s s.x) s.t
effect Mark n s i = writes (marked s) (at s 2) (s.x * 16 + s.p)
effect Req n s i = only (record s { q = false })
effect Seq n s i = only (record s { q = true })
effect Adci n s i = only (df_d (stepped s s.p) (i.next + s.d + s.df))
effect Sdbi n s i = only (df_d (stepped s s.p) (i.next + 256 - s.d - (1 - s.df)))
effect Shlc n s i = only (df_d s (s.d * 2 + s.df))
effect Smbi n s i = only (df_d (stepped s s.p) (s.d + 256 - i.next - (1 - s.df)))
effect Glo n s i = only (loaded s (get s.r n).lo)
effect Ghi n s i = only (loaded s (get s.r n).hi)
effect Plo n s i = only (with_reg s n (word (get s.r n).hi s.d))
effect Phi n s i = only (with_reg s n (word s.d (get s.r n).lo))
effect Lbr n s i = only (long_branched s true i.next i.after)
effect Lbq n s i = only (long_branched s s.q i.next i.after)
effect Lbz n s i = only (long_branched s (s.d == 0) i.next i.after)
effect Lbdf n s i = only (long_branched s (s.df == 1) i.next i.after)
effect Nop n s i = only s
effect Lsnq n s i = only (skipped s (not s.q))
effect Lsnz n s i = only (skipped s (not (s.d == 0)))
effect Lsnf n s i = only (skipped s (not (s.df == 1)))
effect Lskp n s i = only (skipped s true)
effect Lbnq n s i = only (long_branched s (not s.q) i.next i.after)
effect Lbnz n s i = only (long_branched s (not (s.d == 0)) i.next i.after)
effect Lbnf n s i = only (long_branched s (not (s.df == 1)) i.next i.after)
effect Lsie n s i = only (skipped s s.ie)
effect Lsq n s i = only (skipped s s.q)
effect Lsz n s i = only (skipped s (s.d == 0))
effect Lsdf n s i = only (skipped s (s.df == 1))
effect Sep n s i = only (record s { p = n })
effect Sex n s i = only (record s { x = n })
effect Ldx n s i = only (loaded s (operand s i))
effect Or n s i = only (loaded s (bit_or s.d (operand s i)))
effect And n s i = only (loaded s (bit_and s.d (operand s i)))
effect Xor n s i = only (loaded s (bit_xor s.d (operand s i)))
effect Add n s i = only (df_d s (operand s i + s.d))
effect Sd n s i = only (df_d s (operand s i + 256 - s.d))
effect Shr n s i = only (record s { d = s.d / 2; df = s.d % 2 })
effect Sm n s i = only (df_d s (s.d + 256 - operand s i))
effect Ldi n s i = only (loaded (stepped s s.p) i.next)
effect Ori n s i = only (loaded (stepped s s.p) (bit_or s.d i.next))
effect Ani n s i = only (loaded (stepped s s.p) (bit_and s.d i.next))
effect Xri n s i = only (loaded (stepped s s.p) (bit_xor s.d i.next))
effect Adi n s i = only (df_d (stepped s s.p) (s.d + i.next))
effect Sdi n s i = only (df_d (stepped s s.p) (i.next + 256 - s.d))
effect Shl n s i = only (df_d s (s.d * 2))
effect Smi n s i = only (df_d (stepped s s.p) (s.d + 256 - i.next))

-- the rest of an instruction after its fetch, by the opcode
abbrev pub executed : ℕ → Regs → Inputs → Effect
executed opcode s i = effect (kind_of opcode) (opcode_number opcode) s i

-- what is read after the fetch: by memory, the flags and the byte that a port gives
abbrev pub inputs : Regs → (ℕ → ℕ) → (ℕ → Bool) → ℕ → Inputs
inputs s m f v =
    record { byte = m; next = m (at s s.p); after = m (value (up (get s.r s.p))); flag = f; taken = v }

-- a whole instruction
abbrev pub instruction : Regs → (ℕ → ℕ) → (ℕ → Bool) → ℕ → Effect
instruction s m f v = executed (m (at s s.p)) (stepped s s.p) (inputs (stepped s s.p) m f v)

-- a DMA cycle: R(0) + 1
abbrev pub after_dma : Regs → Regs
after_dma s = record (stepped s 0) { idle = false }

-- an interrupt: T = (X,P), P = 1, X = 2, IE = 0
abbrev pub interrupted : Regs → Regs
interrupted s = record s { t = s.x * 16 + s.p; p = 1; x = 2; ie = false; idle = false }

-- Q is 0, IE is 1, and all else is 0
abbrev pub regs_after_reset : Regs
regs_after_reset =
    record {
      r = zeros;
      d = 0;
      df = 0;
      p = 0;
      x = 0;
      t = 0;
      q = false;
      ie = true;
      idle = false;
    }
