-- Instructions keep the ranges.
use Rattle.std.proofs.Common.{ℕ, zero, ◌<◌, ◌≤◌, Bool, true, false, cond, arith, bit_and, lit<}
use Rattle.std.specs.Prelude.{◌==◌, not, Option, Some, None}
use Rattle.std.proofs.lemmas.Nat.{and_le_l, or_of_8, xor_of_8}
use Rattle.machine.specs.declared.Kind.{Kind}
use Rattle.machine.specs.declared.Kind.TheVariants.{Idl, Ldn, Inc, Dec, Br, Bq, Bz, Bdf, B1, B2, B3, B4, Skp, Bnq, Bnz, Bnf, Bn1, Bn2, Bn3, Bn4, Lda, Str, Irx, Out, Undefined, Inp, Ret, Dis, Ldxa, Stxd, Adc, Sdb, Shrc, Smb, Sav, Mark, Req, Seq, Adci, Sdbi, Shlc, Smbi, Glo, Ghi, Plo, Phi, Lbr, Lbq, Lbz, Lbdf, Nop, Lsnq, Lsnz, Lsnf, Lskp, Lbnq, Lbnz, Lbnf, Lsie, Lsq, Lsz, Lsdf, Sep, Sex, Ldx, Or, And, Xor, Add, Sd, Shr, Sm, Ldi, Ori, Ani, Xri, Adi, Sdi, Shl, Smi}
use Rattle.machine.specs.Bank.{Word, word, up, down, Bank, get, put}
use Rattle.machine.specs.Numerals.{1+, 2+, 3+, 4+, 5+, 6+, 7+, 8+, 9+, 10+, 11+, 12+, 13+, 14+, 15+}
use Rattle.machine.specs.Opcodes.{kind_of, number_in, opcode_number}
use Rattle.machine.specs.Instruction.{Regs, Inputs, effect, at, with_reg, stepped, stepped_back, loaded, df_d, returned, marked, branched, long_branched, skipped}
use Rattle.machine.specs.Ranges.{FitsWord, FitsBank, FitsRegs, FitsInputs}

pub get_fits : (n : ℕ) (r : Bank) → FitsBank r → FitsWord (get r n)
get_fits zero r f = f.r0
get_fits (1+ zero) r f = f.r1
get_fits (2+ zero) r f = f.r2
get_fits (3+ zero) r f = f.r3
get_fits (4+ zero) r f = f.r4
get_fits (5+ zero) r f = f.r5
get_fits (6+ zero) r f = f.r6
get_fits (7+ zero) r f = f.r7
get_fits (8+ zero) r f = f.r8
get_fits (9+ zero) r f = f.r9
get_fits (10+ zero) r f = f.ra
get_fits (11+ zero) r f = f.rb
get_fits (12+ zero) r f = f.rc
get_fits (13+ zero) r f = f.rd
get_fits (14+ zero) r f = f.re
get_fits (15+ n) r f = f.rf

pub put_fits : (n : ℕ) (r : Bank) (w : Word) → FitsBank r → FitsWord w → FitsBank (put r n w)
put_fits zero r w f g = record { r0 = g; r1 = f.r1; r2 = f.r2; r3 = f.r3; r4 = f.r4; r5 = f.r5; r6 = f.r6; r7 = f.r7; r8 = f.r8; r9 = f.r9; ra = f.ra; rb = f.rb; rc = f.rc; rd = f.rd; re = f.re; rf = f.rf }
put_fits (1+ zero) r w f g = record { r0 = f.r0; r1 = g; r2 = f.r2; r3 = f.r3; r4 = f.r4; r5 = f.r5; r6 = f.r6; r7 = f.r7; r8 = f.r8; r9 = f.r9; ra = f.ra; rb = f.rb; rc = f.rc; rd = f.rd; re = f.re; rf = f.rf }
put_fits (2+ zero) r w f g = record { r0 = f.r0; r1 = f.r1; r2 = g; r3 = f.r3; r4 = f.r4; r5 = f.r5; r6 = f.r6; r7 = f.r7; r8 = f.r8; r9 = f.r9; ra = f.ra; rb = f.rb; rc = f.rc; rd = f.rd; re = f.re; rf = f.rf }
put_fits (3+ zero) r w f g = record { r0 = f.r0; r1 = f.r1; r2 = f.r2; r3 = g; r4 = f.r4; r5 = f.r5; r6 = f.r6; r7 = f.r7; r8 = f.r8; r9 = f.r9; ra = f.ra; rb = f.rb; rc = f.rc; rd = f.rd; re = f.re; rf = f.rf }
put_fits (4+ zero) r w f g = record { r0 = f.r0; r1 = f.r1; r2 = f.r2; r3 = f.r3; r4 = g; r5 = f.r5; r6 = f.r6; r7 = f.r7; r8 = f.r8; r9 = f.r9; ra = f.ra; rb = f.rb; rc = f.rc; rd = f.rd; re = f.re; rf = f.rf }
put_fits (5+ zero) r w f g = record { r0 = f.r0; r1 = f.r1; r2 = f.r2; r3 = f.r3; r4 = f.r4; r5 = g; r6 = f.r6; r7 = f.r7; r8 = f.r8; r9 = f.r9; ra = f.ra; rb = f.rb; rc = f.rc; rd = f.rd; re = f.re; rf = f.rf }
put_fits (6+ zero) r w f g = record { r0 = f.r0; r1 = f.r1; r2 = f.r2; r3 = f.r3; r4 = f.r4; r5 = f.r5; r6 = g; r7 = f.r7; r8 = f.r8; r9 = f.r9; ra = f.ra; rb = f.rb; rc = f.rc; rd = f.rd; re = f.re; rf = f.rf }
put_fits (7+ zero) r w f g = record { r0 = f.r0; r1 = f.r1; r2 = f.r2; r3 = f.r3; r4 = f.r4; r5 = f.r5; r6 = f.r6; r7 = g; r8 = f.r8; r9 = f.r9; ra = f.ra; rb = f.rb; rc = f.rc; rd = f.rd; re = f.re; rf = f.rf }
put_fits (8+ zero) r w f g = record { r0 = f.r0; r1 = f.r1; r2 = f.r2; r3 = f.r3; r4 = f.r4; r5 = f.r5; r6 = f.r6; r7 = f.r7; r8 = g; r9 = f.r9; ra = f.ra; rb = f.rb; rc = f.rc; rd = f.rd; re = f.re; rf = f.rf }
put_fits (9+ zero) r w f g = record { r0 = f.r0; r1 = f.r1; r2 = f.r2; r3 = f.r3; r4 = f.r4; r5 = f.r5; r6 = f.r6; r7 = f.r7; r8 = f.r8; r9 = g; ra = f.ra; rb = f.rb; rc = f.rc; rd = f.rd; re = f.re; rf = f.rf }
put_fits (10+ zero) r w f g = record { r0 = f.r0; r1 = f.r1; r2 = f.r2; r3 = f.r3; r4 = f.r4; r5 = f.r5; r6 = f.r6; r7 = f.r7; r8 = f.r8; r9 = f.r9; ra = g; rb = f.rb; rc = f.rc; rd = f.rd; re = f.re; rf = f.rf }
put_fits (11+ zero) r w f g = record { r0 = f.r0; r1 = f.r1; r2 = f.r2; r3 = f.r3; r4 = f.r4; r5 = f.r5; r6 = f.r6; r7 = f.r7; r8 = f.r8; r9 = f.r9; ra = f.ra; rb = g; rc = f.rc; rd = f.rd; re = f.re; rf = f.rf }
put_fits (12+ zero) r w f g = record { r0 = f.r0; r1 = f.r1; r2 = f.r2; r3 = f.r3; r4 = f.r4; r5 = f.r5; r6 = f.r6; r7 = f.r7; r8 = f.r8; r9 = f.r9; ra = f.ra; rb = f.rb; rc = g; rd = f.rd; re = f.re; rf = f.rf }
put_fits (13+ zero) r w f g = record { r0 = f.r0; r1 = f.r1; r2 = f.r2; r3 = f.r3; r4 = f.r4; r5 = f.r5; r6 = f.r6; r7 = f.r7; r8 = f.r8; r9 = f.r9; ra = f.ra; rb = f.rb; rc = f.rc; rd = g; re = f.re; rf = f.rf }
put_fits (14+ zero) r w f g = record { r0 = f.r0; r1 = f.r1; r2 = f.r2; r3 = f.r3; r4 = f.r4; r5 = f.r5; r6 = f.r6; r7 = f.r7; r8 = f.r8; r9 = f.r9; ra = f.ra; rb = f.rb; rc = f.rc; rd = f.rd; re = g; rf = f.rf }
put_fits (15+ n) r w f g = record { r0 = f.r0; r1 = f.r1; r2 = f.r2; r3 = f.r3; r4 = f.r4; r5 = f.r5; r6 = f.r6; r7 = f.r7; r8 = f.r8; r9 = f.r9; ra = f.ra; rb = f.rb; rc = f.rc; rd = f.rd; re = f.re; rf = g }

pub up_fits : (w : Word) → FitsWord (up w)
up_fits w = record { hi = omega arith; lo = omega arith }

pub down_fits : (w : Word) → FitsWord (down w)
down_fits w = record { hi = omega arith; lo = omega arith }

bytes_fit : {h l : ℕ} → h < 256 → l < 256 → FitsWord (word h l)
bytes_fit h l = record { hi = h; lo = l }

cond_fits : (t : Bool) {v w : Word} → FitsWord v → FitsWord w → FitsWord (cond t v w)
cond_fits true f g = f
cond_fits false f g = g

and_of_8 : (a b : ℕ) → a < 256 → bit_and a b < 256
and_of_8 a b h = omega (arith, and_le_l a b)

module _ {s : Regs} (f : FitsRegs s) where
  reg_fits : (n : ℕ) (w : Word) → FitsWord w → FitsRegs (with_reg s n w)
  reg_fits n w g = record { r = put_fits n s.r w f.r g; d = f.d; df = f.df; p = f.p; x = f.x; t = f.t }

  pub stepped_fits : (n : ℕ) → FitsRegs (stepped s n)
  stepped_fits n = reg_fits n (up (get s.r n)) (up_fits (get s.r n))

  stepped_back_fits : (n : ℕ) → FitsRegs (stepped_back s n)
  stepped_back_fits n = reg_fits n (down (get s.r n)) (down_fits (get s.r n))

  branch_fits : (t : Bool) {y : ℕ} → y < 256 → FitsRegs (branched s t y)
  branch_fits t {y = y} h = reg_fits s.p (cond t (word (get s.r s.p).hi y) (up (get s.r s.p))) (cond_fits t (bytes_fit (get_fits s.p s.r f.r).hi h) (up_fits (get s.r s.p)))

  long_fits : (t : Bool) {y z : ℕ} → y < 256 → z < 256 → FitsRegs (long_branched s t y z)
  long_fits t {y = y} {z = z} h k = reg_fits s.p (cond t (word y z) (up (up (get s.r s.p)))) (cond_fits t (bytes_fit h k) (up_fits (up (get s.r s.p))))

  skip_fits : (t : Bool) → FitsRegs (skipped s t)
  skip_fits t = reg_fits s.p (cond t (up (up (get s.r s.p))) (get s.r s.p)) (cond_fits t (up_fits (up (get s.r s.p))) (get_fits s.p s.r f.r))

  loaded_fits : {y : ℕ} → y < 256 → FitsRegs (loaded s y)
  loaded_fits h = record { r = f.r; d = h; df = f.df; p = f.p; x = f.x; t = f.t }

  shifted_fits : {y z : ℕ} → y < 256 → z ≤ 1 → FitsRegs (record s { d = y; df = z })
  shifted_fits h k = record { r = f.r; d = h; df = k; p = f.p; x = f.x; t = f.t }

  df_d_fits : {y : ℕ} → y < 512 → FitsRegs (df_d s y)
  df_d_fits h = record { r = f.r; d = omega arith; df = omega arith; p = f.p; x = f.x; t = f.t }

  flags_fit : {q ie idle : Bool} → FitsRegs (record s { q = q; ie = ie; idle = idle })
  flags_fit = record { r = f.r; d = f.d; df = f.df; p = f.p; x = f.x; t = f.t }

  returned_fits : {y : ℕ} {e : Bool} → y < 256 → FitsRegs (returned s y e)
  returned_fits h = record { r = put_fits s.x s.r (up (get s.r s.x)) f.r (up_fits (get s.r s.x)); d = f.d; df = f.df; p = omega arith; x = omega arith; t = f.t }

  marked_fits : FitsRegs (marked s)
  marked_fits = record { r = put_fits 2 s.r (down (get s.r 2)) f.r (down_fits (get s.r 2)); d = f.d; df = f.df; p = f.p; x = f.p; t = omega (arith, f.x, f.p) }

pub effect_fits : (k : Kind) (n : ℕ) (s : Regs) (i : Inputs) → n < 16 → FitsRegs s → FitsInputs i → FitsRegs (effect k n s i).regs
effect_fits Idl n s i small f g = flags_fit f
effect_fits Ldn n s i small f g = loaded_fits f (g.byte _)
effect_fits Inc n s i small f g = stepped_fits f n
effect_fits Dec n s i small f g = stepped_back_fits f n
effect_fits Br n s i small f g = branch_fits f true g.next
effect_fits Bq n s i small f g = branch_fits f s.q g.next
effect_fits Bz n s i small f g = branch_fits f (s.d == 0) g.next
effect_fits Bdf n s i small f g = branch_fits f (s.df == 1) g.next
effect_fits B1 n s i small f g = branch_fits f (i.flag 1) g.next
effect_fits B2 n s i small f g = branch_fits f (i.flag 2) g.next
effect_fits B3 n s i small f g = branch_fits f (i.flag 3) g.next
effect_fits B4 n s i small f g = branch_fits f (i.flag 4) g.next
effect_fits Skp n s i small f g = stepped_fits f s.p
effect_fits Bnq n s i small f g = branch_fits f (not s.q) g.next
effect_fits Bnz n s i small f g = branch_fits f (not (s.d == 0)) g.next
effect_fits Bnf n s i small f g = branch_fits f (not (s.df == 1)) g.next
effect_fits Bn1 n s i small f g = branch_fits f (not (i.flag 1)) g.next
effect_fits Bn2 n s i small f g = branch_fits f (not (i.flag 2)) g.next
effect_fits Bn3 n s i small f g = branch_fits f (not (i.flag 3)) g.next
effect_fits Bn4 n s i small f g = branch_fits f (not (i.flag 4)) g.next
effect_fits Lda n s i small f g = loaded_fits (stepped_fits f n) (g.byte _)
effect_fits Str n s i small f g = f
effect_fits Irx n s i small f g = stepped_fits f s.x
effect_fits Out n s i small f g = stepped_fits f s.x
effect_fits Undefined n s i small f g = f
effect_fits Inp n s i small f g = loaded_fits f g.taken
effect_fits Ret n s i small f g = returned_fits f (g.byte _)
effect_fits Dis n s i small f g = returned_fits f (g.byte _)
effect_fits Ldxa n s i small f g = loaded_fits (stepped_fits f s.x) (g.byte _)
effect_fits Stxd n s i small f g = stepped_back_fits f s.x
effect_fits Adc n s i small f g = df_d_fits f (omega (arith, f.d, f.df, g.byte (at s s.x)))
effect_fits Sdb n s i small f g = df_d_fits f (omega (arith, f.d, f.df, g.byte (at s s.x)))
effect_fits Shrc n s i small f g = shifted_fits f (omega (arith, f.d, f.df)) (omega arith)
effect_fits Smb n s i small f g = df_d_fits f (omega (arith, f.d, f.df, g.byte (at s s.x)))
effect_fits Sav n s i small f g = f
effect_fits Mark n s i small f g = marked_fits f
effect_fits Req n s i small f g = flags_fit f
effect_fits Seq n s i small f g = flags_fit f
effect_fits Adci n s i small f g = df_d_fits (stepped_fits f s.p) (omega (arith, f.d, f.df, g.next))
effect_fits Sdbi n s i small f g = df_d_fits (stepped_fits f s.p) (omega (arith, f.d, f.df, g.next))
effect_fits Shlc n s i small f g = df_d_fits f (omega (arith, f.d, f.df, g.byte (at s s.x)))
effect_fits Smbi n s i small f g = df_d_fits (stepped_fits f s.p) (omega (arith, f.d, f.df, g.next))
effect_fits Glo n s i small f g = loaded_fits f (get_fits n s.r f.r).lo
effect_fits Ghi n s i small f g = loaded_fits f (get_fits n s.r f.r).hi
effect_fits Plo n s i small f g = reg_fits f n (word (get s.r n).hi s.d) (bytes_fit (get_fits n s.r f.r).hi f.d)
effect_fits Phi n s i small f g = reg_fits f n (word s.d (get s.r n).lo) (bytes_fit f.d (get_fits n s.r f.r).lo)
effect_fits Lbr n s i small f g = long_fits f true g.next g.after
effect_fits Lbq n s i small f g = long_fits f s.q g.next g.after
effect_fits Lbz n s i small f g = long_fits f (s.d == 0) g.next g.after
effect_fits Lbdf n s i small f g = long_fits f (s.df == 1) g.next g.after
effect_fits Nop n s i small f g = f
effect_fits Lsnq n s i small f g = skip_fits f (not s.q)
effect_fits Lsnz n s i small f g = skip_fits f (not (s.d == 0))
effect_fits Lsnf n s i small f g = skip_fits f (not (s.df == 1))
effect_fits Lskp n s i small f g = skip_fits f true
effect_fits Lbnq n s i small f g = long_fits f (not s.q) g.next g.after
effect_fits Lbnz n s i small f g = long_fits f (not (s.d == 0)) g.next g.after
effect_fits Lbnf n s i small f g = long_fits f (not (s.df == 1)) g.next g.after
effect_fits Lsie n s i small f g = skip_fits f s.ie
effect_fits Lsq n s i small f g = skip_fits f s.q
effect_fits Lsz n s i small f g = skip_fits f (s.d == 0)
effect_fits Lsdf n s i small f g = skip_fits f (s.df == 1)
effect_fits Sep n s i small f g = record { r = f.r; d = f.d; df = f.df; p = small; x = f.x; t = f.t }
effect_fits Sex n s i small f g = record { r = f.r; d = f.d; df = f.df; p = f.p; x = small; t = f.t }
effect_fits Ldx n s i small f g = loaded_fits f (g.byte _)
effect_fits Or n s i small f g = loaded_fits f (or_of_8 _ _ f.d (g.byte (at s s.x)))
effect_fits And n s i small f g = loaded_fits f (and_of_8 _ _ f.d)
effect_fits Xor n s i small f g = loaded_fits f (xor_of_8 _ _ f.d (g.byte (at s s.x)))
effect_fits Add n s i small f g = df_d_fits f (omega (arith, f.d, f.df, g.byte (at s s.x)))
effect_fits Sd n s i small f g = df_d_fits f (omega (arith, f.d, f.df, g.byte (at s s.x)))
effect_fits Shr n s i small f g = shifted_fits f (omega (arith, f.d, f.df)) (omega arith)
effect_fits Sm n s i small f g = df_d_fits f (omega (arith, f.d, f.df, g.byte (at s s.x)))
effect_fits Ldi n s i small f g = loaded_fits (stepped_fits f s.p) g.next
effect_fits Ori n s i small f g = loaded_fits (stepped_fits f s.p) (or_of_8 _ _ f.d (g.next))
effect_fits Ani n s i small f g = loaded_fits (stepped_fits f s.p) (and_of_8 _ _ f.d)
effect_fits Xri n s i small f g = loaded_fits (stepped_fits f s.p) (xor_of_8 _ _ f.d (g.next))
effect_fits Adi n s i small f g = df_d_fits (stepped_fits f s.p) (omega (arith, f.d, f.df, g.next))
effect_fits Sdi n s i small f g = df_d_fits (stepped_fits f s.p) (omega (arith, f.d, f.df, g.next))
effect_fits Shl n s i small f g = df_d_fits f (omega (arith, f.d, f.df, g.byte (at s s.x)))
effect_fits Smi n s i small f g = df_d_fits (stepped_fits f s.p) (omega (arith, f.d, f.df, g.next))

-- the number of an opcode is below 16
number_in_fits : (k : Kind) (byte : ℕ) → number_in k byte < 16
number_in_fits Ldn byte = omega arith
number_in_fits Inc byte = omega arith
number_in_fits Dec byte = omega arith
number_in_fits Lda byte = omega arith
number_in_fits Str byte = omega arith
number_in_fits Out byte = omega arith
number_in_fits Inp byte = omega arith
number_in_fits Glo byte = omega arith
number_in_fits Ghi byte = omega arith
number_in_fits Plo byte = omega arith
number_in_fits Phi byte = omega arith
number_in_fits Sep byte = omega arith
number_in_fits Sex byte = omega arith
number_in_fits _ byte = lit< tt

pub number_fits : (byte : ℕ) → opcode_number byte < 16
number_fits byte = number_in_fits (kind_of byte) byte

abbrev pub ByteFits : Option (ℕ × ℕ) → Type 0
ByteFits None = Unit {0}
ByteFits (Some w) = w.1 < 256

pub write_fits : (k : Kind) (n : ℕ) (s : Regs) (i : Inputs) → FitsRegs s → FitsInputs i → ByteFits (effect k n s i).write
write_fits Str n s i f g = f.d
write_fits Stxd n s i f g = f.d
write_fits Sav n s i f g = f.t
write_fits Mark n s i f g = omega (arith, f.x, f.p)
write_fits Inp n s i f g = g.taken
write_fits _ n s i f g = tt
