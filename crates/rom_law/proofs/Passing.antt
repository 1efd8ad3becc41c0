-- Main code's instructions and ticks change places.
use Rattle.std.proofs.Common.{◌≡◌, ℕ, ◌+◌, ◌<◌, ◌≤◌, refl, sym, ◌∙◌, ap, ap₂, subst, Bool, true, false, if◌then◌else◌, ◌⊎◌, inl, T, not, arith}
use Rattle.std.specs.Prelude.{◌==◌, Option, Some, None}
use Rattle.machine.specs.declared.Kind.{Kind}
use Rattle.machine.specs.declared.Kind.TheVariants.{Idl, Ldn, Inc, Dec, Br, Bq, Bz, Bdf, B1, B2, B3, B4, Skp, Bnq, Bnz, Bnf, Bn1, Bn2, Bn3, Bn4, Lda, Str, Irx, Out, Undefined, Inp, Ret, Dis, Ldxa, Stxd, Adc, Sdb, Shrc, Smb, Mark, Adci, Sdbi, Shlc, Smbi, Glo, Ghi, Plo, Phi, Lbr, Lbq, Lbz, Lbdf, Nop, Lsnq, Lsnz, Lsnf, Lskp, Lbnq, Lbnz, Lbnf, Lsie, Lsq, Lsz, Lsdf, Sep, Sex, Ldx, Or, And, Xor, Add, Sd, Shr, Sm, Ldi, Ori, Ani, Xri, Adi, Sdi, Shl, Smi}
use Rattle.machine.specs.Bank.{Word, word, value, up, down, get, put}
use Rattle.machine.specs.Instruction.{Regs, Inputs, Effect, effect, at}
use Rattle.rom_law.specs.Later.{Steady, later_bank, later_regs, tones}
use Rattle.rom_law.proofs.Registers.{is_kept, is_plain, kept_of_plain, get-later, put-later, put-r1, put-r2, put-r8, of_r2, r2_grows, r2_falls}

-- a condition, so that it computes to what is left to show: nothing, or that an address that is read is kept
abbrev pub when : Bool → Type 0 → Type 0
when true X = X
when false X = ⊥

pub true_from : (t : Bool) → T t → t ≡ true
true_from true h = refl
true_from false h = absurd h

pub first_of : (t : Bool) (X : Type 0) → when t X → t ≡ true
first_of true X h = refl
first_of false X h = absurd h

pub second_of : (t : Bool) (X : Type 0) → when t X → X
second_of true X h = h
second_of false X h = absurd h

-- what ticks may pass, by the kind, the number and the registers after the fetch
abbrev pub Passes : ℕ → Kind → ℕ → Regs → Type 0
Passes low Ldn m s = when (is_kept m) (Steady low s (at s m))
Passes low Inc m s = when (is_kept m) (of_r2 m (value s.r.r2 ≤ value (up (get s.r m))))
Passes low Dec m s = T (is_plain m)
Passes low Br m s = T (is_plain s.p)
Passes low Bz m s = T (is_plain s.p)
Passes low Bdf m s = T (is_plain s.p)
Passes low B1 m s = T (is_plain s.p)
Passes low B2 m s = T (is_plain s.p)
Passes low B3 m s = T (is_plain s.p)
Passes low B4 m s = T (is_plain s.p)
Passes low Skp m s = T (is_plain s.p)
Passes low Bnz m s = T (is_plain s.p)
Passes low Bnf m s = T (is_plain s.p)
Passes low Bn1 m s = T (is_plain s.p)
Passes low Bn2 m s = T (is_plain s.p)
Passes low Bn3 m s = T (is_plain s.p)
Passes low Bn4 m s = T (is_plain s.p)
Passes low Lda m s = when (is_kept m) (Steady low s (at s m) × of_r2 m (value s.r.r2 ≤ value (up (get s.r m))))
Passes low Str m s = T (is_kept m)
Passes low Irx m s = when (is_kept s.x) (of_r2 s.x (value s.r.r2 ≤ value (up (get s.r s.x))))
Passes low Out m s = when (is_kept s.x) (Steady low s (at s s.x) × of_r2 s.x (value s.r.r2 ≤ value (up (get s.r s.x))))
Passes low Undefined m s = Unit {0}
Passes low Inp m s = T (is_kept s.x)
Passes low Ldxa m s = when (is_kept s.x) (Steady low s (at s s.x) × of_r2 s.x (value s.r.r2 ≤ value (up (get s.r s.x))))
Passes low Stxd m s = when (is_kept s.x) (of_r2 s.x (value s.r.r2 ≤ value (down (get s.r s.x)) + 1))
Passes low Adc m s = when (is_kept s.x) (Steady low s (at s s.x))
Passes low Sdb m s = when (is_kept s.x) (Steady low s (at s s.x))
Passes low Shrc m s = Unit {0}
Passes low Smb m s = when (is_kept s.x) (Steady low s (at s s.x))
Passes low Adci m s = T (is_plain s.p)
Passes low Sdbi m s = T (is_plain s.p)
Passes low Shlc m s = Unit {0}
Passes low Smbi m s = T (is_plain s.p)
Passes low Glo m s = T (is_kept m)
Passes low Ghi m s = T (is_kept m)
Passes low Plo m s = T (is_plain m)
Passes low Phi m s = T (is_plain m)
Passes low Lbr m s = T (is_plain s.p)
Passes low Lbz m s = T (is_plain s.p)
Passes low Lbdf m s = T (is_plain s.p)
Passes low Nop m s = Unit {0}
Passes low Lsnz m s = T (is_plain s.p)
Passes low Lsnf m s = T (is_plain s.p)
Passes low Lskp m s = T (is_plain s.p)
Passes low Lbnz m s = T (is_plain s.p)
Passes low Lbnf m s = T (is_plain s.p)
Passes low Lsie m s = T (is_plain s.p)
Passes low Lsz m s = T (is_plain s.p)
Passes low Lsdf m s = T (is_plain s.p)
Passes low Sep m s = Unit {0}
Passes low Sex m s = Unit {0}
Passes low Ldx m s = when (is_kept s.x) (Steady low s (at s s.x))
Passes low Or m s = when (is_kept s.x) (Steady low s (at s s.x))
Passes low And m s = when (is_kept s.x) (Steady low s (at s s.x))
Passes low Xor m s = when (is_kept s.x) (Steady low s (at s s.x))
Passes low Add m s = when (is_kept s.x) (Steady low s (at s s.x))
Passes low Sd m s = when (is_kept s.x) (Steady low s (at s s.x))
Passes low Shr m s = Unit {0}
Passes low Sm m s = when (is_kept s.x) (Steady low s (at s s.x))
Passes low Ldi m s = T (is_plain s.p)
Passes low Ori m s = T (is_plain s.p)
Passes low Ani m s = T (is_plain s.p)
Passes low Xri m s = T (is_plain s.p)
Passes low Adi m s = T (is_plain s.p)
Passes low Sdi m s = T (is_plain s.p)
Passes low Shl m s = Unit {0}
Passes low Smi m s = T (is_plain s.p)
Passes low _ m s = ⊥

-- what an effect is after ticks
abbrev pub later_effect : ℕ → Word → Word → ℕ → Effect → Effect
later_effect n v w t e = record e { regs = later_regs n v w t e.regs }

abbrev pub written_at : Effect → ℕ → ℕ → Effect
written_at e address byte = record e { write = Some (address, byte) }

module _ (low n : ℕ) (v w : Word) (t : ℕ) (s : Regs) (i : Inputs) (m : ℕ) (byte' : ℕ → ℕ) (agree : (a : ℕ) → Steady low s a → byte' a ≡ i.byte a) where
  abbrev S : Regs
  S = later_regs n v w t s

  abbrev J : Inputs
  J = record i { byte = byte' }

  -- the effect where the byte that is read is given
  abbrev given : Kind → ℕ → Effect
  given k z = effect k m S (record i { byte = λ a. z })

  same : (k : ℕ) → is_kept k ≡ true → get (later_bank n v w s.r) k ≡ get s.r k
  same k e = get-later k n v w s.r e

  address : (k : ℕ) → is_kept k ≡ true → at S k ≡ at s k
  address k e = ap value (same k e)

  -- the byte at a register
  byte_at_reg : (k : ℕ) → is_kept k ≡ true → Steady low s (at s k) → byte' (at S k) ≡ i.byte (at s k)
  byte_at_reg k e h = ap byte' (address k e) ∙ agree _ h

  byte : (k : ℕ) → when (is_kept k) (Steady low s (at s k)) → byte' (at S k) ≡ i.byte (at s k)
  byte k h = byte_at_reg k (first_of _ _ h) (second_of _ _ h)

  byte_0 : (k : ℕ) (X : Type 0) → when (is_kept k) (Steady low s (at s k) × X) → byte' (at S k) ≡ i.byte (at s k)
  byte_0 k X h = byte_at_reg k (first_of _ _ h) (second_of _ (Steady low s (at s k) × X) h).0

  first : (k : ℕ) (X : Type 0) → when (is_kept k) X → is_kept k ≡ true
  first k X h = first_of _ _ h

  pc : T (is_plain s.p) → is_kept s.p ≡ true
  pc h = kept_of_plain s.p (true_from _ h)

  -- a register after a function of it, in the whole effect
  placed : (e : Effect) (k : ℕ) (f : Word → Word) → is_kept k ≡ true
      → record e { regs = record e.regs { r = put (later_bank n v w s.r) k (f (get (later_bank n v w s.r) k)); q = tones n s.r.r8 s.q } }
      ≡ record e { regs = record e.regs { r = later_bank n v w (put s.r k (f (get s.r k))); q = tones n (put s.r k (f (get s.r k))).r8 s.q } }
  placed e k f h =
      ap₂ (λ z y. record e { regs = record e.regs { r = z; q = tones n y s.q } })
      (ap (λ z. put (later_bank n v w s.r) k (f z)) (same k h) ∙ put-later k n v w s.r _ h) (sym (put-r8 k s.r _ h))

  short : (e : Effect) (c : Bool) → T (is_plain s.p)
      → record e {
        regs = record e.regs {
          r = put (later_bank n v w s.r) s.p
              (if c then word (get (later_bank n v w s.r) s.p).hi i.next else up (get (later_bank n v w s.r) s.p));
          q = tones n s.r.r8 s.q;
        };
      }
      ≡ record e {
        regs = record e.regs {
          r = later_bank n v w (put s.r s.p (if c then word (get s.r s.p).hi i.next else up (get s.r s.p)));
          q = tones n (put s.r s.p (if c then word (get s.r s.p).hi i.next else up (get s.r s.p))).r8 s.q;
        };
      }
  short e c h = placed e s.p (λ y. if c then word y.hi i.next else up y) (pc h)

  pub passes : (k : Kind) → Passes low k m s → effect k m S J ≡ later_effect n v w t (effect k m s i)
  passes Ldn h = ap (given Ldn) (byte m h)
  passes Inc h = placed (effect Inc m S J) m up (first _ _ h)
  passes Dec h = placed (effect Dec m S J) m down (kept_of_plain m (true_from _ h))
  passes Br h = short (effect Br m S J) true h
  passes Bz h = short (effect Bz m S J) (s.d == 0) h
  passes Bdf h = short (effect Bdf m S J) (s.df == 1) h
  passes B1 h = short (effect B1 m S J) (i.flag 1) h
  passes B2 h = short (effect B2 m S J) (i.flag 2) h
  passes B3 h = short (effect B3 m S J) (i.flag 3) h
  passes B4 h = short (effect B4 m S J) (i.flag 4) h
  passes Skp h = placed (effect Skp m S J) s.p up (pc h)
  passes Bnz h = short (effect Bnz m S J) (not (s.d == 0)) h
  passes Bnf h = short (effect Bnf m S J) (not (s.df == 1)) h
  passes Bn1 h = short (effect Bn1 m S J) (not (i.flag 1)) h
  passes Bn2 h = short (effect Bn2 m S J) (not (i.flag 2)) h
  passes Bn3 h = short (effect Bn3 m S J) (not (i.flag 3)) h
  passes Bn4 h = short (effect Bn4 m S J) (not (i.flag 4)) h
  passes Lda h = ap (given Lda) (byte_0 m _ h) ∙ placed (given Lda (i.byte (at s m))) m up (first _ _ h)
  passes Str h = ap (λ z. written_at (effect Str m S J) z s.d) (address m (true_from _ h))
  passes Irx h = placed (effect Irx m S J) s.x up (first _ _ h)
  passes Out h = ap (given Out) (byte_0 s.x _ h) ∙ placed (given Out (i.byte (at s s.x))) s.x up (first _ _ h)
  passes Undefined h = refl
  passes Inp h = ap (λ z. written_at (effect Inp m S J) z i.taken) (address s.x (true_from _ h))
  passes Ldxa h = ap (given Ldxa) (byte_0 s.x _ h) ∙ placed (given Ldxa (i.byte (at s s.x))) s.x up (first _ _ h)
  passes Stxd h =
      ap (λ z. written_at (effect Stxd m S J) z s.d) (address s.x (first _ _ h))
      ∙ placed (written_at (effect Stxd m S J) (at s s.x) s.d) s.x down (first _ _ h)
  passes Adc h = ap (given Adc) (byte s.x h)
  passes Sdb h = ap (given Sdb) (byte s.x h)
  passes Shrc h = refl
  passes Smb h = ap (given Smb) (byte s.x h)
  passes Adci h = placed (effect Adci m S J) s.p up (pc h)
  passes Sdbi h = placed (effect Sdbi m S J) s.p up (pc h)
  passes Shlc h = refl
  passes Smbi h = placed (effect Smbi m S J) s.p up (pc h)
  passes Glo h = ap (λ (z : Word). record (effect Glo m S J) { regs = record S { d = z.lo } }) (same m (true_from _ h))
  passes Ghi h = ap (λ (z : Word). record (effect Ghi m S J) { regs = record S { d = z.hi } }) (same m (true_from _ h))
  passes Plo h = placed (effect Plo m S J) m (λ y. word y.hi s.d) (kept_of_plain m (true_from _ h))
  passes Phi h = placed (effect Phi m S J) m (λ y. word s.d y.lo) (kept_of_plain m (true_from _ h))
  passes Lbr h = placed (effect Lbr m S J) s.p (λ y. if true then word i.next i.after else up (up y)) (pc h)
  passes Lbz h = placed (effect Lbz m S J) s.p (λ y. if (s.d == 0) then word i.next i.after else up (up y)) (pc h)
  passes Lbdf h = placed (effect Lbdf m S J) s.p (λ y. if (s.df == 1) then word i.next i.after else up (up y)) (pc h)
  passes Nop h = refl
  passes Lsnz h = placed (effect Lsnz m S J) s.p (λ y. if (not (s.d == 0)) then up (up y) else y) (pc h)
  passes Lsnf h = placed (effect Lsnf m S J) s.p (λ y. if (not (s.df == 1)) then up (up y) else y) (pc h)
  passes Lskp h = placed (effect Lskp m S J) s.p (λ y. if true then up (up y) else y) (pc h)
  passes Lbnz h = placed (effect Lbnz m S J) s.p (λ y. if (not (s.d == 0)) then word i.next i.after else up (up y)) (pc h)
  passes Lbnf h = placed (effect Lbnf m S J) s.p (λ y. if (not (s.df == 1)) then word i.next i.after else up (up y)) (pc h)
  passes Lsie h = placed (effect Lsie m S J) s.p (λ y. if s.ie then up (up y) else y) (pc h)
  passes Lsz h = placed (effect Lsz m S J) s.p (λ y. if (s.d == 0) then up (up y) else y) (pc h)
  passes Lsdf h = placed (effect Lsdf m S J) s.p (λ y. if (s.df == 1) then up (up y) else y) (pc h)
  passes Sep h = refl
  passes Sex h = refl
  passes Ldx h = ap (given Ldx) (byte s.x h)
  passes Or h = ap (given Or) (byte s.x h)
  passes And h = ap (given And) (byte s.x h)
  passes Xor h = ap (given Xor) (byte s.x h)
  passes Add h = ap (given Add) (byte s.x h)
  passes Sd h = ap (given Sd) (byte s.x h)
  passes Shr h = refl
  passes Sm h = ap (given Sm) (byte s.x h)
  passes Ldi h = placed (effect Ldi m S J) s.p up (pc h)
  passes Ori h = placed (effect Ori m S J) s.p up (pc h)
  passes Ani h = placed (effect Ani m S J) s.p up (pc h)
  passes Xri h = placed (effect Xri m S J) s.p up (pc h)
  passes Adi h = placed (effect Adi m S J) s.p up (pc h)
  passes Sdi h = placed (effect Sdi m S J) s.p up (pc h)
  passes Shl h = refl
  passes Smi h = placed (effect Smi m S J) s.p up (pc h)
  passes _ h = absurd h

-- an address that an effect writes
abbrev pub Written : ℕ → Option (ℕ × ℕ) → Type 0
Written a None = ⊥
Written a (Some w) = a ≡ w.0

module _ (low : ℕ) (s : Regs) (i : Inputs) (m a : ℕ) where
  alike : {r2 : Word} → r2 ≡ s.r.r2 → (low ≤ a → value r2 < a) → Steady low s a
  alike e z l = subst (λ y. value y < a) e (z l)

  grown : {y : ℕ} → value s.r.r2 ≤ y → (low ≤ a → y < a) → Steady low s a
  grown l z h = omega (arith, l, z h)

  -- what lies above R2 afterwards lay above it before, or was written
  pub stack_of : (k : Kind) → Passes low k m s → Steady low (effect k m s i).regs a → Steady low s a ⊎ Written a (effect k m s i).write
  stack_of Inc h z = inl (grown (r2_grows m s.r _ (first_of _ _ h) (second_of _ _ h)) z)
  stack_of Dec h z = inl (alike (put-r2 m s.r _ (true_from _ h)) z)
  stack_of Br h z = inl (alike (put-r2 s.p s.r _ (true_from _ h)) z)
  stack_of Bz h z = inl (alike (put-r2 s.p s.r _ (true_from _ h)) z)
  stack_of Bdf h z = inl (alike (put-r2 s.p s.r _ (true_from _ h)) z)
  stack_of B1 h z = inl (alike (put-r2 s.p s.r _ (true_from _ h)) z)
  stack_of B2 h z = inl (alike (put-r2 s.p s.r _ (true_from _ h)) z)
  stack_of B3 h z = inl (alike (put-r2 s.p s.r _ (true_from _ h)) z)
  stack_of B4 h z = inl (alike (put-r2 s.p s.r _ (true_from _ h)) z)
  stack_of Skp h z = inl (alike (put-r2 s.p s.r _ (true_from _ h)) z)
  stack_of Bnz h z = inl (alike (put-r2 s.p s.r _ (true_from _ h)) z)
  stack_of Bnf h z = inl (alike (put-r2 s.p s.r _ (true_from _ h)) z)
  stack_of Bn1 h z = inl (alike (put-r2 s.p s.r _ (true_from _ h)) z)
  stack_of Bn2 h z = inl (alike (put-r2 s.p s.r _ (true_from _ h)) z)
  stack_of Bn3 h z = inl (alike (put-r2 s.p s.r _ (true_from _ h)) z)
  stack_of Bn4 h z = inl (alike (put-r2 s.p s.r _ (true_from _ h)) z)
  stack_of Lda h z =
      inl (grown (r2_grows m s.r _ (first_of _ _ h) (second_of _ (Steady low s (at s m) × of_r2 m (value s.r.r2 ≤ value (up (get s.r m)))) h).1) z)
  stack_of Irx h z = inl (grown (r2_grows s.x s.r _ (first_of _ _ h) (second_of _ _ h)) z)
  stack_of Out h z =
      inl (grown (r2_grows s.x s.r _ (first_of _ _ h)
      (second_of _ (Steady low s (at s s.x) × of_r2 s.x (value s.r.r2 ≤ value (up (get s.r s.x)))) h).1) z)
  stack_of Ldxa h z =
      inl (grown (r2_grows s.x s.r _ (first_of _ _ h)
      (second_of _ (Steady low s (at s s.x) × of_r2 s.x (value s.r.r2 ≤ value (up (get s.r s.x)))) h).1) z)
  stack_of Stxd h z = r2_falls low s.x s.r _ a (first_of _ _ h) (second_of _ _ h) z
  stack_of Adci h z = inl (alike (put-r2 s.p s.r _ (true_from _ h)) z)
  stack_of Sdbi h z = inl (alike (put-r2 s.p s.r _ (true_from _ h)) z)
  stack_of Smbi h z = inl (alike (put-r2 s.p s.r _ (true_from _ h)) z)
  stack_of Plo h z = inl (alike (put-r2 m s.r _ (true_from _ h)) z)
  stack_of Phi h z = inl (alike (put-r2 m s.r _ (true_from _ h)) z)
  stack_of Lbr h z = inl (alike (put-r2 s.p s.r _ (true_from _ h)) z)
  stack_of Lbz h z = inl (alike (put-r2 s.p s.r _ (true_from _ h)) z)
  stack_of Lbdf h z = inl (alike (put-r2 s.p s.r _ (true_from _ h)) z)
  stack_of Lsnz h z = inl (alike (put-r2 s.p s.r _ (true_from _ h)) z)
  stack_of Lsnf h z = inl (alike (put-r2 s.p s.r _ (true_from _ h)) z)
  stack_of Lskp h z = inl (alike (put-r2 s.p s.r _ (true_from _ h)) z)
  stack_of Lbnz h z = inl (alike (put-r2 s.p s.r _ (true_from _ h)) z)
  stack_of Lbnf h z = inl (alike (put-r2 s.p s.r _ (true_from _ h)) z)
  stack_of Lsie h z = inl (alike (put-r2 s.p s.r _ (true_from _ h)) z)
  stack_of Lsz h z = inl (alike (put-r2 s.p s.r _ (true_from _ h)) z)
  stack_of Lsdf h z = inl (alike (put-r2 s.p s.r _ (true_from _ h)) z)
  stack_of Ldi h z = inl (alike (put-r2 s.p s.r _ (true_from _ h)) z)
  stack_of Ori h z = inl (alike (put-r2 s.p s.r _ (true_from _ h)) z)
  stack_of Ani h z = inl (alike (put-r2 s.p s.r _ (true_from _ h)) z)
  stack_of Xri h z = inl (alike (put-r2 s.p s.r _ (true_from _ h)) z)
  stack_of Adi h z = inl (alike (put-r2 s.p s.r _ (true_from _ h)) z)
  stack_of Sdi h z = inl (alike (put-r2 s.p s.r _ (true_from _ h)) z)
  stack_of Smi h z = inl (alike (put-r2 s.p s.r _ (true_from _ h)) z)
  stack_of Bq h z = absurd h
  stack_of Bnq h z = absurd h
  stack_of Ret h z = absurd h
  stack_of Dis h z = absurd h
  stack_of Mark h z = absurd h
  stack_of Lbq h z = absurd h
  stack_of Lbnq h z = absurd h
  stack_of Lsq h z = absurd h
  stack_of Lsnq h z = absurd h
  stack_of _ h z = inl z

-- no instruction but IDL changes whether the processor idles
pub idle_of : (low : ℕ) (k : Kind) (m : ℕ) (s : Regs) (i : Inputs) → Passes low k m s → (effect k m s i).regs.idle ≡ s.idle
idle_of low Idl m s i h = absurd h
idle_of low _ m s i h = refl

-- nor do they change whether interrupts are enabled: only RET and DIS do
pub enabled_of : (low : ℕ) (k : Kind) (m : ℕ) (s : Regs) (i : Inputs) → Passes low k m s → (effect k m s i).regs.ie ≡ s.ie
enabled_of low Ret m s i h = absurd h
enabled_of low Dis m s i h = absurd h
enabled_of low _ m s i h = refl

-- nor do they change R1
module _ (low : ℕ) (s : Regs) (i : Inputs) (m : ℕ) where
  plain_r1 : (k : ℕ) (y : Word) → T (is_plain k) → (put s.r k y).r1 ≡ s.r.r1
  plain_r1 k y h = put-r1 k s.r y (kept_of_plain k (true_from _ h))

  pub entry_of : (k : Kind) → Passes low k m s → (effect k m s i).regs.r.r1 ≡ s.r.r1
  entry_of Inc h = put-r1 m s.r _ (first_of _ _ h)
  entry_of Lda h = put-r1 m s.r _ (first_of _ _ h)
  entry_of Irx h = put-r1 s.x s.r _ (first_of _ _ h)
  entry_of Out h = put-r1 s.x s.r _ (first_of _ _ h)
  entry_of Ldxa h = put-r1 s.x s.r _ (first_of _ _ h)
  entry_of Stxd h = put-r1 s.x s.r _ (first_of _ _ h)
  entry_of Dec h = plain_r1 m _ h
  entry_of Plo h = plain_r1 m _ h
  entry_of Phi h = plain_r1 m _ h
  entry_of Br h = plain_r1 s.p _ h
  entry_of Bz h = plain_r1 s.p _ h
  entry_of Bdf h = plain_r1 s.p _ h
  entry_of B1 h = plain_r1 s.p _ h
  entry_of B2 h = plain_r1 s.p _ h
  entry_of B3 h = plain_r1 s.p _ h
  entry_of B4 h = plain_r1 s.p _ h
  entry_of Skp h = plain_r1 s.p _ h
  entry_of Bnz h = plain_r1 s.p _ h
  entry_of Bnf h = plain_r1 s.p _ h
  entry_of Bn1 h = plain_r1 s.p _ h
  entry_of Bn2 h = plain_r1 s.p _ h
  entry_of Bn3 h = plain_r1 s.p _ h
  entry_of Bn4 h = plain_r1 s.p _ h
  entry_of Adci h = plain_r1 s.p _ h
  entry_of Sdbi h = plain_r1 s.p _ h
  entry_of Smbi h = plain_r1 s.p _ h
  entry_of Lbr h = plain_r1 s.p _ h
  entry_of Lbz h = plain_r1 s.p _ h
  entry_of Lbdf h = plain_r1 s.p _ h
  entry_of Lsnz h = plain_r1 s.p _ h
  entry_of Lsnf h = plain_r1 s.p _ h
  entry_of Lskp h = plain_r1 s.p _ h
  entry_of Lbnz h = plain_r1 s.p _ h
  entry_of Lbnf h = plain_r1 s.p _ h
  entry_of Lsie h = plain_r1 s.p _ h
  entry_of Lsz h = plain_r1 s.p _ h
  entry_of Lsdf h = plain_r1 s.p _ h
  entry_of Ldi h = plain_r1 s.p _ h
  entry_of Ori h = plain_r1 s.p _ h
  entry_of Ani h = plain_r1 s.p _ h
  entry_of Xri h = plain_r1 s.p _ h
  entry_of Adi h = plain_r1 s.p _ h
  entry_of Sdi h = plain_r1 s.p _ h
  entry_of Smi h = plain_r1 s.p _ h
  entry_of Bq h = absurd h
  entry_of Bnq h = absurd h
  entry_of Ret h = absurd h
  entry_of Dis h = absurd h
  entry_of Mark h = absurd h
  entry_of Lbq h = absurd h
  entry_of Lbnq h = absurd h
  entry_of Lsq h = absurd h
  entry_of Lsnq h = absurd h
  entry_of _ h = refl
