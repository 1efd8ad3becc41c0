-- Main code's moves and ticks change places.
use Rattle.std.proofs.Common.{◌≡◌, ℕ, ◌+◌, ◌-◌, ◌<◌, ◌≤◌, List, refl, sym, ◌∙◌, ap, ap₂, subst, arith, Bool, true, false, cond, nat_lt, slice_set, slice_index, length, zero, suc, get_or-set_same, get_or-set_other, length-set, ◌&&◌, ◌⊎◌, inl, inr, T, not}
use Rattle.std.specs.Prelude.{◌==◌, nat_le, bit_or, Option, Some, None}
use Rattle.std.proofs.lemmas.Bool.{ltb-true, lt-ltb, le-ltb, le-leb, and_parts, cases_eq, cases_lt, agree_below_at, eqb-true}
use Rattle.std.proofs.lemmas.List.{set_past, get_or_past}
use Rattle.machine.specs.Bank.{Word, value, up, get, put}
use Rattle.machine.specs.declared.Kind.{Kind}
use Rattle.machine.specs.declared.Kind.TheVariants.{Out, Inp, B1, B2, B3, B4, Bn1, Bn2, Bn3, Bn4}
use Rattle.machine.specs.Opcodes.{kind_of, opcode_number, cycles_of}
use Rattle.machine.specs.Instruction.{Regs, Inputs, Effect, Port, effect, executed, stepped}
use Rattle.machine.specs.Instruction.Port.{Send, Receive}
use Rattle.machine.specs.Memory.{read, written}
use Rattle.machine.specs.Board.{Machine, acted, flags_of, on_after, latch_after, ram_after, opcode_of}
use Rattle.machine.proofs.Flags.{reads_flags, effect_flags}
use Rattle.rom_law.specs.Code.{Code, Input, nothing, moved, run, is_event}
use Rattle.rom_law.specs.Later.{Steady, After, later_bank, later_regs, later, tones}
use Rattle.rom_law.proofs.Registers.{is_plain, kept_of_plain, get-later, put-later, put-r1, put-r2, put-r8, get_put}
use Rattle.rom_law.proofs.Passing.{when, first_of, second_of, Passes, passes, stack_of, Written, idle_of, enabled_of, entry_of, later_effect}

-- ---- bytes of the ROM and of RAM

-- the byte of the ROM at an address
abbrev pub rom_at : List ℕ → ℕ → ℕ
rom_at rom a = slice_index rom (a - 0x8000)

-- an address in the ROM, with the two after it, as the two bytes of a register
abbrev pub in_rom : Word → Bool
in_rom w = nat_lt 0x7f w.hi && nat_lt w.hi 0x88 && nat_lt w.lo 0x100 && nat_lt 0x7fff (value w) && nat_lt (value w) 0x87fe

or_high : (a : ℕ) → 0x8000 ≤ a → a < 0x8800 → bit_or a 0x8000 ≡ a
or_high a l h =
    subst (λ z. bit_or z 0x8000 ≡ z) back
    (eqb-true _ _ (agree_below_at (λ k. bit_or (0x8000 + k) 0x8000 == 0x8000 + k) (λ k. true) 0x800 (a - 0x8000) refl (omega arith)))
  where
    back : 0x8000 + (a - 0x8000) ≡ a
    back = omega arith

module _ (rom : List ℕ) where
  at_place : (ram : List ℕ) (a : ℕ) → 0x8000 ≤ a → a < 0x8800 → read rom false ram a ≡ rom_at rom a
  unfolding read
  at_place ram a l h = rw (le-ltb a 4096 (omega arith), le-leb 0x8000 a l, lt-ltb a 0x8800 h) refl

  pub read_rom : (latch : Bool) (ram : List ℕ) (a : ℕ) → 0x8000 ≤ a → a < 0x8800 → read rom latch ram a ≡ rom_at rom a
  unfolding read
  read_rom false ram a l h = at_place ram a l h
  read_rom true ram a l h = rw (or_high a l h) (at_place ram a l h)

  pub read_ram : (ram : List ℕ) (a : ℕ) → a < 4096 → read rom false ram a ≡ slice_index ram a
  unfolding read
  read_ram ram a h = rw (lt-ltb a 4096 h) refl

pub written_is : (ram : List ℕ) (a y : ℕ) → a < 4096 → written false ram a y ≡ slice_set ram a y
unfolding written
written_is ram a y h = rw (lt-ltb a 4096 h) refl

cond_length : (t : Bool) (x y : List ℕ) → length x ≡ length y → length (cond t x y) ≡ length y
cond_length true x y e = e
cond_length false x y e = refl

pub length_written : (latch : Bool) (ram : List ℕ) (a y : ℕ) → length (written latch ram a y) ≡ length ram
unfolding written
length_written true ram a y = refl
length_written false ram a y = cond_length (nat_lt a 4096) _ ram (length-set ram a y)

pub length_after : (w : Option (ℕ × ℕ)) (latch : Bool) (ram : List ℕ) → length (ram_after w latch ram) ≡ length ram
length_after None latch ram = refl
length_after (Some x) latch ram = length_written latch ram x.0 x.1

-- ---- two memories that agree but for what ticks may write

abbrev Same : ℕ → Regs → List ℕ → List ℕ → Type 0
Same low s old new = (length new ≡ length old) × ((a : ℕ) → Steady low s a → slice_index new a ≡ slice_index old a)

module _ (low : ℕ) (s : Regs) (old new : List ℕ) (full : length old ≡ 4096) (h : Same low s old new) where
  set-same : (j y a : ℕ) → Steady low s a ⊎ (a ≡ j) → slice_index (slice_set new j y) a ≡ slice_index (slice_set old j y) a
  set-same j y a k = go k (cases_eq a j) (cases_lt j (length old))
    where
      there : a ≡ j → (j < length old) ⊎ (length old ≤ j) → slice_index (slice_set new j y) a ≡ slice_index (slice_set old j y) a
      there e (inl f) = rw e (get_or-set_same new j y 0 (omega (arith, h.0)) ∙ sym (get_or-set_same old j y 0 f))
      there e (inr f) =
          rw (set_past new j y (omega (arith, h.0)), set_past old j y f, e) (get_or_past new j 0 (omega (arith, h.0)) ∙ sym (get_or_past old j 0 f))

      go : Steady low s a ⊎ (a ≡ j) → (a ≡ j) ⊎ (a ≡ j → ⊥) → (j < length old) ⊎ (length old ≤ j)
          → slice_index (slice_set new j y) a ≡ slice_index (slice_set old j y) a
      go (inr e) d f = there e f
      go (inl k) (inl e) f = there e f
      go (inl k) (inr e) f = get_or-set_other new j a y 0 e ∙ h.1 a k ∙ sym (get_or-set_other old j a y 0 e)

  -- a write at 1000 or above changes nothing of RAM
  written-same : (j y a : ℕ) → Steady low s a ⊎ (a ≡ j) → slice_index (written false new j y) a ≡ slice_index (written false old j y) a
  unfolding written
  written-same j y a k = go (cases_lt j 4096) k
    where
      go : (j < 4096) ⊎ (4096 ≤ j) → Steady low s a ⊎ (a ≡ j) → slice_index (written false new j y) a ≡ slice_index (written false old j y) a
      go (inl l) k = rw (lt-ltb j 4096 l) (set-same j y a k)
      go (inr l) (inl k) = rw (le-ltb j 4096 l) (h.1 a k)
      go (inr l) (inr e) = rw (le-ltb j 4096 l, e) (get_or_past new j 0 (omega (arith, h.0, full)) ∙ sym (get_or_past old j 0 (omega (arith, full))))

  after-same : (w : Option (ℕ × ℕ)) (a : ℕ) → Steady low s a ⊎ (Written a w) → slice_index (ram_after w false new) a ≡ slice_index (ram_after w false old) a
  after-same None a (inl k) = h.1 a k
  after-same None a (inr k) = absurd k
  after-same (Some x) a k = written-same x.0 x.1 a k

  read-same : (rom : List ℕ) (a : ℕ) → Steady low s a → read rom false new a ≡ read rom false old a
  unfolding read
  read-same rom a k = ap (λ z. cond (nat_lt a 4096) z (cond (nat_le 0x8000 a && nat_lt a 0x8800) (slice_index rom (a - 0x8000)) 255)) (h.1 a k)

latch_clear : (p : Option Port) → latch_after p false ≡ false
latch_clear None = refl
latch_clear (Some (Receive n)) = refl
latch_clear (Some (Send n y)) = both (n == 4)
  where
    both : (t : Bool) → cond t false false ≡ false
    both true = refl
    both false = refl

-- the latch stays clear
pub latch_stays : (p : Option Port) (l : Bool) → l ≡ false → latch_after p l ≡ false
latch_stays p l e = ap (latch_after p) e ∙ latch_clear p

-- what an instruction writes lies below an address, where one is given
abbrev pub Below : Option ℕ → Option (ℕ × ℕ) → Type 0
Below (Some top) (Some w) = w.0 < top
Below _ _ = Unit {0}

-- ---- one move

-- it reads no flag, and doesn't switch the display
abbrev pub is_straight : Kind → ℕ → Bool
is_straight Out n = not (n == 1)
is_straight Inp n = not (n == 1)
is_straight B1 n = false
is_straight B2 n = false
is_straight B3 n = false
is_straight B4 n = false
is_straight Bn1 n = false
is_straight Bn2 n = false
is_straight Bn3 n = false
is_straight Bn4 n = false
is_straight _ n = true

straight_flags : (k : Kind) (n : ℕ) → is_straight k n ≡ true → reads_flags k ≡ false
straight_flags B1 n h = cc
straight_flags B2 n h = cc
straight_flags B3 n h = cc
straight_flags B4 n h = cc
straight_flags Bn1 n h = cc
straight_flags Bn2 n h = cc
straight_flags Bn3 n h = cc
straight_flags Bn4 n h = cc
straight_flags _ n h = refl

not_set : (t : Bool) → not t ≡ true → t ≡ false
not_set true h = cc
not_set false h = refl

other_port : (t u on : Bool) → t ≡ false → cond t u on ≡ on
other_port t u on e = rw e refl

straight_on : (k : Kind) (n : ℕ) (s : Regs) (i : Inputs) (on : Bool) → is_straight k n ≡ true → on_after (effect k n s i).port on ≡ on
straight_on Out n s i on h = other_port (n == 1) false on (not_set _ h)
straight_on Inp n s i on h = other_port (n == 1) true on (not_set _ h)
straight_on _ n s i on h = refl

module _ (x : Code) where
  -- what an instruction in the ROM reads
  abbrev pub rom_inputs : Machine → (ℕ → Bool) → Inputs
  rom_inputs b f =
      record {
        byte = read x.rom b.latch b.ram;
        next = rom_at x.rom (value (up (get b.regs.r b.regs.p)));
        after = rom_at x.rom (value (up (up (get b.regs.r b.regs.p))));
        flag = f;
        taken = 0;
      }

  abbrev pub opcode_in : Machine → ℕ
  opcode_in b = rom_at x.rom (value (get b.regs.r b.regs.p))

  -- a main move with these flags, where R(P) is in the ROM: it computes where R(P) is a literal
  abbrev pub quick_by : (ℕ → Bool) → Machine → Machine
  quick_by f b = acted (executed (opcode_in b) (stepped b.regs b.regs.p) (rom_inputs b f)) b

  abbrev pub quick : Machine → Machine
  quick b = quick_by (λ k. false) b

  abbrev pub quicks : ℕ → Machine → Machine
  quicks zero b = b
  quicks (suc k) b = quick (quicks k b)

  -- ticks may pass the next instruction
  abbrev pub Passable : Machine → Type 0
  Passable b =
      when (is_plain b.regs.p && in_rom (get b.regs.r b.regs.p)) (Passes x.low (kind_of (opcode_in b)) (opcode_number (opcode_in b)) (stepped b.regs b.regs.p))

  -- and it belongs to a straight piece of code, in which each instruction takes two machine cycles
  abbrev pub Fine : Machine → Type 0
  Fine b =
      when (is_straight (kind_of (opcode_in b)) (opcode_number (opcode_in b)) && cycles_of (opcode_in b) == 2) (Passable b)

  -- no dispatch and no stop
  abbrev pub Calm : Machine → Type 0
  Calm b = T (not (is_event x b))

  abbrev CalmAfter : ℕ → Machine → Type 0
  CalmAfter zero b = Unit {0}
  CalmAfter (suc k) b = Calm b

  abbrev quick_effect : Machine → Effect
  quick_effect b = executed (opcode_in b) (stepped b.regs b.regs.p) (rom_inputs b (λ k. false))

  -- Ticks may pass each of the next k instructions, there is no dispatch or stop between them, and what they write lies below `top`, where that
  -- is given.
  abbrev pub AllGood : Option ℕ → ℕ → Machine → Type 0
  AllGood top zero b = Unit {0}
  AllGood top (suc k) b = AllGood top k b × (Fine (quicks k b) × CalmAfter k (quicks k b)) × Below top (quick_effect (quicks k b)).write

rom_parts : (w : Word) → in_rom w ≡ true → (0x7fff < value w) × (value w < 0x87fe) × (w.lo < 256) × (w.hi < 0x88)
rom_parts w e =
    let p = and_parts (nat_lt 0x7f w.hi && nat_lt w.hi 0x88 && nat_lt w.lo 0x100 && nat_lt 0x7fff (value w)) (nat_lt (value w) 0x87fe) e in
    let q = and_parts (nat_lt 0x7f w.hi && nat_lt w.hi 0x88 && nat_lt w.lo 0x100) (nat_lt 0x7fff (value w)) p.0 in
    let r = and_parts (nat_lt 0x7f w.hi && nat_lt w.hi 0x88) (nat_lt w.lo 0x100) q.0 in
    let u = and_parts (nat_lt 0x7f w.hi) (nat_lt w.hi 0x88) r.0 in
    (ltb-true _ _ q.1, ltb-true _ _ p.1, ltb-true _ _ r.1, ltb-true _ _ u.1)

-- the flags of a main move
abbrev pub flags_in : Input → Machine → ℕ → Bool
flags_in u b = flags_of u.efx (u.held b.key)

steady_like : (low : ℕ) (s z : Regs) → z.r.r2 ≡ s.r.r2 → (a : ℕ) → Steady low z a → Steady low s a
steady_like low s z e a k l = subst (λ y. value y < a) e (k l)

same_like : (low : ℕ) (s z : Regs) → z.r.r2 ≡ s.r.r2 → (old new : List ℕ) → Same low s old new → Same low z old new
same_like low s z e old new h = (h.0, λ a k. h.1 a (steady_like low s z e a k))

module _ (x : Code) where
  pub quick_by_is : (u : Input) (b : Machine) → in_rom (get b.regs.r b.regs.p) ≡ true → quick_by x (flags_in u b) b ≡ moved x u b
  quick_by_is u b e = λ j. acted (executed (op j) (stepped s s.p) (record { byte = m; next = next j; after = after j; flag = flags_in u b; taken = 0 })) b
    where
      s : Regs
      s = b.regs

      m : ℕ → ℕ
      m = read x.rom b.latch b.ram

      w : Word
      w = get s.r s.p

      i : (0x7fff < value w) × (value w < 0x87fe) × (w.lo < 256) × (w.hi < 0x88)
      i = rom_parts w e

      op : rom_at x.rom (value w) ≡ m (value w)
      op = sym (read_rom x.rom b.latch b.ram (value w) (omega (arith, i)) (omega (arith, i)))

      pc : get (put s.r s.p (up w)) s.p ≡ up w
      pc = get_put s.p s.r (up w)

      next : rom_at x.rom (value (up w)) ≡ m (value (get (put s.r s.p (up w)) s.p))
      next = sym (read_rom x.rom b.latch b.ram (value (up w)) (omega (arith, i)) (omega (arith, i))) ∙ ap (λ z. m (value z)) (sym pc)

      after : rom_at x.rom (value (up (up w))) ≡ m (value (up (get (put s.r s.p (up w)) s.p)))
      after = sym (read_rom x.rom b.latch b.ram (value (up (up w))) (omega (arith, i)) (omega (arith, i))) ∙ ap (λ z. m (value (up z))) (sym pc)

  pub opcode_is : (b : Machine) → in_rom (get b.regs.r b.regs.p) ≡ true → opcode_in x b ≡ opcode_of x.rom b
  opcode_is b e =
      let i = rom_parts (get b.regs.r b.regs.p) e in
      sym (read_rom x.rom b.latch b.ram (value (get b.regs.r b.regs.p)) (omega (arith, i)) (omega (arith, i)))

  fine_kind : (b : Machine) → Fine x b → is_straight (kind_of (opcode_in x b)) (opcode_number (opcode_in x b)) ≡ true
  fine_kind b h = (and_parts _ _ (first_of _ _ h)).0

  plain_from : (b : Machine) → Passable x b → is_plain b.regs.p ≡ true
  plain_from b h = (and_parts _ _ (first_of _ _ h)).0

  rom_from : (b : Machine) → Passable x b → in_rom (get b.regs.r b.regs.p) ≡ true
  rom_from b h = (and_parts _ _ (first_of _ _ h)).1

  -- an instruction in the ROM that reads no flag, also where ticks may not pass it
  pub quick_any : (u : Input) (b : Machine) → reads_flags (kind_of (opcode_in x b)) ≡ false → in_rom (get b.regs.r b.regs.p) ≡ true → quick x b ≡ moved x u b
  quick_any u b h k =
      ap (λ e. acted e b) (sym (effect_flags (kind_of (opcode_in x b)) (opcode_number (opcode_in x b)) (stepped b.regs b.regs.p)
      (rom_inputs x b (λ k. false)) (flags_in u b) h)) ∙ quick_by_is u b k

  pub quick_is : (u : Input) (b : Machine) → Fine x b → quick x b ≡ moved x u b
  quick_is u b h = quick_any u b (straight_flags _ _ (fine_kind b h)) (rom_from b (second_of _ _ h))

  -- it takes two machine cycles
  pub fine_cycles : (b : Machine) → Fine x b → cycles_of (opcode_of x.rom b) ≡ 2
  fine_cycles b h = ap cycles_of (sym (opcode_is b (rom_from b (second_of _ _ h)))) ∙ eqb-true _ _ (and_parts _ _ (first_of _ _ h)).1

-- a main move of a state after n ticks gives the state after n ticks of what the move gives
module _ (x : Code) (u : Input) (n : ℕ) (v w : Word) (t : ℕ) (ram : List ℕ) (cycle : ℕ) (b : Machine) (h : Passable x b) (clear : b.latch ≡ false) (full : length b.ram ≡ 4096) (same : Same x.low b.regs b.ram ram) where
  c : Machine
  c = later n v w t ram cycle b

  s : Regs
  s = stepped b.regs b.regs.p

  op : ℕ
  op = opcode_in x b

  i : Inputs
  i = rom_inputs x b (flags_in u b)

  e : Effect
  e = executed op s i

  ok : is_plain b.regs.p ≡ true
  ok = (and_parts _ _ (first_of _ _ h)).0

  inside : in_rom (get b.regs.r b.regs.p) ≡ true
  inside = (and_parts _ _ (first_of _ _ h)).1

  may : Passes x.low (kind_of op) (opcode_number op) s
  unfolding op s
  may = second_of _ _ h

  r2 : s.r.r2 ≡ b.regs.r.r2
  unfolding s
  r2 = put-r2 b.regs.p b.regs.r _ ok

  same_s : Same x.low s b.ram ram
  same_s = same_like x.low b.regs s r2 b.ram ram same

  agree : (a : ℕ) → Steady x.low s a → read x.rom b.latch ram a ≡ read x.rom b.latch b.ram a
  agree a k = rw clear (read-same x.low s b.ram ram full same_s x.rom a k)

  pc : get c.regs.r c.regs.p ≡ get b.regs.r b.regs.p
  unfolding c
  pc = get-later b.regs.p n v w b.regs.r (kept_of_plain b.regs.p ok)

  fetched : stepped c.regs c.regs.p ≡ later_regs n v w t s
  unfolding c s
  fetched =
      ap₂ (λ z y. record b.regs { r = z; t = t; q = tones n y b.regs.q })
      (ap (λ z. put (later_bank n v w b.regs.r) b.regs.p (up z)) pc ∙ put-later b.regs.p n v w b.regs.r _ (kept_of_plain b.regs.p ok))
      (sym (put-r8 b.regs.p b.regs.r _ (kept_of_plain b.regs.p ok)))

  by_bytes : executed op (later_regs n v w t s) (record i { byte = read x.rom b.latch ram }) ≡ later_effect n v w t e
  unfolding e i
  by_bytes = passes x.low n v w t s i (opcode_number op) (read x.rom b.latch ram) agree (kind_of op) may

  whole : moved x u c ≡ later n v w t (ram_after e.write b.latch ram) cycle (quick_by x (flags_in u b) b)
  unfolding c s op i e
  whole = sym (quick_by_is x u c (ap in_rom pc ∙ inside))
      ∙ ap (λ z. acted (executed (rom_at x.rom (value z)) (stepped c.regs c.regs.p)
      (record {
        byte = read x.rom b.latch ram;
        next = rom_at x.rom (value (up z));
        after = rom_at x.rom (value (up (up z)));
        flag = flags_in u b;
        taken = 0;
      })) c) pc
      ∙ ap (λ z. acted (executed op z (record i { byte = read x.rom b.latch ram })) c) fetched
      ∙ ap (λ z. acted z c) by_bytes

  sames : Same x.low e.regs (ram_after e.write b.latch b.ram) (ram_after e.write b.latch ram)
  unfolding s op i e
  sames =
      subst (λ z. Same x.low e.regs (ram_after e.write z b.ram) (ram_after e.write z ram)) (sym clear) (
        length_after e.write false ram ∙ same.0 ∙ sym (length_after e.write false
            b.ram),
        λ a k. after-same x.low s b.ram ram full same_s e.write a (stack_of x.low s i (opcode_number op) a (kind_of op) may k),
      )

  after_later : After x.low n (quick_by x (flags_in u b) b) (moved x u (later n v w t ram cycle b))
  unfolding c s op i e
  after_later = subst (λ z. After x.low n (quick_by x (flags_in u b) b) z) (sym whole) (record { is = refl; size = sames.0; ram = sames.1 })

module _ (x : Code) where
  pub after_move : (u : Input) (n : ℕ) (b c : Machine) → Passable x b → b.latch ≡ false → length b.ram ≡ 4096 → After x.low n b c
      → After x.low n (quick_by x (flags_in u b) b) (moved x u c)
  after_move u n b c g l f h =
      subst (λ z. After x.low n (quick_by x (flags_in u b) b) (moved x u z)) (sym h.is)
      (after_later x u n c.regs.r.r0 c.regs.r.rf c.regs.t c.ram c.cycle b g l f (h.size, h.ram))

  -- the same for an instruction that reads no flag
  pub after_quick : (u : Input) (n : ℕ) (b c : Machine) → Fine x b → b.latch ≡ false → length b.ram ≡ 4096 → After x.low n b c
      → After x.low n (quick x b) (moved x u c)
  after_quick u n b c g l f h =
      subst (λ z. After x.low n z (moved x u c)) (quick_by_is x u b (rom_from x b (second_of _ _ g)) ∙ sym (quick_is x u b g))
      (after_move u n b c (second_of _ _ g) l f h)

module _ (x : Code) (n : ℕ) (b c : Machine) (g : Fine x b) (h : After x.low n b c) where
  pass : Passable x b
  pass = second_of (is_straight (kind_of (opcode_in x b)) (opcode_number (opcode_in x b)) && cycles_of (opcode_in x b) == 2) (Passable x b) g

  -- the program counter is the same after ticks
  pub after_counter : get c.regs.r c.regs.p ≡ get b.regs.r b.regs.p
  after_counter =
      ap (λ (z : Machine). get z.regs.r z.regs.p) h.is
      ∙ get-later b.regs.p n c.regs.r.r0 c.regs.r.rf b.regs.r (kept_of_plain b.regs.p (plain_from x b pass))

  inside_rom : in_rom (get c.regs.r c.regs.p) ≡ true
  inside_rom = ap in_rom after_counter ∙ rom_from x b pass

  -- and so is the opcode, so that it takes as many cycles
  pub after_cycles : cycles_of (opcode_of x.rom c) ≡ 2
  after_cycles =
      ap cycles_of (sym (opcode_is x c inside_rom) ∙ ap (λ w. rom_at x.rom (value w)) after_counter ∙ opcode_is x b (rom_from x b (second_of _ _ g)))
      ∙ fine_cycles x b g

-- ---- several moves

abbrev pub plus : ℕ → ℕ → ℕ
plus zero m = m
plus (suc k) m = suc (plus k m)

module _ (x : Code) where
  pub quicks_clear : (k : ℕ) (b : Machine) → b.latch ≡ false → (quicks x k b).latch ≡ false
  quicks_clear zero b e = e
  quicks_clear (suc k) b e = latch_stays (quick_effect x (quicks x k b)).port (quicks x k b).latch (quicks_clear k b e)

  pub quicks_full : (k : ℕ) (b : Machine) → length b.ram ≡ 4096 → length (quicks x k b).ram ≡ 4096
  quicks_full zero b e = e
  quicks_full (suc k) b e = length_after (quick_effect x (quicks x k b)).write (quicks x k b).latch (quicks x k b).ram ∙ quicks_full k b e

module _ (x : Code) (top : Option ℕ) where
  pub quicks_are : (k : ℕ) (b : Machine) → AllGood x top k b → quicks x k b ≡ run x k b
  quicks_are zero b g = refl
  quicks_are (suc k) b g = quick_is x nothing (quicks x k b) g.1.0 ∙ ap (moved x nothing) (quicks_are k b g.0)

  pub quicks_idle : (k : ℕ) (b : Machine) → AllGood x top k b → (quicks x k b).regs.idle ≡ b.regs.idle
  quicks_idle zero b g = refl
  quicks_idle (suc k) b g =
      idle_of x.low (kind_of (opcode_in x (quicks x k b))) (opcode_number (opcode_in x (quicks x k b)))
      (stepped (quicks x k b).regs (quicks x k b).regs.p) (rom_inputs x (quicks x k b) (λ k. false)) (second_of _ _ (second_of _ _ g.1.0))
      ∙ quicks_idle k b g.0

  pub quicks_enabled : (k : ℕ) (b : Machine) → AllGood x top k b → (quicks x k b).regs.ie ≡ b.regs.ie
  quicks_enabled zero b g = refl
  quicks_enabled (suc k) b g =
      enabled_of x.low (kind_of (opcode_in x (quicks x k b))) (opcode_number (opcode_in x (quicks x k b)))
      (stepped (quicks x k b).regs (quicks x k b).regs.p) (rom_inputs x (quicks x k b) (λ k. false)) (second_of _ _ (second_of _ _ g.1.0))
      ∙ quicks_enabled k b g.0

  quick_entry : (b : Machine) → Fine x b → (quick x b).regs.r.r1 ≡ b.regs.r.r1
  quick_entry b g =
      entry_of x.low (stepped b.regs b.regs.p) (rom_inputs x b (λ k. false)) (opcode_number (opcode_in x b)) (kind_of (opcode_in x b))
      (second_of _ _ (second_of _ _ g))
      ∙ put-r1 b.regs.p b.regs.r (up (get b.regs.r b.regs.p)) (kept_of_plain b.regs.p (plain_from x b (second_of _ _ g)))

  pub quicks_entry : (k : ℕ) (b : Machine) → AllGood x top k b → (quicks x k b).regs.r.r1 ≡ b.regs.r.r1
  quicks_entry zero b g = refl
  quicks_entry (suc k) b g = quick_entry (quicks x k b) g.1.0 ∙ quicks_entry k b g.0

  pub quicks_on : (k : ℕ) (b : Machine) → AllGood x top k b → (quicks x k b).on ≡ b.on
  quicks_on zero b g = refl
  quicks_on (suc k) b g =
      straight_on (kind_of (opcode_in x (quicks x k b))) (opcode_number (opcode_in x (quicks x k b)))
      (stepped (quicks x k b).regs (quicks x k b).regs.p) (rom_inputs x (quicks x k b) (λ k. false)) (quicks x k b).on
      (fine_kind x (quicks x k b) g.1.0) ∙ quicks_on k b g.0

  -- from b, main code comes to c in k moves that ticks may pass
  pub Reaches : ℕ → Machine → Machine → Type 0
  Reaches k b c = AllGood x top k b × (quicks x k b ≡ c)

  pub reaches_in : (k : ℕ) (b c : Machine) → AllGood x top k b → quicks x k b ≡ c → Reaches k b c
  unfolding Reaches
  reaches_in k b c g e = (g, e)

  pub reaches_run : (k : ℕ) (b c : Machine) → Reaches k b c → run x k b ≡ c
  unfolding Reaches
  reaches_run k b c f = sym (quicks_are k b f.0) ∙ f.1

  pub reaches_good : (k : ℕ) (b c : Machine) → Reaches k b c → AllGood x top k b
  unfolding Reaches
  reaches_good k b c f = f.0

  pub reaches_quicks : (k : ℕ) (b c : Machine) → Reaches k b c → quicks x k b ≡ c
  unfolding Reaches
  reaches_quicks k b c f = f.1

  pub reaches_from : (k : ℕ) (b b' c : Machine) → b ≡ b' → Reaches k b' c → Reaches k b c
  reaches_from k b b' c e f = subst (λ z. Reaches k z c) (sym e) f

-- what reaches a machine reaches it, wherever it writes
good_any : (x : Code) (top : Option ℕ) (k : ℕ) (b : Machine) → AllGood x top k b → AllGood x None k b
good_any x top zero b g = g
good_any x top (suc k) b g = (good_any x top k b g.0, g.1, anywhere (quick_effect x (quicks x k b)).write)
  where
    anywhere : (w : Option (ℕ × ℕ)) → Below None w
    anywhere None = tt
    anywhere (Some w) = tt

pub reaches_any : (x : Code) (top : Option ℕ) (k : ℕ) (b c : Machine) → Reaches x top k b c → Reaches x None k b c
unfolding Reaches
reaches_any x top k b c f = (good_any x top k b f.0, f.1)

-- ---- what they write

above_cond : (t : Bool) (ram ram' : List ℕ) (a : ℕ) → slice_index ram' a ≡ slice_index ram a → slice_index (cond t ram' ram) a ≡ slice_index ram a
above_cond true ram ram' a e = e
above_cond false ram ram' a e = refl

above_written : (latch : Bool) (ram : List ℕ) (j y a : ℕ) → j < a → slice_index (written latch ram j y) a ≡ slice_index ram a
unfolding written
above_written true ram j y a l = refl
above_written false ram j y a l = above_cond (nat_lt j 4096) ram (slice_set ram j y) a (get_or-set_other ram j a y 0 (λ e. omega (arith, e, l)))

-- code that writes below an address leaves RAM from there on
module _ (x : Code) (top : ℕ) where
  above_after : (w : Option (ℕ × ℕ)) (latch : Bool) (ram : List ℕ) (a : ℕ) → top ≤ a → Below (Some top) w
      → slice_index (ram_after w latch ram) a ≡ slice_index ram a
  above_after None latch ram a l h = refl
  above_after (Some w) latch ram a l h = above_written latch ram w.0 w.1 a (omega (arith, l, h))

  pub quicks_above : (k : ℕ) (b : Machine) → AllGood x (Some top) k b → (a : ℕ) → top ≤ a → slice_index (quicks x k b).ram a ≡ slice_index b.ram a
  quicks_above zero b g a l = refl
  quicks_above (suc k) b g a l = above_after (quick_effect x (quicks x k b)).write (quicks x k b).latch (quicks x k b).ram a l g.2 ∙ quicks_above k b g.0 a l
