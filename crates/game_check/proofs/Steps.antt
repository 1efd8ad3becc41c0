-- A step of a state that a closed claim stands for.
use Rattle.std.proofs.Common.{◌≡◌, ℕ, ◌+◌, ◌-◌, ◌*◌, ◌<◌, ◌≤◌, ◌⊎◌, inl, inr, Bool, true, false, not, ◌&&◌, ◌||◌, leb, ltb, eqb, List, [], ◌∷◌, ◌++◌, length, take, slice_index, slice_index_or, slice_set, None, refl, sym, ap, ap₂, ◌∙◌, arith}
use Rattle.std.specs.List.{All, Any, list_all}
use Rattle.std.proofs.lemmas.Bool.{and_from, and_parts, false≢true, le-leb, leb-true, ltb-true, or_cases}
use Rattle.std.proofs.lemmas.List.Elements.{All-append, All-drop, All-set, All-take}
use Rattle.std.proofs.lemmas.List.Folds.{Any-from_list_any}
use Rattle.std.proofs.lemmas.List.Sums.{AllPass-from_list_all}
use lib.Bits.{and_le_l, and_lt, or_lt, xor_lt}
use Rattle.chip8_lang.specs.declared.instr.Instr.{Instr}
use Rattle.chip8_lang.specs.declared.instr.Instr.TheVariants.{Clear, Return, Machine, Jump, Call, SkipEq, SkipNe, SkipSame, Load, Add, Copy, Or, And, Xor, Sum, Sub, Right, SubN, Left, SkipDiffer, Index, JumpPlus, Random, Draw, SkipDown, SkipUp, GetDelay, WaitKey, SetDelay, SetSound, AddIndex, Font, Decimal, Store, Fetch, Unknown}
use Rattle.chip8_lang.specs.declared.view.Edition.{Edition}
use Rattle.chip8_lang.specs.Editions.{memory_start, memory_end, font_start, font_end}
use Rattle.chip8_lang.specs.State.{Lang, is_in_memory, memory_byte, variable}
use Rattle.chip8_lang.specs.Step.{KeyInput, chosen_key, digits, done_by, is_held, is_readable, random, skip_if, stop_of_instr, stored}
use Rattle.game_check.specs.declared.claim.Point.{Point}
use Rattle.game_check.specs.declared.claim.Claim.{Claim}
use Rattle.game_check.specs.Closed.{allows, goes_on, has_access, is_allowed, is_apart, is_claimed, is_writable, point, span, ways_of_skip}
use Rattle.game_check.specs.States.{HasBytes, IsByte, StandsFor}
use Rattle.game_check.proofs.Bytes.{byte_at, digit_bytes, flag_byte, loaded, read_bytes, stored_bytes, stored_elsewhere, take_most}
use Rattle.game_check.proofs.Ordered.{same_point}

or_right : (a b : Bool) → b ≡ true → (a || b) ≡ true
or_right true b h = refl
or_right false b h = h

-- m bytes from any I of a claim on lie between two addresses where all bytes that are meant do
within_span : (start end low high m i : ℕ) → (leb start low && leb (low + (high - low + m)) end) ≡ true → low ≤ i → i ≤ high
    → (leb start i && leb (i + m) end) ≡ true
within_span start end low high m i all above below =
    let parts = and_parts (leb start low) _ all in
    let from = leb-true start low parts.0 in
    let to = leb-true _ end parts.1 in
    and_from (leb start i) (leb (i + m) end) (le-leb start i (omega (arith, from, above))) (le-leb (i + m) end (omega (arith, to, above, below)))

-- the bytes of an opcode are the same in two states
pub record KeepsOpcode (s s' : Lang) (c : Claim) : Type 0 where
  pub high : memory_byte s' c.point.pc ≡ memory_byte s c.point.pc
  pub low : memory_byte s' (c.point.pc + 1) ≡ memory_byte s (c.point.pc + 1)

-- no stop fits the state, and some claim stands for the next one, which has the same bytes in the code
pub record Goes (e : Edition) (claims : List Claim) (i : Instr) (s s' : Lang) : Type 0 where
  pub runs : stop_of_instr e i s ≡ None
  pub stands : Any (λ c. StandsFor c s') claims
  pub bytes : HasBytes s'
  pub code : All (KeepsOpcode s s') claims

module _ (e : Edition) (claims : List Claim) (placed : All (λ c. memory_start ≤ c.point.pc) claims) where
  -- a claim that allows where I lies stands for the state
  claimed : (low high : ℕ) (p : Point) (s : Lang) → is_claimed claims low high p ≡ true → s.pc ≡ p.pc → s.stack ≡ p.stack.items → low ≤ s.i → s.i ≤ high
      → Any (λ c. StandsFor c s) claims
  claimed low high p s is pc stack above below =
      let found = Any-from_list_any (allows low high p) claims (and_parts (leb high 0xffff) _ is).1 in
      let parts = and_parts _ _ found.4 in
      let fits = and_parts (leb found.1.low low) _ parts.1 in
      let same = same_point found.1.point p parts.0 in
      let low_is = leb-true found.1.low low fits.0 in
      let high_is = leb-true high found.1.high fits.1 in (
        found.0,
        found.1,
        found.2,
        found.3,
        record {
          pc = pc ∙ sym same.0;
          stack = stack ∙ sym same.1;
          low = omega (arith, low_is, above);
          high = omega (arith, high_is, below);
        },
      )

  module _ (c : Claim) (s : Lang) (stands : StandsFor c s) (bytes : HasBytes s) where
    -- what an access needs
    readable : (m : ℕ) → is_readable e c.low (span c m) ≡ true → is_readable e s.i m ≡ true
    readable m fits = elim (or_cases (is_in_memory e c.low (span c m)) _ fits) [
      | inl memory ↦ rw (within_span memory_start (memory_end e) c.low c.high m s.i memory stands.low stands.high) refl
      | inr font ↦ or_right _ _ (within_span font_start font_end c.low c.high m s.i font stands.low stands.high)
    ]

    writable : (m : ℕ) → is_writable e claims c.low (span c m) ≡ true → is_in_memory e s.i m ≡ true
    writable m fits =
        within_span memory_start (memory_end e) c.low c.high m s.i (and_parts _ _ fits).0 stands.low stands.high

    -- bytes that are written leave the code
    untouched : (m : ℕ) (new : List ℕ) (s' : Lang) → is_writable e claims c.low (span c m) ≡ true → length new ≤ m
        → s'.memory ≡ stored s.memory (s.i - memory_start) new → All (KeepsOpcode s s') claims
    untouched m new s' fits most is k d within =
        let o = slice_index_or claims k d in
        let parts = and_parts (is_in_memory e c.low (span c m)) _ fits in
        let from = leb-true memory_start c.low (and_parts (leb memory_start c.low) _ parts.0).0 in
        let apart = AllPass-from_list_all (is_apart c.low (span c m)) claims parts.1 k d within in
        let own = placed k d within in
        let sides : (o.point.pc + 1 < c.low) ⊎ (c.low + span c m ≤ o.point.pc) = elim (or_cases (ltb (o.point.pc + 1) c.low) _ apart) [
          | inl before ↦ inl (ltb-true (o.point.pc + 1) c.low before)
          | inr behind ↦ inr (leb-true (c.low + span c m) o.point.pc behind)
        ] in
        record {
          high =
              ap (λ l. slice_index l (o.point.pc - memory_start)) is ∙ stored_elsewhere new s.memory (s.i - memory_start) (o.point.pc - memory_start)
              (elim sides [
                | inl before ↦ inl (omega (arith, before, from, own, stands.low))
                | inr behind ↦ inr (omega (arith, behind, from, own, stands.low, stands.high, most))
              ]);
          low =
              ap (λ l. slice_index l (o.point.pc + 1 - memory_start)) is ∙ stored_elsewhere new s.memory (s.i - memory_start) (o.point.pc + 1 - memory_start)
              (elim sides [
                | inl before ↦ inl (omega (arith, before, from, own, stands.low))
                | inr behind ↦ inr (omega (arith, behind, from, own, stands.low, stands.high, most))
              ]);
        }

    -- game memory as it is
    kept : (s' : Lang) → s'.memory ≡ s.memory → All (KeepsOpcode s s') claims
    kept s' same k d within = record {
      high = ap (λ l. slice_index l ((slice_index_or claims k d).point.pc - memory_start)) same;
      low = ap (λ l. slice_index l ((slice_index_or claims k d).point.pc + 1 - memory_start)) same;
    }

    -- the bytes where the variables alone change
    with_variables : (s' : Lang) → All IsByte s'.v → s'.memory ≡ s.memory → s'.dt ≡ s.dt → HasBytes s'
    with_variables s' variables memory delay = record { variables = variables; memory = rw memory bytes.memory; delay = rw delay bytes.delay }

    -- ---- the kinds of steps

    abbrev Claimed : ℕ → ℕ → Point → Type 0
    Claimed low high p = is_claimed claims low high p ≡ true

    only : (low high : ℕ) (p : Point) → list_all (is_claimed claims low high) (p ∷ []) ≡ true → Claimed low high p
    only low high p all = (and_parts _ true all).0

    -- the next instruction, and I is where it was
    onward : (i : Instr) (s' : Lang) → list_all (is_claimed claims c.low c.high) (point (c.point.pc + 2) c.point.stack.items ∷ []) ≡ true
        → s'.pc ≡ s.pc + 2 → s'.stack ≡ s.stack → s'.i ≡ s.i → s'.memory ≡ s.memory → stop_of_instr e i s ≡ None → HasBytes s' → Goes e claims i s s'
    onward i s' ok pc stack index memory runs next_bytes = record {
      runs = runs;
      stands = claimed c.low c.high (point (c.point.pc + 2) c.point.stack.items) s' (only _ _ _ ok) (pc ∙ ap (λ a. a + 2) stands.pc) (stack ∙ stands.stack)
          (rw index stands.low) (rw index stands.high);
      bytes = next_bytes;
      code = kept s' memory;
    }

    abbrev Onward : Type 0
    Onward = list_all (is_claimed claims c.low c.high) (point (c.point.pc + 2) c.point.stack.items ∷ []) ≡ true

    -- a variable gets a byte, and VF may get one after it
    sets : (i : Instr) (x value : ℕ) (s' : Lang) → Onward → IsByte value → s'.v ≡ slice_set s.v x value
        → s'.pc ≡ s.pc + 2 → s'.stack ≡ s.stack → s'.i ≡ s.i → s'.memory ≡ s.memory → s'.dt ≡ s.dt → stop_of_instr e i s ≡ None → Goes e claims i s s'
    sets i x value s' ok byte v pc stack index memory delay runs =
        onward i s' ok pc stack index memory runs (with_variables s' (rw v (All-set IsByte s.v x value byte bytes.variables)) memory delay)

    sets_both : (i : Instr) (x value bit : ℕ) (s' : Lang) → Onward → IsByte value → IsByte bit → s'.v ≡ slice_set (slice_set s.v x value) 15 bit
        → s'.pc ≡ s.pc + 2 → s'.stack ≡ s.stack → s'.i ≡ s.i → s'.memory ≡ s.memory → s'.dt ≡ s.dt → stop_of_instr e i s ≡ None → Goes e claims i s s'
    sets_both i x value bit s' ok byte bit_byte v pc stack index memory delay runs =
        onward i s' ok pc stack index memory runs
        (with_variables s' (rw v (All-set IsByte (slice_set s.v x value) 15 bit bit_byte (All-set IsByte s.v x value byte bytes.variables))) memory delay)

    -- pc and stack alone change
    jumps : (i : Instr) (p : Point) (s' : Lang) → list_all (is_claimed claims c.low c.high) (p ∷ []) ≡ true
        → s'.pc ≡ p.pc → s'.stack ≡ p.stack.items → s'.i ≡ s.i → s'.v ≡ s.v → s'.memory ≡ s.memory → s'.dt ≡ s.dt → stop_of_instr e i s ≡ None
        → Goes e claims i s s'
    jumps i p s' ok pc stack index v memory delay runs = record {
      runs = runs;
      stands = claimed c.low c.high p s' (only _ _ _ ok) pc stack (rw index stands.low) (rw index stands.high);
      bytes = with_variables s' (rw v bytes.variables) memory delay;
      code = kept s' memory;
    }

    -- both ways of a skip
    skips : (i : Instr) (b : Bool) → list_all (is_claimed claims c.low c.high) (ways_of_skip c.point) ≡ true → stop_of_instr e i s ≡ None
        → Goes e claims i s (skip_if b s)
    skips i true ok runs =
        jumps i (point (c.point.pc + 4) c.point.stack.items) (skip_if true s) (and_parts _ _ ok).1 (ap (λ a. a + 4) stands.pc) stands.stack refl refl refl refl
        runs
    skips i false ok runs =
        jumps i (point (c.point.pc + 2) c.point.stack.items) (skip_if false s) (and_from _ true (and_parts _ _ ok).0 refl) (ap (λ a. a + 2) stands.pc)
        stands.stack refl refl refl refl runs

    -- I gets another place
    moves : (i : Instr) (low high : ℕ) (s' : Lang) → list_all (is_claimed claims low high) (point (c.point.pc + 2) c.point.stack.items ∷ []) ≡ true
        → s'.pc ≡ s.pc + 2 → s'.stack ≡ s.stack → low ≤ s'.i → s'.i ≤ high → HasBytes s' → All (KeepsOpcode s s') claims → stop_of_instr e i s ≡ None
        → Goes e claims i s s'
    moves i low high s' ok pc stack above below next_bytes code runs = record {
      runs = runs;
      stands =
          claimed low high (point (c.point.pc + 2) c.point.stack.items) s' (only _ _ _ ok) (pc ∙ ap (λ a. a + 2) stands.pc) (stack ∙ stands.stack) above below;
      bytes = next_bytes;
      code = code;
    }

    var : (x : ℕ) → IsByte (variable s x)
    var x = byte_at s.v x bytes.variables

    -- ---- each instruction: FX0A takes a byte, and what 6XKK loads is one

    pub goes : (i : Instr) (key : KeyInput) → ((x : ℕ) → i ≡ WaitKey x → IsByte (chosen_key key)) → IsByte (loaded i)
        → is_allowed i c.point.stack.items ≡ true → has_access e claims i c ≡ true → goes_on claims i c ≡ true → Goes e claims i s (done_by e i key s)
    goes Clear key taken operand fine access ok = onward Clear _ ok refl refl refl refl refl (with_variables _ bytes.variables refl refl)
    goes Return key taken operand fine access ok =
        jumps Return _ _ ok (ap (λ l. slice_index l (length l - 1)) stands.stack) (ap (λ l. take (length l - 1) l) stands.stack) refl refl refl refl
        (rw (stands.stack, fine) refl)
    goes (Machine m) key taken operand fine access ok = absurd (false≢true fine)
    goes (Jump m) key taken operand fine access ok = jumps (Jump m) _ _ ok refl stands.stack refl refl refl refl refl
    goes (Call m) key taken operand fine access ok =
        jumps (Call m) _ _ ok refl (ap₂ (λ l n. l ++ (n + 2) ∷ []) stands.stack stands.pc) refl refl refl refl (rw (stands.stack, fine) refl)
    goes (SkipEq x k) key taken operand fine access ok = skips (SkipEq x k) (eqb (variable s x) k) ok refl
    goes (SkipNe x k) key taken operand fine access ok = skips (SkipNe x k) (not (eqb (variable s x) k)) ok refl
    goes (SkipSame x y) key taken operand fine access ok = skips (SkipSame x y) (eqb (variable s x) (variable s y)) ok refl
    goes (Load x k) key taken operand fine access ok = sets (Load x k) x k _ ok operand refl refl refl refl refl refl refl
    goes (Add x k) key taken operand fine access ok = sets (Add x k) x _ _ ok (omega arith) refl refl refl refl refl refl refl
    goes (Copy x y) key taken operand fine access ok = sets (Copy x y) x _ _ ok (var y) refl refl refl refl refl refl refl
    goes (Or x y) key taken operand fine access ok =
        sets_both (Or x y) x _ 0 _ ok (or_lt 8 (variable s x) (variable s y) (var x) (var y)) (omega arith) refl refl refl refl refl refl refl
    goes (And x y) key taken operand fine access ok =
        sets_both (And x y) x _ 0 _ ok (and_lt 8 (variable s x) (variable s y) (var x) (var y)) (omega arith) refl refl refl refl refl refl refl
    goes (Xor x y) key taken operand fine access ok =
        sets_both (Xor x y) x _ 0 _ ok (xor_lt 8 (variable s x) (variable s y) (var x) (var y)) (omega arith) refl refl refl refl refl refl refl
    goes (Sum x y) key taken operand fine access ok =
        sets_both (Sum x y) x _ _ _ ok (omega arith) (omega (arith, var x, var y)) refl refl refl refl refl refl refl
    goes (Sub x y) key taken operand fine access ok =
        sets_both (Sub x y) x _ _ _ ok (omega arith) (omega (arith, var x, var y)) refl refl refl refl refl refl refl
    goes (Right x y) key taken operand fine access ok =
        sets_both (Right x y) x _ _ _ ok (omega (arith, var y)) (omega arith) refl refl refl refl refl refl refl
    goes (SubN x y) key taken operand fine access ok =
        sets_both (SubN x y) x _ _ _ ok (omega arith) (omega (arith, var x, var y)) refl refl refl refl refl refl refl
    goes (Left x y) key taken operand fine access ok =
        sets_both (Left x y) x _ _ _ ok (omega arith) (omega (arith, var y)) refl refl refl refl refl refl refl
    goes (SkipDiffer x y) key taken operand fine access ok = skips (SkipDiffer x y) (not (eqb (variable s x) (variable s y))) ok refl
    goes (Index m) key taken operand fine access ok =
        moves (Index m) m m _ ok refl refl (omega arith) (omega arith) (with_variables _ bytes.variables refl refl) (kept _ refl) refl
    goes (JumpPlus m) key taken operand fine access ok = absurd (false≢true fine)
    goes (Random x k) key taken operand fine access ok = sets (Random x k) x _ _ ok (omega (arith, and_le_l (random s) k)) refl refl refl refl refl refl refl
    goes (Draw x y n) key taken operand fine access ok =
        sets (Draw x y n) 15 _ _ ok (flag_byte _) refl refl refl refl refl refl runs
      where
        runs : stop_of_instr e (Draw x y n) s ≡ None
        runs = elim (or_cases (eqb n 0) _ access) [
          | inl none ↦ rw none refl
          | inr some ↦ rw (or_right (eqb n 0) (is_readable e s.i n) (readable n some)) refl
        ]
    goes (SkipDown x) key taken operand fine access ok = skips (SkipDown x) (is_held key) ok refl
    goes (SkipUp x) key taken operand fine access ok = skips (SkipUp x) (not (is_held key)) ok refl
    goes (GetDelay x) key taken operand fine access ok = sets (GetDelay x) x _ _ ok bytes.delay refl refl refl refl refl refl refl
    goes (WaitKey x) key taken operand fine access ok = sets (WaitKey x) x (chosen_key key) _ ok (taken x refl) refl refl refl refl refl refl refl
    goes (SetDelay x) key taken operand fine access ok =
        onward (SetDelay x) _ ok refl refl refl refl refl (record { variables = bytes.variables; memory = bytes.memory; delay = var x })
    goes (SetSound x) key taken operand fine access ok = onward (SetSound x) _ ok refl refl refl refl refl (with_variables _ bytes.variables refl refl)
    goes (AddIndex x) key taken operand fine access ok =
        let top = leb-true (c.high + 255) 0xffff (and_parts _ _ (only _ _ _ ok)).0 in
        moves (AddIndex x) c.low (c.high + 255) _ ok refl refl (omega (arith, top, var x, stands.low, stands.high)) (omega (arith, top, var x, stands.high))
        (with_variables _ bytes.variables refl refl) (kept _ refl) refl
    goes (Font x) key taken operand fine access ok =
        moves (Font x) font_start (font_start + 5 * 15) _ ok refl refl (omega arith) (omega arith) (with_variables _ bytes.variables refl refl) (kept _ refl)
        refl
    goes (Decimal x) key taken operand fine access ok =
        moves (Decimal x) c.low c.high _ ok refl refl stands.low stands.high
        (record {
          variables = bytes.variables;
          memory = stored_bytes (digits (variable s x)) s.memory (s.i - memory_start) (digit_bytes (variable s x) (var x)) bytes.memory;
          delay = bytes.delay;
        })
        (untouched 3 (digits (variable s x)) _ access (omega arith) refl) (rw (writable 3 access) refl)
    goes (Store x) key taken operand fine access ok =
        moves (Store x) (c.low + x + 1) (c.high + x + 1) _ ok refl refl (omega (arith, stands.low)) (omega (arith, stands.high))
        (record {
          variables = bytes.variables;
          memory = stored_bytes (take (x + 1) s.v) s.memory (s.i - memory_start) (All-take IsByte (x + 1) s.v bytes.variables) bytes.memory;
          delay = bytes.delay;
        })
        (untouched (x + 1) (take (x + 1) s.v) _ access (take_most (x + 1) s.v) refl) (rw (writable (x + 1) access) refl)
    goes (Fetch x) key taken operand fine access ok =
        moves (Fetch x) (c.low + x + 1) (c.high + x + 1) _ ok refl refl (omega (arith, stands.low)) (omega (arith, stands.high))
        (with_variables _ (All-append IsByte _ _ (read_bytes s (x + 1) s.i bytes.memory) (All-drop IsByte (x + 1) s.v bytes.variables)) refl refl)
        (kept _ refl) (rw (readable (x + 1) access) refl)
    goes (Unknown opcode) key taken operand fine access ok = absurd (false≢true fine)
