-- 3XKK, 4XKK, 5XY0 and 9XY0, and the stop of 5XYN and 9XYN with another N.
use Rattle.std.proofs.Common.{◌≡◌, ℕ, zero, suc, ◌+◌, ◌*◌, ◌/◌, ◌%◌, ◌<◌, ◌⊎◌, inl, inr, refl, sym, ◌∙◌, ap, ap₂, arith, Bool, true, false, not, cond, bit_and, List, slice_index}
use Rattle.std.specs.Prelude.{◌==◌, bit_xor, Some}
use Rattle.std.proofs.lemmas.Bool.{cases_eq, eq-eqb, ne_eqb, agree_below_at}
use Rattle.std.proofs.lemmas.Nat.{and_mask}
use Rattle.machine.specs.Bank.{Word, word_of, value, up}
use Rattle.machine.specs.Board.{Machine}
use Rattle.machine.specs.Keys.{Keys}
use Rattle.machine.specs.Ranges.{FitsMachine}
use Rattle.chip8_lang.specs.declared.view.Edition.{Edition}
use Rattle.chip8_lang.specs.declared.view.Stop.TheVariants.{Unknown}
use Rattle.chip8_lang.specs.State.{variable, instr_at}
use Rattle.chip8_lang.specs.Step.{skip_if, stop_of, step}
use Rattle.chip8_lang.specs.Step.KeyInput.{Nothing}
use Rattle.chip8_lang.specs.Timed.{skip_cycles}
use Rattle.chip8_image.specs.declared.image.labels.TheConstants.{AT_SKIP_EQ, AT_SKIP_NE, AT_SKIP_SAME, AT_SKIP_SAME_TEST, AT_SKIP_DIFFER, AT_DIFFER_TEST, AT_SKIP, AT_UNKNOWN81, AT_HALT}
use Rattle.rom_law.proofs.Moves.{AllGood, quicks}
use Rattle.rom_law.specs.Program.{code}
use Rattle.rom_law.specs.Rows.{Since, now}
use Rattle.rom_law.proofs.Places.{pc_is, pc_set}
use Rattle.rom_law.proofs.Kept.{RunsBlock}
use Rattle.rom_rows.specs.Heads.{Within, to_stop, to_dispatch, high_byte, low_byte, Entered, Enters}
use Rattle.rom_rows.specs.FetchBlocks.FetchBlock.{Leave}
use Rattle.rom_rows.specs.ArithBlocks.{ArithBlock, no_skip_labels, has_shared_end, Ending, arith_data}
use Rattle.rom_rows.specs.ArithBlocks.ArithBlock.{SkipEq, SkipNe, SkipSame, SameTest, SkipDiffer, DifferTest, NoSkip, Skip, Unknown81}
use Rattle.rom_rows.specs.Table.{moves, calm_pieces, calm_top}
use Rattle.rom_rows.specs.Table.Block.{OfArith}
use Rattle.rom_rows.proofs.Bits.{same_xor, other_xor, nonzero, is_zero}
use Rattle.rom_rows.proofs.Branches.{branch, looked, looks}
use Rattle.rom_rows.proofs.Bytes.{memory_end_is, stack_top_is, page_fits}
use Rattle.rom_rows.proofs.Entry.{entered, is_inside}
use Rattle.rom_rows.proofs.Follows.{to_fetch, to_arith}
use Rattle.rom_rows.proofs.Straight.{routine}
use Rattle.rom_parts.specs.arith.Code.{arith_code}
use Rattle.rom_parts.proofs.Rom.{quick}
use Rattle.rom_parts.proofs.arith.Shared.{byte_x, byte_y, is_vx, is_vy, ending}

-- XOR tests whether two bytes are the same
xor_test : (a b : ℕ) → (bit_xor a b == 0) ≡ (b == a)
xor_test a b = go (cases_eq b a)
  where
    go : (b ≡ a) ⊎ (b ≡ a → ⊥) → (bit_xor a b == 0) ≡ (b == a)
    go (inl is) = same_xor a b (sym is) ∙ sym (eq-eqb b a is)
    go (inr d) = other_xor a b (λ is. d (sym is)) ∙ sym (ne_eqb b a d)

-- none of these labels is the stop
no_halt : (i : ℕ) → i < 4 → (value (word_of (slice_index no_skip_labels i)) == AT_HALT) ≡ false
no_halt i l = agree_below_at (λ k. value (word_of (slice_index no_skip_labels k)) == AT_HALT) (λ k. false) 4 i refl l

module _ (e : Edition) (b : Machine) (h : Since) (f : FitsMachine b) where
  abbrev high : ℕ
  high = high_byte (now h)

  abbrev low : ℕ
  low = low_byte (now h)

  -- behind a test of d with X = 6, at w
  abbrev tested : ℕ → Word → Machine
  tested d w =
      record (entered e 0 high low b) {
        regs = record (entered e 0 high low b).regs { d = d; x = 6; r = record (entered e 0 high low b).regs.r { r3 = w } };
      }

  goes : {a : ℕ} (d w : ℕ) → Entered (quick arith_code e) a b (now h) → Entered (quick arith_code e) w (tested d (word_of w)) (now h)
  goes d w o = record { holds = o.holds; inside = o.inside; p = refl; r3 = refl; r4 = refl; r6 = refl; r7 = refl; rc = refl }

  -- ---- 3XKK, 4XKK, 5XY0 and 9XY0

  -- the block l tests d, and skips where t
  skips : (l : ArithBlock) (i : ℕ) {a : ℕ} → Entered (quick arith_code e) a b (now h) → (d : ℕ) (t far : Bool) → t ≡ far
      → has_shared_end (instr_at (now h)) ≡ true → step e Nothing (now h) ≡ skip_if far (now h) → i < 4 → (n : ℕ) → h.spent + 2 * moves (OfArith l) + 2 ≡ n
      → to_dispatch (quick arith_code e) (now h) ≡ skip_cycles n far
      → AllGood (code (quick arith_code e)) (calm_top e) (moves (OfArith l)) (entered e a high low b)
      → quicks (code (quick arith_code e)) (moves (OfArith l)) (entered e a high low b)
      ≡ tested d (cond t (word_of AT_SKIP) (word_of (slice_index no_skip_labels i)))
      → RunsBlock (quick arith_code e) (calm_pieces (quick arith_code e)) (OfArith l) b h
  skips l i o d t far same shared makes small n spent time good is = branch (OfArith l) o (tested d) t AT_SKIP (slice_index no_skip_labels i) good is
      (λ k h' g. to_arith (quick arith_code e) g _ refl Skip (record { entered = goes d AT_SKIP o; shared = shared; makes = made k })
      (omega (arith, spent, g.spent, timed k)))
      (λ k h' g. to_arith (quick arith_code e) g _ (no_halt i small) (NoSkip i)
      (record { entered = goes d (slice_index no_skip_labels i) o; shared = shared; makes = made k }, small) (omega (arith, spent, g.spent, timed k)))
    where
      made : {u : Bool} → t ≡ u → step e Nothing (now h) ≡ skip_if u (now h)
      made k = makes ∙ ap (λ u. skip_if u (now h)) (sym same ∙ k)

      timed : {u : Bool} → t ≡ u → to_dispatch (quick arith_code e) (now h) ≡ skip_cycles n u
      timed k = time ∙ ap (skip_cycles n) (sym same ∙ k)

  -- XOR of KK and VX
  abbrev kk_x : ℕ
  kk_x = bit_xor low (byte_x e b (now h))

  kk_test : {a : ℕ} → Entered (quick arith_code e) a b (now h) → (kk_x == 0) ≡ (variable (now h) (high % 16) == low)
  kk_test o = xor_test low _ ∙ ap (λ v. v == low) (is_vx o)

  pub eq_comes : Enters (quick arith_code e) AT_SKIP_EQ 3 b (now h) → h.spent ≡ 80
      → RunsBlock (quick arith_code e) (calm_pieces (quick arith_code e)) (OfArith SkipEq) b h
  eq_comes o spent =
      skips SkipEq 0 o.entered kk_x _ _ (kk_test o.entered) (rw o.digit refl) (rw o.digit refl) (omega arith) 90 (omega (arith, spent)) (rw o.digit refl)
      (omega (arith, o.entered.holds.stack, stack_top_is e)) refl

  pub ne_comes : Enters (quick arith_code e) AT_SKIP_NE 4 b (now h) → h.spent ≡ 80
      → RunsBlock (quick arith_code e) (calm_pieces (quick arith_code e)) (OfArith SkipNe) b h
  ne_comes o spent =
      skips SkipNe 1 o.entered kk_x _ _ (ap not (kk_test o.entered)) (rw o.digit refl) (rw o.digit refl) (omega arith) 90
      (omega (arith, spent)) (rw o.digit refl)
      (omega (arith, o.entered.holds.stack, stack_top_is e)) refl

  -- XOR of VY and VX
  abbrev y_x : ℕ
  y_x = bit_xor (byte_y e b (now h)) (byte_x e b (now h))

  y_test : {a : ℕ} → Entered (quick arith_code e) a b (now h) → (y_x == 0) ≡ (variable (now h) (high % 16) == variable (now h) (low / 16))
  y_test o = xor_test _ _ ∙ ap₂ (λ v w. v == w) (is_vx o) (is_vy o f)

  pub same_comes : Enters (quick arith_code e) AT_SKIP_SAME_TEST 5 b (now h) → low % 16 ≡ 0 → h.spent ≡ 86
      → RunsBlock (quick arith_code e) (calm_pieces (quick arith_code e)) (OfArith SameTest) b h
  same_comes o n spent =
      skips SameTest 2 o.entered y_x _ _ (y_test o.entered) (rw (o.digit, n) refl) (rw (o.digit, n) refl) (omega arith) 96
      (omega (arith, spent)) (rw (o.digit, n) refl)
      (omega (arith, o.entered.holds.stack, stack_top_is e)) refl

  pub differ_comes : Enters (quick arith_code e) AT_DIFFER_TEST 9 b (now h) → low % 16 ≡ 0 → h.spent ≡ 86
      → RunsBlock (quick arith_code e) (calm_pieces (quick arith_code e)) (OfArith DifferTest) b h
  differ_comes o n spent =
      skips DifferTest 3 o.entered y_x _ _ (ap not (y_test o.entered)) (rw (o.digit, n) refl) (rw (o.digit, n) refl) (omega arith) 96
      (omega (arith, spent)) (rw (o.digit, n) refl) (omega (arith, o.entered.holds.stack, stack_top_is e)) refl

  -- ---- 5XYN and 9XYN: N is 0, or the opcode is unknown

  n_zero : not (bit_and low 15 == 0) ≡ false → low % 16 ≡ 0
  n_zero k = omega (arith, and_mask low 4, is_zero (bit_and low 15) k)

  n_other : not (bit_and low 15 == 0) ≡ true → low % 16 ≡ 0 → ⊥
  n_other k n = nonzero (bit_and low 15) k (and_mask low 4 ∙ n)

  -- the block l tests N, and where it is 0 goes on at the block m, at w
  n_test : (l m : ArithBlock) (w : ℕ) {a d : ℕ} → (o : Enters (quick arith_code e) a d b (now h)) → h.spent + 2 * moves (OfArith l) ≡ 86
      → ((low % 16 ≡ 0 → ⊥) → stop_of e (now h) ≡ Some Unknown) → ((low % 16 ≡ 0 → ⊥) → to_stop (quick arith_code e) (now h) ≡ 112)
      → ((h' : Since) → h'.spent ≡ 86
      → Within ((arith_data m).time (quick arith_code e) (now h)) h')
      → ((c : Machine) (sets : List Keys) → Enters (quick arith_code e) w d c (now h) × (low % 16 ≡ 0) → (arith_data m).at (quick arith_code e) c (now h) sets)
      → (value (word_of w) == AT_HALT) ≡ false
      → AllGood (code (quick arith_code e)) (calm_top e) (moves (OfArith l)) (entered e a high low b)
      → quicks (code (quick arith_code e)) (moves (OfArith l)) (entered e a high low b)
      ≡ looked e high low b (bit_and low 15) (cond (not (bit_and low 15 == 0)) (word_of AT_UNKNOWN81) (word_of w))
      → RunsBlock (quick arith_code e) (calm_pieces (quick arith_code e)) (OfArith l) b h
  n_test l m w o spent unknown outside time at calm good is =
      branch (OfArith l) o.entered (looked e high low b (bit_and low 15)) (not (bit_and low 15 == 0)) AT_UNKNOWN81 w good is
      (λ k h' g. to_arith (quick arith_code e) g _ refl Unknown81 (looks (bit_and low 15) AT_UNKNOWN81 o.entered, unknown (n_other k))
      (omega (arith, spent, g.spent, outside (n_other k))))
      (λ k h' g. to_arith (quick arith_code e) g _ calm m (at _ _ (record { entered = looks (bit_and low 15) w o.entered; digit = o.digit }, n_zero k))
      (time h' (omega (arith, spent, g.spent))))

  pub skip_same_comes : Enters (quick arith_code e) AT_SKIP_SAME 5 b (now h) → h.spent ≡ 80
      → RunsBlock (quick arith_code e) (calm_pieces (quick arith_code e)) (OfArith SkipSame) b h
  skip_same_comes o spent =
      n_test SkipSame SameTest AT_SKIP_SAME_TEST o (omega (arith, spent)) (λ d. rw (o.entered.inside, o.digit, ne_eqb (low % 16) 0 d) refl)
      (λ d. rw (o.entered.inside, o.digit, ne_eqb (low % 16) 0 d, o.digit) refl)
      (λ h' t. t) (λ c sets z. z) refl (omega arith) refl

  pub skip_differ_comes : Enters (quick arith_code e) AT_SKIP_DIFFER 9 b (now h) → h.spent ≡ 80
      → RunsBlock (quick arith_code e) (calm_pieces (quick arith_code e)) (OfArith SkipDiffer) b h
  skip_differ_comes o spent =
      n_test SkipDiffer DifferTest AT_DIFFER_TEST o (omega (arith, spent)) (λ d. rw (o.entered.inside, o.digit, ne_eqb (low % 16) 0 d) refl)
      (λ d. rw (o.entered.inside, o.digit, ne_eqb (low % 16) 0 d, o.digit) refl)
      (λ h' t. t) (λ c sets z. z) refl (omega arith) refl

  -- ---- the ends

  pub no_skip_comes : (i : ℕ) → Ending (quick arith_code e) (slice_index no_skip_labels i) (skip_if false (now h)) b (now h) → i < 4
      → h.spent + 2 ≡ to_dispatch (quick arith_code e) (now h) → RunsBlock (quick arith_code e) (calm_pieces (quick arith_code e)) (OfArith (NoSkip i)) b h
  no_skip_comes zero o l spent = ending (OfArith (NoSkip 0)) o spent _ (omega arith) refl o.entered.holds refl refl
  no_skip_comes (suc zero) o l spent = ending (OfArith (NoSkip 1)) o spent _ (omega arith) refl o.entered.holds refl refl
  no_skip_comes (suc (suc zero)) o l spent = ending (OfArith (NoSkip 2)) o spent _ (omega arith) refl o.entered.holds refl refl
  no_skip_comes (suc (suc (suc zero))) o l spent = ending (OfArith (NoSkip 3)) o spent _ (omega arith) refl o.entered.holds refl refl
  no_skip_comes (suc (suc (suc (suc i)))) o l spent = absurd (omega (arith, l))

  pub skip_comes : Ending (quick arith_code e) AT_SKIP (skip_if true (now h)) b (now h) → h.spent + 6 ≡ to_dispatch (quick arith_code e) (now h)
      → RunsBlock (quick arith_code e) (calm_pieces (quick arith_code e)) (OfArith Skip) b h
  skip_comes o spent = ending (OfArith Skip) o spent _ (omega arith) refl (pc_set o.entered.holds (up (up b.regs.r.r5)) ((now h).pc + 4) two_on) refl refl
    where
      two_on : value (up (up b.regs.r.r5)) ≡ (now h).pc + 4
      two_on = omega (arith, pc_is o.entered.holds, is_inside e (now h) o.entered.inside, memory_end_is e, page_fits e, f.regs.r.r5.hi, f.regs.r.r5.lo)

  pub unknown81_comes : Entered (quick arith_code e) AT_UNKNOWN81 b (now h) → stop_of e (now h) ≡ Some Unknown
      → h.spent + 26 ≡ to_stop (quick arith_code e) (now h)
      → RunsBlock (quick arith_code e) (calm_pieces (quick arith_code e)) (OfArith Unknown81) b h
  unknown81_comes o stop spent =
      routine (OfArith Unknown81) o _ (omega arith) refl
      (λ h' g. to_fetch (quick arith_code e) g _ refl (Leave 0)
      (record { holds = o.holds; p = refl; r3 = refl; stop = Unknown; fits = stop; number = refl }, omega arith) (omega (arith, spent, g.spent)))
