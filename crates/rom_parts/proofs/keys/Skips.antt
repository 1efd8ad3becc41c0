-- EX9E and EXA1.
use Rattle.std.proofs.Common.{◌≡◌, ℕ, ◌+◌, ◌%◌, refl, sym, ◌∙◌, ap, subst, arith, Bool, true, false, not, [], ◌∷◌, ◌++◌}
use Rattle.std.specs.Prelude.{◌==◌, bit_xor, Some, None}
use Rattle.std.proofs.lemmas.Bool.{eqb-true, ne_eqb}
use Rattle.machine.specs.Bank.{Word, word, word_of, value, up}
use Rattle.machine.specs.Memory.{read}
use Rattle.machine.specs.Board.{Machine}
use Rattle.machine.specs.Ranges.{FitsMachine}
use Rattle.chip8_lang.specs.declared.instr.Instr.{Instr}
use Rattle.chip8_lang.specs.declared.instr.Instr.TheVariants.{SkipDown, SkipUp}
use Rattle.chip8_lang.specs.declared.view.Edition.{Edition}
use Rattle.chip8_lang.specs.declared.view.Stop.TheVariants.{Unknown}
use Rattle.chip8_lang.specs.State.{variable, instr_at}
use Rattle.chip8_lang.specs.Step.{stop_of}
use Rattle.chip8_lang.specs.Step.KeyInput.{Held}
use Rattle.chip8_lang.specs.Between.{SomeTime}
use Rattle.chip8_image.specs.declared.image.labels.TheConstants.{AT_KEY_SKIP, AT_KEY_SKIP_UP, AT_SKIP_UP, AT_SKIP_DOWN, AT_UNKNOWN82, AT_KEY_YES}
use Rattle.rom_law.specs.Code.{Input}
use Rattle.rom_law.specs.Moments.{Sees}
use Rattle.rom_law.specs.Rows.{Since, Grows, now}
use Rattle.rom_law.proofs.Places.{v_get, pc_is, pc_set}
use Rattle.rom_law.proofs.Steps.{now_same}
use Rattle.rom_law.proofs.Kept.{RunsBlock, RunsPlace}
use Rattle.rom_rows.specs.Heads.{to_stop, high_byte, low_byte, page_of, Entered, Enters}
use Rattle.rom_rows.specs.ArithBlocks.ArithBlock.{Unknown82}
use Rattle.rom_rows.specs.KeyBlocks.{skip_code, skip_key, skip_label, skip_test_label, no_skip_label, skip_time, Skipping}
use Rattle.rom_rows.specs.KeyBlocks.KeyBlock.{KeySkip, KeySkipUp, SkipLatch, NoSkip, Skip}
use Rattle.rom_rows.specs.KeyBlocks.KeyPlace.{SkipTest}
use Rattle.rom_rows.specs.Table.{At, calm_pieces}
use Rattle.rom_rows.specs.Table.Block.{OfKey}
use Rattle.rom_rows.specs.Table.Place.{AtKey}
use Rattle.rom_rows.proofs.Alone.{alone_forks, one_more, sees_now}
use Rattle.rom_rows.proofs.Bits.{same_xor, xor_same, xor_other, nonzero, is_zero}
use Rattle.rom_rows.proofs.Branches.{branch, looked, looks}
use Rattle.rom_rows.proofs.Bytes.{page_fits, memory_end_is, stack_top_is, variables_is}
use Rattle.rom_rows.proofs.Entry.{entered, is_entered, on_3, is_on_3, is_inside}
use Rattle.rom_rows.proofs.Follows.{to_arith, to_key, to_key_place}
use Rattle.rom_rows.proofs.Later.{ticks_variable}
use Rattle.rom_rows.proofs.Steps.{sees_grown, some_is, makes_calm, steps_with}
use Rattle.rom_rows.proofs.Ways.{straight}
use Rattle.rom_parts.specs.keys.Code.{keys_code}
use Rattle.rom_parts.proofs.Rom.{both, quick}
use Rattle.rom_parts.proofs.keys.Sets.{some_grown, some_last, last_set}

module _ (e : Edition) (b : Machine) (h : Since) (f : FitsMachine b) where
  abbrev high : ℕ
  high = high_byte (now h)

  abbrev low : ℕ
  low = low_byte (now h)

  -- the machine in a routine where X is 6
  abbrev pointing : ℕ → Machine
  pointing a = record (entered e a high low b) { regs = record (entered e a high low b).regs { x = 6 } }

  is_pointing : {a : ℕ} → Entered (quick keys_code e) a b (now h) → b.regs.x ≡ 6 → b ≡ pointing a
  is_pointing {a = a} o x = is_entered o ∙ (λ i. record (entered e a high low b) { regs = record (entered e a high low b).regs { x = x i } })

  -- ---- which of the two

  -- behind a test of KK
  abbrev tested : ℕ → ℕ → Word → Machine
  tested x d w = record (looked e high low b d w) { regs = record (looked e high low b d w).regs { x = x } }

  goes : {a d : ℕ} (x y w : ℕ) → Enters (quick keys_code e) a d b (now h) → Enters (quick keys_code e) w d (tested x y (word_of w)) (now h)
  goes x y w o =
      record {
        entered = record {
          holds = o.entered.holds;
          inside = o.entered.inside;
          p = refl;
          r3 = refl;
          r4 = refl;
          r6 = refl;
          r7 = refl;
          rc = refl;
        };
        digit = o.digit;
      }

  pub key_skip_comes : Enters (quick keys_code e) AT_KEY_SKIP 14 b (now h) → h.spent ≡ 80
      → RunsBlock (quick keys_code e) (calm_pieces (quick keys_code e)) (OfKey KeySkip) b h
  key_skip_comes o spent = branch (OfKey KeySkip) o.entered (tested 6 (bit_xor low 0x9e)) (bit_xor low 0x9e == 0) AT_SKIP_DOWN AT_KEY_SKIP_UP (omega arith) refl
      (λ k h' g. to_key (quick keys_code e) g _ refl (SkipLatch true) (goes 6 (bit_xor low 0x9e) AT_SKIP_DOWN o, refl, xor_same low 0x9e k)
      (omega (arith, spent, g.spent)))
      (λ k h' g. to_key (quick keys_code e) g _ refl KeySkipUp (goes 6 (bit_xor low 0x9e) AT_KEY_SKIP_UP o, refl, xor_other low 0x9e k)
      (omega (arith, spent, g.spent)))

  unknown_stop : {a : ℕ} → Enters (quick keys_code e) a 14 b (now h) → (low ≡ 0x9e → ⊥) → (low ≡ 0xa1 → ⊥) → stop_of e (now h) ≡ Some Unknown
  unknown_stop o down up = rw (o.entered.inside, o.digit, ne_eqb low 0x9e down, ne_eqb low 0xa1 up) refl

  unknown_time : {a : ℕ} → Enters (quick keys_code e) a 14 b (now h) → (low ≡ 0x9e → ⊥) → (low ≡ 0xa1 → ⊥) → to_stop (quick keys_code e) (now h) ≡ 120
  unknown_time o down up = rw (o.entered.inside, o.digit, ne_eqb low 0x9e down, ne_eqb low 0xa1 up, o.digit) refl

  pub key_skip_up_comes : Enters (quick keys_code e) AT_KEY_SKIP_UP 14 b (now h) → b.regs.x ≡ 6 → (low ≡ 0x9e → ⊥) → h.spent ≡ 88
      → RunsBlock (quick keys_code e) (calm_pieces (quick keys_code e)) (OfKey KeySkipUp) b h
  key_skip_up_comes o x down spent =
      branch (OfKey KeySkipUp) o.entered (looked e high low b (bit_xor low 0xa1)) (not (bit_xor low 0xa1 == 0)) AT_UNKNOWN82 AT_SKIP_UP
      (omega arith) refl
      (λ k h' g. to_arith (quick keys_code e) g _ refl Unknown82
      (looks (bit_xor low 0xa1) AT_UNKNOWN82 o.entered, unknown_stop o down (other k))
      (omega (arith, spent, g.spent, unknown_time o down (other k))))
      (λ k h' g. to_key (quick keys_code e) g _ refl (SkipLatch false)
      (record { entered = looks (bit_xor low 0xa1) AT_SKIP_UP o.entered; digit = o.digit }, x, xor_same low 0xa1 (rw (is_zero _ k) refl))
      (omega (arith, spent, g.spent)))
    where
      other : not (bit_xor low 0xa1 == 0) ≡ true → low ≡ 0xa1 → ⊥
      other k same = nonzero _ k (eqb-true _ 0 (same_xor low 0xa1 same))

  -- ---- the key is latched

  latched_is : {a : ℕ} → Entered (quick keys_code e) a b (now h)
      → read (both keys_code e) b.latch b.ram (value (word (page_of e) (240 + high % 16))) % 16 ≡ skip_key (now h)
  latched_is o = ap (λ y. y % 16) (v_get o.holds (value (word (page_of e) (240 + high % 16))) (high % 16) (omega (arith, variables_is e)) (omega arith))

  pub skip_latch_comes : (down : Bool) → Enters (quick keys_code e) (skip_label down) 14 b (now h) → b.regs.x ≡ 6 → low ≡ skip_code down
      → h.spent ≡ skip_time down → RunsBlock (quick keys_code e) (calm_pieces (quick keys_code e)) (OfKey (SkipLatch down)) b h
  skip_latch_comes true o x kk spent =
      straight (OfKey (SkipLatch true)) o.entered.holds (pointing AT_SKIP_DOWN) (is_pointing o.entered x) _
      (omega (arith, o.entered.holds.stack, stack_top_is e, page_fits e)) refl
      (λ h' g. to_key_place (quick keys_code e) g _ refl (SkipTest true) (
        record {
          holds = o.entered.holds;
          inside = o.entered.inside;
          p = refl;
          r3 = refl;
          r4 = refl;
          digit = o.digit;
          low = kk;
        },
        latched_is o.entered,
      ) (omega (arith, spent, g.spent)))
  skip_latch_comes false o x kk spent =
      straight (OfKey (SkipLatch false)) o.entered.holds (pointing AT_SKIP_UP) (is_pointing o.entered x) _
      (omega (arith, o.entered.holds.stack, stack_top_is e, page_fits e)) refl
      (λ h' g. to_key_place (quick keys_code e) g _ refl (SkipTest false) (
        record {
          holds = o.entered.holds;
          inside = o.entered.inside;
          p = refl;
          r3 = refl;
          r4 = refl;
          digit = o.digit;
          low = kk;
        },
        latched_is o.entered,
      ) (omega (arith, spent, g.spent)))

  -- ---- the key is tested

  -- at w
  abbrev gone : Word → Machine
  gone w = record b { regs = record b.regs { p = 3; r = record b.regs.r { r3 = w } } }

  -- what the test found
  found : (u : Input) (t : Bool) → b.key ≡ skip_key (now h) → u.held b.key ≡ t → SomeTime (h.keys ++ u.held ∷ []) (skip_key (now h)) t
  found u t key is = some_last (last_set h.keys u.held (skip_key (now h)) t (ap u.held (sym key) ∙ is))

  skips_on : {down : Bool} {a : ℕ} (w : ℕ) → Skipping (quick keys_code e) down a b (now h) → Skipping (quick keys_code e) down w (gone (word_of w)) (now h)
  skips_on w o = record { holds = o.holds; inside = o.inside; p = refl; r3 = refl; r4 = o.r4; digit = o.digit; low = o.low }

  opposite : (t u : Bool) → not t ≡ u → t ≡ not u
  opposite true u k = ap not k
  opposite false u k = ap not k

  pub skip_test_holds : (down : Bool) → Skipping (quick keys_code e) down (skip_test_label down) b (now h) → b.key ≡ skip_key (now h)
      → At (quick keys_code e) (AtKey (SkipTest down)) b h → h.spent ≡ skip_time down + 2
      → RunsPlace (quick keys_code e) (calm_pieces (quick keys_code e)) (AtKey (SkipTest down)) b h
  skip_test_holds true o key at spent =
      alone_forks (AtKey (SkipTest true)) f at o.holds (on_3 (skip_test_label true) b) (is_on_3 (skip_test_label true) b o.p o.r3) refl refl gone
      (λ u. u.held b.key) AT_KEY_YES (no_skip_label true) (λ u. refl)
      (λ u k. to_key (quick keys_code e) (one_more u h) _ refl (Skip true) (skips_on AT_KEY_YES o, found u true key k)
      (omega (arith, spent), sees_now u h 90 (skip_key (now h)) true spent (ap u.held (sym key) ∙ k)))
      (λ u k. to_key (quick keys_code e) (one_more u h) _ refl (NoSkip true) (skips_on (no_skip_label true) o, found u false key k)
      (omega (arith, spent), sees_now u h 90 (skip_key (now h)) false spent (ap u.held (sym key) ∙ k)))
  skip_test_holds false o key at spent =
      alone_forks (AtKey (SkipTest false)) f at o.holds (on_3 (skip_test_label false) b) (is_on_3 (skip_test_label false) b o.p o.r3) refl refl gone
      (λ u. not (u.held b.key)) AT_KEY_YES (no_skip_label false) (λ u. refl)
      (λ u k. to_key (quick keys_code e) (one_more u h) _ refl (Skip false) (skips_on AT_KEY_YES o, found u false key (opposite (u.held b.key) true k))
      (omega (arith, spent), sees_now u h 96 (skip_key (now h)) false spent (ap u.held (sym key) ∙ opposite (u.held b.key) true k)))
      (λ u k. to_key (quick keys_code e) (one_more u h) _ refl (NoSkip false)
      (skips_on (no_skip_label false) o, found u true key (opposite (u.held b.key) false k))
      (omega (arith, spent), sees_now u h 96 (skip_key (now h)) true spent (ap u.held (sym key) ∙ opposite (u.held b.key) false k)))

  -- ---- the step

  abbrev skip_of : Bool → Instr
  skip_of true = SkipDown (high % 16)
  skip_of false = SkipUp (high % 16)

  skip_is : (down : Bool) {a : ℕ} → Skipping (quick keys_code e) down a b (now h) → instr_at (now h) ≡ skip_of down
  skip_is true o = rw (o.digit, o.low) refl
  skip_is false o = rw (o.digit, o.low) refl

  skip_runs : (down : Bool) {a : ℕ} → Skipping (quick keys_code e) down a b (now h) → stop_of e (now h) ≡ None
  skip_runs true o = rw (o.inside, o.digit, o.low) refl
  skip_runs false o = rw (o.inside, o.digit, o.low) refl

  -- the key that was found may be taken
  allowed : {h' : Since} {k : ℕ} (t : Bool) → Grows h k 0 h' → SomeTime h.keys (skip_key (now h)) t → SomeTime h'.keys (variable h'.state (high % 16) % 16) t
  allowed {h' = h'} t g s =
      subst (λ y. SomeTime h'.keys (y % 16) t) (sym (ap (λ z. variable z (high % 16)) (now_same g)) ∙ ticks_variable h'.ticks (high % 16) h'.state)
      (some_grown g s)

  -- and so it was at its main move
  seen : {h' : Since} {k n : ℕ} (t : Bool) → Grows h k 0 h' → Sees h.moments n (skip_key (now h)) t → Sees h'.moments n (variable h'.state (high % 16) % 16) t
  seen {h' = h'} {n = n} t g s =
      subst (λ y. Sees h'.moments n (y % 16) t) (sym (ap (λ z. variable z (high % 16)) (now_same g)) ∙ ticks_variable h'.ticks (high % 16) h'.state)
      (sees_grown g s)

  pub no_skip_comes : (down : Bool) → Skipping (quick keys_code e) down (no_skip_label down) b (now h) → SomeTime h.keys (skip_key (now h)) (not down)
      → h.spent ≡ skip_time down + 4
      → Sees h.moments (skip_time down + 2) (skip_key (now h)) (not down)
      → RunsBlock (quick keys_code e) (calm_pieces (quick keys_code e)) (OfKey (NoSkip down)) b h
  no_skip_comes true o s spent met = straight (OfKey (NoSkip true)) o.holds (on_3 (no_skip_label true) b) (is_on_3 (no_skip_label true) b o.p o.r3) _ (omega arith) refl
      (λ h' g. steps_with e g (skip_of true) (skip_is true o) (skip_runs true o) (Held false) (allowed false g s) tt
      (λ n t. omega (arith, spent, some_is t)) (seen false g met) (makes_calm g (skip_is true o) refl) _ o.holds refl o.r4)
  no_skip_comes false o s spent met =
      straight (OfKey (NoSkip false)) o.holds (on_3 (no_skip_label false) b) (is_on_3 (no_skip_label false) b o.p o.r3) _ (omega arith) refl
      (λ h' g. steps_with e g (skip_of false) (skip_is false o) (skip_runs false o) (Held true) (allowed true g s) tt
      (λ n t. omega (arith, spent, some_is t)) (seen true g met) (makes_calm g (skip_is false o) refl) _ o.holds refl o.r4)

  two_on : {down : Bool} {a : ℕ} → Skipping (quick keys_code e) down a b (now h) → value (up (up b.regs.r.r5)) ≡ (now h).pc + 4
  two_on o = omega (arith, pc_is o.holds, is_inside e (now h) o.inside, memory_end_is e, page_fits e, f.regs.r.r5.hi, f.regs.r.r5.lo)

  pub skip_comes : (down : Bool) → Skipping (quick keys_code e) down AT_KEY_YES b (now h) → SomeTime h.keys (skip_key (now h)) down
      → h.spent ≡ skip_time down + 4
      → Sees h.moments (skip_time down + 2) (skip_key (now h)) down
      → RunsBlock (quick keys_code e) (calm_pieces (quick keys_code e)) (OfKey (Skip down)) b h
  skip_comes true o s spent met = straight (OfKey (Skip true)) o.holds (on_3 AT_KEY_YES b) (is_on_3 AT_KEY_YES b o.p o.r3) _ (omega arith) refl
      (λ h' g. steps_with e g (skip_of true) (skip_is true o) (skip_runs true o) (Held true) (allowed true g s) tt (λ n t. omega (arith, spent, some_is t)) (seen true g met)
      (makes_calm g (skip_is true o) refl) _
      (pc_set o.holds (up (up b.regs.r.r5)) ((now h).pc + 4) (two_on o)) refl o.r4)
  skip_comes false o s spent met = straight (OfKey (Skip false)) o.holds (on_3 AT_KEY_YES b) (is_on_3 AT_KEY_YES b o.p o.r3) _ (omega arith) refl
      (λ h' g. steps_with e g (skip_of false) (skip_is false o) (skip_runs false o) (Held false) (allowed false g s) tt (λ n t. omega (arith, spent, some_is t)) (seen false g met)
      (makes_calm g (skip_is false o) refl) _
      (pc_set o.holds (up (up b.regs.r.r5)) ((now h).pc + 4) (two_on o)) refl o.r4)
