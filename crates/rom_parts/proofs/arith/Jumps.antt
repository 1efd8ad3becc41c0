-- 0MMM, 00EE, 1MMM, 2MMM and BMMM.
use Rattle.std.proofs.Common.{◌≡◌, ℕ, ◌+◌, ◌*◌, ◌/◌, ◌%◌, ◌<◌, refl, ap, subst, arith, ◌∷◌, [], ◌++◌, length, bit_and, not}
use Rattle.std.specs.Prelude.{◌==◌, bit_xor, Some, None}
use Rattle.std.proofs.lemmas.Bool.{ne_eqb}
use Rattle.std.proofs.lemmas.Nat.{and_mask}
use Rattle.machine.specs.Bank.{Word, word, value, up, down}
use Rattle.machine.specs.Memory.{read, written}
use Rattle.machine.specs.Board.{Machine}
use Rattle.machine.specs.Ranges.{FitsMachine}
use Rattle.chip8_lang.specs.declared.instr.Instr.TheVariants.{Return as ReturnFrom, Jump, Call as CallTo, JumpPlus as JumpBy}
use Rattle.chip8_lang.specs.declared.view.Edition.{Edition}
use Rattle.chip8_lang.specs.declared.view.Stop.TheVariants.{MachineCall, StackEmpty, StackFull}
use Rattle.chip8_lang.specs.State.{variable, instr_at}
use Rattle.chip8_lang.specs.Step.{next, stop_of}
use Rattle.chip8_image.specs.declared.image.labels.TheConstants.{AT_SYSTEM, AT_SYSTEM_LOW, AT_SYSTEM_BACK, AT_MACHINE, AT_RETURN, AT_RETURN_TAKE, AT_EMPTY, AT_JUMP, AT_CALL, AT_CALL_PUT, AT_FULL, AT_JUMP_PLUS, AT_CLEAR}
use Rattle.rom_law.specs.Holding.{Places, places, Holding}
use Rattle.rom_law.specs.Rows.{Since, now}
use Rattle.rom_law.proofs.Places.{pc_is, pc_set, v_get, v_byte, stack_most}
use Rattle.rom_law.proofs.Stack.{push, pop, popped}
use Rattle.rom_law.proofs.Kept.{RunsBlock}
use Rattle.rom_rows.specs.Heads.{to_stop, high_byte, low_byte, page_of, Entered, Enters}
use Rattle.rom_rows.specs.FetchBlocks.FetchBlock.{Leave}
use Rattle.rom_rows.specs.ArithBlocks.ArithBlock.{System, SystemLow, SystemBack, MachineCode, Return, ReturnTake, Empty, JumpTo, Call, CallPut, Full, JumpPlus}
use Rattle.rom_rows.specs.SpriteBlocks.SpriteBlock.{Clear}
use Rattle.rom_rows.specs.Table.{calm_pieces}
use Rattle.rom_rows.specs.Table.Block.{OfArith}
use Rattle.rom_rows.proofs.Bits.{xor_same, xor_other, nonzero, is_zero}
use Rattle.rom_rows.proofs.Branches.{branch, looked, looks}
use Rattle.rom_rows.proofs.Bytes.{page_fits, stack_top_is, variables_is}
use Rattle.rom_rows.proofs.Entry.{low_fits}
use Rattle.rom_rows.proofs.Follows.{to_fetch, to_arith, to_sprite}
use Rattle.rom_rows.proofs.Straight.{routine}
use Rattle.rom_rows.proofs.Steps.{steps}
use Rattle.rom_parts.specs.arith.Code.{arith_code}
use Rattle.rom_parts.proofs.Rom.{both, quick}

module _ (e : Edition) (b : Machine) (h : Since) (f : FitsMachine b) where
  abbrev high : ℕ
  high = high_byte (now h)

  abbrev low : ℕ
  low = low_byte (now h)

  abbrev depth : ℕ
  depth = length (now h).stack

  -- ---- 0MMM: which of them

  other_machine : (a : ℕ) → Enters (quick arith_code e) a 0 b (now h) → (high ≡ 0 → ⊥) → stop_of e (now h) ≡ Some MachineCall
  other_machine a o d =
      rw (
        o.entered.inside,
        o.digit,
        ne_eqb (high % 16 * 256 + low) 0xe0 (λ k. d (omega (arith, k, o.digit))),
        ne_eqb (high % 16 * 256
            + low) 0xee (λ k. d (omega (arith, k, o.digit))),
      ) refl

  other_time : {a : ℕ} → Enters (quick arith_code e) a 0 b (now h) → (high ≡ 0 → ⊥) → to_stop (quick arith_code e) (now h) ≡ 110
  other_time o d =
      rw (
        o.entered.inside,
        o.digit,
        ne_eqb (high % 16 * 256 + low) 0xe0 (λ k. d (omega (arith, k, o.digit))),
        ne_eqb (high % 16 * 256 + low) 0xee (λ k. d (omega (arith, k, o.digit))),
        ne_eqb high 0 d,
      ) refl

  low_time : {a : ℕ} → Entered (quick arith_code e) a b (now h) → high ≡ 0 → (low ≡ 0xe0 → ⊥) → (low ≡ 0xee → ⊥) → to_stop (quick arith_code e) (now h) ≡ 122
  low_time o zero clear back =
      rw (o.inside, zero, ne_eqb (0 + low) 0xe0 (λ k. clear (omega (arith, k))), ne_eqb (0 + low) 0xee (λ k. back (omega (arith, k))), zero) refl

  low_machine : (a : ℕ) → Entered (quick arith_code e) a b (now h) → high ≡ 0 → (low ≡ 0xe0 → ⊥) → (low ≡ 0xee → ⊥) → stop_of e (now h) ≡ Some MachineCall
  low_machine a o zero clear back =
      rw (o.inside, zero, ne_eqb (0 + low) 0xe0 (λ k. clear (omega (arith, k))), ne_eqb (0 + low) 0xee (λ k. back (omega (arith, k)))) refl

  pub system_comes : Enters (quick arith_code e) AT_SYSTEM 0 b (now h) → h.spent ≡ 80
      → RunsBlock (quick arith_code e) (calm_pieces (quick arith_code e)) (OfArith System) b h
  system_comes o spent = branch (OfArith System) o.entered (looked e high low b high) (not (high == 0)) AT_MACHINE AT_SYSTEM_LOW (omega arith) refl
      (λ k h' g. to_arith (quick arith_code e) g _ refl MachineCode (looks high AT_MACHINE o.entered, other_machine AT_SYSTEM o (nonzero high k))
      (omega (arith, spent, g.spent, other_time o (nonzero high k))))
      (λ k h' g. to_arith (quick arith_code e) g _ refl SystemLow (looks high AT_SYSTEM_LOW o.entered, is_zero high k) (omega (arith, spent, g.spent)))

  pub system_low_comes : Entered (quick arith_code e) AT_SYSTEM_LOW b (now h) → high ≡ 0 → h.spent ≡ 84
      → RunsBlock (quick arith_code e) (calm_pieces (quick arith_code e)) (OfArith SystemLow) b h
  system_low_comes o zero spent =
      branch (OfArith SystemLow) o (looked e high low b (bit_xor low 0xe0)) (bit_xor low 0xe0 == 0) AT_CLEAR AT_SYSTEM_BACK (omega arith) refl
      (λ k h' g. to_sprite (quick arith_code e) g _ refl Clear tt (looks (bit_xor low 0xe0) AT_CLEAR o, (zero, xor_same low 0xe0 k))
      (omega (arith, spent, g.spent)))
      (λ k h' g. to_arith (quick arith_code e) g _ refl SystemBack (looks (bit_xor low 0xe0) AT_SYSTEM_BACK o, zero, xor_other low 0xe0 k)
      (omega (arith, spent, g.spent)))

  pub system_back_comes : Entered (quick arith_code e) AT_SYSTEM_BACK b (now h) → high ≡ 0 → (low ≡ 0xe0 → ⊥) → h.spent ≡ 90
      → RunsBlock (quick arith_code e) (calm_pieces (quick arith_code e)) (OfArith SystemBack) b h
  system_back_comes o zero clear spent =
      branch (OfArith SystemBack) o (looked e high low b (bit_xor low 0xee)) (bit_xor low 0xee == 0) AT_RETURN AT_MACHINE (omega arith) refl
      (λ k h' g. to_arith (quick arith_code e) g _ refl Return (looks (bit_xor low 0xee) AT_RETURN o, zero, xor_same low 0xee k)
      (omega (arith, spent, g.spent)))
      (λ k h' g. to_arith (quick arith_code e) g _ refl MachineCode
      (looks (bit_xor low 0xee) AT_MACHINE o, low_machine AT_SYSTEM_BACK o zero clear (xor_other low 0xee k))
      (omega (arith, spent, g.spent, low_time o zero clear (xor_other low 0xee k))))

  -- ---- the stops: their number goes into D

  pub machine_comes : Entered (quick arith_code e) AT_MACHINE b (now h) → stop_of e (now h) ≡ Some MachineCall
      → h.spent + 26 ≡ to_stop (quick arith_code e) (now h)
      → RunsBlock (quick arith_code e) (calm_pieces (quick arith_code e)) (OfArith MachineCode) b h
  machine_comes o stop spent =
      routine (OfArith MachineCode) o _ (omega arith) refl
      (λ h' g. to_fetch (quick arith_code e) g _ refl (Leave 0)
      (record { holds = o.holds; p = refl; r3 = refl; stop = MachineCall; fits = stop; number = refl }, omega arith)
      (omega (arith, spent, g.spent)))

  pub empty_comes : Entered (quick arith_code e) AT_EMPTY b (now h) → stop_of e (now h) ≡ Some StackEmpty → h.spent + 26 ≡ to_stop (quick arith_code e) (now h)
      → RunsBlock (quick arith_code e) (calm_pieces (quick arith_code e)) (OfArith Empty) b h
  empty_comes o stop spent =
      routine (OfArith Empty) o _ (omega arith) refl
      (λ h' g. to_fetch (quick arith_code e) g _ refl (Leave 0)
      (record { holds = o.holds; p = refl; r3 = refl; stop = StackEmpty; fits = stop; number = refl }, omega arith)
      (omega (arith, spent, g.spent)))

  pub full_comes : Entered (quick arith_code e) AT_FULL b (now h) → stop_of e (now h) ≡ Some StackFull → h.spent + 26 ≡ to_stop (quick arith_code e) (now h)
      → RunsBlock (quick arith_code e) (calm_pieces (quick arith_code e)) (OfArith Full) b h
  full_comes o stop spent =
      routine (OfArith Full) o _ (omega arith) refl
      (λ h' g. to_fetch (quick arith_code e) g _ refl (Leave 0)
      (record { holds = o.holds; p = refl; r3 = refl; stop = StackFull; fits = stop; number = refl }, omega arith)
      (omega (arith, spent, g.spent)))

  -- ---- 00EE

  return_is : (a : ℕ) → Entered (quick arith_code e) a b (now h) → high ≡ 0 → low ≡ 0xee → instr_at (now h) ≡ ReturnFrom
  return_is a o zero back = rw (zero, back) refl

  return_stops : (a : ℕ) → Entered (quick arith_code e) a b (now h) → high ≡ 0 → low ≡ 0xee → depth ≡ 0 → stop_of e (now h) ≡ Some StackEmpty
  return_stops a o zero back none = rw (o.inside, zero, back, none) refl

  return_time : {a : ℕ} → Entered (quick arith_code e) a b (now h) → high ≡ 0 → low ≡ 0xee → to_stop (quick arith_code e) (now h) ≡ 128
  return_time o zero back = rw (o.inside, zero, back) refl

  return_runs : (a : ℕ) → Entered (quick arith_code e) a b (now h) → high ≡ 0 → low ≡ 0xee → 0 < depth → stop_of e (now h) ≡ None
  return_runs a o zero back some = rw (o.inside, zero, back, ne_eqb depth 0 (λ k. omega (arith, k, some))) refl

  -- R2.0 tells how many addresses lie on the stack
  r2_is : {a : ℕ} → Entered (quick arith_code e) a b (now h) → b.regs.r.r2.lo + 2 * depth ≡ 0xcf
  r2_is o = omega (arith, o.holds.stack, stack_most o.holds, stack_top_is e, f.regs.r.r2.hi, f.regs.r.r2.lo)

  pub return_comes : Entered (quick arith_code e) AT_RETURN b (now h) → high ≡ 0 → low ≡ 0xee → h.spent ≡ 96
      → RunsBlock (quick arith_code e) (calm_pieces (quick arith_code e)) (OfArith Return) b h
  return_comes o zero back spent =
      branch (OfArith Return) o (looked e high low b (bit_xor b.regs.r.r2.lo 0xcf)) (bit_xor b.regs.r.r2.lo 0xcf == 0) AT_EMPTY AT_RETURN_TAKE
      (omega arith) refl
      (λ k h' g. to_arith (quick arith_code e) g _ refl Empty (
        looks (bit_xor b.regs.r.r2.lo 0xcf) AT_EMPTY o,
        return_stops AT_RETURN o zero back (omega
            (arith, xor_same b.regs.r.r2.lo 0xcf k, r2_is o)),
      ) (omega (arith, spent, g.spent, return_time o zero back)))
      (λ k h' g. to_arith (quick arith_code e) g _ refl ReturnTake
      (looks (bit_xor b.regs.r.r2.lo 0xcf) AT_RETURN_TAKE o, zero, back, omega (arith, xor_other b.regs.r.r2.lo 0xcf k, r2_is o))
      (omega (arith, spent, g.spent)))

  pub return_take_comes : Entered (quick arith_code e) AT_RETURN_TAKE b (now h) → high ≡ 0 → low ≡ 0xee → 0 < depth → h.spent ≡ 102
      → RunsBlock (quick arith_code e) (calm_pieces (quick arith_code e)) (OfArith ReturnTake) b h
  return_take_comes o zero back some spent =
      routine (OfArith ReturnTake) o _ (omega (arith, o.holds.stack, stack_top_is e, page_fits e, some, f.regs.r.r2.hi, f.regs.r.r2.lo)) refl
      (λ h' g. steps e g ReturnFrom (return_is AT_RETURN_TAKE o zero back) refl (return_runs AT_RETURN_TAKE o zero back some)
      (omega (arith, spent)) tt _
      (pc_set (pop o.holds f.regs.r.r2 some) taken _ (popped o.holds f.regs.r.r2 some)) refl refl)
    where
      taken : Word
      taken = word (read (both arith_code e) b.latch b.ram (value (up b.regs.r.r2))) (read (both arith_code e) b.latch b.ram (value (up (up b.regs.r.r2))))

  -- ---- 1MMM

  jump_is : Enters (quick arith_code e) AT_JUMP 1 b (now h) → instr_at (now h) ≡ Jump (high % 16 * 256 + low)
  jump_is o = rw o.digit refl

  jump_runs : Enters (quick arith_code e) AT_JUMP 1 b (now h) → stop_of e (now h) ≡ None
  jump_runs o = rw (o.entered.inside, o.digit) refl

  target : value (word (bit_and high 15) low) ≡ high % 16 * 256 + low
  target = ap (λ d. d * 256 + low) (and_mask high 4)

  pub jump_comes : Enters (quick arith_code e) AT_JUMP 1 b (now h) → h.spent ≡ 80
      → RunsBlock (quick arith_code e) (calm_pieces (quick arith_code e)) (OfArith JumpTo) b h
  jump_comes o spent =
      routine (OfArith JumpTo) o.entered _ (omega arith) refl
      (λ h' g. steps e g (Jump (high % 16 * 256 + low)) (jump_is o) refl (jump_runs o) (omega (arith, spent)) tt _
      (pc_set o.entered.holds (word (bit_and high 15) low) (high % 16 * 256 + low) target) refl refl)

  -- ---- 2MMM

  call_is : {a : ℕ} → Enters (quick arith_code e) a 2 b (now h) → instr_at (now h) ≡ CallTo (high % 16 * 256 + low)
  call_is o = rw o.digit refl

  call_stops : {a : ℕ} → Enters (quick arith_code e) a 2 b (now h) → depth ≡ 12 → stop_of e (now h) ≡ Some StackFull
  call_stops o full = rw (o.entered.inside, o.digit, full) refl

  call_time : {a : ℕ} → Enters (quick arith_code e) a 2 b (now h) → to_stop (quick arith_code e) (now h) ≡ 112
  call_time o = rw (o.entered.inside, o.digit) refl

  call_runs : {a : ℕ} → Enters (quick arith_code e) a 2 b (now h) → depth < 12 → stop_of e (now h) ≡ None
  call_runs o room = rw (o.entered.inside, o.digit, ne_eqb depth 12 (λ k. omega (arith, k, room))) refl

  pub call_comes : Enters (quick arith_code e) AT_CALL 2 b (now h) → h.spent ≡ 80
      → RunsBlock (quick arith_code e) (calm_pieces (quick arith_code e)) (OfArith Call) b h
  call_comes o spent =
      branch (OfArith Call) o.entered (looked e high low b (bit_xor b.regs.r.r2.lo 0xb7)) (bit_xor b.regs.r.r2.lo 0xb7 == 0) AT_FULL AT_CALL_PUT
      (omega arith) refl
      (λ k h' g. to_arith (quick arith_code e) g _ refl Full
      (looks (bit_xor b.regs.r.r2.lo 0xb7) AT_FULL o.entered, call_stops o (omega (arith, xor_same b.regs.r.r2.lo 0xb7 k, r2_is o.entered)))
      (omega (arith, spent, g.spent, call_time o)))
      (λ k h' g. to_arith (quick arith_code e) g _ refl CallPut (
        record {
          entered = looks (bit_xor b.regs.r.r2.lo 0xb7) AT_CALL_PUT o.entered;
          digit = o.digit;
        },
        omega (arith, xor_other b.regs.r.r2.lo 0xb7 k, r2_is o.entered, stack_most o.entered.holds),
      )
      (omega (arith, spent, g.spent)))

  -- pc goes on the stack, past the opcode
  abbrev pushed : Places
  pushed =
      record (places b) {
        ram = written b.latch (written b.latch b.ram (value b.regs.r.r2) b.regs.r.r5.lo) (value (down b.regs.r.r2)) b.regs.r.r5.hi;
        r2 = down (down b.regs.r.r2);
      }

  pushes : {a : ℕ} → Enters (quick arith_code e) a 2 b (now h) → depth < 12
      → Holding (quick arith_code e) pushed (record (next (now h)) { stack = (now h).stack ++ ((now h).pc + 2) ∷ [] })
  pushes o room =
      subst (λ z. Holding (quick arith_code e) pushed (record (next (now h)) { stack = (now h).stack ++ z ∷ [] })) (pc_is o.entered.holds)
      (push o.entered.holds f.regs.r.r2 room b.regs.r.r5.hi b.regs.r.r5.lo)

  pub call_put_comes : Enters (quick arith_code e) AT_CALL_PUT 2 b (now h) → depth < 12 → h.spent ≡ 86
      → RunsBlock (quick arith_code e) (calm_pieces (quick arith_code e)) (OfArith CallPut) b h
  call_put_comes o room spent =
      routine (OfArith CallPut) o.entered _
      (omega (arith, o.entered.holds.stack, stack_top_is e, page_fits e, f.regs.r.r2.hi, f.regs.r.r2.lo, room)) refl
      (λ h' g. steps e g (CallTo (high % 16 * 256 + low)) (call_is o) refl (call_runs o room) (omega (arith, spent)) tt _
      (pc_set (pushes o room) (word (bit_and high 15) low) (high % 16 * 256 + low) target) refl refl)

  -- ---- BMMM

  plus_is : Enters (quick arith_code e) AT_JUMP_PLUS 11 b (now h) → instr_at (now h) ≡ JumpBy (high % 16 * 256 + low)
  plus_is o = rw o.digit refl

  plus_runs : Enters (quick arith_code e) AT_JUMP_PLUS 11 b (now h) → stop_of e (now h) ≡ None
  plus_runs o = rw (o.entered.inside, o.digit) refl

  -- the sum of the low bytes, and the jump's target
  abbrev low_sum : ℕ
  low_sum = read (both arith_code e) b.latch b.ram (value (word (page_of e) 240)) + low

  sum_is : Enters (quick arith_code e) AT_JUMP_PLUS 11 b (now h)
      → value (word ((0 + bit_and high 15 + low_sum / 256) % 256) (low_sum % 256)) ≡ high % 16 * 256 + low + variable (now h) 0
  sum_is o =
      rw (and_mask high 4, v_get o.entered.holds (value (word (page_of e) 240)) 0 (omega (arith, variables_is e)) (omega arith))
      (omega (arith, v_byte o.entered.holds f.ram 0 (omega arith), low_fits o.entered f))

  pub jump_plus_comes : Enters (quick arith_code e) AT_JUMP_PLUS 11 b (now h) → h.spent ≡ 80
      → RunsBlock (quick arith_code e) (calm_pieces (quick arith_code e)) (OfArith JumpPlus) b h
  jump_plus_comes o spent =
      routine (OfArith JumpPlus) o.entered _ (omega (arith, o.entered.holds.stack, stack_top_is e, page_fits e)) refl
      (λ h' g. steps e g (JumpBy (high % 16 * 256 + low)) (plus_is o) refl (plus_runs o) (omega (arith, spent)) tt _
      (pc_set o.entered.holds (word ((0 + bit_and high 15 + low_sum / 256) % 256) (low_sum % 256)) (high % 16 * 256 + low + variable (now h) 0)
      (sum_is o)) refl refl)
