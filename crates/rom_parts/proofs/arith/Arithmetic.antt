-- 8XYN.
use Rattle.std.proofs.Common.{◌≡◌, ℕ, ◌+◌, ◌-◌, ◌*◌, ◌/◌, ◌%◌, ◌<◌, refl, sym, ◌∙◌, ap, ap₂, arith, subst, true, false, bit_and}
use Rattle.std.specs.Prelude.{◌==◌, bit_or, bit_xor, Some}
use Rattle.std.proofs.lemmas.Bool.{ne_eqb}
use Rattle.std.proofs.lemmas.Nat.{and_mask, and_comm, or_comm, xor_comm, and_le_l, or_lt, xor_lt}
use Rattle.machine.specs.Bank.{word, value}
use Rattle.machine.specs.Memory.{written}
use Rattle.machine.specs.Board.{Machine}
use Rattle.machine.specs.Ranges.{FitsMachine}
use Rattle.chip8_lang.specs.declared.instr.Instr.TheVariants.{Copy, Unknown as IsUnknown}
use Rattle.chip8_lang.specs.declared.view.Edition.{Edition}
use Rattle.chip8_lang.specs.declared.view.Stop.TheVariants.{Unknown}
use Rattle.chip8_lang.specs.Decode.{arithmetic}
use Rattle.chip8_lang.specs.State.{variable, instr_at}
use Rattle.chip8_lang.specs.Step.{set, set_with_flag, stop_of, done_by}
use Rattle.chip8_lang.specs.Step.KeyInput.{Nothing}
use Rattle.chip8_lang.specs.Timed.{cycles}
use Rattle.chip8_image.specs.declared.image.labels.TheConstants.{AT_ARITH, AT_SLOT0, AT_FLAG, AT_UNKNOWN82, AT_HALT}
use Rattle.rom_law.proofs.Moves.{AllGood, quicks, reaches_in, reaches_from}
use Rattle.rom_law.specs.Program.{code}
use Rattle.rom_law.specs.Holding.{places, Holding}
use Rattle.rom_law.specs.Rows.{Since, Grows, Ends, now}
use Rattle.rom_law.proofs.Places.{v_set, v_byte}
use Rattle.rom_law.proofs.Kept.{RunsBlock}
use Rattle.rom_rows.specs.Heads.{to_stop, to_dispatch, high_byte, low_byte, page_of, Entered, Enters}
use Rattle.rom_rows.specs.FetchBlocks.FetchBlock.{Leave}
use Rattle.rom_rows.specs.ArithBlocks.{has_shared_end, Ending}
use Rattle.rom_rows.specs.ArithBlocks.ArithBlock.{Arith, Operation, Flag, Unknown82}
use Rattle.rom_rows.specs.Table.{moves, calm_pieces, calm_top}
use Rattle.rom_rows.specs.Table.Block.{OfArith}
use Rattle.rom_rows.proofs.Digits.{by_digit}
use Rattle.rom_rows.proofs.Bytes.{stack_top_is, variables_is}
use Rattle.rom_rows.proofs.Entry.{ready, entered, is_entered, low_fits}
use Rattle.rom_rows.proofs.Follows.{to_fetch, to_arith}
use Rattle.rom_rows.proofs.Sounds.{some}
use Rattle.rom_rows.proofs.Steps.{steps}
use Rattle.rom_rows.proofs.Straight.{routine}
use Rattle.rom_parts.specs.arith.Code.{arith_code}
use Rattle.rom_parts.proofs.Rom.{quick}
use Rattle.rom_parts.proofs.arith.Shared.{byte_x, byte_y, is_vx, is_vy, ending}

module _ (e : Edition) (b : Machine) (h : Since) (f : FitsMachine b) where
  abbrev high : ℕ
  high = high_byte (now h)

  abbrev low : ℕ
  low = low_byte (now h)

  abbrev vx : ℕ
  vx = variable (now h) (high % 16)

  abbrev vy : ℕ
  vy = variable (now h) (low / 16)

  x_fits : {a : ℕ} → Entered (quick arith_code e) a b (now h) → vx < 256
  x_fits o = v_byte o.holds f.ram (high % 16) (omega arith)

  y_fits : {a : ℕ} → Entered (quick arith_code e) a b (now h) → vy < 256
  y_fits o = v_byte o.holds f.ram (low / 16) (omega (arith, low_fits o f))

  -- in a routine, with X = 6
  pointed : ℕ → ℕ → ℕ → Machine
  pointed a d df = record (entered e a high low b) { regs = record (entered e a high low b).regs { d = d; df = df; x = 6 } }

  goes : {a : ℕ} → Entered (quick arith_code e) a b (now h) → (w d df : ℕ) → Entered (quick arith_code e) w (pointed w d df) (now h)
  unfolding pointed
  goes o w d df = record { holds = o.holds; inside = o.inside; p = refl; r3 = refl; r4 = refl; r6 = refl; r7 = refl; rc = refl }

  -- ---- the branch by N

  pub arith_comes : Enters (quick arith_code e) AT_ARITH 8 b (now h) → h.spent ≡ 80
      → RunsBlock (quick arith_code e) (calm_pieces (quick arith_code e)) (OfArith Arith) b h
  arith_comes o spent = routine (OfArith Arith) o.entered _ (omega arith) refl (λ h' g. to_arith (quick arith_code e) g _ calm (Operation (low % 16)) (
    record {
      entered =
          record {
            holds = o.entered.holds;
            inside = o.entered.inside;
            p = refl;
            r3 = ap₂ word (omega arith) branch;
            r4 = refl;
            r6 = refl;
            r7 = refl;
            rc = refl;
          };
      digit = o.digit;
    },
    refl,
    refl,
  ) (omega (arith, spent, g.spent)))
    where
      branch : (bit_and low 15 * 2 % 256 + 8) % 256 ≡ (AT_SLOT0 + 2 * (low % 16)) % 256
      branch = rw (and_mask low 4) (omega arith)

      calm : (130 * 256 + (bit_and low 15 * 2 % 256 + 8) % 256 == AT_HALT) ≡ false
      calm = ne_eqb _ AT_HALT (λ k. omega (arith, k))

  -- ---- the operations

  -- 8XYN with this n
  abbrev Case : ℕ → Type 0
  Case n =
      Enters (quick arith_code e) (AT_SLOT0 + 2 * n) 8 b (now h) → low % 16 ≡ n → b.regs.x ≡ 6 → h.spent ≡ 92
      → RunsBlock (quick arith_code e) (calm_pieces (quick arith_code e)) (OfArith (Operation n)) b h

  -- V0 to VF lie above the byte at R2
  abbrev Room : Type 0
  Room = value b.regs.r.r2 < page_of e * 256 + 0xf0

  room : {a : ℕ} → Entered (quick arith_code e) a b (now h) → Room
  room o = omega (arith, o.holds.stack, stack_top_is e)

  module _ (n : ℕ) where
    abbrev slot : Machine
    slot = pointed (AT_SLOT0 + 2 * n) b.regs.d b.regs.df

    is_slot : Enters (quick arith_code e) (AT_SLOT0 + 2 * n) 8 b (now h) → b.regs.x ≡ 6 → b ≡ slot
    unfolding pointed
    is_slot o by_r6 =
        is_entered o.entered ∙ (λ i. record (entered e
        (AT_SLOT0 + 2 * n) high low b) { regs = record (entered e (AT_SLOT0 + 2 * n) high low b).regs { x = by_r6 i } })

    decoded : Enters (quick arith_code e) (AT_SLOT0 + 2 * n) 8 b (now h) → low % 16 ≡ n
        → instr_at (now h) ≡ arithmetic n (high % 16) (low / 16) (high * 256 + low)
    decoded o nibble = rw (o.digit, nibble) refl

    -- its instructions lead to c; what follows there is given
    operation : (c : Machine) → (Room → AllGood (code (quick arith_code e)) (calm_top e) (moves (OfArith (Operation n))) slot)
        → quicks (code (quick arith_code e)) (moves (OfArith (Operation n))) slot ≡ c
        → (Enters (quick arith_code e) (AT_SLOT0 + 2 * n) 8 b (now h) → instr_at (now h) ≡ arithmetic n (high % 16) (low / 16) (high * 256 + low) → h.spent ≡ 92
        → (h' : Since) → Grows h (moves (OfArith (Operation n))) 0 h' → Ends (quick arith_code e) (calm_pieces (quick arith_code e)) c h') → Case n
    operation c good is ends o nibble by_r6 spent = record {
      runs = ready o.entered.holds;
      awake = o.entered.holds.awake;
      some = some (OfArith (Operation n));
      end = c;
      reaches =
          reaches_from (code (quick arith_code e)) (calm_top e) (moves (OfArith (Operation n))) b _ _ (is_slot o by_r6)
          (reaches_in (code (quick arith_code e)) (calm_top e) (moves (OfArith (Operation n))) _ _ (good (room o.entered)) is);
      ends = ends o (decoded o nibble) spent;
    }

    -- The instruction has a flag: it puts value of VX and VY into VX, and flag of them into VF.
    abbrev Flagged : (value flag : ℕ → ℕ → ℕ) → Type 0
    Flagged value flag =
        let i = arithmetic n (high % 16) (low / 16) (high * 256 + low) in Entered (quick arith_code e) (AT_SLOT0 + 2 * n) b (now h)
        → (has_shared_end i ≡ true) × (done_by e i Nothing (now h) ≡ set_with_flag (high % 16) (value vx vy) (flag vx vy) (now h))
        × (cycles e i Nothing (now h) ≡ 110 + 2 * moves (OfArith (Operation n)))

    -- its code leaves them in D and DF
    flagged : (value flag : ℕ → ℕ → ℕ) → Flagged value flag
        → (Room → AllGood (code (quick arith_code e)) (calm_top e) (moves (OfArith (Operation n))) slot)
        → quicks (code (quick arith_code e)) (moves (OfArith (Operation n))) slot
        ≡ pointed AT_FLAG (value (byte_x e b (now h)) (byte_y e b (now h))) (flag (byte_x e b (now h)) (byte_y e b (now h))) → Case n
    unfolding pointed
    flagged value flag does good is = operation _ good is (λ o instr spent h' g. to_arith (quick arith_code e) g _ refl Flag (record {
      entered = goes o.entered AT_FLAG _ _;
      shared = ap has_shared_end instr ∙ (does o.entered).0;
      makes =
          ap (λ i. done_by e i Nothing (now h)) instr ∙ (does o.entered).1
          ∙ ap₂ (λ x y. set_with_flag (high % 16) (value x y) (flag x y) (now h)) (sym (is_vx o.entered)) (sym (is_vy o.entered f));
    }) (omega (arith, spent, g.spent, ap (λ i. cycles e i Nothing (now h)) instr ∙ (does o.entered).2)))

  -- a byte z to which 0 is added stays in D, and DF is 0
  cleared : (v z : ℕ) → v ≡ z → z < 256 → set_with_flag (high % 16) v 0 (now h) ≡ set_with_flag (high % 16) ((z + 0) % 256) ((z + 0) / 256) (now h)
  cleared v z same fits = ap₂ (λ y c. set_with_flag (high % 16) y c (now h)) (omega (arith, same, fits)) (omega (arith, fits))

  copy : Case 0
  unfolding pointed
  copy =
      operation 0 _ (λ r. omega (arith, r)) refl
      (λ o instr spent h' g. steps e g (Copy (high % 16) (low / 16)) instr refl (rw (o.entered.inside, instr) refl) (omega (arith, spent)) tt _
      (subst (λ y. Holding (quick arith_code e)
      (record (places b) { ram = written b.latch b.ram (page_of e * 256 + (240 + high % 16)) (byte_y e b (now h)) })
      (set (high % 16) y (now h))) (is_vy o.entered f)
      (v_set o.entered.holds _ (high % 16) _ (omega (arith, variables_is e)) (omega arith))) refl refl)

  vx_or : Case 1
  unfolding pointed
  vx_or =
      flagged 1 (λ x y. (bit_or y x + 0) % 256) (λ x y. (bit_or y x + 0) / 256)
      (λ o. (refl, cleared (bit_or vx vy) (bit_or vy vx) (or_comm vx vy) (or_lt 8 vy vx (y_fits o) (x_fits o)), refl))
      (λ r. omega (arith, r)) refl

  vx_and : Case 2
  unfolding pointed
  vx_and =
      flagged 2 (λ x y. (bit_and y x + 0) % 256) (λ x y. (bit_and y x + 0) / 256)
      (λ o. (refl, cleared (bit_and vx vy) (bit_and vy vx) (and_comm vx vy) (omega (arith, and_le_l vy vx, y_fits o)), refl))
      (λ r. omega (arith, r)) refl

  vx_xor : Case 3
  unfolding pointed
  vx_xor =
      flagged 3 (λ x y. (bit_xor y x + 0) % 256) (λ x y. (bit_xor y x + 0) / 256)
      (λ o. (refl, cleared (bit_xor vx vy) (bit_xor vy vx) (xor_comm vx vy) (xor_lt 8 vy vx (y_fits o) (x_fits o)), refl))
      (λ r. omega (arith, r)) refl

  sum : Case 4
  unfolding pointed
  sum = flagged 4 (λ x y. (x + y) % 256) (λ x y. (x + y) / 256) (λ o. (refl, refl, refl)) (λ r. omega (arith, r)) refl

  less : Case 5
  unfolding pointed
  less = flagged 5 (λ x y. (x + 256 - y) % 256) (λ x y. (x + 256 - y) / 256) (λ o. (refl, refl, refl)) (λ r. omega (arith, r)) refl

  right : Case 6
  unfolding pointed
  right = flagged 6 (λ x y. y / 2) (λ x y. y % 2) (λ o. (refl, refl, refl)) (λ r. omega (arith, r)) refl

  from : Case 7
  unfolding pointed
  from = flagged 7 (λ x y. (y + 256 - x) % 256) (λ x y. (y + 256 - x) / 256) (λ o. (refl, refl, refl)) (λ r. omega (arith, r)) refl

  left : Case 14
  unfolding pointed
  left = flagged 14 (λ x y. y * 2 % 256) (λ x y. y * 2 / 256) (λ o. (refl, refl, refl)) (λ r. omega (arith, r)) refl

  -- where N is that of no instruction, the opcode is unknown
  other : (n : ℕ) → moves (OfArith (Operation n)) ≡ 1 → AllGood (code (quick arith_code e)) (calm_top e) (moves (OfArith (Operation n))) (slot n)
      → quicks (code (quick arith_code e)) (moves (OfArith (Operation n))) (slot n) ≡ pointed AT_UNKNOWN82 b.regs.d b.regs.df
      → ((x y o : ℕ) → arithmetic n x y o ≡ IsUnknown o) → Case n
  unfolding pointed
  other n one good is unknown =
      operation n _ (λ r. good) is (λ o instr spent h' g. to_arith (quick arith_code e) g _ refl Unknown82
      (goes o.entered AT_UNKNOWN82 _ _, rw (o.entered.inside, instr, unknown (high % 16) (low / 16) (high * 256 + low)) refl)
      (omega (arith, spent, one, g.spent, time o instr)))
    where
      time : Enters (quick arith_code e) (AT_SLOT0 + 2 * n) 8 b (now h) → instr_at (now h) ≡ arithmetic n (high % 16) (low / 16) (high * 256 + low)
          → to_stop (quick arith_code e) (now h) ≡ 120
      time o instr = rw (o.entered.inside, instr, unknown (high % 16) (low / 16) (high * 256 + low), o.digit) refl

  pub operation_comes : (n : ℕ) → Case n
  unfolding pointed
  operation_comes n o nibble =
      by_digit Case copy vx_or vx_and vx_xor sum less right from (other 8 refl (omega arith) refl (λ x y o. refl))
      (other 9 refl (omega arith) refl (λ x y o. refl)) (other 10 refl (omega arith) refl (λ x y o. refl))
      (other 11 refl (omega arith) refl (λ x y o. refl)) (other 12 refl (omega arith) refl (λ x y o. refl))
      (other 13 refl (omega arith) refl (λ x y o. refl)) left (other 15 refl (omega arith) refl (λ x y o. refl)) n
      (omega (arith, nibble)) o nibble

  -- ---- the ends

  pub flag_comes : Ending (quick arith_code e) AT_FLAG (set_with_flag (high % 16) b.regs.d b.regs.df (now h)) b (now h)
      → h.spent + 18 ≡ to_dispatch (quick arith_code e) (now h) → RunsBlock (quick arith_code e) (calm_pieces (quick arith_code e)) (OfArith Flag) b h
  flag_comes o spent =
      ending (OfArith Flag) o spent _ (omega arith) refl
      (rw flag (v_set (v_set o.entered.holds (page_of e * 256 + (240 + high % 16)) (high % 16) b.regs.d (omega (arith, variables_is e))
      (omega arith)) _ 15 _ (omega (arith, variables_is e)) (omega arith))) refl refl
    where
      flag : (0 * 2 + b.regs.df) % 256 ≡ b.regs.df
      flag = omega (arith, f.regs.df)

  pub unknown82_comes : Entered (quick arith_code e) AT_UNKNOWN82 b (now h) → stop_of e (now h) ≡ Some Unknown
      → h.spent + 26 ≡ to_stop (quick arith_code e) (now h)
      → RunsBlock (quick arith_code e) (calm_pieces (quick arith_code e)) (OfArith Unknown82) b h
  unknown82_comes o stop spent =
      routine (OfArith Unknown82) o _ (omega arith) refl
      (λ h' g. to_fetch (quick arith_code e) g _ refl (Leave 1)
      (record { holds = o.holds; p = refl; r3 = refl; stop = Unknown; fits = stop; number = refl }, omega arith) (omega (arith, spent, g.spent)))
