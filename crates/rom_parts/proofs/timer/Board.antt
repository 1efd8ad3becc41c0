-- The moves of the board inside the interrupt routine: instructions that read no flag, and DMA cycles.
use Rattle.std.proofs.Common.{◌≡◌, ℕ, zero, suc, ◌+◌, ◌<◌, ◌≤◌, ◌-◌, ◌⊎◌, inl, inr, refl, sym, ◌∙◌, ap, ap₂, subst, subst₂, arith, Bool, true, false, not, ◌&&◌}
use Rattle.std.specs.Prelude.{◌==◌}
use Rattle.std.proofs.lemmas.Bool.{and_parts, not-true, eqb-true, cases_lt}
use Rattle.machine.specs.Bank.{Word, word, word_of, up, get}
use Rattle.machine.specs.Opcodes.{kind_of, cycles_of}
use Rattle.machine.specs.Signals.{dma_at, efx_at}
use Rattle.machine.specs.Board.{Machine, main_move, move, flags_of}
use Rattle.machine.specs.Board.Case.{Dma, Instruction}
use Rattle.machine.specs.Keys.{Keys}
use Rattle.machine.specs.Run.{after_moves}
use Rattle.machine.proofs.Flags.{reads_flags}
use Rattle.machine.proofs.Moves.{case_dma, case_instruction, move_in}
use Rattle.rom_law.specs.Code.{Code, Input}
use Rattle.rom_law.proofs.Moves.{in_rom, opcode_in, opcode_is, quick, quicks, quick_by, quick_by_is, quick_any, plus}
use Rattle.rom_parts.specs.timer.Routine.{RunsRoutine}

-- the machine at a cycle
abbrev pub timed : ℕ → Machine → Machine
timed t b = record b { cycle = t }

plus_is : (k m : ℕ) → plus k m ≡ m + k
plus_is zero m = omega arith
plus_is (suc k) m = omega (arith, plus_is k m)

module _ (x : Code) where
  -- ---- an instruction

  -- the display is on, the program counter is R1, in the ROM, and the routine neither waits nor is interrupted
  abbrev pub is_served : Machine → Bool
  is_served b = (b.regs.p == 1) && not b.regs.ie && not b.regs.idle && b.on && in_rom (get b.regs.r b.regs.p)

  pub record Served (b : Machine) : Type 0 where
    p : b.regs.p ≡ 1
    ie : b.regs.ie ≡ false
    idle : b.regs.idle ≡ false
    on : b.on ≡ true
    inside : in_rom (get b.regs.r b.regs.p) ≡ true

  pub served : (b : Machine) → is_served b ≡ true → Served b
  served b h =
      let q = and_parts ((b.regs.p == 1) && not b.regs.ie && not b.regs.idle && b.on) (in_rom (get b.regs.r b.regs.p)) h in
      let r = and_parts ((b.regs.p == 1) && not b.regs.ie && not b.regs.idle) b.on q.0 in
      let s = and_parts ((b.regs.p == 1) && not b.regs.ie) (not b.regs.idle) r.0 in
      let u = and_parts (b.regs.p == 1) (not b.regs.ie) s.0 in
      record { p = eqb-true b.regs.p 1 u.0; ie = not-true b.regs.ie u.1; idle = not-true b.regs.idle s.1; on = r.1; inside = q.1 }

  abbrev is_plain_at : Machine → Bool
  is_plain_at b = is_served b && not (reads_flags (kind_of (opcode_in x b)))

  -- the next k instructions are served and read no flag, and the cycles that they take
  abbrev pub are_served : ℕ → Machine → Bool
  are_served zero b = true
  are_served (suc k) b = are_served k b && is_plain_at (quicks x k b)

  abbrev pub cycles_in : ℕ → Machine → ℕ
  cycles_in zero b = 0
  cycles_in (suc k) b = cycles_in k b + cycles_of (opcode_in x (quicks x k b))

-- no DMA cycle is wanted in n cycles from t on
abbrev pub NoDma : ℕ → ℕ → Type 0
NoDma t n = (u : ℕ) → t ≤ u → u < t + n → dma_at u true ≡ false

-- the routine with R0 = w
abbrev pub at_byte : Word → Machine → Machine
at_byte w b = record b { regs = record b.regs { r = record b.regs.r { r0 = w }; p = 1; ie = false; idle = false }; on = true }

pub up_is : (a : ℕ) → a < 0xffff → up (word_of a) ≡ word_of (a + 1)
up_is a l = ap₂ word (omega arith) (omega arith)

module _ (x : Code) (held : ℕ → Keys) where
  -- what the move is, with a value of EFX
  pub move_by : (efx : Bool) (b : Machine) → Served x b → dma_at b.cycle true ≡ false → efx_at (b.cycle + 1) true ≡ efx
      → move x.rom held b ≡ record (quick_by x (flags_of efx (held (b.cycle + 1) b.key)) b) { cycle = b.cycle + cycles_of (opcode_in x b) }
  move_by efx b s dma e =
      move_in x.rom held b Instruction (case_instruction b (ap (dma_at b.cycle) s.on ∙ dma) (rw s.ie refl) s.idle)
      ∙ (λ i. record (asked i) { cycle = b.cycle + cycles_of (sym (opcode_is x b s.inside) i) })
    where
      u : Input
      u = record { efx = efx; held = held (b.cycle + 1) }

      asked : main_move x.rom (efx_at (b.cycle + 1) b.on) (held (b.cycle + 1)) b ≡ quick_by x (flags_of efx (held (b.cycle + 1) b.key)) b
      asked = ap (λ z. main_move x.rom z (held (b.cycle + 1)) b) (ap (efx_at (b.cycle + 1)) s.on ∙ e) ∙ sym (quick_by_is x u b s.inside)

  move_quick : (b : Machine) → Served x b → reads_flags (kind_of (opcode_in x b)) ≡ false → dma_at b.cycle true ≡ false
      → move x.rom held b ≡ record (quick x b) { cycle = b.cycle + cycles_of (opcode_in x b) }
  move_quick b s plain dma =
      move_by (efx_at (b.cycle + 1) true) b s dma refl
      ∙ ap (timed (b.cycle + cycles_of (opcode_in x b))) (quick_by_is x u b s.inside ∙ sym (quick_any x u b plain s.inside))
    where
      u : Input
      u = record { efx = efx_at (b.cycle + 1) true; held = held (b.cycle + 1) }

  -- ---- several moves

  -- The board comes from b to c in n moves, and the routine runs in all states before c.
  pub record Serves (n : ℕ) (b c : Machine) : Type 0 where
    pub ends : after_moves x.rom held b n ≡ c
    pub inside : (j : ℕ) → j < n → RunsRoutine (after_moves x.rom held b j)

  moves_join : (k m : ℕ) (b : Machine) → after_moves x.rom held b (plus k m) ≡ after_moves x.rom held (after_moves x.rom held b m) k
  moves_join zero m b = refl
  moves_join (suc k) m b = ap (move x.rom held) (moves_join k m b)

  pub moves_more : (k m : ℕ) (b c : Machine) → after_moves x.rom held b m ≡ c → after_moves x.rom held b (m + k) ≡ after_moves x.rom held c k
  moves_more k m b c e = ap (after_moves x.rom held b) (sym (plus_is k m)) ∙ moves_join k m b ∙ ap (λ z. after_moves x.rom held z k) e

  pub serves_join : {n m : ℕ} {b c d : Machine} → Serves n b c → Serves m c d → Serves (n + m) b d
  serves_join {n = n} {m = m} {b = b} {c = c} {d = d} f g = record { ends = moves_more m n b c f.ends ∙ g.ends; inside = λ j l. go j l (cases_lt j n) }
    where
      go : (j : ℕ) → j < n + m → (j < n) ⊎ (n ≤ j) → RunsRoutine (after_moves x.rom held b j)
      go j l (inl k) = f.inside j k
      go j l (inr k) = subst RunsRoutine (sym (ap (after_moves x.rom held b) split ∙ moves_more (j - n) n b c f.ends)) (g.inside (j - n) (omega arith))
        where
          split : j ≡ n + (j - n)
          split = omega arith

  pub serves_none : (b : Machine) → Serves 0 b b
  serves_none b = record { ends = refl; inside = λ j l. absurd (omega arith) }

  pub serves_to : {n : ℕ} {b c d : Machine} → c ≡ d → Serves n b c → Serves n b d
  serves_to {n = n} {b = b} e s = subst (Serves n b) e s

  pub one : (b c : Machine) → RunsRoutine b → move x.rom held b ≡ c → Serves 1 b c
  one b c r e = record { ends = e; inside = λ j l. subst (λ i. RunsRoutine (after_moves x.rom held b i)) (sym (first j l)) r }
    where
      first : (j : ℕ) → j < 1 → j ≡ 0
      first j l = omega arith

  -- ---- instructions

  some_cycles : (byte : ℕ) → 1 ≤ cycles_of byte
  some_cycles byte = grind arith

  pub instructions : (k t : ℕ) (b : Machine) → are_served x k b ≡ true → NoDma t (cycles_in x k b)
      → Serves k (timed t b) (timed (t + cycles_in x k b) (quicks x k b))
  instructions zero t b h d = subst (λ z. Serves 0 (timed t b) (timed z b)) same (serves_none (timed t b))
    where
      same : t ≡ t + 0
      same = omega arith
  instructions (suc k) t b h d =
      subst₂ (λ i z. Serves i (timed t b) (timed z (quicks x (suc k) b))) count time
      (serves_join (instructions k t b p.0 (λ u l m. d u l (omega (arith, m))))
      (one at _ (record { by_r1 = s.p; disabled = s.ie; awake = s.idle; on = s.on })
      (move_quick at s (not-true _ q.1) (d (t + cycles_in x k b) (omega arith) (omega (arith, some_cycles (opcode_in x c)))))))
    where
      c : Machine
      c = quicks x k b

      at : Machine
      at = timed (t + cycles_in x k b) c

      p : (are_served x k b ≡ true) × (is_plain_at x c ≡ true)
      p = and_parts (are_served x k b) (is_plain_at x c) h

      q : (is_served x c ≡ true) × (not (reads_flags (kind_of (opcode_in x c))) ≡ true)
      q = and_parts (is_served x c) (not (reads_flags (kind_of (opcode_in x c)))) p.1

      s : Served x at
      s = served x at q.0

      count : k + 1 ≡ suc k
      count = omega arith

      time : t + cycles_in x k b + cycles_of (opcode_in x c) ≡ t + (cycles_in x k b + cycles_of (opcode_in x c))
      time = omega arith

  -- ---- DMA cycles

  pub dmas : (k t a : ℕ) (b : Machine) → a + k < 0x10000 → ((u : ℕ) → t ≤ u → u < t + k → dma_at u true ≡ true)
      → Serves k (timed t (at_byte (word_of a) b)) (timed (t + k) (at_byte (word_of (a + k)) b))
  dmas zero t a b l d =
      subst₂ (λ z y. Serves 0 (timed t (at_byte (word_of a) b)) (timed z (at_byte (word_of y) b))) t0 a0
      (serves_none (timed t (at_byte (word_of a) b)))
    where
      t0 : t ≡ t + 0
      t0 = omega arith

      a0 : a ≡ a + 0
      a0 = omega arith
  dmas (suc k) t a b l d =
      subst₂ (λ i z. Serves i (timed t (at_byte (word_of a) b)) (timed z (at_byte (word_of (a + suc k)) b))) count time
      (serves_join (dmas k t a b (omega arith) (λ u m n. d u m (omega arith)))
      (one at _ (record { by_r1 = refl; disabled = refl; awake = refl; on = refl })
      (move_in x.rom held at Dma (case_dma at (d (t + k) (omega arith) (omega arith)))
      ∙ ap (λ w. timed (t + k + 1) (at_byte w b)) (up_is (a + k) (omega arith) ∙ ap word_of next))))
    where
      at : Machine
      at = timed (t + k) (at_byte (word_of (a + k)) b)

      count : k + 1 ≡ suc k
      count = omega arith

      time : t + k + 1 ≡ t + suc k
      time = omega arith

      next : a + k + 1 ≡ a + suc k
      next = omega arith
