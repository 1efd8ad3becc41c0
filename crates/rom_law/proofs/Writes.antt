-- Where an instruction of a straight piece of code writes, it writes after ticks too.
use Rattle.std.proofs.Common.{◌≡◌, ℕ, ◌<◌, sym, ◌∙◌, ap, ap₂, arith, true, false, ◌&&◌}
use Rattle.std.specs.Prelude.{◌==◌, Some, None}
use Rattle.std.proofs.lemmas.Bool.{and_parts}
use Rattle.machine.specs.Bank.{Word, value, up, get, put}
use Rattle.machine.specs.Board.{Machine, opcode_of}
use Rattle.machine.specs.Instruction.{Regs, Inputs, at, stepped, effect, executed}
use Rattle.machine.specs.Opcodes.{kind_of, opcode_number, cycles_of}
use Rattle.machine.specs.declared.Kind.{Kind}
use Rattle.machine.specs.declared.Kind.TheVariants.{Str, Inp, Stxd, Sav, Mark}
use Rattle.rom_law.specs.Code.{Code}
use Rattle.rom_law.specs.Later.{After, later_bank, later_regs, tones}
use Rattle.rom_law.proofs.Moves.{Below, Fine, Passable, in_rom, is_straight, opcode_in, opcode_is, rom_at, rom_inputs, after_counter}
use Rattle.rom_law.proofs.Passing.{Passes, first_of, second_of, true_from}
use Rattle.rom_law.proofs.Registers.{is_kept, is_plain, kept_of_plain, get-later, put-later, put-r8}

-- ---- by the kind

module _ (low n : ℕ) (v w : Word) (t : ℕ) (s : Regs) (i j : Inputs) (m top : ℕ) where
  abbrev S : Regs
  S = later_regs n v w t s

  address : (k : ℕ) → is_kept k ≡ true → at S k ≡ at s k
  address k e = ap value (get-later k n v w s.r e)

  some : (a b d : ℕ) (z : ℕ × ℕ) → Some (a, d) ≡ Some z → a ≡ b → b < top → z.0 < top
  some a b d z e is l = omega (arith, ap (λ (y : ℕ × ℕ). y.0) (same e), is, l)
    where
      same : Some (a, d) ≡ Some z → (a, d) ≡ z
      same k = cc

  nothing : {z : ℕ × ℕ} → None ≡ Some z → ⊥
  nothing k = cc

  below_later : (k : Kind) → Passes low k m s → Below (Some top) (effect k m s i).write → (z : ℕ × ℕ) → (effect k m S j).write ≡ Some z → z.0 < top
  below_later Str h b z e = some (at S m) (at s m) s.d z e (address m (true_from _ h)) b
  below_later Inp h b z e = some (at S s.x) (at s s.x) j.taken z e (address s.x (true_from _ h)) b
  below_later Stxd h b z e = some (at S s.x) (at s s.x) s.d z e (address s.x (first_of _ _ h)) b
  below_later Sav h b z e = absurd h
  below_later Mark h b z e = absurd h
  below_later _ h b z e = absurd (nothing e)

-- ---- by the instruction

module _ (x : Code) (n : ℕ) (b c : Machine) (g : Fine x b) (h : After x.low n b c) where
  pass : Passable x b
  pass = second_of (is_straight (kind_of (opcode_in x b)) (opcode_number (opcode_in x b)) && cycles_of (opcode_in x b) == 2) (Passable x b) g

  plain : is_plain b.regs.p ≡ true
  plain = (and_parts _ _ (first_of _ _ pass)).0

  inside : in_rom (get b.regs.r b.regs.p) ≡ true
  inside = (and_parts _ _ (first_of _ _ pass)).1

  same_pc : get c.regs.r c.regs.p ≡ get b.regs.r b.regs.p
  same_pc = after_counter x n b c g h

  op : opcode_of x.rom c ≡ opcode_in x b
  op = sym (opcode_is x c (ap in_rom same_pc ∙ inside)) ∙ ap (λ z. rom_at x.rom (value z)) same_pc

  kept : is_kept b.regs.p ≡ true
  kept = kept_of_plain b.regs.p plain

  fetched : stepped c.regs c.regs.p ≡ later_regs n c.regs.r.r0 c.regs.r.rf c.regs.t (stepped b.regs b.regs.p)
  fetched =
      ap (λ (z : Machine). stepped z.regs z.regs.p) h.is
      ∙ ap₂ (λ z y. record b.regs { r = z; t = c.regs.t; q = tones n y b.regs.q })
      (ap (λ z. put (later_bank n c.regs.r.r0 c.regs.r.rf b.regs.r) b.regs.p (up z)) (get-later b.regs.p n c.regs.r.r0 c.regs.r.rf b.regs.r kept)
      ∙ put-later b.regs.p n c.regs.r.r0 c.regs.r.rf b.regs.r _ kept)
      (sym (put-r8 b.regs.p b.regs.r _ kept))

  pub writes_below : (top : ℕ) → Below (Some top) (executed (opcode_in x b) (stepped b.regs b.regs.p) (rom_inputs x b (λ k. false))).write
      → (j : Inputs) (z : ℕ × ℕ) → (executed (opcode_of x.rom c) (stepped c.regs c.regs.p) j).write ≡ Some z → z.0 < top
  writes_below top below j z e =
      below_later x.low n c.regs.r.r0 c.regs.r.rf c.regs.t (stepped b.regs b.regs.p) (rom_inputs x b (λ k. false)) j
      (opcode_number (opcode_in x b)) top (kind_of (opcode_in x b)) (second_of _ _ pass) below z
      (sym (ap₂ (λ o s. (executed o s j).write) op fetched) ∙ e)
