-- Which states of a run are dispatch and stop points: those where the program counter says so and the next move is an instruction.
use Rattle.std.proofs.Common.{◌≡◌, ℕ, refl, ap, Bool, true, false, ◌||◌, ◌&&◌}
use Rattle.std.specs.Prelude.{◌==◌}
use Rattle.machine.specs.Board.{Machine, case_of}
use Rattle.machine.specs.Board.Case.{Instruction}
use Rattle.chip8_lang.specs.Events.{is_instruction, is_at, is_dispatch, is_stop}
use Rattle.rom_law.specs.Code.{is_by, is_event}
use Rattle.rom_law.specs.Program.{Program, code}

and_true : (t u v : Bool) → t ≡ true → (t && u && v) ≡ (u && v)
and_true t u v e = rw e refl

and_false : (t u v : Bool) → t ≡ false → (t && u && v) ≡ false
and_false t u v e = rw e refl

and_neither : (t u v : Bool) → (u && v) ≡ false → (t && u && v) ≡ false
and_neither true u v e = e
and_neither false u v e = refl

pub neither : (t u : Bool) → (t || u) ≡ false → (t ≡ false) × (u ≡ false)
neither true u e = cc
neither false u e = (refl, e)

pub other_pc : (t : Bool) {n m : ℕ} (k : ℕ) → n ≡ m → (m == k) ≡ false → ((n == k) && t) ≡ false
other_pc t k e d = rw (e, d) refl

module _ (b : Machine) where
  pub at_instruction : case_of b ≡ Instruction → (p a : ℕ) → is_at p a b ≡ is_by p a b
  at_instruction e p a = and_true (is_instruction (case_of b)) (b.regs.p == p) _ (ap is_instruction e)

  pub at_other : is_instruction (case_of b) ≡ false → (p a : ℕ) → is_at p a b ≡ false
  at_other e p a = and_false (is_instruction (case_of b)) (b.regs.p == p) _ e

  -- neither a dispatch nor a stop point, whatever the next move is
  pub calm_points : (x : Program) → is_event (code x) b ≡ false → (is_dispatch x.interpreter b ≡ false) × (is_stop x.interpreter b ≡ false)
  calm_points x e = (
    and_neither (is_instruction (case_of b)) (b.regs.p == 4) _ (neither _ _ e).0,
    and_neither (is_instruction (case_of b)) (b.regs.p
        == 3) _ (neither _ _ e).1,
  )
