-- The time since the last dispatch point: how many interrupts fall into it, and that the next event comes within its bound.
use Rattle.std.proofs.Common.{◌≡◌, ℕ, ◌+◌, ◌-◌, ◌*◌, ◌/◌, ◌<◌, ◌≤◌, ◌⊎◌, inl, inr, arith, List}
use Rattle.std.proofs.lemmas.Bool.{cases_eq}
use Rattle.machine.specs.Opcodes.{cycles_of}
use Rattle.machine.specs.Board.{Machine, Case, case_of, move, length_in}
use Rattle.machine.specs.Board.Case.{Instruction}
use Rattle.machine.specs.Keys.{Keys}
use Rattle.machine.specs.Pictures.{frame, place, interrupt_place}
use Rattle.machine.proofs.Runs.{cycle-move}
use Rattle.chip8_lang.specs.Between.{ticks_between}
use Rattle.chip8_lang.proofs.Ticks.{ticks_counted}
use Rattle.chip8_lang.specs.Timed.{routine_cycles}
use Rattle.rom_parts.specs.timer.Frame.{IsOutside}
use Rattle.rom_run.specs.Time.{Suffices, since_window, most_wait}

-- the last interrupt before c was so long ago
window_passed : (c k : ℕ) → IsOutside c → k ≡ (c - 1 + 2576) / 3668 → 0 < k → 3668 * k ≤ c + 756
window_passed c k (inl h) e some = omega arith
window_passed c k (inr h) e some = omega arith

-- q interrupts, in a time of which m cycles are none of the routine
few_ticks : (a c q m : ℕ) → q ≡ ticks_between a c → IsOutside c → c ≡ a + m + routine_cycles * q → (frame - routine_cycles) * q < m + most_wait
few_ticks a c q m e out is = go (cases_eq q 0)
  where
    go : (q ≡ 0) ⊎ (q ≡ 0 → ⊥) → (frame - routine_cycles) * q < m + most_wait
    go (inl z) = omega (arith, z)
    go (inr d) = omega (arith, is, e, ticks_counted a c, d, window_passed c ((c - 1 + 2576) / 3668) out refl_is (omega (arith, e, ticks_counted a c, d)))
      where
        refl_is : (c - 1 + 2576) / 3668 ≡ (c - 1 + 2576) / 3668
        refl_is = omega arith

-- so the end of that time is within the bound
pub within : (a c q m bound : ℕ) → q ≡ ticks_between a c → IsOutside c → c ≡ a + m + routine_cycles * q → Suffices bound m → c ≤ a + bound
within a c q m bound e out is s = omega (arith, is, s.all, at_most)
  where
    at_most : q ≤ s.interrupts
    at_most = omega (arith, few_ticks a c q m e out is, s.few)

pub waits_more : (t : ℕ) → IsOutside t → (place t ≡ interrupt_place → ⊥) → since_window (t + 1) ≡ since_window t + 1
waits_more t (inl h) d = omega (arith, h, d)
waits_more t (inr h) d = omega (arith, h)

pub waits_most : (t : ℕ) → IsOutside t → since_window t ≤ most_wait
waits_most t (inl h) = omega (arith, h)
waits_most t (inr h) = omega (arith, h)

-- a move takes three cycles at most
few_cycles : (byte : ℕ) → cycles_of byte ≤ 3
few_cycles byte = grind arith

pub few_in : (k : Case) (rom : List ℕ) (b : Machine) → length_in k rom b ≤ 3
few_in Instruction rom b = few_cycles _
few_in _ rom b = omega arith

pub few_later : (rom : List ℕ) (held : ℕ → Keys) (b : Machine) → (move rom held b).cycle ≤ b.cycle + 3
few_later rom held b = omega (arith, cycle-move rom held b, few_in (case_of b) rom b)
