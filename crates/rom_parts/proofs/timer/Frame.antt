-- The signals at the places of a frame, and the move that the board makes there.
use Rattle.std.proofs.Common.{List, ◌≡◌, ℕ, ◌+◌, ◌*◌, ◌/◌, ◌<◌, ◌≤◌, ◌⊎◌, inl, inr, refl, ◌∙◌, ap, arith, Bool, true, false, ◌&&◌}
use Rattle.std.proofs.lemmas.Bool.{le-ltb, le-leb, lt-leb, cases_eq, cases_Bool}
use Rattle.machine.specs.Instruction.{interrupted}
use Rattle.machine.specs.Signals.{line_of, dma_at, int_at, efx_at}
use Rattle.machine.specs.Opcodes.{cycles_of}
use Rattle.machine.specs.Board.{Machine, case_of, move, main_move, opcode_of}
use Rattle.machine.specs.Board.Case.{Interrupt, Idle, Instruction}
use Rattle.machine.specs.Keys.{Keys}
use Rattle.machine.proofs.Moves.{case_instruction, case_interrupt, case_idle, move_in}
use Rattle.machine.specs.Pictures.{place, interrupt_place, window_place}
use Rattle.rom_parts.specs.timer.Frame.{IsOutside, Makes, EveryMove, KeepsPlace, KeepsWaiting}
use Rattle.rom_parts.specs.timer.Frame.Makes.{Runs, Waits, Accepts}

-- ---- where a frame lies in lines

line_before : (t : ℕ) → place t < interrupt_place → line_of t < 78
line_before t h = omega arith

line_there : (t : ℕ) → place t ≡ interrupt_place → line_of t ≡ 78
line_there t h = omega arith

line_behind : (t : ℕ) → window_place ≤ place t → 208 ≤ line_of t
line_behind t h = omega arith

line_outside : (t : ℕ) → IsOutside t → (line_of t < 80) ⊎ (208 ≤ line_of t)
line_outside t (inl h) = inl (omega arith)
line_outside t (inr h) = inr (line_behind t h)

-- DMA is wanted in the lines of the window alone
pub no_dma_in : (t : ℕ) → (line_of t < 80) ⊎ (208 ≤ line_of t) → dma_at t true ≡ false
no_dma_in t (inl l) = rw (lt-leb 80 (line_of t) l) refl
no_dma_in t (inr l) = rw (le-leb 80 (line_of t) (omega arith), le-ltb (line_of t) 208 l) refl

no_dma : (t : ℕ) (on : Bool) → IsOutside t → dma_at t on ≡ false
no_dma t false h = refl
no_dma t true h = no_dma_in t (line_outside t h)

pub calm : (t : ℕ) → IsOutside t → (place t ≡ interrupt_place → ⊥) → int_at t true ≡ false
calm t (inl h) d = rw (lt-leb 78 (line_of t) (line_before t (omega (arith, d)))) refl
calm t (inr h) d = rw (le-leb 78 (line_of t) (omega (arith, line_behind t h)), le-ltb (line_of t) 80 (omega (arith, line_behind t h))) refl

asked : (t : ℕ) → place t ≡ interrupt_place → int_at t true ≡ true
asked t h = rw (line_there t h) refl

-- ---- the move

-- where the display is on and interrupts are enabled
module _ (b : Machine) (on : b.on ≡ true) (ie : b.regs.ie ≡ true) where
  no_wish : IsOutside b.cycle → dma_at b.cycle b.on ≡ false
  no_wish out = no_dma b.cycle b.on out

  no_interrupt : IsOutside b.cycle → (place b.cycle ≡ interrupt_place → ⊥) → (b.regs.ie && int_at b.cycle b.on) ≡ false
  no_interrupt out d = rw (ie, on) (calm b.cycle out d)

  pub case_accepts : place b.cycle ≡ interrupt_place → case_of b ≡ Interrupt
  case_accepts e = case_interrupt b (no_wish (inl (omega (arith, e)))) (rw (ie, on) (asked b.cycle e))

  pub case_runs : IsOutside b.cycle → (place b.cycle ≡ interrupt_place → ⊥) → b.regs.idle ≡ false → case_of b ≡ Instruction
  case_runs out d i = case_instruction b (no_wish out) (no_interrupt out d) i

  pub case_waits : IsOutside b.cycle → (place b.cycle ≡ interrupt_place → ⊥) → b.regs.idle ≡ true → case_of b ≡ Idle
  case_waits out d i = case_idle b (no_wish out) (no_interrupt out d) i

-- the interrupt
pub accepted : (rom : List ℕ) (held : ℕ → Keys) (b : Machine) → b.on ≡ true → b.regs.ie ≡ true → place b.cycle ≡ interrupt_place
    → move rom held b ≡ record b { regs = interrupted b.regs; cycle = b.cycle + 1 }
accepted rom held b on ie e = move_in rom held b Interrupt (case_accepts b on ie e)

pub every_move : EveryMove
every_move rom held b on ie out = go (cases_eq (place b.cycle) interrupt_place) (cases_Bool b.regs.idle)
  where
    at_place : place b.cycle ≡ interrupt_place → b.cycle ≡ 3668 * (b.cycle / 3668) + 78 * 14
    at_place e = omega arith

    go : (place b.cycle ≡ interrupt_place) ⊎ (place b.cycle ≡ interrupt_place → ⊥) → (b.regs.idle ≡ true) ⊎ (b.regs.idle ≡ false)
        → Makes rom held b (move rom held b)
    go (inl e) i = Accepts (at_place e) (accepted rom held b on ie e)
    go (inr d) (inl i) = Waits d i (move_in rom held b Idle (case_waits b on ie out d i))
    go (inr d) (inr i) =
        Runs d i (move_in rom held b Instruction (case_runs b on ie out d i)
        ∙ ap (λ o. record (main_move rom (efx_at (b.cycle + 1) o) (held (b.cycle + 1)) b) { cycle = b.cycle + cycles_of (opcode_of rom b) }) on)

-- ---- the places that follow

pub keeps_place : KeepsPlace
keeps_place t p d = record { outside = go p.outside; even = omega (arith, p.even) }
  where
    go : IsOutside t → IsOutside (t + 2)
    go (inl h) = inl (omega (arith, p.even, d))
    go (inr h) = grind arith

pub keeps_waiting : KeepsWaiting
keeps_waiting t (inl h) d = inl (omega (arith, d))
keeps_waiting t (inr h) d = grind arith
