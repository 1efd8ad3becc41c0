-- Runs from one start under two scripts that hold the same keys before a state's cycle are the same up to that state.
use Rattle.std.proofs.Common.{◌≡◌, ℕ, zero, suc, ◌+◌, ◌<◌, ◌≤◌, List, [], ◌∷◌, ◌++◌, refl, sym, ap, ◌∙◌, arith}
use Rattle.machine.specs.Board.{Machine, Case, acted, byte_of, case_of, flags_of, move, moved_in, opcode_of}
use Rattle.machine.specs.Board.Case.{Dma, Interrupt, Idle, Instruction}
use Rattle.machine.specs.Instruction.{instruction}
use Rattle.machine.specs.Keys.{Event as KeyEvent, Keys, held_at}
use Rattle.machine.specs.Opcodes.{cycles_of}
use Rattle.machine.specs.Run.{after_moves}
use Rattle.machine.specs.Signals.{efx_at}
use Rattle.chip8_lang.specs.Events.{Event, pictures_at}
use Rattle.chip8_lang.specs.Places.{Interpreter}
use Rattle.vip_board.proofs.Along.{in-turn, states-more}
use Rattle.vip_relation.specs.Points.{point_of, point_events}
use Rattle.vip_relation.specs.State.{Start, machine_of}
use Rattle.vip_relation.proofs.Past.{before, earlier, past, pictures, point, state}

two_cycles : (byte : ℕ) → 2 ≤ cycles_of byte
two_cycles byte = grind arith

module _ (rom : List ℕ) (held other : ℕ → Keys) where
  -- an instruction has the keys of the cycle after its fetch, before it ends
  same_in : (k : Case) (b : Machine) → ((c key : ℕ) → c < (moved_in k rom held b).cycle → held c key ≡ other c key)
      → moved_in k rom other b ≡ moved_in k rom held b
  same_in Dma b agree = refl
  same_in Interrupt b agree = refl
  same_in Idle b agree = refl
  same_in Instruction b agree =
      ap (λ down. record (acted (instruction b.regs (byte_of rom b) (flags_of (efx_at (b.cycle + 1) b.on) down) 0) b) {
        cycle = b.cycle + cycles_of (opcode_of rom b);
      }) (sym (agree (b.cycle + 1) b.key (omega (arith, two_cycles (opcode_of rom b)))))

  pub same_states : (n : ℕ) (b : Machine) → ((c key : ℕ) → c < (after_moves rom held b n).cycle → held c key ≡ other c key) → (k : ℕ) → k ≤ n
      → after_moves rom other b k ≡ after_moves rom held b k
  same_states n b agree zero order = refl
  same_states n b agree (suc k) order =
      ap (move rom other) (same_states n b agree k (omega (arith, order)))
      ∙ same_in (case_of (after_moves rom held b k)) (after_moves rom held b k)
      (λ c key low. agree c key (omega (arith, low, in-turn rom held n (suc k) b order)))

module _ (i : Interpreter) (s : Start) (script other : List KeyEvent) (n : ℕ)
    (agree : (c key : ℕ) → c < (state i s script n).cycle → held_at script c key ≡ held_at other c key) where
  pub state-same : (k : ℕ) → k ≤ n → state i s other k ≡ state i s script k
  state-same k order = same_states i.rom (held_at script) (held_at other) n (machine_of s) agree k order

  earlier_same : (k : ℕ) → k ≤ n → earlier i s other k ≡ earlier i s script k
  earlier_same zero order = refl
  earlier_same (suc k) order =
      states-more i.rom (held_at other) k (machine_of s)
      ∙ ap (λ (bs : List Machine). bs ++ state i s other k ∷ []) (earlier_same k (omega (arith, order)))
      ∙ ap (λ b. earlier i s script k ++ b ∷ []) (state-same k (omega (arith, order)))
      ∙ sym (states-more i.rom (held_at script) k (machine_of s))

  before_same : (k : ℕ) → k ≤ n → before i s other k ≡ before i s script k
  before_same zero order = refl
  before_same (suc k) order = ap (λ (b : Machine). b.cycle) (state-same k (omega (arith, order)))

  pictures_same : (k : ℕ) → k ≤ n → pictures i s other k ≡ pictures i s script k
  pictures_same k order =
      ap (λ (bs : List Machine). pictures_at i bs (before i s other k) (state i s other k).cycle) (earlier_same k order)
      ∙ ap (λ t. pictures_at i (earlier i s script k) t (state i s other k).cycle) (before_same k order)
      ∙ ap (λ (b : Machine). pictures_at i (earlier i s script k) (before i s script k) b.cycle) (state-same k order)

  point_same : (k : ℕ) → k ≤ n → point i s other k ≡ point i s script k
  point_same zero order = refl
  point_same (suc k) order = ap (λ b. point_events (point_of i b) b) (state-same (suc k) order)

  -- the events of the states up to the n-th
  pub past-same : (k : ℕ) → k ≤ suc n → past i s other k ≡ past i s script k
  unfolding past
  past-same zero order = refl
  past-same (suc k) order =
      let below : k ≤ n = omega (arith, order) in
      ap (λ (es : List Event). es ++ pictures i s other k ++ point i s other k) (past-same k (omega (arith, order)))
      ∙ ap (λ (es : List Event). past i s script k ++ es ++ point i s other k) (pictures_same k below)
      ∙ ap (λ (es : List Event). past i s script k ++ pictures i s script k ++ es) (point_same k below)
