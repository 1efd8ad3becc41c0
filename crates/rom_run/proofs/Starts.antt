-- The dispatch points of a run may start a run.
use Rattle.std.proofs.Common.{◌≡◌, ◌⊎◌, inl, inr, ℕ, zero, suc, ◌<◌, ◌≤◌, ◌&&◌, Bool, true, false, List, refl, sym, ◌∙◌, subst, arith}
use Rattle.machine.specs.Board.{Machine, Case, case_of, start}
use Rattle.machine.specs.Board.Case.{Interrupt, Instruction}
use Rattle.machine.specs.Keys.{Event, held_at}
use Rattle.machine.specs.Pictures.{place, interrupt_place, window_place}
use Rattle.chip8_lang.specs.declared.view.Edition.{Edition}
use Rattle.chip8_lang.specs.Events.{is_dispatch, is_instruction}
use Rattle.chip8_lang.specs.State.{Lang}
use Rattle.rom_law.specs.Program.{Dispatches}
use Rattle.rom_law.specs.Rows.{Since}
use Rattle.rom_law.specs.Runs.{Moves, state_after, record_after, carried}
use Rattle.rom_law.specs.Runs.Moves.{Still, Arrived, Halted}
use Rattle.rom_rows.specs.Rom.{vip, image}
use Rattle.rom_parts.specs.timer.Frame.{IsOutside}
use Rattle.rom_run.specs.Running.{Running, Interval, FromBoot}
use Rattle.rom_run.specs.Running.Running.{InMain, InRoutine}
use Rattle.rom_run.specs.Running.Outside.{AtRow, AtEvent}
use Rattle.rom_run.specs.Running.FromBoot.{Boots, Begins}
use Rattle.rom_run.specs.States.{MayStart, Beginning, Unstopped, StateKnown}
use Rattle.rom_run.specs.States.Beginning.{AtReset, AtStart}
use Rattle.rom_run.specs.States.StateKnown.{InBoot, Runs}
use Rattle.rom_run.proofs.Parts.{boot_rows}
use Rattle.rom_run.proofs.Moves.{board_moves}
use Rattle.rom_run.proofs.WholeTick.{served_disabled}
use Rattle.rom_run.proofs.States.{every_state, there_taken}
use Rattle.rom_run.proofs.Waits.{sleeps}

apart : Instruction ≡ Interrupt → ⊥
apart h = cc

module _ (e : Edition) (script : List Event) (c : Machine) (h : Since) (s : Lang) (dispatch : is_dispatch (vip e).interpreter c ≡ true)
    (stands : Dispatches (vip e) c s) where
  is_instruction_there : case_of c ≡ Instruction
  is_instruction_there = of (case_of c) (first_of (is_instruction (case_of c)) _ _ dispatch)
    where
      first_of : (x y z : Bool) → ((x && y) && z) ≡ true → x ≡ true
      first_of true y z d = refl
      first_of false y z d = cc

      of : (k : Case) → is_instruction k ≡ true → k ≡ Instruction
      of Instruction d = refl
      of Case.Dma d = cc
      of Case.Interrupt d = cc
      of Case.Idle d = cc

  not_there : Running e script c h → place c.cycle ≡ interrupt_place → ⊥
  not_there r p = apart (sym is_instruction_there ∙ there_taken e script c h r p)

  begins : Interval e script c h → (place c.cycle ≡ interrupt_place → ⊥) → MayStart e c
  begins t d =
      record {
        fits = t.fits;
        stands = subst (Dispatches (vip e) c) (sym stands.keeps.lies.is) stands;
        even = t.even stands.keeps.lies.awake;
        outside = go t.outside;
      }
    where
      go : IsOutside c.cycle → (place c.cycle < interrupt_place) ⊎ (window_place ≤ place c.cycle)
      go (inl l) = inl (omega (arith, l, d))
      go (inr l) = inr l

  may_start : Running e script c h → MayStart e c
  may_start (InMain (AtRow t row n time)) = begins t (not_there (InMain (AtRow t row n time)))
  may_start (InMain (AtEvent t p d late y)) = absurd (not_there (InMain (AtEvent t p d late y)) p)
  may_start (InRoutine o) = absurd (sleeps (sym stands.keeps.lies.enabled ∙ served_disabled e script c h o))

module _ (e : Edition) (script : List Event) (first : Machine) where
  abbrev at : ℕ → Machine
  at n = state_after (vip e) script first n

  abbrev Arrives : ℕ → Type 0
  Arrives n = is_dispatch (vip e).interpreter (at n) ≡ true

  next_starts : (j : ℕ) → Unstopped (vip e) script first (suc (suc j)) → Arrives (suc j) → StateKnown e script first j → MayStart e (at (suc j))
  next_starts j u dispatch (InBoot game is few boots) = from_boot (boot_rows e script game (at j) boots)
    where
      from_boot : FromBoot e script game (at (suc j)) → MayStart e (at (suc j))
      from_boot (Boots d s b) = absurd (sleeps (sym dispatch ∙ d))
      from_boot (Begins d s t stands r) = may_start e script (at (suc j)) _ _ dispatch stands r
  next_starts j u dispatch (Runs r) = from_move (board_moves e script (at j) (record_after (vip e) script first j) r)
    where
      from_move : Moves (vip e) script (Running e script) (carried (image e) (held_at script) (at j) (record_after (vip e) script first j)) (at (suc j))
          → MayStart e (at (suc j))
      from_move (Still d s r') = absurd (sleeps (sym dispatch ∙ d))
      from_move (Arrived d s covers step due r') = may_start e script (at (suc j)) _ _ dispatch step.stands r'
      from_move (Halted s covers stop stopped cycle) = absurd (sleeps (sym s ∙ u (suc j) (omega arith)))

-- reset is none
not_reset : (e : Edition) (game : List ℕ) → is_dispatch (vip e).interpreter (start game) ≡ true → ⊥
not_reset e game h = cc

pub dispatch_starts : (e : Edition) (script : List Event) (first : Machine) → Beginning e first → (n : ℕ) → Unstopped (vip e) script first (suc n)
    → is_dispatch (vip e).interpreter (state_after (vip e) script first n) ≡ true → MayStart e (state_after (vip e) script first n)
dispatch_starts e script _ (AtReset game small bytes) zero u dispatch = absurd (not_reset e game dispatch)
dispatch_starts e script _ (AtStart b may) zero u dispatch = may
dispatch_starts e script first begins (suc j) u dispatch =
    next_starts e script first j u dispatch (every_state e script first begins j (λ k l. u k (omega (arith, l))))
