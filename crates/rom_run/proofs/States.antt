-- Each state of a run up to its stop is known, and the interrupts come exactly where they should.
use Rattle.std.proofs.Common.{◌≡◌, ℕ, zero, suc, ◌+◌, ◌-◌, ◌/◌, ◌<◌, ◌≤◌, ◌⊎◌, inl, inr, refl, sym, ◌∙◌, subst, arith, Bool, true, false, if◌then◌else◌, ◌&&◌, List, length, slice_index}
use Rattle.std.proofs.lemmas.Bool.{cases_Bool, cases_eq, cases_lt}
use Rattle.machine.specs.Board.{Machine, Case, case_of, start}
use Rattle.machine.specs.Board.Case.{Dma, Interrupt, Idle, Instruction}
use Rattle.machine.specs.Keys.{Event, held_at}
use Rattle.machine.specs.Pictures.{interrupt_at, place, interrupt_place}
use Rattle.machine.specs.Signals.{int_at, dma_at}
use Rattle.chip8_lang.specs.declared.view.Edition.{Edition}
use Rattle.chip8_lang.specs.State.{memory_size}
use Rattle.rom_law.specs.Rows.{Since}
use Rattle.rom_law.specs.Runs.{state_after, record_after}
use Rattle.rom_law.proofs.Ahead.{later_cycle}
use Rattle.rom_law.proofs.Carried.{disabled_apart}
use Rattle.rom_law.proofs.Kept.{row_runs}
use Rattle.rom_law.proofs.States.{holds_after, holds_behind, since_dispatch}
use Rattle.rom_rows.specs.Rom.{image, vip}
use Rattle.rom_rows.specs.Table.{pieces}
use Rattle.rom_parts.specs.fetch.Laws.{boot_moves}
use Rattle.rom_parts.proofs.timer.Frame.{calm, case_accepts, case_runs, case_waits}
use Rattle.rom_run.specs.Laws.{EveryState, EveryInterrupt, NoneMissing}
use Rattle.rom_run.specs.Running.{Running, Booting}
use Rattle.rom_run.specs.Running.Outside.{AtRow, AtEvent}
use Rattle.rom_run.specs.Running.Running.{InMain, InRoutine}
use Rattle.rom_run.specs.States.{MayStart, Beginning, StateKnown, Unstopped, IsInterruptCycle, InterruptedThere, ReachesCycle}
use Rattle.rom_run.specs.States.Beginning.{AtReset, AtStart}
use Rattle.rom_run.specs.States.StateKnown.{InBoot, Runs}
use Rattle.rom_run.proofs.Moves.{board_moves, interrupted}
use Rattle.rom_run.proofs.Pictures.{stops_before}
use Rattle.rom_run.proofs.Proved.{proved}
use Rattle.rom_run.proofs.Run.{boot, booted, starts_event, starts_running}
use Rattle.rom_run.proofs.WholeTick.{main_there, served_disabled}

-- ---- each state is known

module _ (e : Edition) (script : List Event) (game : List ℕ) (small : length game ≤ memory_size e) (bytes : (i : ℕ) → slice_index game i < 256) where
  abbrev at : ℕ → Machine
  at n = state_after (vip e) script (start game) n

  abbrev RunsAt : ℕ → Type 0
  RunsAt n = Running e script (at n) (record_after (vip e) script (start game) n)

  -- where boot ends
  first_runs : (n : ℕ) → suc n ≡ boot_moves → RunsAt (suc n)
  first_runs n last =
      subst (Running e script (at (suc n)))
      (sym (since_dispatch (vip e) script (Running e script) (board_moves e script) (start game) n (starts_event e script (at (suc n)) starts).0))
      (starts_running e script (at (suc n)) starts)
    where
      starts : MayStart e (at (suc n))
      starts = subst (λ k. MayStart e (at k)) (sym last) (booted e game small bytes script).starts

  pub reset_known : (i : ℕ) → Unstopped (vip e) script (start game) (suc i) → StateKnown e script (start game) i
  reset_known i u = go (cases_lt i boot_moves)
    where
      go : (i < boot_moves) ⊎ (boot_moves ≤ i) → StateKnown e script (start game) i
      go (inl l) = InBoot game refl l (record { room = small; bytes = bytes; k = i; inside = l; is = refl })
      go (inr l) =
          Runs (subst RunsAt split (holds_behind (vip e) script (Running e script) (board_moves e script) (start game) boot_moves (first_runs 27 refl)
          (i - boot_moves) (λ j k. u j (omega (arith, k, l)))))
        where
          split : boot_moves + (i - boot_moves) ≡ i
          split = omega (arith, l)

pub every_state : EveryState
every_state e script _ (AtReset game small bytes) i u = reset_known e script game small bytes i u
every_state e script _ (AtStart b m) i u = Runs (holds_after (vip e) script (Running e script) (board_moves e script) b (starts_running e script b m) i u)

-- ---- the interrupts

other : {j k : Case} → j ≡ k → j ≡ Interrupt → (k ≡ Interrupt → ⊥) → ⊥
other is i d = d (sym is ∙ i)

no_instruction : Instruction ≡ Interrupt → ⊥
no_instruction k = cc

no_idle : Idle ≡ Interrupt → ⊥
no_idle k = cc

-- none is asked for before its place in the frame
none_asked : (t : ℕ) (on : Bool) → place t < interrupt_place → int_at t on ≡ false
none_asked t false l = refl
none_asked t true l = calm t (inl (omega (arith, l))) (λ k. omega (arith, l, k))

never_taken : (d ie i w : Bool) → i ≡ false → (if d then Dma else if ie && i then Interrupt else if w then Idle else Instruction) ≡ Interrupt → ⊥
never_taken true ie i w e k = cc
never_taken false true true w e k = cc
never_taken false true false true e k = cc
never_taken false true false false e k = cc
never_taken false false i true e k = cc
never_taken false false i false e k = cc

in_frame : (t : ℕ) → place t ≡ interrupt_place → IsInterruptCycle t
in_frame t p = (t / 3668, omega (arith, p))

pub its_place : (t : ℕ) → IsInterruptCycle t → place t ≡ interrupt_place
its_place t (m, is) = omega (arith, is)

module _ (e : Edition) (script : List Event) (b : Machine) (h : Since) where
  pub taken_there : Running e script b h → case_of b ≡ Interrupt → place b.cycle ≡ interrupt_place
  taken_there (InMain (AtRow t row n time)) k = go (cases_eq (place b.cycle) interrupt_place) (cases_Bool b.regs.idle)
    where
      on : b.on ≡ true
      on = (row_runs (vip e) (pieces (vip e)) (proved e) b h t.fits row).on

      enabled : b.regs.ie ≡ true
      enabled = (row_runs (vip e) (pieces (vip e)) (proved e) b h t.fits row).enabled

      go : (place b.cycle ≡ interrupt_place) ⊎ (place b.cycle ≡ interrupt_place → ⊥) → (b.regs.idle ≡ true) ⊎ (b.regs.idle ≡ false)
          → place b.cycle ≡ interrupt_place
      go (inl p) i = p
      go (inr d) (inl i) = absurd (other (case_waits b on enabled t.outside d i) k no_idle)
      go (inr d) (inr i) = absurd (other (case_runs b on enabled t.outside d i) k no_instruction)
  taken_there (InMain (AtEvent t p d late y)) k = p
  taken_there (InRoutine s) k = absurd (disabled_apart b (served_disabled e script b h s) k)

  pub there_taken : Running e script b h → place b.cycle ≡ interrupt_place → case_of b ≡ Interrupt
  there_taken r p = let i = interrupted e script b h (b.cycle / 3668) (main_there e script b h r p) (omega (arith, p)) in case_accepts b i.on i.enabled p

  pub interrupted_there : Running e script b h → InterruptedThere b
  interrupted_there r = (λ k. in_frame b.cycle (taken_there r k), λ k. there_taken r (its_place b.cycle k))

-- boot ends long before the first one
boot_early : (e : Edition) (script : List Event) (game : List ℕ) (i : ℕ) → i < boot_moves
    → Booting e script game (state_after (vip e) script (start game) i) → (state_after (vip e) script (start game) (suc i)).cycle ≤ 56
boot_early e script game i l b =
    omega (
      arith,
      later_cycle (image e) (held_at script) (start game) (suc i) boot_moves (omega
          (arith, l)),
      (boot e game b.room b.bytes script).cycle,
    )

early_apart : (b : Machine) → b.cycle ≤ 56 → InterruptedThere b
early_apart b l = (
  λ k. absurd (never_taken (dma_at b.cycle b.on) b.regs.ie (int_at b.cycle b.on) b.regs.idle (none_asked b.cycle b.on (omega (arith, l))) k),
  λ k. absurd (omega (arith, l, k.1)),
)

module _ (e : Edition) (script : List Event) (first : Machine) where
  abbrev after : ℕ → Machine
  after n = state_after (vip e) script first n

  -- a state of boot, and the next one
  early : (game : List ℕ) (i : ℕ) → first ≡ start game → i < boot_moves → Booting e script game (after i) → (after (suc i)).cycle ≤ 56
  early game i is l b =
      subst (λ z. Booting e script game (state_after (vip e) script z i) → (state_after (vip e) script z (suc i)).cycle ≤ 56) (sym is)
      (boot_early e script game i l) b

  known_apart : (i : ℕ) → StateKnown e script first i → InterruptedThere (after i)
  known_apart i (InBoot game is l b) =
      early_apart (after i) (omega (arith, early game i is l b, later_cycle (image e) (held_at script) first i (suc i) (omega arith)))
  known_apart i (Runs r) = interrupted_there e script (after i) (record_after (vip e) script first i) r

  -- no move goes past one
  not_past : (i m : ℕ) → StateKnown e script first i → (after i).cycle < interrupt_at m → (after (suc i)).cycle ≤ interrupt_at m
  not_past i m (InBoot game is l b) k = omega (arith, early game i is l b)
  not_past i m (Runs r) k = stops_before e script (after i) (record_after (vip e) script first i) m r k

  meets : Beginning e first → (i : ℕ) → Unstopped (vip e) script first i → (m : ℕ) → first.cycle ≤ interrupt_at m → interrupt_at m ≤ (after i).cycle
      → ReachesCycle (vip e) script first i (interrupt_at m)
  meets begins zero u m from to = record { j = 0; up_to = omega arith; cycle = omega (arith, from, to) }
  meets begins (suc i) u m from to = go (cases_lt (after i).cycle (interrupt_at m)) (meets begins i (λ j k. u j (omega (arith, k))) m from)
    where
      go : ((after i).cycle < interrupt_at m) ⊎ (interrupt_at m ≤ (after i).cycle)
          → (interrupt_at m ≤ (after i).cycle → ReachesCycle (vip e) script first i (interrupt_at m)) → ReachesCycle (vip e) script first (suc i) (interrupt_at m)
      go (inl past) before = record { j = suc i; up_to = omega arith; cycle = omega (arith, to, not_past i m (every_state e script first begins i u) past) }
      go (inr by) before = let o = before by in record { j = o.j; up_to = omega (arith, o.up_to); cycle = o.cycle }

pub every_interrupt : EveryInterrupt
every_interrupt e script first begins i u = known_apart e script first i (every_state e script first begins i u)

pub none_missing : NoneMissing
none_missing e script first begins i u m from to = meets e script first begins i u m from to
