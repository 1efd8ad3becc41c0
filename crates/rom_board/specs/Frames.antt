-- What holds of the states of a run up to its stop, frame by frame: in which cycles its interrupts come, and that 00E0 and DXYN change the screen
-- between two of them.
use Rattle.std.specs.Prelude.{◌≡◌, ℕ, suc, ◌≤◌, true, List}
use Rattle.machine.specs.Board.{Machine}
use Rattle.machine.specs.Keys.{Event as KeyEvent, held_at}
use Rattle.machine.specs.Pictures.{interrupt_at}
use Rattle.chip8_lang.specs.Events.{is_dispatch}
use Rattle.rom_law.specs.Program.{Program}
use Rattle.rom_law.specs.Rows.{Since}
use Rattle.rom_law.specs.Runs.{state_after, record_after}
use Rattle.rom_run.specs.Display.{AtDisplay, Changes, Display, SameInterval, WritesScreen}
use Rattle.rom_run.specs.Running.{Showing}
use Rattle.rom_run.specs.States.{InterruptedThere, IsInterruptCycle, ReachesCycle, Unstopped}
use Rattle.rom_run.specs.Time.{most_changing, since_return, wait_time}

-- as many main cycles have passed as the instruction makes before its wait
abbrev pub IsDue : Program → Since → Type 0
IsDue x h = h.spent ≡ wait_time x.edition h.state

module _ (x : Program) (script : List KeyEvent) where
  -- The screen in a run that begins at the dispatch point b.
  pub record ChangesBetween (b : Machine) : Type 0 where
    -- in the cycle of an interrupt the screen in RAM is that of the last dispatch point
    pub shows : (i : ℕ) → Unstopped x script b (suc i) → IsInterruptCycle (state_after x script b i).cycle
        → Showing x.edition (state_after x script b i) (record_after x script b i)
    -- main code waits in 00E0 and DXYN alone, after exactly the main cycles of their time, 102 and at most 2,154
    pub waits : (i : ℕ) → Unstopped x script b (suc i) → (state_after x script b i).regs.ie ≡ true → (state_after x script b i).regs.idle ≡ true
        → Display (record_after x script b i) (λ most. IsDue x (record_after x script b i) × ((record_after x script b i).spent ≤ most))
    -- it writes to the screen in them alone, at most 1,560 cycles after the return of the interrupt routine
    pub writes : (i : ℕ) → Unstopped x script b (suc i) → WritesScreen x (held_at script) (state_after x script b i)
        → Display (record_after x script b i) (λ most. since_return (state_after x script b i).cycle ≤ most_changing)
    -- From the end of the wait, or from the first write, up to the next dispatch point each move is an instruction, and no interrupt's cycle lies
    -- among them.
    pub changes : (j i : ℕ) → j ≤ i → Unstopped x script b (suc i) → SameInterval x script b j i → AtDisplay x script b j → Changes x script b j i

  -- The next move of a state up to the stop is an interrupt exactly in cycle 0 of a frame's line 78, and none of these cycles is passed over. From each
  -- dispatch point on the screen is changed between them.
  pub record KeepsFrames (first : Machine) : Type 0 where
    pub there : (i : ℕ) → Unstopped x script first (suc i) → InterruptedThere (state_after x script first i)
    pub none_missing : (i m : ℕ) → Unstopped x script first i → first.cycle ≤ interrupt_at m → interrupt_at m ≤ (state_after x script first i).cycle
        → ReachesCycle x script first i (interrupt_at m)
    pub between : (i : ℕ) → Unstopped x script first (suc i) → is_dispatch x.interpreter (state_after x script first i) ≡ true
        → ChangesBetween (state_after x script first i)
