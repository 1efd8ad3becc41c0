-- The states of a run, from reset or from any machine that may start: what is known of each of them up to the stop, and which moves are interrupts.
use Rattle.std.specs.Prelude.{◌≡◌, ℕ, ◌%◌, ◌<◌, ◌≤◌, ◌⊎◌, ◌↔◌, false, List, length, slice_index}
use Rattle.machine.specs.Board.{Machine, case_of, start}
use Rattle.machine.specs.Board.Case.{Interrupt}
use Rattle.machine.specs.Keys.{Event}
use Rattle.machine.specs.Pictures.{interrupt_at, place, interrupt_place, window_place}
use Rattle.machine.specs.Ranges.{FitsMachine}
use Rattle.chip8_lang.specs.declared.view.Edition.{Edition}
use Rattle.chip8_lang.specs.Events.{is_stop}
use Rattle.chip8_lang.specs.State.{first, memory_size}
use Rattle.rom_law.specs.Program.{Program, Dispatches}
use Rattle.rom_law.specs.Runs.{state_at, state_after, record_after}
use Rattle.rom_rows.specs.Rom.{vip}
use Rattle.rom_parts.specs.fetch.Laws.{boot_moves}
use Rattle.rom_run.specs.Running.{Running, Booting}

-- ---- where a run may begin

-- The machine is at a dispatch point, and stands for the language state that lies in it. Its cycle is even, and lies in the frame before the
-- interrupt, or behind the window.
pub record MayStart (e : Edition) (b : Machine) : Type 0 where
  pub fits : FitsMachine b
  pub stands : Dispatches (vip e) b (state_at (vip e) b)
  pub even : b.cycle % 2 ≡ 0
  pub outside : (place b.cycle < interrupt_place) ⊎ (window_place ≤ place b.cycle)

-- A run begins at reset, with a game that fits into game memory, or at a machine that may start.
pub data Beginning (e : Edition) : Machine → Type 0 where
  AtReset : (game : List ℕ) → length game ≤ memory_size e → ((i : ℕ) → slice_index game i < 256) → Beginning e (start game)
  AtStart : (b : Machine) → MayStart e b → Beginning e b

-- boot comes to such a machine, which stands for the game's first state
pub record BootsTo (e : Edition) (game : List ℕ) (b : Machine) : Type 0 where
  pub starts : MayStart e b
  pub first_is : state_at (vip e) b ≡ first e game
  pub cycle : b.cycle ≡ 56

-- ---- every state

-- none of the first n states of the run is a stop point
abbrev pub Unstopped : Program → List Event → Machine → ℕ → Type 0
Unstopped x script first n = (j : ℕ) → j < n → is_stop x.interpreter (state_after x script first j) ≡ false

-- The state after i moves is in boot, or `Running` holds of it with the record of the moves since the last dispatch point.
pub data StateKnown (e : Edition) (script : List Event) (first : Machine) (i : ℕ) : Type 0 where
  InBoot : (game : List ℕ) → first ≡ start game → i < boot_moves → Booting e script game (state_after (vip e) script first i) → StateKnown e script first i
  Runs : Running e script (state_after (vip e) script first i) (record_after (vip e) script first i) → StateKnown e script first i

-- ---- the interrupts

-- the cycle in which the interrupt of a frame starts
abbrev pub IsInterruptCycle : ℕ → Type 0
IsInterruptCycle t = (m : ℕ) × (t ≡ interrupt_at m)

-- the next move is an interrupt exactly there
abbrev pub InterruptedThere : Machine → Type 0
InterruptedThere b = (case_of b ≡ Interrupt) ↔ IsInterruptCycle b.cycle

-- one of the states up to the one after i moves has this cycle
pub record ReachesCycle (x : Program) (script : List Event) (first : Machine) (i t : ℕ) : Type 0 where
  pub j : ℕ
  pub up_to : j ≤ i
  pub cycle : (state_after x script first j).cycle ≡ t
