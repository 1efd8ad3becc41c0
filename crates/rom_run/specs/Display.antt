-- 00E0 and DXYN at the display: main code prepares its work, waits for an interrupt, and changes the screen behind it.
use Rattle.std.specs.Prelude.{◌≡◌, ℕ, suc, ◌+◌, ◌<◌, ◌≤◌, ◌⊎◌, true, false, List, Some}
use Rattle.machine.specs.Board.{Machine, case_of, byte_of, flags_of}
use Rattle.machine.specs.Board.Case.{Instruction}
use Rattle.machine.specs.Instruction.{Effect, instruction}
use Rattle.machine.specs.Keys.{Keys, Event, held_at}
use Rattle.machine.specs.Pictures.{interrupt_at}
use Rattle.machine.specs.Signals.{efx_at}
use Rattle.chip8_lang.specs.Editions.{screen_start}
use Rattle.chip8_lang.specs.Events.{is_dispatch}
use Rattle.rom_law.specs.Program.{Program}
use Rattle.rom_law.specs.Rows.{Since}
use Rattle.rom_law.specs.Runs.{state_after, record_after}
use Rattle.rom_run.specs.Time.{WaitsBy, since_return}

-- the instruction at the last dispatch point is 00E0 or DXYN, which waits after `most` main cycles at the latest
pub record Display (h : Since) (Here : ℕ → Type 0) : Type 0 where
  pub most : ℕ
  pub waits : WaitsBy h.state most
  pub here : Here most

-- ---- writes to the screen

-- the effect of the board's next instruction
abbrev pub effect_of : List ℕ → (ℕ → Keys) → Machine → Effect
effect_of rom held b = instruction b.regs (byte_of rom b) (flags_of (efx_at (b.cycle + 1) b.on) (held (b.cycle + 1) b.key)) 0

-- The next move is an instruction of main code that writes to the screen, also where it leaves it as it was.
pub record WritesScreen (x : Program) (held : ℕ → Keys) (b : Machine) : Type 0 where
  pub main : b.regs.ie ≡ true
  pub runs : case_of b ≡ Instruction
  pub write : ℕ × ℕ
  pub is : (effect_of x.interpreter.rom held b).write ≡ Some write
  pub screen : screen_start x.edition ≤ write.0

-- ---- an interval of a run

-- main code runs
pub record RunsMain (b : Machine) : Type 0 where
  pub main : b.regs.ie ≡ true
  pub awake : b.regs.idle ≡ false

-- no dispatch point comes behind the state after j moves, up to the one after i moves
abbrev pub SameInterval : Program → List Event → Machine → ℕ → ℕ → Type 0
SameInterval x script first j i = (k : ℕ) → j < k → k ≤ i → is_dispatch x.interpreter (state_after x script first k) ≡ false

-- In the state after j moves main code runs behind the wait for the display in which it was after k moves; or its next move writes to the screen.
pub data AtDisplay (x : Program) (script : List Event) (first : Machine) (j : ℕ) : Type 0 where
  HasWaited : (k : ℕ) → k ≤ j → SameInterval x script first k j → (state_after x script first k).regs.idle ≡ true
      → RunsMain (state_after x script first j) → AtDisplay x script first j
  Writes : WritesScreen x (held_at script) (state_after x script first j) → AtDisplay x script first j

-- the most cycles from the end of a wait to the next dispatch point
abbrev pub most_behind : ℕ
most_behind = 1700

-- From there, the state after j moves, up to the one after i moves: the instruction is 00E0 or DXYN. The interrupt routine that ended the wait had
-- returned, in cycle `returned`, and the next move, an instruction, ends at most 1,700 cycles later. No interrupt's cycle lies between the two states,
-- nor up to the end of that move. It comes to the next dispatch point, or main code runs on.
pub record Changes (x : Program) (script : List Event) (first : Machine) (j i : ℕ) : Type 0 where
  pub most : ℕ
  pub waits : WaitsBy (record_after x script first i).state most
  pub returned : ℕ
  pub return : since_return returned ≡ 0
  pub from : returned ≤ (state_after x script first j).cycle
  pub soon : (state_after x script first (suc i)).cycle ≤ returned + most_behind
  pub quiet : (m : ℕ) → returned ≤ interrupt_at m → interrupt_at m ≤ (state_after x script first (suc i)).cycle → ⊥
  pub runs : case_of (state_after x script first i) ≡ Instruction
  pub on : (is_dispatch x.interpreter (state_after x script first (suc i)) ≡ true) ⊎ RunsMain (state_after x script first (suc i))
