-- The time since the last dispatch point: the cycles of main code, of the interrupt routine and of the wait for the display.
use Rattle.std.specs.Prelude.{◌≡◌, ℕ, ◌+◌, ◌-◌, ◌*◌, ◌%◌, ◌≤◌, ◌⊎◌, true, Some}
use Rattle.machine.specs.Board.{Machine}
use Rattle.machine.specs.Pictures.{frame, place, interrupt_place, window_place}
use Rattle.chip8_lang.specs.declared.instr.Instr.TheVariants.{Clear, Draw}
use Rattle.chip8_lang.specs.declared.view.Edition.{Edition}
use Rattle.chip8_lang.specs.State.{Lang, instr_at}
use Rattle.chip8_lang.specs.Bounds.{bound_of}
use Rattle.chip8_lang.specs.Timed.{interrupts, ended, woken, before_wait, routine_cycles}
use Rattle.rom_law.specs.Rows.{Since, Row}
use Rattle.rom_rows.specs.Rom.{vip}
use Rattle.rom_rows.specs.Table.{calm_pieces, waited_pieces}

-- The cycles of the interval: those of main code, those of the routine for each tick, and n in which main code waited.
abbrev pub Spends : Machine → Since → ℕ → Type 0
Spends b h n = b.cycle ≡ h.from + h.spent + routine_cycles * h.ticks + n

-- how long ago the interrupt routine returned
abbrev pub since_return : ℕ → ℕ
since_return t = (t + (frame - (interrupt_place + routine_cycles))) % frame

-- how long ago the window ended, and how long at most until the next interrupt
abbrev pub since_window : ℕ → ℕ
since_window t = (t + (frame - window_place)) % frame

abbrev pub most_wait : ℕ
most_wait = frame - window_place + interrupt_place

-- the most main cycles after which 00E0 and DXYN wait
pub data WaitsBy (s : Lang) : ℕ → Type 0 where
  ToClear : instr_at s ≡ Clear → WaitsBy s 102
  ToDraw : (x y n : ℕ) → instr_at s ≡ Draw x y n → WaitsBy s 2154

-- and in which they change the screen behind the wait
abbrev pub most_changing : ℕ
most_changing = 1560

-- the main cycles after which they wait
abbrev pub wait_time : Edition → Lang → ℕ
wait_time e s = before_wait e (instr_at s) s

-- Main code has waited n cycles: since the window ended at most, and, behind an interrupt of the interval, an instruction was made before.
pub record HasWaited (b : Machine) (h : Since) (n : ℕ) : Type 0 where
  pub most : n ≤ since_window b.cycle
  pub moved : (h.ticks ≡ 0) ⊎ (n + 2 ≤ since_return b.cycle)

-- Behind a wait: main code went on in the cycle `woke`, where the interrupt routine returned, as the language's time says.
pub record Woken (e : Edition) (b : Machine) (h : Since) : Type 0 where
  pub woke : ℕ
  pub return : place woke ≡ interrupt_place + routine_cycles
  pub exact : woke ≡ woken (ended h.from (wait_time e h.state))
  pub ticks : h.ticks ≡ interrupts h.from (wait_time e h.state - 1) + 1
  pub most : ℕ
  pub waits : WaitsBy h.state most
  pub since : b.cycle + wait_time e h.state ≡ woke + h.spent
  pub least : wait_time e h.state ≤ h.spent
  pub row : Row (vip e) (waited_pieces (vip e)) b h

-- Main code hasn't waited; it waits; or it has waited, and is behind the wait of 00E0 or DXYN.
pub data Timed (e : Edition) (b : Machine) (h : Since) : Type 0 where
  Before : Spends b h 0 → Row (vip e) (calm_pieces (vip e)) b h → Timed e b h
  Waiting : (n : ℕ) → Spends b h n → HasWaited b h n → b.regs.idle ≡ true → Row (vip e) (calm_pieces (vip e)) b h → Timed e b h
  Behind : (n : ℕ) → Spends b h n → n ≤ most_wait → Row (vip e) (waited_pieces (vip e)) b h → Woken e b h → Timed e b h

-- m cycles of main code and of waiting end within the bound: so many interrupts at most come in them, each with a run of the routine
pub record Suffices (bound m : ℕ) : Type 0 where
  pub interrupts : ℕ
  pub few : m + most_wait ≤ (frame - routine_cycles) * (interrupts + 1)
  pub all : m + routine_cycles * interrupts ≤ bound

-- the last main move was made behind a wait: it comes to b, with the record h
pub record BehindWait (e : Edition) (b : Machine) (h : Since) : Type 0 where
  pub old : Machine
  pub before : Since
  pub woken : Woken e old before
  pub cycle : b.cycle ≡ old.cycle + 2
  pub spent : h.spent ≡ before.spent + 2
  pub ticks : h.ticks ≡ before.ticks
  pub from : h.from ≡ before.from
  pub state : h.state ≡ before.state

-- An event in the cycle of an interrupt comes within the bound of its instruction; the cycles up to it are those of main code and of the routine,
-- or the last main move was made behind a wait.
pub record DueInTime (e : Edition) (b : Machine) (h : Since) : Type 0 where
  pub waited : ℕ
  pub spends : Spends b h waited
  pub suffices : (bound : ℕ) → bound_of e h.state ≡ Some bound → Suffices bound (h.spent + waited)
  pub exact : Spends b h 0 ⊎ BehindWait e b h
