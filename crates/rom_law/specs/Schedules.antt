-- The law of every schedule: whenever timer ticks come, main code does what the language says.
use Rattle.std.specs.Prelude.{◌≡◌, ℕ, suc, ◌+◌, Bool, true, false, List, [], ◌∷◌, ◌++◌, Some, None}
use Rattle.machine.specs.Board.{Machine}
use Rattle.machine.specs.Keys.{Keys}
use Rattle.machine.specs.Schedule.{IsMain, Tick}
use Rattle.machine.specs.Ranges.{FitsMachine}
use Rattle.chip8_lang.specs.declared.view.Stop.{Stop}
use Rattle.chip8_lang.specs.Editions.{memory_end}
use Rattle.chip8_lang.specs.State.{Lang}
use Rattle.chip8_lang.specs.Ticks.{ticks}
use Rattle.chip8_lang.specs.Between.{Between}
use Rattle.rom_law.specs.Code.{is_event}
use Rattle.rom_law.specs.Program.{Program, code, Dispatches, Halts}

-- so many ticks lead from b to c
pub data Ticked (x : Program) (b : Machine) : ℕ → Machine → Type 0 where
  Never : Ticked x b 0 b
  Again : (n : ℕ) (c d : Machine) → Ticked x b n c → Tick (memory_end x.edition) c d → Ticked x b (suc n) d

-- Ticks and main moves lead from b to c, and no main move of them comes to the fetch loop or to the stop: so many ticks, and the sets of
-- keys of the main moves in order.
pub data Leads (x : Program) (b : Machine) : ℕ → List Keys → Machine → Type 0 where
  Here : Leads x b 0 [] b
  ByTick : (n : ℕ) (sets : List Keys) (c d : Machine) → Leads x b n sets c → Tick (memory_end x.edition) c d → Leads x b (suc n) sets d
  ByMain : (n : ℕ) (sets : List Keys) (c d : Machine) (efx : Bool) (held : Keys) → Leads x b n sets c → IsMain x.interpreter.rom efx held c d
      → is_event (code x) d ≡ false → Leads x b n (sets ++ held ∷ []) d

-- what comes after the dispatch of s, with so many ticks and these sets of keys: a next dispatch, or the stop of s
pub data Follows (x : Program) (s : Lang) (n : ℕ) (sets : List Keys) (b : Machine) : Type 0 where
  Dispatched : (s' : Lang) → x.stop_of s ≡ None → Between x.edition s n sets s' → Dispatches x b s' → Follows x s n sets b
  Stopped : (stop : Stop) → x.stop_of s ≡ Some stop → Halts x b (ticks n s) stop → Follows x s n sets b

-- From a dispatch of s on, the first main move that comes to the fetch loop or to the stop is what follows, and so is each state that
-- ticks make of it.
abbrev pub EverySchedule : Program → Type 0
EverySchedule x =
    (b : Machine) (s : Lang)
    → FitsMachine b
    → Dispatches x b s
    → (n : ℕ) (sets : List Keys) (c : Machine)
    → Leads x b n sets c
    → (efx : Bool) (held : Keys) (d : Machine)
    → IsMain x.interpreter.rom efx held c d
    → is_event (code x) d ≡ true
    → (m : ℕ) (e : Machine)
    → Ticked x d m e
    → Follows x s (n + m) (sets ++ held ∷ []) e
