-- What the table says of a block and of a place. Each one stands in the table of its part.
use Rattle.std.specs.Prelude.{ℕ, List, ◌∷◌}
use Rattle.machine.specs.Board.{Machine}
use Rattle.machine.specs.Keys.{Keys}
use Rattle.chip8_lang.specs.State.{Lang}
use Rattle.rom_law.specs.Program.{Program}
use Rattle.rom_rows.specs.Heads.{Time, from}

-- what is known of a machine and the language state at it, with the sets of keys of the main moves so far
abbrev pub Knows : Type 1
Knows = Program → Machine → Lang → List Keys → Type 0

-- Of a block: what is known at its first instruction, and the main cycles from the dispatch point to it; and where that instruction begins, and those
-- behind it.
pub record BlockData : Type 1 where
  pub at : Knows
  pub time : Program → Lang → Time
  pub first : ℕ
  pub rest : List ℕ

abbrev pub addresses : BlockData → List ℕ
addresses d = d.first ∷ d.rest

-- at a label, with instructions so far past it
abbrev pub block : Knows → (Program → Lang → Time) → ℕ → List ℕ → BlockData
block at time label offsets = record { at = at; time = time; first = label; rest = from label offsets }

-- over several pieces of code
abbrev pub block_over : Knows → (Program → Lang → Time) → ℕ → List ℕ → BlockData
block_over at time first rest = record { at = at; time = time; first = first; rest = rest }

-- Of a place, which is one instruction: what is known there, the main cycles up to it, and where it begins.
pub record PlaceData : Type 1 where
  pub at : Knows
  pub time : Program → Lang → Time
  pub address : ℕ

abbrev pub place : Knows → (Program → Lang → Time) → ℕ → PlaceData
place at time address = record { at = at; time = time; address = address }
