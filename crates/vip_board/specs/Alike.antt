-- The moves of a board under another key script.
use Rattle.std.specs.Prelude.{◌≡◌, ◌<◌, ℕ, List}
use Rattle.machine.specs.Keys.{Event, held_at}
use Rattle.machine.specs.Ranges.{FitsMachine, FitsRom}
use Rattle.vip_board.specs.Seen.{Seen}
use Rattle.vip_board.specs.Moves.{moved_by}

-- the board with another script
abbrev pub under : List Event → Seen → Seen
under script s = record s { script = script }

-- both scripts hold the same of the sixteen keys down in each cycle behind one and before another one
abbrev pub HoldAlike : ℕ → ℕ → List Event → List Event → Type 0
HoldAlike from until script script' = (t : ℕ) → from < t → t < until → (k : ℕ) → k < 16 → held_at script t k ≡ held_at script' t k

-- Where a script holds the same keys down as the board's own from where so many moves begin to where they end, the moves under it are the same.
abbrev pub MovesAlike : Type 0
MovesAlike =
    (n : ℕ) (s : Seen) (script : List Event) → FitsRom s.rom → FitsMachine s.machine
    → HoldAlike s.machine.cycle (moved_by n s).machine.cycle s.script script
    → moved_by n (under script s) ≡ under script (moved_by n s)
