-- What the calls make of a board, move by move.
use Rattle.std.specs.Prelude.{◌≡◌, ◌<◌, ◌≤◌, ℕ, suc, ◌+◌, ◌-◌, ◌/◌, ◌==◌, ◌&&◌, not, nat_le, Bool, true, false, List, ◌∷◌, ◌++◌}
use Rattle.asm_core.specs.Origins.{Origins}
use Rattle.machine.specs.Board.{Machine, Case, length_of}
use Rattle.machine.specs.Board.Case.{Dma, Idle}
use Rattle.machine.specs.Run.{after_moves}
use Rattle.machine.specs.Signals.{line_cycles}
use Rattle.vip_board.specs.Moves.{moved_by}
use Rattle.vip_board.specs.Seen.{Seen, held_by}
use Rattle.vip_program.specs.Lines.{end_behind, labels_before}
use Rattle.vip_program.specs.Trace.{lines_of, moves_ahead, share, sleeps}

-- the next move is made: it ends at or before the limit, and the machine doesn't sleep
abbrev pub goes_on : ℕ → List ℕ → Machine → Bool
goes_on limit rom b = not (sleeps b) && nat_le (b.cycle + length_of rom b) limit

-- it is an idle cycle, or a DMA cycle of a raster line
abbrev pub is_idle : Case → Bool
is_idle Idle = true
is_idle _ = false

abbrev pub is_scan : ℕ → Case → Machine → Bool
is_scan line Dma b = b.cycle / line_cycles == line
is_scan line _ b = false

-- the machine after so many moves of a board
abbrev pub machine_after : Seen → ℕ → Machine
machine_after s n = after_moves s.rom (held_by s) s.machine n

-- so many moves are made
pub record Makes (limit : ℕ) (old new : Seen) (made : ℕ) : Type 0 where
  pub moved : new ≡ moved_by made old
  pub within : new.machine.cycle ≤ limit
  pub goes : (k : ℕ) → k < made → goes_on limit old.rom (machine_after old k) ≡ true

-- They are of a kind, and the next move isn't, unless all that are asked for are made or none is made any more.
pub record MakesAll (kind : Machine → Bool) (count limit : ℕ) (old new : Seen) (made : ℕ) : Type 0 where
  pub makes : Makes limit old new made
  pub few : made ≤ count
  pub are : (k : ℕ) → k < made → kind (machine_after old k) ≡ true
  pub ends : made < count → goes_on limit new.rom new.machine ≡ true → kind new.machine ≡ false

-- there are some; each shares a line with the one before it, and the next move, if it is made, doesn't
pub record MakesStretch (count limit : ℕ) (old new : Seen) (made : ℕ) : Type 0 where
  pub makes : Makes limit old new made
  pub some : 0 < made
  pub few : made ≤ count
  pub shared : (k : ℕ) → suc k < made → share (machine_after old k) (machine_after old (suc k)) ≡ true
  pub ends : made < count → goes_on limit new.rom new.machine ≡ true → share (machine_after old (made - 1)) new.machine ≡ false

-- the line of the next moves, of which there are some, was written, without its end; before it stand the lines of its labels
pub record TakesLine (count limit : ℕ) (old new : Seen) (line : List ℕ) (made : ℕ) : Type 0 where
  pub some : 0 < made
  pub moved : new ≡ moved_by made old
  pub within : new.machine.cycle ≤ limit
  pub ahead : moves_ahead old limit count ≡ made + moves_ahead new limit (count - made)
  pub first :
      (origins : Origins)
      → lines_of origins old (moves_ahead old limit count)
      ≡ labels_before origins old.machine ++ (line ++ end_behind origins old.rom old.machine) ∷ lines_of origins new (moves_ahead new limit (count - made))
