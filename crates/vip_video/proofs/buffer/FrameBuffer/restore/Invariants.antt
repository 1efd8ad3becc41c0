use Rattle.std.proofs.Common.{◌≡◌, ◌+◌, ◌-◌, ◌≤◌, ◌<◌, ℕ, List, [], length, get_or}
use Rattle.machine.specs.Signals.{window_line}
use Rattle.vip_video.proofs.buffer.FrameBuffer.restore.Given as goal

-- what the lines that were added have room for, and that the others have no byte
pub record Added (lines : List (List ℕ)) (place_line column line : ℕ) : Type 0 where
  pub later : (k : ℕ) → place_line < window_line + k → length (get_or lines k []) ≡ 0
  pub present : (k : ℕ) → place_line ≡ window_line + k → length (get_or lines k []) ≤ column - 2
  pub empty : (k : ℕ) → line ≤ k → length (get_or lines k []) ≡ 0

abbrev pub invariant-loop-line : goal.invariant-loop-line
invariant-loop-line l = Added l.buffer l.place.line l.place.column l.line
