-- The points of a run, frame by frame.
use Rattle.std.specs.Prelude.{◌≡◌, ℕ, ◌+◌, ◌-◌, ◌/◌, ◌<◌, ◌≤◌, max, List, [], ◌∷◌, ◌++◌, map}
use Rattle.std.specs.List.{range_with_len}
use Rattle.machine.specs.Pictures.{frame}
use Rattle.vip_program.specs.declared.counts.Point.{Point}
use Rattle.vip_program.specs.declared.frames.Frames.{Frames}
use Rattle.vip_program.specs.Figures.{figures_of, most_number}
use Rattle.vip_program.specs.Profile.{points_in}

-- the first frame that begins at or behind a cycle
abbrev pub frame_behind : ℕ → ℕ
frame_behind first = (first + (frame - 1)) / frame

-- the most points that a run has
abbrev pub most_points : ℕ
most_points = 8_000_000_002

-- of some points, those of the frames from the first one that counts up to the next one are summed up, and no point lies behind the next one
pub record Framed (frames : Frames) (first : ℕ) (points : List Point) : Type 0 where
  pub begun : frame_behind first ≤ frames.next
  pub over : frames.over ≡ figures_of (map (points_in points) (range_with_len (frame_behind first) (frames.next - frame_behind first)))
  pub here : frames.here ≡ points_in points frames.next
  pub behind : (f : ℕ) → frames.next < f → points_in points f ≡ 0

-- at most so many points are counted, and no more frames than there are numbers for
pub record IsFew (points : ℕ) (frames : Frames) : Type 0 where
  pub count : frames.over.count ≤ frames.next
  pub sum : frames.over.sum + frames.here ≤ points
  pub next : frames.next ≤ most_number

-- a point is met, which doesn't lie before the others
pub record CountsPoint (old : Frames) (point : Point) (new : Frames) : Type 0 where
  pub next : new.next ≡ max old.next (point.cycle / frame)
  pub framed : (first : ℕ) (points : List Point) → Framed old first points → old.next ≤ max (frame_behind first) (point.cycle / frame)
      → Framed new first (points ++ point ∷ [])
  pub few : (points : ℕ) → IsFew points old → IsFew (points + 1) new
