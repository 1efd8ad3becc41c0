-- The counts of a profile, by the points that were met.
use Rattle.std.specs.Prelude.{◌≡◌, ℕ, ◌-◌, ◌/◌, ◌<◌, ◌≤◌, max, List, None, length, slice_index_or}
use Rattle.std.specs.List.{last_or, sum}
use Rattle.machine.specs.Pictures.{frame}
use Rattle.vip_byte.specs.Number.{most_cycles}
use Rattle.vip_program.specs.declared.counts.Counts.{Counts}
use Rattle.vip_program.specs.declared.counts.Point.{Point}
use Rattle.vip_program.specs.Figures.{figures_of}
use Rattle.vip_program.specs.Frames.{frame_behind, Framed, IsFew, most_points}
use Rattle.vip_program.specs.Profile.{cycles_at, cycles_of, first_cycle, last_cycle, steps_of}

-- the number of addresses
abbrev pub addresses : ℕ
addresses = 0x10000

-- a table has these values, address by address
abbrev pub HasValues : {X : Type 0} → List X → (ℕ → X) → Type 0
HasValues {X} items value = (pc : ℕ) (other : X) → pc < addresses → slice_index_or items pc other ≡ value pc

-- the counts are those of these points
pub record Counted (counts : Counts) (points : List Point) : Type 0 where
  pub steps : HasValues counts.steps.items (λ pc. figures_of (cycles_at points pc))
  pub count : counts.count ≡ length (steps_of points)
  pub first : counts.first ≡ first_cycle points
  pub last : counts.last ≡ last_or None points
  pub frames : Framed counts.frames counts.first points
  pub next : counts.frames.next ≡ max (frame_behind counts.first) (last_cycle points / frame)
  -- the points are in order, and so all steps are what lies between the first and the last one
  pub few : IsFew (length points) counts.frames
  pub in_order : first_cycle points ≤ last_cycle points
  pub cycles : sum (cycles_of (steps_of points)) ≡ last_cycle points - first_cycle points

-- they are the counts of some points that a run may have
pub record IsCount (counts : Counts) : Type 0 where
  pub points : List Point
  pub counted : Counted counts points
  pub few : length points ≤ most_points
  pub in_time : last_cycle points ≤ most_cycles

-- and this one may come behind them
pub record Awaits (counts : Counts) (point : Point) : Type 0 where
  pub points : List Point
  pub counted : Counted counts points
  pub few : length points < most_points
  pub behind : last_cycle points ≤ point.cycle
  pub in_time : point.cycle ≤ most_cycles
