-- A count of faults: a number below 2 ^ 64, raised at each fault until it stands at the greatest.
use Rattle.std.specs.Prelude.{ℕ, ◌+◌, ◌-◌, ◌^◌, ◌<◌, ◌≤◌, min}

-- the count rose, or it stood at the greatest u64 already; it never falls
pub record Rose (old new : ℕ) : Type 0 where
  pub counted : old + 1 < 2 ^ 64 → old < new
  pub never_falls : old ≤ new

-- one more, or the greatest number below the end
abbrev pub raised : ℕ → ℕ → ℕ
raised end count = min (count + 1) (end - 1)
