-- The room that a buffer has.
use Rattle.std.specs.Prelude.{ℕ, ◌+◌, ◌≤◌, List, length}

-- so many bytes more fit behind these, of 4,352 in all
abbrev pub HasRoom : List ℕ → ℕ → Type 0
HasRoom bytes count = length bytes + count ≤ 4_352
