-- How large a source may be.
use Rattle.std.specs.Prelude.{ℕ}

-- the most bytes of a source
abbrev pub most_bytes : ℕ
most_bytes = 1048576
