-- The byte that ends a line.
use Rattle.std.specs.Prelude.{◌==◌, ℕ, Bool}

abbrev pub is_newline : ℕ → Bool
is_newline byte = byte == 10
