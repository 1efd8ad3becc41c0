-- The line that sums up the run of a demonstration game, with all its numbers in decimal.
use Rattle.std.specs.Prelude.{ℕ, List, ◌++◌, codes, decimal}
use Rattle.vip_byte.specs.Text.{newline}

-- the number of the game, and how many dispatch points, pictures and lit pixels there are
unfoldable pub summary_line : ℕ → ℕ → ℕ → ℕ → List ℕ
summary_line number dispatches pictures lit =
    codes "demo " ++ decimal number
    ++ codes " dispatches " ++ decimal dispatches
    ++ codes " pictures " ++ decimal pictures
    ++ codes " lit " ++ decimal lit
    ++ newline
