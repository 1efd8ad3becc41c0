-- A sprite's bytes and its dots on the screen.
use Rattle.std.specs.Prelude.{ℕ, ◌-◌, ◌*◌, ◌+◌, ◌/◌, ◌%◌, ◌^◌, cond, ◌&&◌, ◌==◌, nat_lt, min}
use Rattle.chip8_lang.specs.Screen.{Pixels, is_set}

-- a byte, shifted right by x0 mod 8 over 16 bits
abbrev pub shifted : ℕ → ℕ → ℕ
shifted x0 byte = byte * 256 / 2 ^ (x0 % 8)

abbrev pub left : ℕ → ℕ → ℕ
left x0 byte = shifted x0 byte / 256

-- nothing goes past the last column
abbrev pub right : ℕ → ℕ → ℕ
right x0 byte = cond (x0 / 8 == 7) 0 (shifted x0 byte % 256)

-- how many of n rows from y0 on lie above the bottom edge
abbrev pub rows_drawn : ℕ → ℕ → ℕ → ℕ
rows_drawn rows y0 n = min n (rows - y0)

-- the pixels of a byte at place m of the screen
abbrev pub dots_of_byte : ℕ → ℕ → ℕ → Pixels
dots_of_byte rows m byte x y = (nat_lt x 64 && nat_lt y rows) && (8 * y + x / 8 == m && is_set byte (7 - x % 8))
