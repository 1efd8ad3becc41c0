-- A screen as text, and a picture as PBM (Netpbm's description of PBM, form P4: a header, and then the dots by bits, a lit one 1).
use Rattle.std.specs.Prelude.{ℕ, ◌/◌, Bool, if◌then◌else◌, List, ◌++◌, length, map, codes}
use Rattle.std.specs.List.{flat_map, range_with_len}
use Rattle.chip8_lang.specs.Places.{pixels}
use Rattle.chip8_lang.specs.Screen.{Pixels}
use Rattle.vip_byte.specs.Text.{newline}

-- `#` for a lit pixel, `.` for the others
abbrev pub dot : Bool → ℕ
dot lit = if lit then 35 else 46

-- one line for a row of 64 pixels
abbrev pub row_text : Pixels → ℕ → List ℕ
row_text pixels y = map (λ x. dot (pixels x y)) (range_with_len 0 64) ++ newline

abbrev pub screen_lines : Pixels → ℕ → List ℕ
screen_lines pixels rows = flat_map (row_text pixels) (range_with_len 0 rows)

-- the screen whose rows are these bytes, 8 a row
abbrev pub pixels_of : List ℕ → Pixels
pixels_of bytes = pixels (length bytes / 8) bytes

abbrev pub rows_text : List ℕ → List ℕ
rows_text bytes = screen_lines (pixels_of bytes) (length bytes / 8)

-- 128 lines of 8 bytes, the leftmost dot the highest bit
abbrev pub picture_file : List (List ℕ) → List ℕ
picture_file lines = codes "P4" ++ newline ++ codes "64 128" ++ newline ++ flat_map (λ line. line) lines
