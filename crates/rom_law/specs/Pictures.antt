-- When a picture shows a screen.
use Rattle.std.specs.Prelude.{◌≡◌, ℕ, ◌-◌, ◌/◌, ◌%◌, ◌<◌, Bool, List, length, slice_get, slice_index, Some}
use Rattle.chip8_lang.specs.declared.view.Edition.{Edition}
use Rattle.chip8_lang.specs.Editions.{lines_of}
use Rattle.chip8_lang.specs.Screen.{Pixels, is_set}

-- dot x of a line of eight bytes: bit 7 - (x mod 8) of its byte x / 8
abbrev pub dot : List ℕ → ℕ → Bool
dot line x = is_set (slice_index line (x / 8)) (7 - x % 8)

-- a line: eight bytes
pub record IsLine (line : List ℕ) : Type 0 where
  pub count : length line ≡ 8
  pub fit : (i : ℕ) → i < 8 → slice_index line i < 256

-- A picture of 128 lines, each of eight bytes, shows a screen: each row of pixels is as many lines high as the edition says, and dot x of a line is
-- lit exactly where pixel x of its row is.
pub record ShowsScreen (e : Edition) (picture : List (List ℕ)) (screen : Pixels) : Type 0 where
  pub lines : length picture ≡ 128
  pub bytes : (k : ℕ) (line : List ℕ) → slice_get picture k ≡ Some line → IsLine line
  pub dots : (k x : ℕ) (line : List ℕ) → slice_get picture k ≡ Some line → x < 64 → dot line x ≡ screen x (k / lines_of e)
