-- The rows of a profile that belong to a label, and the room for the text.
use Rattle.std.specs.Prelude.{◌≡◌, ℕ, ◌+◌, ◌-◌, ◌*◌, ◌≤◌, ◌<◌, List, [], length, map}
use Rattle.std.specs.List.{range_with_len, sum}
use Rattle.asm_core.specs.Labels.{label_lines}
use Rattle.asm_core.specs.Origins.{Origins}
use Rattle.vip_program.specs.declared.counts.Point.{Point}
use Rattle.vip_program.specs.declared.sums.Sums.{Sums}
use Rattle.vip_program.specs.Counts.{addresses}
use Rattle.vip_program.specs.Profile.{Code, rows}

-- the rows from an address on
abbrev pub rows_from : List Point → ℕ → List ℕ
rows_from points pc = rows points (range_with_len pc (addresses - pc))

-- this is the code that is shown
abbrev pub IsShown : (ℕ → Code) → (ℕ → Code) → Type 0
IsShown shown code = (pc : ℕ) → pc < addresses → shown pc ≡ code pc

-- the sums of some steps, by their cycles
pub record IsSum (sums : Sums) (cycles : List ℕ) : Type 0 where
  pub steps : sums.steps ≡ length cycles
  pub total : sums.cycles ≡ sum cycles

-- ---- the room

-- the most bytes of some labels' lines with sums, of which each has at most 96
abbrev pub lines_room : List (List ℕ) → ℕ
lines_room lines = sum (map (λ line. length line + 96) lines)

-- the lines of each address have at most so many bytes
abbrev pub AreWithin : List (ℕ × List ℕ) → ℕ → Type 0
AreWithin labels most = (address : ℕ) → address < addresses → lines_room (label_lines labels address) ≤ most

-- the most bytes of a row, with the source's line at its end where the texts are told
abbrev pub end_room : List (List ℕ) → ℕ
end_room [] = 0
end_room texts = 320

abbrev pub row_room : Origins → ℕ
row_room origins = 69 + end_room origins.texts

-- there is room for a text: for 1,024 bytes before the rows, and for each row with the lines of labels before it
pub record IsRoomy (origins : Origins) (most capacity : ℕ) : Type 0 where
  pub lines : AreWithin origins.labels most
  pub size : 1_024 + (row_room origins + most) * 0x10000 ≤ capacity
