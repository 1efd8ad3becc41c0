-- The dump of an assembly: its bytes by addresses. Hexadecimal digits are upper case.
use Rattle.std.specs.Prelude.{◌+◌, ◌*◌, ◌/◌, ◌==◌, ℕ, Bool, not, List, [], ◌∷◌, ◌++◌, length, take, drop, map, filter, flat_map, slice_index_or, Option, None, is_none, option_map}
use Rattle.std.specs.Option.{option_map_or}
use Rattle.std.specs.List.{range_with_len, slice_split}
use Rattle.vip_byte.specs.HexText.{hex2, hex4}
use Rattle.vip_byte.specs.Text.{newline}
use Rattle.asm_core.specs.Made.{Made, cell_at}

-- an address and its byte, or none where no line gives it one
abbrev pub Place : Type 0
Place = ℕ × Option ℕ

-- the addresses 0000 to FFFF
unfoldable pub addresses : List ℕ
addresses = range_with_len 0 65536

abbrev pub place_at : Made → ℕ → Place
place_at made address = (address, option_map (λ cell. cell.byte) (cell_at made address))

abbrev pub places_of : Made → List Place
places_of made = map (place_at made) addresses

-- the unbroken runs of addresses that have a byte
abbrev pub has_no_byte : Place → Bool
has_no_byte place = is_none place.1

abbrev pub is_some_run : List Place → Bool
is_some_run run = not (length run == 0)

unfoldable pub runs : List Place → List (List Place)
runs places = filter is_some_run (slice_split has_no_byte places)

-- a run in pieces of 16 places, the last of which may be short
abbrev pub piece : List Place → ℕ → List Place
piece run k = take 16 (drop (16 * k) run)

unfoldable pub pieces : List Place → List (List Place)
pieces run = map (piece run) (range_with_len 0 ((length run + 15) / 16))

-- a line: the address of its first byte, and each byte behind a blank
abbrev pub byte_text : Place → List ℕ
byte_text place = option_map_or (λ byte. 32 ∷ hex2 byte) place.1 []

abbrev pub line_text : List Place → List ℕ
line_text line = hex4 (slice_index_or line 0 (0, None)).0 ++ (flat_map byte_text line ++ newline)

-- the lines of all runs
unfoldable pub dump_of : List Place → List ℕ
dump_of places = flat_map line_text (flat_map pieces (runs places))

unfoldable pub dump_text : Made → List ℕ
dump_text made = dump_of (places_of made)
