-- The bytes of one line of a dump.
use Rattle.std.specs.Prelude.{◌-◌, ◌==◌, ℕ, List, [], ◌∷◌, length, map, flat_map, if◌then◌else◌, Some}
use Rattle.std.specs.List.{enumerate_from}
use Rattle.vip_byte.specs.HexText.{hex2}
use Rattle.asm_listing.specs.Dump.{Place, line_text}

-- each byte behind a blank
abbrev pub bytes_text : List ℕ → List ℕ
bytes_text bytes = flat_map (λ byte. 32 ∷ hex2 byte) bytes

-- bytes at one address after another, the last of them before the address `behind`
abbrev pub row_before : ℕ → List ℕ → List Place
row_before behind bytes = enumerate_from (behind - length bytes) (map Some bytes)

-- their line, where there are any
abbrev pub row_text : ℕ → List ℕ → List ℕ
row_text behind bytes = if length bytes == 0 then [] else line_text (row_before behind bytes)
