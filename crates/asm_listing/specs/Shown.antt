-- How many bytes a line has, and the byte at an address, read off an assembly.
use Rattle.std.specs.Prelude.{ℕ, unwrap_or}
use Rattle.asm_core.specs.declared.assembly.LinePlace.{LinePlace}
use Rattle.asm_core.specs.Layout.{count_between}
use Rattle.asm_core.specs.Made.{Made, made_byte}

-- how many bytes a line has
abbrev pub byte_count : LinePlace → ℕ
byte_count place = count_between place.value place.at place.next

-- the byte at an address, or 00 where none is given
abbrev pub byte_at : Made → ℕ → ℕ
byte_at made address = unwrap_or (made_byte made address) 0x00
