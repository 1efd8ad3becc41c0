-- The lines that say where a run came to its end.
use Rattle.std.specs.Prelude.{ℕ, List, [], ◌++◌, Option, Some, None, codes}
use Rattle.vip_byte.specs.HexText.{hex4}
use Rattle.chip8_lang.specs.declared.view.Stop.{Stop}
use Rattle.chip8_lang.specs.declared.view.Stop.TheVariants.{MachineCall, Unknown, FetchOutside, ReadOutside, WriteOutside, StackFull, StackEmpty}
use Rattle.vip_byte.specs.Text.{newline}

abbrev pub stop_name : Stop → List ℕ
stop_name MachineCall = codes "MachineCall"
stop_name Unknown = codes "Unknown"
stop_name FetchOutside = codes "FetchOutside"
stop_name ReadOutside = codes "ReadOutside"
stop_name WriteOutside = codes "WriteOutside"
stop_name StackFull = codes "StackFull"
stop_name StackEmpty = codes "StackEmpty"

-- the opcode behind a blank, where there is one
abbrev pub opcode_part : Option ℕ → List ℕ
opcode_part None = []
opcode_part (Some opcode) = codes " " ++ hex4 opcode

unfoldable pub stop_line : Stop → ℕ → Option ℕ → List ℕ
stop_line stop pc opcode = codes "stopped " ++ stop_name stop ++ opcode_part opcode ++ codes " at " ++ hex4 pc ++ newline

-- the address of the instruction by which a program's processor idles for good
abbrev pub idle_line : ℕ → List ℕ
idle_line address = codes "idle at " ++ hex4 address ++ newline
