-- What is said of a stop: which it is, where it came, and the opcode there.
use Rattle.std.specs.Prelude.{ℕ, ◌==◌, if◌then◌else◌, Option, Some, None, slice_index}
use Rattle.std.specs.Option.{option_map_or}
use Rattle.machine.specs.Board.{Machine}
use Rattle.chip8_lang.specs.declared.view.Stop.{Stop}
use Rattle.chip8_lang.specs.declared.view.Stop.TheVariants.{MachineCall, Unknown, FetchOutside, ReadOutside, WriteOutside, StackFull, StackEmpty}
use Rattle.chip8_lang.specs.declared.view.StopRecord.{StopRecord}
use Rattle.chip8_lang.specs.Editions.{stop_cell}
use Rattle.chip8_lang.specs.View.{View}

-- the stop of a number from 1 to 7
abbrev pub stop_numbered : ℕ → Stop
stop_numbered number =
    if number == 1 then MachineCall
    else if number == 2 then Unknown
    else if number == 3 then FetchOutside
    else if number == 4 then ReadOutside
    else if number == 5 then WriteOutside
    else if number == 6 then StackFull
    else StackEmpty

-- the stop whose number stands in the machine's cell
abbrev pub stop_at : Machine → Stop
stop_at b = stop_numbered (slice_index b.ram stop_cell)

-- the pc and the opcode of the last dispatch point; a stop before any would name pc 0 and no opcode
abbrev pub pc_of : Option View → ℕ
pc_of last = option_map_or (λ view. view.pc) last 0

abbrev pub opcode_of : Option View → Option ℕ
opcode_of None = None
opcode_of (Some view) = view.opcode

-- the record of a stop point, behind this last dispatch point
abbrev pub stop_record : Option View → Machine → StopRecord
stop_record last b = record { stop = stop_at b; pc = pc_of last; opcode = opcode_of last; cycle = b.cycle }
