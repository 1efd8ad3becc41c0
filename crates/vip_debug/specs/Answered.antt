-- What the commands write that speak of the machine, whatever runs on it: each line is a piece of its own.
use Rattle.std.specs.Prelude.{ℕ, ◌-◌, List, [], ◌∷◌, ◌++◌, Option, Some, None}
use Rattle.asm_core.specs.Origins.{Origins}
use Rattle.machine.specs.Board.{Machine, byte_of}
use Rattle.machine.specs.Keys.{held_at}
use Rattle.vip_byte.specs.Text.{newline}
use Rattle.vip_words.specs.declared.debug_commands.Running.{Running}
use Rattle.vip_words.specs.declared.debug_commands.Running.TheVariants.{Watch}
use Rattle.vip_words.specs.declared.debug_commands.Showing.{Showing}
use Rattle.vip_words.specs.declared.debug_commands.Showing.TheVariants.{Regs, Mem, Dis, List as Listed}
use Rattle.vip_debug.specs.declared.bytes.Layout.TheVariants.{Source, Listing}
use Rattle.vip_debug.specs.TargetRun.{Run, state_of}
use Rattle.vip_program.specs.Lines.{end_behind, line_of}
use Rattle.vip_debug.specs.Commands.{bytes_at}
use Rattle.vip_debug.specs.BoardShown.{cycle_text, regs_lines, mem_lines, instruction_lines}

-- the end of the line of a move: of a program with the source's line that gave it, where that is told, and of a game, whose moves are the interpreter's,
-- without
abbrev pub move_end : Option Origins → List ℕ → Machine → List ℕ
move_end None rom b = newline
move_end (Some origins) rom b = end_behind origins rom b

abbrev pub move_line : Option Origins → Run → Machine → List ℕ
move_line told r b = line_of r.rom (held_at r.script) (b ∷ []) ++ move_end told r.rom b

-- what has changed by the k-th move: the line of that move, then the bytes before and after
abbrev pub change_lines : Option Origins → Run → ℕ → ℕ → ℕ → List (List ℕ)
change_lines told r address count k =
    move_line told r (state_of r (k - 1)) ∷ mem_lines (bytes_at r 0) address count ++ mem_lines (bytes_at r k) address count

-- a command that ran up to the k-th move and is completed: the cycle, or what has changed
abbrev pub completed_lines : Option Origins → Run → Running → ℕ → List (List ℕ)
completed_lines told r (Watch address count) k = change_lines told r address count k
completed_lines told r running k = (cycle_text (state_of r k) ++ newline) ∷ []

-- a command that shows what a machine holds, with a ROM; a listing shows what the source says of it
abbrev pub shown : Origins → List ℕ → Machine → Showing → List (List ℕ)
shown origins rom b Regs = regs_lines b
shown origins rom b (Mem address count) = mem_lines (byte_of rom b) address count
shown origins rom b (Dis address count) = instruction_lines (byte_of rom b) origins b.latch Source address count
shown origins rom b (Listed address count) = instruction_lines (byte_of rom b) origins b.latch Listing address count
