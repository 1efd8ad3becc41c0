-- What the commands write that tell of the language.
use Rattle.std.specs.Prelude.{ℕ, true, List, ◌++◌, Option, codes}
use Rattle.std.specs.Option.{option_map_or}
use Rattle.asm_core.specs.Origins.{Origins}
use Rattle.chip8_lang.specs.declared.view.Edition.{Edition}
use Rattle.chip8_lang.specs.Editions.{rows_of}
use Rattle.chip8_lang.specs.Places.{pixels}
use Rattle.chip8_lang.specs.View.{View}
use Rattle.vip_byte.specs.Text.{newline}
use Rattle.vip_text.specs.Screens.{screen_lines}
use Rattle.vip_text.specs.Traces.{told_line}
use Rattle.vip_text.specs.declared.trace.TraceColumns.{TraceColumns}

-- the last language state, with its time, and with the source's line that gave its opcode, where that is told
abbrev pub state_line : Origins → TraceColumns → Option View → List ℕ
state_line origins columns last = option_map_or (told_line origins (record columns { time = true })) last (codes "none" ++ newline)

-- a screen of these bytes
abbrev pub screen_text : Edition → List ℕ → List ℕ
screen_text e bytes = screen_lines (pixels (rows_of e) bytes) (rows_of e)
