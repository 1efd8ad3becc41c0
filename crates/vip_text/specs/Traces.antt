-- The line of a trace that shows a language state. Digits are upper case, and parts are separated by one blank.
use Rattle.std.specs.Prelude.{ℕ, ◌/◌, ◌%◌, Bool, true, false, List, [], ◌∷◌, ◌++◌, Option, Some, None, codes, decimal}
use Rattle.asm_core.specs.Origins.{Origins, source_end}
use Rattle.vip_byte.specs.HexText.{bytes_text, hex2, hex4, words_text}
use Rattle.vip_byte.specs.Text.{bit_text, newline}
use Rattle.chip8_lang.specs.View.{View}
use Rattle.chip8_words.specs.Words.{opcode_words}
use Rattle.vip_text.specs.declared.trace.TraceColumns.{TraceColumns}

-- four digits, or four hyphens where there is no opcode
abbrev pub opcode_text : Option ℕ → List ℕ
opcode_text None = codes "----"
opcode_text (Some opcode) = hex4 opcode

-- both timers, and the tone
abbrev pub timers_text : View → List ℕ
timers_text view = codes " DT " ++ hex2 view.dt ++ codes " ST " ++ hex2 view.st ++ codes " Q " ++ bit_text view.tone

-- the count of ticks, and the cycle in decimal, where they are asked for
abbrev pub time_text : Bool → View → List ℕ
time_text false view = []
time_text true view = codes " N " ++ hex4 view.n ++ codes " AT " ++ decimal view.cycle

-- the opcode in words, as a comment, where it is asked for and there is one
abbrev pub comment_text : Bool → Option ℕ → List ℕ
comment_text true (Some opcode) = codes "  ; " ++ opcode_words opcode
comment_text with_words opcode = []

-- the states alone, and their time beside them
abbrev pub plain : TraceColumns
plain = record { time = false; words = false; screen = false }

abbrev pub timed : TraceColumns
timed = record plain { time = true }

-- what is asked for besides the state, in order
abbrev pub columns_text : TraceColumns → View → List ℕ
columns_text columns view = time_text columns.time view ++ comment_text columns.words view.opcode

-- the bytes of an opcode, the high one first
abbrev pub opcode_bytes : Option ℕ → List ℕ
opcode_bytes None = []
opcode_bytes (Some opcode) = opcode / 256 ∷ opcode % 256 ∷ []

-- the source's line that gave the opcode, where it is told
abbrev pub opcode_end : Origins → View → List ℕ
opcode_end origins view = source_end origins false view.pc (opcode_bytes view.opcode)

-- pc, opcode, V0 to VF, I, timers and tone, the stack with the oldest address first, and the columns
unfoldable pub record_text : TraceColumns → View → List ℕ
record_text columns view =
    hex4 view.pc ++ codes " " ++ opcode_text view.opcode
    ++ codes " V" ++ bytes_text view.v
    ++ codes " I " ++ hex4 view.i
    ++ timers_text view
    ++ codes " S" ++ words_text view.stack
    ++ columns_text columns view

-- the line of a state alone, and with the source's line behind it
abbrev pub trace_line : TraceColumns → View → List ℕ
trace_line columns view = record_text columns view ++ newline

abbrev pub told_line : Origins → TraceColumns → View → List ℕ
told_line origins columns view = record_text columns view ++ opcode_end origins view ++ newline
