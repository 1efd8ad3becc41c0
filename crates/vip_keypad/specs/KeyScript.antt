-- The key script: a text whose lines say at which machine cycles keys go down and up (this project's format). std's `lines` are the lines
-- of a text, and `words` those of a line.
use Rattle.std.specs.Prelude.{ℕ, ◌-◌, Bool, true, false, if◌then◌else◌, nat_lt, nat_le, List, [], ◌∷◌, length, slice_get, codes, Option, Some, None, Result, Ok, Err, ok_or}
use Rattle.std.specs.Char.{digit_value, is_digit}
use Rattle.std.specs.Option.{option_map_or}
use Rattle.std.specs.Result.{result_ok}
use Rattle.std.specs.Str.{bytes_eq}
use Rattle.machine.specs.Keys.{Event}
use Rattle.vip_byte.specs.Number.{decimal_number, most_cycles}
use Rattle.vip_byte.specs.Reading.{Format, read, ◌>>=◌}
use Rattle.vip_byte.specs.Text.{is_silent, words}
use Rattle.vip_keypad.specs.declared.script.ScriptCause.{ScriptCause}
use Rattle.vip_keypad.specs.declared.script.ScriptCause.TheVariants.{BadLine, BadCycle, BadKey, OutOfOrder, TooMany}
use Rattle.vip_keypad.specs.declared.script.ScriptFault.{ScriptFault}
use Rattle.vip_keypad.specs.declared.script.ScriptFault.TheVariants.{Fault}

-- ---- one line by itself

-- the key goes down, or up
abbrev pub direction_of : List ℕ → Result Bool ScriptCause
direction_of word =
    if bytes_eq word (codes "down") then Ok true
    else if bytes_eq word (codes "up") then Ok false
    else Err BadLine

-- a decimal number, from 0 to 4,000,000,000
abbrev pub cycle_of : List ℕ → Result ℕ ScriptCause
cycle_of word = ok_or (result_ok (decimal_number word most_cycles)) BadCycle

-- one hexadecimal digit
abbrev pub key_of : List ℕ → Result ℕ ScriptCause
key_of (digit ∷ []) = if is_digit digit 16 then Ok (digit_value digit) else Err BadKey
key_of word = Err BadKey

-- the event that three words say: the cycle, the direction and the key
unfoldable pub event_of : List (List ℕ) → Result Event ScriptCause
event_of (first ∷ second ∷ third ∷ []) = do
  down ← direction_of second
  cycle ← cycle_of first
  key ← key_of third
  Ok (record { cycle = cycle; key = key; down = down })
event_of words = Err BadLine

-- what a line says: nothing, or one event
unfoldable pub said : List ℕ → Result (Option Event) ScriptCause
said line = if is_silent (words line) then Ok None else (do
  event ← event_of (words line)
  Ok (Some event))

-- ---- a line behind others

-- the cycle of the last event, or 0 where there is none
abbrev pub last_cycle : List Event → ℕ
last_cycle events = option_map_or (λ event. event.cycle) (slice_get events (length events - 1)) 0

-- the most events of a script
abbrev pub most_events : ℕ
most_events = 100_000

-- the first cause for which a line that says this is refused behind the events before it
unfoldable pub cause_after : List Event → Result (Option Event) ScriptCause → Option ScriptCause
cause_after before (Err cause) = Some cause
cause_after before (Ok None) = None
cause_after before (Ok (Some event)) =
    if nat_lt event.cycle (last_cycle before) then Some OutOfOrder
    else if nat_le most_events (length before) then Some TooMany
    else None

-- ---- the whole script

abbrev pub script_format : Format Event ScriptCause ScriptFault
script_format = record { said = said; refused = cause_after; fault = Fault }

-- what a script says: the list of its events, or its first fault
abbrev pub script_of : List ℕ → Result (List Event) ScriptFault
script_of = read script_format
