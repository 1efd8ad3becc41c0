-- The commands of the debugger: a text with one command a line (this project's format). Its lines, its words and its remarks are those of
-- a key script.
use Rattle.std.specs.Prelude.{ℕ, ◌==◌, ◌+◌, ◌++◌, Bool, if◌then◌else◌, nat_lt, List, [], ◌∷◌, length, codes, Option, Some, None, option_map, Result, Ok, Err, ok_or}
use Rattle.std.specs.Option.{option_or}
use Rattle.std.specs.Result.{result_err, result_map_both, result_ok}
use Rattle.std.specs.Str.{bytes_eq}
use Rattle.vip_byte.specs.declared.number.NumFault.{NumFault}
use Rattle.vip_byte.specs.declared.number.NumFault.TheVariants.{TooLarge}
use Rattle.vip_byte.specs.Number.{decimal_number, hex_number}
use Rattle.vip_byte.specs.Reading.{Format, read, ◌>>=◌}
use Rattle.vip_byte.specs.Text.{is_silent, newline, words}
use Rattle.vip_words.specs.declared.debug_commands.Command.{Command}
use Rattle.vip_words.specs.declared.debug_commands.Command.TheVariants.{Runs, Shows, Seeks, Tells}
use Rattle.vip_words.specs.declared.debug_commands.Running.TheVariants.{Step, To, At, Watch}
use Rattle.vip_words.specs.declared.debug_commands.Showing.TheVariants.{Regs, Mem, Dis, List as Listed}
use Rattle.vip_words.specs.declared.debug_commands.Seeking.TheVariants.{Next, Break}
use Rattle.vip_words.specs.declared.debug_commands.Telling.TheVariants.{State, Screen, Code}
use Rattle.vip_words.specs.declared.debug_commands.Speaks.{Speaks}
use Rattle.vip_words.specs.declared.debug_commands.Speaks.TheVariants.{Chip8, Machine}
use Rattle.vip_words.specs.declared.debug_commands.CommandCause.{CommandCause}
use Rattle.vip_words.specs.declared.debug_commands.CommandCause.TheVariants.{BadWord, BadCount, BadNumber, Range}
use Rattle.vip_words.specs.declared.debug_commands.CommandFault.{CommandFault}
use Rattle.vip_words.specs.declared.debug_commands.CommandFault.TheVariants.{Fault}
use Rattle.vip_words.specs.Spoken.{Spoken}

-- ---- the words of a command

-- so many operands
abbrev pub no_operand : Command → List (List ℕ) → Result Command CommandCause
no_operand command [] = Ok command
no_operand command operands = Err BadCount

abbrev pub one_operand : List (List ℕ) → Result (List ℕ) CommandCause
one_operand (word ∷ []) = Ok word
one_operand operands = Err BadCount

abbrev pub two_operands : List (List ℕ) → Result (List ℕ × List ℕ) CommandCause
two_operands (first ∷ second ∷ []) = Ok (first, second)
two_operands operands = Err BadCount

-- a number that is too large is out of its range
abbrev pub cause_of : NumFault → CommandCause
cause_of TooLarge = Range
cause_of fault = BadNumber

abbrev pub no_less_than : ℕ → Result ℕ NumFault → Result ℕ CommandCause
no_less_than least (Ok number) = if nat_lt number least then Err Range else Ok number
no_less_than least (Err fault) = Err (cause_of fault)

-- a decimal number in these bounds
unfoldable pub decimal_within : ℕ → ℕ → List ℕ → Result ℕ CommandCause
decimal_within least most word = no_less_than least (decimal_number word most)

-- one to four hexadecimal digits
unfoldable pub digits_of : List ℕ → Option ℕ
digits_of word = if nat_lt 4 (length word) then None else result_ok (hex_number word 0xffff)

-- what stands behind a colon, or the whole
abbrev pub name_in : List ℕ → List ℕ
name_in [] = []
name_in (first ∷ rest) = if first == 58 then rest else first ∷ rest

-- Below, `names` gives the number that a name stands for, and none to any where no source is known.
-- an address: a name says it, which it always is behind a colon, and else one to four hexadecimal digits
unfoldable pub address_of : (List ℕ → Option ℕ) → List ℕ → Result ℕ CommandCause
address_of names word = ok_or (option_or (names (name_in word)) (digits_of word)) BadNumber

-- a number of moves or of dispatch points, from 1 to 1,000,000
unfoldable pub steps_of : List (List ℕ) → Result ℕ CommandCause
steps_of operands = do
  word ← one_operand operands
  decimal_within 1 1_000_000 word

-- a cycle that is at most the limit
unfoldable pub to_of : ℕ → List (List ℕ) → Result ℕ CommandCause
to_of limit operands = do
  word ← one_operand operands
  decimal_within 0 limit word

abbrev pub place_of : (List ℕ → Option ℕ) → List (List ℕ) → Result ℕ CommandCause
place_of names operands = do
  word ← one_operand operands
  address_of names word

-- an address, and a number of bytes or lines from there on, from 1 to 4,096
unfoldable pub span_of : (List ℕ → Option ℕ) → List (List ℕ) → Result (ℕ × ℕ) CommandCause
span_of names operands = do
  pair ← two_operands operands
  address ← address_of names pair.0
  count ← decimal_within 1 4_096 pair.1
  Ok (address, count)

-- bytes that end at FFFF at the latest
unfoldable pub bytes_of : (List ℕ → Option ℕ) → List (List ℕ) → Result (ℕ × ℕ) CommandCause
bytes_of names operands = do
  span ← span_of names operands
  if nat_lt 0x10000 (span.0 + span.1) then Err Range else Ok span

-- ---- the commands

-- the command of the language that a word and its operands say, or the first cause for which they say none
unfoldable pub language_command_of : (List ℕ → Option ℕ) → List ℕ → List (List ℕ) → Result Command CommandCause
language_command_of names word operands =
    if bytes_eq word (codes "screen") then no_operand (Tells Screen) operands
    else if bytes_eq word (codes "state") then no_operand (Tells State) operands
    else if bytes_eq word (codes "code") then (do
      span ← span_of names operands
      Ok (Tells (Code span.0 span.1)))
    else if bytes_eq word (codes "next") then (do
      points ← steps_of operands
      Ok (Seeks (Next points)))
    else if bytes_eq word (codes "break") then (do
      address ← place_of names operands
      Ok (Seeks (Break address)))
    else Err BadWord

-- there is none where the board runs no game
abbrev pub spoken_of : Speaks → (List ℕ → Option ℕ) → List ℕ → List (List ℕ) → Result Command CommandCause
spoken_of Chip8 names word operands = language_command_of names word operands
spoken_of Machine names word operands = Err BadWord

-- one that shows what the board holds, or one of the language
unfoldable pub showing_of : Speaks → (List ℕ → Option ℕ) → List ℕ → List (List ℕ) → Result Command CommandCause
showing_of speaks names word operands =
    if bytes_eq word (codes "regs") then no_operand (Shows Regs) operands
    else if bytes_eq word (codes "mem") then (do
      span ← bytes_of names operands
      Ok (Shows (Mem span.0 span.1)))
    else if bytes_eq word (codes "dis") then (do
      span ← span_of names operands
      Ok (Shows (Dis span.0 span.1)))
    else if bytes_eq word (codes "list") then (do
      span ← span_of names operands
      Ok (Shows (Listed span.0 span.1)))
    else spoken_of speaks names word operands

-- any
unfoldable pub command_of : Speaks → (List ℕ → Option ℕ) → ℕ → List ℕ → List (List ℕ) → Result Command CommandCause
command_of speaks names limit word operands =
    if bytes_eq word (codes "step") then (do
      moves ← steps_of operands
      Ok (Runs (Step moves)))
    else if bytes_eq word (codes "to") then (do
      cycle ← to_of limit operands
      Ok (Runs (To cycle)))
    else if bytes_eq word (codes "at") then (do
      address ← place_of names operands
      Ok (Runs (At address)))
    else if bytes_eq word (codes "watch") then (do
      span ← bytes_of names operands
      Ok (Runs (Watch span.0 span.1)))
    else showing_of speaks names word operands

-- ---- the lines

abbrev pub some_command : Speaks → (List ℕ → Option ℕ) → ℕ → List (List ℕ) → Result (Option Command) CommandCause
some_command speaks names limit [] = Ok None
some_command speaks names limit (word ∷ operands) = do
  command ← command_of speaks names limit word operands
  Ok (Some command)

-- what a line says: nothing, or one command
unfoldable pub command_said : Speaks → (List ℕ → Option ℕ) → ℕ → List ℕ → Result (Option Command) CommandCause
command_said speaks names limit line = if is_silent (words line) then Ok None else some_command speaks names limit (words line)

-- the line that echoes a command, by the line that says it
abbrev pub echo_line : List ℕ → List ℕ
echo_line line = codes "> " ++ line ++ newline

-- a command with its echo, where commands are echoed
abbrev pub spoken_command : Bool → List ℕ → Command → Spoken
spoken_command echo line command = record { command = command; echo = if echo then Some (echo_line line) else None }

-- a line is refused for what it says alone
abbrev pub command_format : Speaks → (List ℕ → Option ℕ) → Bool → ℕ → Format Spoken CommandCause CommandFault
command_format speaks names echo limit =
    record {
      said = λ line. result_map_both (option_map (spoken_command echo line)) (λ cause. cause) (command_said speaks names limit line);
      refused = λ before says. result_err says;
      fault = Fault;
    }

-- what a text of commands says: the list of its commands, or its first fault
abbrev pub commands_of : Speaks → (List ℕ → Option ℕ) → Bool → ℕ → List ℕ → Result (List Spoken) CommandFault
commands_of speaks names echo limit = read (command_format speaks names echo limit)
