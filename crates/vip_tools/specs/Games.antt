-- The list of games that `digest` runs: a text, a game a line (this project's format). std's `lines` are the lines of a text, and `words` those of a line.
use Rattle.std.specs.Prelude.{◌≡◌, ℕ, ◌+◌, ◌%◌, ◌==◌, Bool, false, if◌then◌else◌, nat_lt, List, [], ◌∷◌, ◌++◌, length, codes, Option, Some, None, Result, Ok, Err, ok_or}
use Rattle.std.specs.List.{list_any}
use Rattle.std.specs.Result.{result_err, result_ok}
use Rattle.std.specs.Str.{bytes_eq}
use Rattle.hex.specs.Hex.{decode_of}
use Rattle.machine.specs.Keys.{Event}
use Rattle.chip8_lang.specs.State.{memory_size}
use Rattle.chip8_lang.specs.declared.view.Edition.{Edition}
use Rattle.chip8_lang.specs.declared.view.Edition.TheVariants.{Usual, Tall}
use Rattle.vip_byte.specs.Reading.{Format, read, ◌>>=◌}
use Rattle.vip_byte.specs.Text.{is_silent, newline, words}
use Rattle.vip_keypad.specs.FaultNames.{script_cause_name}
use Rattle.vip_keypad.specs.KeyScript.{cause_after, said}
use Rattle.vip_keypad.specs.declared.script.ScriptCause.{ScriptCause}
use Rattle.vip_keypad.specs.declared.script.ScriptCause.TheVariants as script
use Rattle.vip_keypad.specs.declared.script.ScriptFault.{ScriptFault}
use Rattle.vip_keypad.specs.declared.script.ScriptFault.TheVariants as script_fault
use Rattle.vip_tools.specs.declared.games.GameCause.{GameCause}
use Rattle.vip_tools.specs.declared.games.GameCause.TheVariants.{BadBytes, TooLarge, Keys}
use Rattle.vip_tools.specs.declared.games.LineFault.{LineFault}
use Rattle.vip_tools.specs.declared.games.LineFault.TheVariants.{Cause, NoMemory}

-- a game: its edition, its bytes, and the events of its key script
pub record Game : Type 0 where
  pub edition : Edition
  pub bytes : List ℕ
  pub keys : List Event

-- ---- the words of a line: the bytes, `tall` where it is, and the events

-- the bytes in hexadecimal digits of either case, or `-` for none
abbrev pub bytes_of : List ℕ → Result (List ℕ) GameCause
bytes_of word = if bytes_eq word (codes "-") then Ok [] else ok_or (result_ok (decode_of word)) BadBytes

-- behind them the words say which edition it is, and the others are those of the events
abbrev pub is_tall : List (List ℕ) → Bool
is_tall [] = false
is_tall (word ∷ words) = bytes_eq word (codes "tall")

abbrev pub edition_of : List (List ℕ) → Edition
edition_of words = if is_tall words then Tall else Usual

abbrev pub event_words : List (List ℕ) → List (List ℕ)
event_words [] = []
event_words (word ∷ words) = if bytes_eq word (codes "tall") then words else word ∷ words

-- the bytes have to fit into the edition's game memory
abbrev pub fitting : Edition → List ℕ → Result (List ℕ) GameCause
fitting e bytes = if nat_lt (memory_size e) (length bytes) then Err TooLarge else Ok bytes

-- The words of events as a key script: behind each third word a line ends. So many words of an event came before.
abbrev pub gap : ℕ → List ℕ
gap before = if before == 2 then newline else codes " "

unfoldable pub script_text : ℕ → List (List ℕ) → List ℕ
script_text before [] = []
script_text before (word ∷ words) = word ++ (gap before ++ script_text ((before + 1) % 3) words)

-- its lines are read as those of a key script
abbrev pub events_format : Format Event ScriptCause GameCause
events_format = record { said = said; refused = cause_after; fault = λ line cause. Keys cause }

-- the events that it says; but none of its lines is a remark, which `#` begins
unfoldable pub events_of : List ℕ → Result (List Event) GameCause
events_of text = if list_any (λ byte. byte == 35) text then Err (Keys script.BadLine) else read events_format text

-- ---- a line

-- the game that the words say
unfoldable pub game_of : List ℕ → List (List ℕ) → Result Game GameCause
game_of first words = do
  all ← bytes_of first
  bytes ← fitting (edition_of words) all
  keys ← events_of (script_text 0 (event_words words))
  Ok (record { edition = edition_of words; bytes = bytes; keys = keys })

abbrev pub some_game : List (List ℕ) → Result (Option Game) GameCause
some_game [] = Ok None
some_game (first ∷ words) = do
  game ← game_of first words
  Ok (Some game)

-- what a line says: nothing, or one game
unfoldable pub game_said : List ℕ → Result (Option Game) GameCause
game_said line = if is_silent (words line) then Ok None else some_game (words line)

-- ---- the list

-- its line, counted from 1, and the first cause in it
pub record GamesFault : Type 0 where
  pub line : ℕ
  pub cause : GameCause

-- a line is refused for what it says alone
abbrev pub games_format : Format Game GameCause GamesFault
games_format = record { said = game_said; refused = λ before says. result_err says; fault = λ line cause. record { line = line; cause = cause } }

-- what a list says: its games, or its first fault
abbrev pub games_of : List ℕ → Result (List Game) GamesFault
games_of = read games_format

-- the names of the causes, as reports show them
abbrev pub game_cause_name : GameCause → List ℕ
game_cause_name BadBytes = codes "BadBytes"
game_cause_name TooLarge = codes "TooLarge"
game_cause_name (Keys cause) = script_cause_name cause

-- a fault of the events is one of the line
abbrev pub line_fault : ScriptFault → LineFault
line_fault (script_fault.Fault line cause) = Cause (Keys cause)
line_fault script_fault.NoMemory = NoMemory

-- ---- what the calls answer of a line: what is due, where the value that is answered stands for it; of want of memory nothing is said

module _ {A B : Type 0} (view : B → A) where
  abbrev pub LineAnswers : Result A GameCause → Result B LineFault → Type 0
  LineAnswers due (Ok b) = due ≡ Ok (view b)
  LineAnswers due (Err (Cause cause)) = due ≡ Err cause
  LineAnswers due (Err NoMemory) = Unit {0}
