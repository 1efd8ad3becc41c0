-- How the words after a verb are read, by this project's profile:
--
--   a word is refused that is empty, or that begins with `-` and is no option of the verb, spelled exactly;
--   `--keys` takes the next word, which must be there and must not begin with `-`;
--   options may stand anywhere after the verb, and one given twice is refused;
--   the other words are the positional ones, in order, and too few or too many are refused.
use Rattle.std.specs.List.{list_all, list_any}
use Rattle.std.specs.Prelude.{ℕ, List, [], ◌∷◌, ◌++◌, Bool, true, false, not, ◌&&◌, ◌||◌, ◌==◌, Option, Some, None, length, map, slice_get, bytes_eq, if◌then◌else◌, codes}
use Rattle.vip_words.specs.declared.flag.Flag.{Flag}
use Rattle.vip_words.specs.declared.flag.Flag.TheVariants.{Asm, At, Chip8, Echo, Exits, Ram, Raw, Receiver, Rom, Screen, Sender, Source, State, Tall, Words}

-- a word, as its bytes
abbrev pub Word : Type 0
Word = List ℕ

-- the option that takes a word, as it is spelled
abbrev pub keys_option : Word
keys_option = codes "--keys"

-- the name of a flag, which is an option that takes no word
abbrev pub flag_name : Flag → Word
flag_name At = codes "at"
flag_name Screen = codes "screen"
flag_name Words = codes "words"
flag_name Tall = codes "tall"
flag_name State = codes "state"
flag_name Raw = codes "raw"
flag_name Chip8 = codes "chip8"
flag_name Asm = codes "asm"
flag_name Echo = codes "echo"
flag_name Exits = codes "exits"
flag_name Rom = codes "rom"
flag_name Ram = codes "ram"
flag_name Sender = codes "sender"
flag_name Receiver = codes "receiver"
flag_name Source = codes "source"

-- every flag, in order
abbrev pub every_flag : List Flag
every_flag = At ∷ Screen ∷ Words ∷ Tall ∷ State ∷ Raw ∷ Chip8 ∷ Asm ∷ Echo ∷ Exits ∷ Rom ∷ Ram ∷ Sender ∷ Receiver ∷ Source ∷ []

-- a flag as it is spelled
abbrev pub flag_option : Flag → Word
flag_option flag = codes "--" ++ flag_name flag

-- every option of the program
abbrev pub every_option : List Word
every_option = keys_option ∷ map flag_option every_flag

abbrev pub is_option : Word → Bool
is_option word = list_any (bytes_eq word) every_option

-- neither empty nor begun by `-`, which is 45
abbrev pub is_plain : Word → Bool
is_plain [] = false
is_plain (c ∷ cs) = not (c == 45)

-- plain, or one of these options
abbrev pub is_known : List Word → Word → Bool
is_known options word = is_plain word || list_any (bytes_eq word) options

abbrev pub is_keys : Word → Bool
is_keys word = bytes_eq word keys_option

-- each `--keys` has a plain word next; `after` says that these words stand right after one
abbrev pub has_values : Bool → List Word → Bool
has_values after [] = not after
has_values after (word ∷ words) = (not after || is_plain word) && has_values (is_keys word) words

-- the option is among the words
abbrev pub is_given : Word → List Word → Bool
is_given option words = list_any (λ word. bytes_eq word option) words

-- the option is among the words at most once
abbrev pub is_once : List Word → Word → Bool
is_once [] option = true
is_once (word ∷ words) option = if bytes_eq word option then not (is_given option words) else is_once words option

-- the plain words that are no value of `--keys`, in order; `after` as above
abbrev pub positional_words : Bool → List Word → List Word
positional_words after [] = []
positional_words after (word ∷ words) =
    if is_plain word && not after then word ∷ positional_words false words
    else positional_words (is_keys word) words

-- the word after `--keys`
abbrev pub keys_value : List Word → Option Word
keys_value [] = None
keys_value (word ∷ words) = if is_keys word then slice_get words 0 else keys_value words

-- the words are well formed for a verb with so many positional words and these options
abbrev pub is_accepted : ℕ → List Word → List Word → Bool
is_accepted places options words =
    list_all (is_known options) words
    && (has_values false words
    && (list_all (is_once words) every_option
    && (length (positional_words false words) == places)))

-- what the words after a verb give
pub record Given : Type 0 where
  pub positional : List Word
  pub keys : Option Word
  pub has : Flag → Bool

-- what they give after such a verb, or nothing where they are refused
abbrev pub given_by : ℕ → List Word → List Word → Option Given
given_by places options words =
    if is_accepted places options words then Some (record {
      positional = positional_words false words;
      keys = keys_value words;
      has = λ flag. is_given (flag_option flag) words;
    }) else None
