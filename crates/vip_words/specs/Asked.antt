-- What the words of a command line ask for.
use Rattle.std.specs.Prelude.{ℕ, List, [], ◌∷◌, Bool, false, not, ◌&&◌, ◌||◌, ◌==◌, if◌then◌else◌, nat_le, nat_lt, length, Option, None, Some, option_map, option_and_then}
use Rattle.std.specs.List.{list_any}
use Rattle.std.specs.Result.{result_ok}
use Rattle.chip8_lang.specs.declared.view.Edition.{Edition}
use Rattle.chip8_lang.specs.declared.view.Edition.TheVariants.{Usual, Tall}
use Rattle.asm_lex.specs.declared.shape.Isa.{Isa}
use Rattle.asm_lex.specs.declared.shape.Isa.TheVariants.{Cdp1802, Chip8}
use Rattle.asm_lex.specs.Ranges.{last_of, origin_of}
use Rattle.vip_byte.specs.Number.{decimal_number, hex_number, most_cycles}
use Rattle.vip_text.specs.Traces.{plain}
use Rattle.vip_text.specs.declared.trace.TraceColumns.{TraceColumns}
use Rattle.vip_words.specs.Numbers.{Place, most_moves}
use Rattle.vip_words.specs.Request.{Asked}
use Rattle.vip_words.specs.Rules.{Given, Word, given_by}
use Rattle.vip_words.specs.Table.{is_alone, is_why, places_of, row, verb_of}
use Rattle.vip_words.specs.declared.flag.Flag.{Flag}
use Rattle.vip_words.specs.declared.flag.Flag.TheVariants as flag
use Rattle.vip_words.specs.declared.request.BuiltIn.{BuiltIn}
use Rattle.vip_words.specs.declared.request.Code.{Code}
use Rattle.vip_words.specs.declared.request.Code.TheVariants.{Bytes, Source}
use Rattle.vip_words.specs.declared.request.BuiltIn.TheVariants.{Interpreter, Sender, Receiver}
use Rattle.vip_words.specs.declared.request.Entry.{Entry}
use Rattle.vip_words.specs.declared.request.MadeGame.TheVariants.{Demo}
use Rattle.vip_words.specs.declared.request.Memory.TheVariants.{Rom, Ram}
use Rattle.vip_words.specs.declared.request.OwnText.TheVariants as own
use Rattle.vip_words.specs.declared.request.PlainShow.TheVariants.{Trace, Pictures, State, Profile, Summary}
use Rattle.vip_words.specs.declared.request.BoardShow.{BoardShow}
use Rattle.vip_words.specs.declared.request.BoardShow.TheVariants as board
use Rattle.vip_words.specs.declared.request.ProgramShow.{ProgramShow}
use Rattle.vip_words.specs.declared.request.ProgramShow.TheVariants as program
use Rattle.vip_words.specs.declared.request.Request.TheVariants as request
use Rattle.vip_words.specs.declared.request.Show.{Show}
use Rattle.vip_words.specs.declared.request.Show.TheVariants as show
use Rattle.vip_words.specs.declared.request.Start.{Start}
use Rattle.vip_words.specs.declared.request.Start.TheVariants as start
use Rattle.vip_words.specs.declared.request.TextVerb.TheVariants as text
use Rattle.vip_words.specs.declared.table.Verb.{Verb}
use Rattle.vip_words.specs.declared.table.Verb.TheVariants as verb

-- ---- numbers

-- a number of machine cycles: decimal, from 0 to 4,000,000,000
abbrev pub cycles_of : Word → Option ℕ
cycles_of word = result_ok (decimal_number word most_cycles)

-- the number of a demonstration game or of a schedule: decimal, from 0 to 4,294,967,295
abbrev pub seed_of : Word → Option ℕ
seed_of word = result_ok (decimal_number word 4294967295)

-- a number of moves of joined boards: decimal, from 0 to 10,000,000
abbrev pub moves_of : Word → Option ℕ
moves_of word = result_ok (decimal_number word most_moves)

-- a number that is no less than this one
abbrev pub no_less_than : ℕ → ℕ → Option ℕ
no_less_than least number = if nat_lt number least then None else Some number

-- an address of an instruction set's programs: hexadecimal, from 0 to FFFF for the CDP1802, and from 200 to FFF for CHIP-8
abbrev pub place_of : Isa → Word → Option Place
place_of isa word =
    option_map (λ address. record { isa = isa; address = address })
    (option_and_then (no_less_than (origin_of isa)) (result_ok (hex_number word (last_of isa))))

-- one to four hexadecimal digits
abbrev pub number_of : Word → Option ℕ
number_of word = if nat_le (length word) 4 then result_ok (hex_number word 65535) else None

-- a name of an address, which has from 1 to 32 characters, or else these digits
abbrev pub name_or : Option ℕ → Word → Option Entry
name_or digits word =
    if nat_lt 0 (length word) && nat_le (length word) 32 then Some (record { name = record { items = word }; digits = digits }) else None

-- Where a routine is entered: at a name, which it always is behind `:`, which is 58; else the digits count where the source hasn't the name.
abbrev pub entry_of : Word → Option Entry
entry_of [] = None
entry_of (c ∷ cs) = if c == 58 then name_or None cs else name_or (number_of (c ∷ cs)) (c ∷ cs)

-- a register: one hexadecimal digit
abbrev pub register_of : Word → Option ℕ
register_of word = if length word == 1 then result_ok (hex_number word 15) else None

-- the tall edition where it is asked for, and else the usual one
abbrev pub edition_by : Bool → Edition
edition_by tall = if tall then Tall else Usual

-- CHIP-8 where it is asked for, and else the processor's
abbrev pub isa_by : Bool → Isa
isa_by chip8 = if chip8 then Chip8 else Cdp1802

-- ---- what is run, and what is shown of it

-- what a file is: a source where that is asked for, whose lines may be told, and else the bytes themselves
abbrev pub code_by : Bool → Bool → Word → Code Word
code_by asm told file = if asm then Source file told else Bytes file

-- Where a run begins whose file has this name: at a saved state, or at a game's reset. A state has its own edition and is no source, so `--tall` and `--asm`
-- are refused with it.
abbrev pub start_by : Word → Given → Option (Start Word)
start_by file given =
    if given.has flag.State then (if given.has flag.Tall || given.has flag.Asm then None else Some (start.State file))
    else Some (start.Game (code_by (given.has flag.Asm) (given.has flag.Source) file) (edition_by (given.has flag.Tall)))

-- a run of the language from there, for as many cycles as a word says, that is shown so
abbrev pub run_by : Word → Word → Given → Show Word → Option Asked
run_by file cycles given shown =
    option_and_then
    (λ s. option_map (λ n. request.Run (record { start = s; keys = given.keys; limit = n; show = shown })) (cycles_of cycles))
    (start_by file given)

-- a program for the processor is asked for, in place of a game
abbrev pub is_program : Given → Bool
is_program given = given.has flag.Rom || given.has flag.Ram

-- the flags that speak of a game
abbrev pub game_flags : List Flag
game_flags = flag.State ∷ flag.Tall ∷ flag.Screen ∷ flag.Words ∷ flag.At ∷ []

-- Words that are refused for a program: it stands in one memory, and is no game.
abbrev pub is_mixed : Given → Bool
is_mixed given = (given.has flag.Rom && given.has flag.Ram) || list_any given.has game_flags

-- a run of the program of this name, for as many cycles as a word says, that is shown so
abbrev pub program_by : Word → Word → Given → ProgramShow Word → Option Asked
program_by file cycles given shown =
    if is_mixed given then None
    else option_map
    (λ n. request.Program (record { code = code_by (given.has flag.Asm) (given.has flag.Source) file; memory = if given.has flag.Rom then Rom else Ram; keys = given.keys; limit = n; show = shown }))
    (cycles_of cycles)

-- Words that are refused for a program's saved state: it is of one memory, and neither a game nor a source.
abbrev pub is_mixed_state : Given → Bool
is_mixed_state given = (given.has flag.Rom && given.has flag.Ram) || list_any given.has (flag.Tall ∷ flag.Screen ∷ flag.Words ∷ flag.At ∷ flag.Asm ∷ [])

-- a run of a program from the saved state of this name, for as many cycles as a word says, that is shown so
abbrev pub resumed_by : Word → Word → Given → BoardShow Word → Option Asked
resumed_by file cycles given shown =
    if is_mixed_state given then None
    else option_map (λ n. request.Resumed (record { state = file; keys = given.keys; limit = n; show = shown })) (cycles_of cycles)

-- the lines of a source are to be told where there is none
abbrev pub lacks_source : Given → Bool
lacks_source given = given.has flag.Source && not (given.has flag.Asm)

-- A run of a program where the options ask for one, and else one of the language. Words that ask for the lines of a source are refused where there is none.
abbrev pub either_by : Word → Word → Given → Show Word → ProgramShow Word → Option Asked
either_by file cycles given shown program_shown =
    if lacks_source given then None
    else if is_program given then program_by file cycles given program_shown else run_by file cycles given shown

-- a run of a program's saved state where the options ask for one, and else one of a program or of the language
abbrev pub any_by : Word → Word → Given → Show Word → BoardShow Word → Option Asked
any_by file cycles given shown board_shown =
    if lacks_source given then None
    else if is_program given && given.has flag.State then resumed_by file cycles given board_shown
    else either_by file cycles given shown (program.Board board_shown)

-- ---- the positional words of each verb

-- what the options ask for besides the states of dispatch points
abbrev pub columns_by : Given → TraceColumns
columns_by given = record { time = given.has flag.At; words = given.has flag.Words; screen = given.has flag.Screen }

-- FILE CYCLES, where the file is a game, a saved state or a program
abbrev pub trace_by : List Word → Given → Option Asked
trace_by (file ∷ cycles ∷ []) given = either_by file cycles given (show.Plain (Trace (columns_by given))) program.Trace
trace_by _ given = None

abbrev pub play_by : List Word → Given → Option Asked
play_by (file ∷ cycles ∷ []) given = either_by file cycles given (show.Plain Pictures) program.Pictures
play_by _ given = None

abbrev pub profile_by : List Word → Given → Option Asked
profile_by (file ∷ cycles ∷ []) given = either_by file cycles given (show.Plain Profile) program.Profile
profile_by _ given = None

-- FILE CYCLES COMMANDS
abbrev pub debug_by : List Word → Given → Option Asked
debug_by (file ∷ cycles ∷ commands ∷ []) given =
    any_by file cycles given (show.Commands commands (given.has flag.Echo) (columns_by given)) (board.Commands commands (given.has flag.Echo))
debug_by _ given = None

-- FILE CYCLES
abbrev pub save_by : List Word → Given → Option Asked
save_by (file ∷ cycles ∷ []) given = any_by file cycles given (show.Plain State) board.State
save_by _ given = None

-- STATE CYCLES: its trace
abbrev pub resume_by : List Word → Given → Option Asked
resume_by (file ∷ cycles ∷ []) given =
    option_map
    (λ n. request.Run (record { start = start.State file; keys = given.keys; limit = n; show = show.Plain (Trace (record plain { time = given.has flag.At })) }))
    (cycles_of cycles)
resume_by _ given = None

-- NUMBER CYCLES
abbrev pub demo_by : List Word → Option Asked
demo_by (number ∷ cycles ∷ []) =
    option_and_then
    (λ n. option_map (λ c. request.Run (record { start = start.Made (Demo n); keys = None; limit = c; show = show.Plain (Summary n) })) (cycles_of cycles))
    (seed_of number)
demo_by _ = None

-- FILE CYCLES, where the file is a list of games
abbrev pub digest_by : List Word → Option Asked
digest_by (file ∷ cycles ∷ []) = option_map (λ n. request.Text (text.Digest n) file) (cycles_of cycles)
digest_by _ = None

-- FILE MOVES NUMBER
abbrev pub link_by : List Word → Option Asked
link_by (file ∷ moves ∷ number ∷ []) = option_and_then (λ m. option_map (λ n. request.Link file m n) (seed_of number)) (moves_of moves)
link_by _ = None

-- FILE
abbrev pub file_by : List Word → Option Word
file_by (file ∷ []) = Some file
file_by _ = None

-- FILE AT
abbrev pub dis_by : Isa → List Word → Option Asked
dis_by isa (file ∷ at ∷ []) = option_map (λ place. request.Text (text.Dis place) file) (place_of isa at)
dis_by isa _ = None

-- The source of an edition's interpreter, or of one program of two joined boards, which have no editions.
abbrev pub built_in_by : Given → Option BuiltIn
built_in_by given =
    if given.has flag.Sender then (if given.has flag.Receiver || given.has flag.Tall then None else Some Sender)
    else if given.has flag.Receiver then (if given.has flag.Tall then None else Some Receiver)
    else Some (Interpreter (edition_by (given.has flag.Tall)))

-- none
abbrev pub source_by : List Word → Given → Option Asked
source_by [] given = option_map (λ source. request.Own (own.Source source)) (built_in_by given)
source_by _ given = None

-- none
abbrev pub bounds_by : List Word → Option Asked
bounds_by [] = Some (request.Own own.Bounds)
bounds_by _ = None

-- FILE CERT
abbrev pub within_by : List Word → Given → Option Asked
within_by (file ∷ certificate ∷ []) given = Some (request.Cycles file certificate (given.has flag.Exits))
within_by _ given = None

-- FILE ENTRY P K, where the program counter and the counter are two registers
abbrev pub two_registers : Word → Entry → ℕ → ℕ → Option Asked
two_registers file entry p k = if p == k then None else Some (request.Text (text.Timing entry p k) file)

abbrev pub timing_by : List Word → Option Asked
timing_by (file ∷ entry ∷ p ∷ k ∷ []) =
    option_and_then (λ e. option_and_then (λ m. option_and_then (λ n. two_registers file e m n) (register_of k)) (register_of p)) (entry_of entry)
timing_by _ = None

-- GAME CERT
abbrev pub safe_by : List Word → Given → Option Asked
safe_by (game ∷ certificate ∷ []) given = Some (request.Safe (code_by (given.has flag.Asm) false game) certificate (edition_by (given.has flag.Tall)))
safe_by _ given = None

-- FILE, whose name is in the text that is written
abbrev pub check_by : Isa → List Word → Option Asked
check_by isa words = option_map (λ file. request.Text (text.Check file isa) file) (file_by words)

-- none, or a verb
abbrev pub help_by : List Word → Option Asked
help_by [] = Some (request.Own (own.Help None))
help_by (word ∷ []) = option_map (λ v. request.Own (own.Help (Some v))) (verb_of word)
help_by _ = None

-- none
abbrev pub version_by : List Word → Option Asked
version_by [] = Some (request.Own own.Version)
version_by _ = None

-- what a verb asks for, where its words give this
abbrev pub asked_of_verb : Verb → Given → Option Asked
asked_of_verb verb.Trace given = trace_by given.positional given
asked_of_verb verb.Play given = play_by given.positional given
asked_of_verb verb.Debug given = debug_by given.positional given
asked_of_verb verb.Save given = save_by given.positional given
asked_of_verb verb.Profile given = profile_by given.positional given
asked_of_verb verb.Resume given = resume_by given.positional given
asked_of_verb verb.Demo given = demo_by given.positional
asked_of_verb verb.Digest given = digest_by given.positional
asked_of_verb verb.Link given = link_by given.positional
asked_of_verb verb.Asm given = option_map (λ file. request.Text (text.Asm (isa_by (given.has flag.Chip8)) (given.has flag.Raw)) file) (file_by given.positional)
asked_of_verb verb.Check given = check_by (isa_by (given.has flag.Chip8)) given.positional
asked_of_verb verb.List given = option_map (λ file. request.Text (text.List (isa_by (given.has flag.Chip8))) file) (file_by given.positional)
asked_of_verb verb.Dis given = dis_by (isa_by (given.has flag.Chip8)) given.positional
asked_of_verb verb.Source given = source_by given.positional given
asked_of_verb verb.Bounds given = bounds_by given.positional
asked_of_verb verb.Cycles given = within_by given.positional given
asked_of_verb verb.Timing given = timing_by given.positional
asked_of_verb verb.Safe given = safe_by given.positional given
asked_of_verb verb.Certify given = option_map (λ game. request.Certify (code_by (given.has flag.Asm) false game) (edition_by (given.has flag.Tall))) (file_by given.positional)
asked_of_verb verb.Help given = help_by given.positional
asked_of_verb verb.Version given = version_by given.positional
asked_of_verb verb.Why given = None

-- what is made of these words
abbrev pub why_of : List Word → Asked
why_of words = request.Own (own.Why words)

-- What a verb asks for with the words behind it. `why` asks for what is made of them, whatever they are.
abbrev pub asked_behind : List Word → Verb → Option Asked
asked_behind words verb =
    if is_why verb then Some (why_of words)
    else option_and_then (asked_of_verb verb) (given_by (places_of (row verb) (is_alone words)) (row verb).options words)

-- what the words ask for, the verb first, or nothing where they are refused
abbrev pub asked_by : List Word → Option Asked
asked_by [] = None
asked_by (word ∷ words) = option_and_then (asked_behind words) (verb_of word)
