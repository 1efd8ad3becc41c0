-- What is made of words, in a line: the first rule that they break, as a sentence, or what would be done, in the fields of the request.
use Rattle.std.specs.Prelude.{ℕ, List, [], ◌++◌, Bool, ◌||◌, ◌==◌, if◌then◌else◌, Option, Some, None, codes, decimal}
use Rattle.std.specs.Str.{is_utf8}
use Rattle.std.specs.Fmt.{digits}
use Rattle.std.specs.List.{ends_with}
use Rattle.std.specs.Option.{option_map_or}
use Rattle.std.specs.Prelude.{false}
use Rattle.asm_lex.specs.declared.shape.Isa.{Isa}
use Rattle.asm_lex.specs.declared.shape.Isa.TheVariants.{Cdp1802, Chip8}
use Rattle.chip8_lang.specs.declared.view.Edition.{Edition}
use Rattle.chip8_lang.specs.declared.view.Edition.TheVariants.{Usual, Tall}
use Rattle.vip_byte.specs.Text.{newline}
use Rattle.vip_text.specs.declared.trace.TraceColumns.{TraceColumns}
use Rattle.vip_words.specs.Asked.{asked_by}
use Rattle.vip_words.specs.Broken.{first_broken}
use Rattle.vip_words.specs.Request.{Asked}
use Rattle.vip_words.specs.Rules.{Word, flag_name}
use Rattle.vip_words.specs.Table.{row}
use Rattle.vip_words.specs.declared.broken.Broken.{Broken}
use Rattle.vip_words.specs.declared.broken.Broken.TheVariants as broken
use Rattle.vip_words.specs.declared.broken.Due.{Due}
use Rattle.vip_words.specs.declared.broken.Due.TheVariants as due
use Rattle.vip_words.specs.declared.broken.Rule.{Rule}
use Rattle.vip_words.specs.declared.broken.Rule.TheVariants as rule
use Rattle.vip_words.specs.declared.request.BoardShow.{BoardShow}
use Rattle.vip_words.specs.declared.request.BoardShow.TheVariants as board
use Rattle.vip_words.specs.declared.request.BuiltIn.{BuiltIn}
use Rattle.vip_words.specs.declared.request.BuiltIn.TheVariants.{Interpreter, Sender, Receiver}
use Rattle.vip_words.specs.declared.request.Code.{Code}
use Rattle.vip_words.specs.declared.request.Code.TheVariants.{Bytes, Source}
use Rattle.vip_words.specs.declared.request.MadeGame.TheVariants.{Demo}
use Rattle.vip_words.specs.declared.request.Memory.{Memory}
use Rattle.vip_words.specs.declared.request.Memory.TheVariants.{Rom, Ram}
use Rattle.vip_words.specs.declared.request.OwnText.{OwnText}
use Rattle.vip_words.specs.declared.request.OwnText.TheVariants as own
use Rattle.vip_words.specs.declared.request.PlainShow.{PlainShow}
use Rattle.vip_words.specs.declared.request.PlainShow.TheVariants.{Trace, Pictures, State, Profile, Summary}
use Rattle.vip_words.specs.declared.request.ProgramRequest.{ProgramRequest}
use Rattle.vip_words.specs.declared.request.ProgramShow.{ProgramShow}
use Rattle.vip_words.specs.declared.request.ProgramShow.TheVariants as program
use Rattle.vip_words.specs.declared.request.Request.TheVariants as request
use Rattle.vip_words.specs.declared.request.ResumedRequest.{ResumedRequest}
use Rattle.vip_words.specs.declared.request.RunRequest.{RunRequest}
use Rattle.vip_words.specs.declared.request.Show.{Show}
use Rattle.vip_words.specs.declared.request.Show.TheVariants as show
use Rattle.vip_words.specs.declared.request.Start.{Start}
use Rattle.vip_words.specs.declared.request.Start.TheVariants as start
use Rattle.vip_words.specs.declared.request.TextVerb.{TextVerb}
use Rattle.vip_words.specs.declared.request.TextVerb.TheVariants as text

-- ---- the sentence of each rule

-- what is due in the place of a word
abbrev pub due_text : Due → List ℕ
due_text due.File = codes "FILE is not the name of a file"
due_text due.Cycles = codes "CYCLES is not a decimal number from 0 to 4000000000"
due_text due.Number = codes "NUMBER is not a decimal number from 0 to 4294967295"
due_text due.Moves = codes "MOVES is not a decimal number from 0 to 10000000"
due_text (due.At Cdp1802) = codes "AT is not a hexadecimal number from 0 to FFFF"
due_text (due.At Chip8) = codes "AT is not a hexadecimal number from 200 to FFF"
due_text due.Entry = codes "ENTRY is not a name of 1 to 32 bytes"
due_text due.P = codes "P is not one hexadecimal digit"
due_text due.K = codes "K is not one hexadecimal digit"
due_text due.Verb = codes "unknown command"

-- a rule that the words behind a verb of this name break
abbrev pub rule_text : Word → Rule Word → List ℕ
rule_text verb rule.Empty = verb ++ codes " takes no empty argument"
rule_text verb rule.Ends = verb ++ codes " has no --; write ./-x for a file named -x"
rule_text verb (rule.NoOption word) = verb ++ (codes " has no option " ++ word)
rule_text verb rule.NoFile = codes "--keys lacks FILE"
rule_text verb (rule.Twice option) = option ++ codes " is given twice"
rule_text verb (rule.Lacks name) = verb ++ (codes " lacks " ++ name)
rule_text verb (rule.TooMany word) = codes "too many arguments for " ++ (verb ++ (codes ": " ++ word))
rule_text verb (rule.Misread d word) = due_text d ++ (codes ": " ++ word)
rule_text verb (rule.Same word) = codes "P and K must be different registers, and both are " ++ word
rule_text verb (rule.Needs first second) = codes "--" ++ (flag_name first ++ (codes " needs --" ++ flag_name second))
rule_text verb (rule.Apart first second) = codes "--" ++ (flag_name first ++ (codes " and --" ++ (flag_name second ++ codes " can't be combined")))

abbrev pub broken_text : Broken Word → List ℕ
broken_text broken.NoVerb = codes "no command is given (see vip help)"
broken_text (broken.NoSuchVerb word) = codes "unknown command: " ++ (word ++ codes " (see vip help)")
broken_text (broken.Of v rule) = rule_text (row v).name rule ++ (codes " (see vip help " ++ ((row v).name ++ codes ")"))

-- ---- what would be done

-- the text, where this holds
abbrev pub text_if : Bool → List ℕ → List ℕ
text_if holds text = if holds then text else []

abbrev pub code_text : Code Word → List ℕ
code_text (Bytes file) = file ++ codes ", taken as bytes"
code_text (Source file told) = file ++ (codes ", taken as a source" ++ text_if told (codes ", with --source"))

abbrev pub game_text : Edition → List ℕ
game_text Usual = codes "the game in "
game_text Tall = codes "the game with 64 rows in "

abbrev pub start_text : Start Word → List ℕ
start_text (start.Game code edition) = game_text edition ++ code_text code
start_text (start.State file) = codes "the saved state in " ++ file
start_text (start.Made (Demo number)) = codes "demonstration game " ++ decimal number

abbrev pub keys_text : Option Word → List ℕ
keys_text None = []
keys_text (Some file) = codes ", under the keys in " ++ file

abbrev pub columns_text : TraceColumns → List ℕ
columns_text columns =
    text_if columns.time (codes ", with --at") ++ (text_if columns.words (codes ", with --words") ++ text_if columns.screen (codes ", with --screen"))

abbrev pub plain_verb : PlainShow → List ℕ
plain_verb (Trace columns) = codes "trace"
plain_verb Pictures = codes "play"
plain_verb State = codes "save"
plain_verb Profile = codes "profile"
plain_verb (Summary number) = codes "demo"

abbrev pub show_verb : Show Word → List ℕ
show_verb (show.Commands file echo columns) = codes "debug"
show_verb (show.Plain shown) = plain_verb shown

abbrev pub plain_text : PlainShow → List ℕ
plain_text (Trace columns) = columns_text columns
plain_text _ = []

abbrev pub show_text : Show Word → List ℕ
show_text (show.Commands file echo columns) = codes ", by the commands in " ++ (file ++ (text_if echo (codes ", with --echo") ++ columns_text columns))
show_text (show.Plain shown) = plain_text shown

abbrev pub run_text : RunRequest Word → List ℕ
run_text run =
    show_verb run.show ++ (codes " of " ++ (start_text run.start ++ (codes ", up to cycle " ++ (decimal run.limit ++ (show_text run.show ++ keys_text run.keys)))))

abbrev pub board_verb : BoardShow Word → List ℕ
board_verb (board.Commands file echo) = codes "debug"
board_verb board.State = codes "save"

abbrev pub board_text : BoardShow Word → List ℕ
board_text (board.Commands file echo) = codes ", by the commands in " ++ (file ++ text_if echo (codes ", with --echo"))
board_text board.State = []

abbrev pub program_verb : ProgramShow Word → List ℕ
program_verb program.Trace = codes "trace"
program_verb program.Pictures = codes "play"
program_verb program.Profile = codes "profile"
program_verb (program.Board shown) = board_verb shown

abbrev pub program_show_text : ProgramShow Word → List ℕ
program_show_text (program.Board shown) = board_text shown
program_show_text _ = []

abbrev pub memory_text : Memory → List ℕ
memory_text Rom = codes ", in the ROM"
memory_text Ram = codes ", in RAM"

abbrev pub program_text : ProgramRequest Word → List ℕ
program_text run =
    program_verb run.show ++ (codes " of the program in " ++ (code_text run.code ++ (memory_text run.memory ++ (codes ", up to cycle " ++ (decimal run.limit
    ++ (program_show_text run.show ++ keys_text run.keys))))))

abbrev pub resumed_text : ResumedRequest Word → List ℕ
resumed_text run =
    board_verb run.show ++ (codes " of the saved state of a program in " ++ (run.state ++ (codes ", up to cycle " ++ (decimal run.limit
    ++ (board_text run.show ++ keys_text run.keys)))))

-- in which words a source is, or a disassembly
abbrev pub isa_text : Isa → List ℕ
isa_text Cdp1802 = codes ", in 1802 assembly"
isa_text Chip8 = codes ", in CHIP-8 assembly"

-- A name that is given in bytes: all of it, since the words of a command line are UTF-8.
abbrev pub name_text : List ℕ → List ℕ
name_text name = text_if (is_utf8 name) name

abbrev pub file_text : TextVerb → Word → List ℕ
file_text (text.Asm isa raw) file = codes "asm of the source in " ++ (file ++ (isa_text isa ++ text_if raw (codes ", with --raw")))
file_text (text.Check name isa) file = codes "check of the source in " ++ (file ++ isa_text isa)
file_text (text.List isa) file = codes "list of the source in " ++ (file ++ isa_text isa)
file_text (text.Dis place) file = codes "dis of the bytes in " ++ (file ++ (codes " from 0x" ++ (digits 16 false place.address ++ (codes " on" ++ isa_text place.isa))))
file_text (text.Timing entry p k) file =
    codes "timing of the routine " ++ (name_text entry.name.items ++ (codes " of the source in " ++ (file ++ (codes ", with program counter " ++ (decimal p
    ++ (codes " and counter " ++ decimal k))))))
file_text (text.Digest limit) file = codes "digest of the games in " ++ (file ++ (codes ", each up to cycle " ++ decimal limit))

abbrev pub built_in_name : BuiltIn → List ℕ
built_in_name (Interpreter Usual) = codes "source of the interpreter"
built_in_name (Interpreter Tall) = codes "source of the interpreter with 64 rows"
built_in_name Sender = codes "source of the program that sends a message"
built_in_name Receiver = codes "source of the program that receives a message"

abbrev pub own_name : OwnText → List ℕ
own_name (own.Source source) = built_in_name source
own_name own.Bounds = codes "bounds"
own_name (own.Help None) = codes "help"
own_name (own.Help (Some v)) = codes "help of " ++ (row v).name
own_name own.Version = codes "version"
own_name (own.Why words) = codes "why"

abbrev pub request_text : Asked → List ℕ
request_text (request.Run run) = run_text run
request_text (request.Program run) = program_text run
request_text (request.Resumed run) = resumed_text run
request_text (request.Link file moves number) =
    codes "link of the message in " ++ (file ++ (codes ", by " ++ (decimal moves ++ (codes " moves of schedule " ++ decimal number))))
request_text (request.Text verb file) = file_text verb file
request_text (request.Cycles source certificate exits) =
    codes "cycles of the source in " ++ (source ++ (codes ", by the certificate in " ++ (certificate ++ text_if exits (codes ", with --exits"))))
request_text (request.Safe game certificate edition) =
    codes "safe of " ++ (game_text edition ++ (code_text game ++ (codes ", by the certificate in " ++ certificate)))
request_text (request.Certify game edition) = codes "certify of " ++ (game_text edition ++ code_text game)
request_text (request.Own text) = own_name text

-- ---- the line

abbrev pub refused_text : List Word → List ℕ
refused_text words = option_map_or broken_text (first_broken words) []

abbrev pub answer_text : List Word → Option Asked → List ℕ
answer_text words None = refused_text words
answer_text words (Some asked) = codes "accepted: " ++ request_text asked

-- the line of `why`
abbrev pub why_line : List Word → List ℕ
why_line words = answer_text words (asked_by words) ++ newline

-- ---- what stands on a terminal behind the report

-- names of sources
abbrev pub is_source_name : Word → Bool
is_source_name name =
    ends_with (λ a b. a == b) name (codes ".asm") || (ends_with (λ a b. a == b) name (codes ".8o") || ends_with (λ a b. a == b) name (codes ".s"))

abbrev pub code_hint : Code Word → List ℕ
code_hint (Bytes file) = text_if (is_source_name file) (codes "vip: " ++ (file ++ (codes " was run as bytes; --asm runs a source" ++ newline)))
code_hint (Source file told) = []

abbrev pub start_hint : Start Word → List ℕ
start_hint (start.Game code edition) = code_hint code
start_hint _ = []

-- the text of a source is run as bytes
abbrev pub hint : Asked → List ℕ
hint (request.Run run) = start_hint run.start
hint (request.Program run) = code_hint run.code
hint _ = []

abbrev pub remark_on : List Word → Option Asked → List ℕ
remark_on words None = codes "vip: " ++ (refused_text words ++ newline)
remark_on words (Some asked) = hint asked

-- a line, or nothing
abbrev pub remark : List Word → List ℕ
remark words = remark_on words (asked_by words)
