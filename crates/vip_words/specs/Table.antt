-- The verbs, what may follow each, and what is said of it.
use Rattle.std.specs.Prelude.{ℕ, List, [], ◌∷◌, ◌++◌, Bool, true, false, ◌&&◌, if◌then◌else◌, length, map, Option, bytes_eq, codes, find}
use Rattle.std.specs.Option.{option_map_or}
use Rattle.vip_words.specs.Rules.{Word, flag_option, is_keys, keys_option}
use Rattle.vip_words.specs.declared.flag.Flag.TheVariants as flag
use Rattle.vip_words.specs.declared.table.Verb.{Verb}
use Rattle.vip_words.specs.declared.table.Verb.TheVariants as verb

-- A verb as it is spelled, the names of the positional words that follow it, whether they may be left out, and its options; and what is said of it: what it
-- writes, an example, and the pages that explain the texts.
pub record Row : Type 0 where
  pub name : Word
  pub words : List Word
  pub may_stand_alone : Bool
  pub options : List Word
  pub writes : List ℕ
  pub example : List ℕ
  pub texts : List ℕ

abbrev pub made_row : Word → List Word → Bool → List Word → List ℕ → List ℕ → List ℕ → Row
made_row name words may_stand_alone options writes example texts = record {
  name = name;
  words = words;
  may_stand_alone = may_stand_alone;
  options = options;
  writes = writes;
  example = example;
  texts = texts;
}

abbrev pub row : Verb → Row
row verb.Trace =
    made_row (codes "trace") (codes "GAME" ∷ codes "CYCLES" ∷ []) false (keys_option ∷ map flag_option (flag.At ∷ flag.Screen ∷ flag.Words ∷ flag.Tall ∷ flag.State ∷ flag.Asm ∷ flag.Source ∷ flag.Rom ∷ flag.Ram ∷ []))
    (codes "one line per instruction of a run") (codes "vip trace ball.ch8 600000 --at") (codes "FORMATS.md")
row verb.Play =
    made_row (codes "play") (codes "GAME" ∷ codes "CYCLES" ∷ []) false (keys_option ∷ map flag_option (flag.Tall ∷ flag.State ∷ flag.Asm ∷ flag.Rom ∷ flag.Ram ∷ []))
    (codes "every picture of a run") (codes "vip play maze.ch8 600000 > maze.pbm") (codes "FORMATS.md")
row verb.Debug =
    made_row (codes "debug") (codes "GAME" ∷ codes "CYCLES" ∷ codes "COMMANDS" ∷ []) false (keys_option ∷ map flag_option (flag.Words ∷ flag.Tall ∷ flag.State ∷ flag.Asm ∷ flag.Source ∷ flag.Echo ∷ flag.Rom ∷ flag.Ram ∷ []))
    (codes "the answers to debugger commands") (codes "vip debug count.ch8 99999 count.debug") (codes "DEBUGGER.md")
row verb.Save =
    made_row (codes "save") (codes "GAME" ∷ codes "CYCLES" ∷ []) false (keys_option ∷ map flag_option (flag.Tall ∷ flag.State ∷ flag.Asm ∷ flag.Rom ∷ flag.Ram ∷ []))
    (codes "the state of the machine as a file") (codes "vip save maze.ch8 300000 > maze.state") (codes "FORMATS.md")
row verb.Profile =
    made_row (codes "profile") (codes "GAME" ∷ codes "CYCLES" ∷ []) false (keys_option ∷ map flag_option (flag.Tall ∷ flag.State ∷ flag.Asm ∷ flag.Source ∷ flag.Rom ∷ flag.Ram ∷ []))
    (codes "where a run spends its time") (codes "vip profile maze.ch8 1000000") (codes "FORMATS.md")
row verb.Resume =
    made_row (codes "resume") (codes "STATE" ∷ codes "CYCLES" ∷ []) false (keys_option ∷ map flag_option (flag.At ∷ []))
    (codes "the trace of a run resumed from a saved state") (codes "vip resume maze.state 600000") (codes "FORMATS.md")
row verb.Demo =
    made_row (codes "demo") (codes "NUMBER" ∷ codes "CYCLES" ∷ []) false ([])
    (codes "a one-line summary of the run of a random game") (codes "vip demo 0 1000000") (codes "FORMATS.md")
row verb.Digest =
    made_row (codes "digest") (codes "FILE" ∷ codes "CYCLES" ∷ []) false ([])
    (codes "digests of the runs of a list of games") (codes "vip digest three.games 20000") (codes "FORMATS.md")
row verb.Link =
    made_row (codes "link") (codes "FILE" ∷ codes "MOVES" ∷ codes "NUMBER" ∷ []) false ([])
    (codes "a message sent from one board to another") (codes "vip link sum.keys 500000 7") (codes "FORMATS.md")
row verb.Asm =
    made_row (codes "asm") (codes "FILE" ∷ []) false (map flag_option (flag.Raw ∷ flag.Chip8 ∷ []))
    (codes "the bytes of a source") (codes "vip asm pen.asm --chip8 --raw > mine.ch8") (codes "ASSEMBLER.md")
row verb.Check =
    made_row (codes "check") (codes "FILE" ∷ []) false (map flag_option (flag.Chip8 ∷ []))
    (codes "every error of a source, with suggestions") (codes "vip check pen.asm --chip8") (codes "ASSEMBLER.md, SUGGESTIONS.md")
row verb.List =
    made_row (codes "list") (codes "FILE" ∷ []) false (map flag_option (flag.Chip8 ∷ []))
    (codes "the listing of a source") (codes "vip list multiply.asm") (codes "ASSEMBLER.md")
row verb.Dis =
    made_row (codes "dis") (codes "FILE" ∷ codes "AT" ∷ []) false (map flag_option (flag.Chip8 ∷ []))
    (codes "the disassembly of bytes") (codes "vip dis multiply.bin 0") (codes "ASSEMBLER.md")
row verb.Source =
    made_row (codes "source") ([]) false (map flag_option (flag.Tall ∷ flag.Sender ∷ flag.Receiver ∷ []))
    (codes "the source of the interpreter, or of a program that link runs") (codes "vip source") (codes "MACHINE.md")
row verb.Bounds =
    made_row (codes "bounds") ([]) false ([])
    (codes "the most machine cycles that each opcode takes") (codes "vip bounds") (codes "MACHINE.md")
row verb.Cycles =
    made_row (codes "cycles") (codes "FILE" ∷ codes "CERT" ∷ []) false (map flag_option (flag.Exits ∷ []))
    (codes "whether a certificate of a routine holds") (codes "vip cycles delay.asm delay.cert") (codes "CERTIFICATES.md")
row verb.Timing =
    made_row (codes "timing") (codes "FILE" ∷ codes "ENTRY" ∷ codes "P" ∷ codes "K" ∷ []) false ([])
    (codes "a worst-case time certificate of a routine") (codes "vip timing delay.asm delay 3 7") (codes "CERTIFICATES.md")
row verb.Safe =
    made_row (codes "safe") (codes "GAME" ∷ codes "CERT" ∷ []) false (map flag_option (flag.Tall ∷ flag.Asm ∷ []))
    (codes "whether a certificate of a game holds") (codes "vip safe maze.ch8 maze.cert") (codes "CERTIFICATES.md")
row verb.Certify =
    made_row (codes "certify") (codes "GAME" ∷ []) false (map flag_option (flag.Tall ∷ flag.Asm ∷ []))
    (codes "a certificate that a game never stops") (codes "vip certify maze.ch8 > maze.cert") (codes "CERTIFICATES.md")
row verb.Help =
    made_row (codes "help") (codes "VERB" ∷ []) true ([])
    (codes "all verbs, or one verb with its options and an example") (codes "vip help trace") (codes "COMMANDS.md")
row verb.Version =
    made_row (codes "version") ([]) false ([])
    (codes "the name and the version") (codes "vip version") (codes "COMMANDS.md")
row verb.Why =
    made_row (codes "why") (codes "ARGUMENT.." ∷ []) true ([])
    (codes "why arguments are rejected, or what they ask for") (codes "vip why trace ball.ch8 --chip8") (codes "COMMANDS.md")

-- the verb whose words are explained, and not judged
abbrev pub is_why : Verb → Bool
is_why verb.Why = true
is_why _ = false

-- ---- the further lines of a verb's page

-- what GAME is
abbrev pub game_lines : List (List ℕ)
game_lines =
    codes "GAME is a game's bytes, with --state a saved state, and with --rom or --ram a"
    ∷ codes "program for the processor. With --asm it is a source: CHIP-8 assembly of a"
    ∷ codes "game, or 1802 assembly of a program."
    ∷ []

-- of the two verbs that resume a program's saved state, too
abbrev pub state_lines : List (List ℕ)
state_lines = game_lines ++ codes "With --state and --rom or --ram it is a saved state of a program." ∷ []

-- the debugger's commands
abbrev pub command_lines : List (List ℕ)
command_lines =
    codes "COMMANDS has one command per line. A is an address or, with --asm, a name:"
    ∷ codes "  step N     makes N moves"
    ∷ codes "  to C       runs to cycle C"
    ∷ codes "  at A       runs until the next instruction is at A"
    ∷ codes "  watch A N  runs until one of the N bytes from A on changes"
    ∷ codes "  next N     runs to the N-th next dispatch point"
    ∷ codes "  break A    runs to the next dispatch point whose pc is A"
    ∷ codes "  regs       prints the registers of the processor"
    ∷ codes "  state      prints the state at the last dispatch point"
    ∷ codes "  mem A N    prints N bytes from A on"
    ∷ codes "  dis A N    prints N lines of the disassembly from A on"
    ∷ codes "  list A N   prints N instructions of the processor from A on"
    ∷ codes "  screen     prints the screen at the last dispatch point"
    ∷ codes "  code A N   prints N opcodes of CHIP-8 from A on"
    ∷ codes "At a dispatch point the interpreter is about to fetch an opcode. There are"
    ∷ codes "none with --rom or --ram, so next, break, state, screen and code are not"
    ∷ codes "available."
    ∷ []

-- the unit of CYCLES
abbrev pub cycle_lines : List (List ℕ)
cycle_lines =
    codes "CYCLES counts machine cycles from reset: 3,668 in a frame and 220,080 in a"
    ∷ codes "second, which has 60 frames."
    ∷ []

-- the exit statuses of a run
abbrev pub run_statuses : List (List ℕ)
run_statuses =
    codes "Exit status: 0 success; 1 the game stopped; 2 wrong arguments; 3 to 26 another"
    ∷ codes "error, which the message names. STATUSES.md lists them."
    ∷ []

-- of the other verbs
abbrev pub other_statuses : List (List ℕ)
other_statuses =
    codes "Exit status: 0 success; 2 wrong arguments; 3 to 26 another error, which the"
    ∷ codes "message names. STATUSES.md lists them."
    ∷ []

-- of `check`
abbrev pub check_statuses : List (List ℕ)
check_statuses =
    codes "Exit status: 0 no error in the source; 7 an error in it; 2 wrong arguments;"
    ∷ codes "3 to 26 another error, which the message names. STATUSES.md lists them."
    ∷ []

-- the arguments of `timing`
abbrev pub timing_lines : List (List ℕ)
timing_lines =
    codes "FILE is a source in 1802 assembly. ENTRY is a name or an address of a routine"
    ∷ codes "in the ROM, from 8000 to 87FF. P and K are its program counter and its"
    ∷ codes "counter, each a register given by one hexadecimal digit."
    ∷ []

-- the game that a certificate is about
abbrev pub certified_lines : List (List ℕ)
certified_lines =
    codes "GAME is a game's bytes or, with --asm, its source in CHIP-8 assembly."
    ∷ []

abbrev pub notes : Verb → List (List ℕ)
notes verb.Trace = game_lines ++ (cycle_lines ++ run_statuses)
notes verb.Play = game_lines ++ (cycle_lines ++ run_statuses)
notes verb.Debug = state_lines ++ (command_lines ++ (cycle_lines ++ run_statuses))
notes verb.Save = state_lines ++ (cycle_lines ++ run_statuses)
notes verb.Profile = game_lines ++ (cycle_lines ++ run_statuses)
notes verb.Resume = codes "STATE is a file that save wrote." ∷ (cycle_lines ++ run_statuses)
notes verb.Demo = cycle_lines ++ other_statuses
notes verb.Digest = cycle_lines ++ other_statuses
notes verb.Check = check_statuses
notes verb.Timing = timing_lines ++ other_statuses
notes verb.Safe = certified_lines ++ other_statuses
notes verb.Certify = certified_lines ++ other_statuses
notes _ = other_statuses

-- ---- the verbs, in the order of their page

abbrev pub every_verb : List Verb
every_verb =
    verb.Trace ∷ verb.Play ∷ verb.Debug ∷ verb.Save ∷ verb.Profile ∷ verb.Resume ∷ verb.Demo ∷ verb.Digest ∷ verb.Link ∷ verb.Asm ∷ verb.Check ∷ verb.List ∷ verb.Dis ∷ verb.Source ∷ verb.Bounds ∷ verb.Cycles ∷ verb.Timing ∷ verb.Safe ∷ verb.Certify ∷ verb.Help ∷ verb.Version ∷ verb.Why ∷ []

-- the verb that a word spells
abbrev pub verb_of : Word → Option Verb
verb_of word = find (λ v. bytes_eq word (row v).name) every_verb

-- how many positional words follow a verb that stands alone or not
abbrev pub places_of : Row → Bool → ℕ
places_of r alone = if alone && r.may_stand_alone then 0 else length r.words

abbrev pub is_alone : List Word → Bool
is_alone [] = true
is_alone (word ∷ words) = false

-- ---- what is said of each option

abbrev pub about_options : List (Word × List ℕ)
about_options =
    (keys_option, codes "a key script")
    ∷ (flag_option flag.At, codes "the tick count and the machine cycle of each line")
    ∷ (flag_option flag.Screen, codes "the final screen after the lines")
    ∷ (flag_option flag.Words, codes "the mnemonic of each opcode")
    ∷ (flag_option flag.Tall, codes "the variant with 64 rows")
    ∷ (flag_option flag.State, codes "a saved state in place of a game")
    ∷ (flag_option flag.Raw, codes "the bytes themselves in place of a dump")
    ∷ (flag_option flag.Chip8, codes "CHIP-8 in place of 1802 assembly")
    ∷ (flag_option flag.Asm, codes "a source in place of bytes")
    ∷ (flag_option flag.Echo, codes "each command before its answer")
    ∷ (flag_option flag.Exits, codes "the exits of the routine")
    ∷ (flag_option flag.Rom, codes "a program in the ROM in place of a game")
    ∷ (flag_option flag.Ram, codes "a program in RAM in place of a game")
    ∷ (flag_option flag.Sender, codes "the program that sends a message")
    ∷ (flag_option flag.Receiver, codes "the program that receives a message")
    ∷ (flag_option flag.Source, codes "the source line of each opcode")
    ∷ []

abbrev pub about : Word → List ℕ
about option = option_map_or (λ line. line.1) (find (λ line. bytes_eq option line.0) about_options) []

-- the option as a user writes it, with the name of the word that it takes
abbrev pub with_value : Word → List ℕ
with_value option = if is_keys option then codes "--keys FILE" else option
