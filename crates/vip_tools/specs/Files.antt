-- The files that a command reads, in their order, and what is known of them once they are read.
use Rattle.std.specs.Prelude.{◌≡◌, ◌≤◌, ◌<◌, ◌+◌, ◌-◌, ◌⊎◌, ℕ, List, [], ◌∷◌, ◌++◌, map, take, length, Option, Some, None, Result, Ok, Err, Vec, slice_index, IfSome, IsSomeAnd}
use Rattle.std.specs.FinMap.{get}
use Rattle.vip_outside.specs.Count.{Rose}
use Rattle.vip_outside.specs.Files.{Answer, FilesMeaning, Read, and_read, and_reads, with_read}
use Rattle.vip_outside.specs.Files.Answer.{Whole, Start, Lacked, Faulted}
use Rattle.asm_lex.specs.Ranges.{last_of}
use Rattle.chip8_lang.specs.State.{memory_size}
use Rattle.chip8_lang.specs.declared.view.Edition.{Edition}
use Rattle.chip8_lang.specs.declared.view.Edition.TheVariants.{Usual, Tall}
use Rattle.vip_text.specs.ProgramFile.{IsProgram, JudgesProgram, program_size as program_state_size}
use Rattle.vip_text.specs.StateFile.{file_size, IsAccepted, Judges}
use Rattle.vip_text.specs.declared.fault.StateFault.{StateFault}
use Rattle.vip_words.specs.Request.{Asked, map_request}
use Rattle.vip_words.specs.Rules.{Word}
use Rattle.vip_words.specs.declared.request.BoardShow.{BoardShow}
use Rattle.vip_words.specs.declared.request.BoardShow.TheVariants as board
use Rattle.vip_words.specs.declared.request.Code.{Code}
use Rattle.vip_words.specs.declared.request.Code.TheVariants as code
use Rattle.vip_words.specs.declared.request.Memory.{Memory}
use Rattle.vip_words.specs.declared.request.Memory.TheVariants as memory
use Rattle.vip_words.specs.declared.request.ProgramShow.{ProgramShow}
use Rattle.vip_words.specs.declared.request.ProgramShow.TheVariants as program
use Rattle.vip_words.specs.declared.request.Request.{Request}
use Rattle.vip_words.specs.declared.request.Request.TheVariants as request
use Rattle.vip_words.specs.declared.request.Show.{Show}
use Rattle.vip_words.specs.declared.request.Show.TheVariants as show
use Rattle.vip_words.specs.declared.request.Start.{Start as Beginning}
use Rattle.vip_words.specs.declared.request.Start.TheVariants as start
use Rattle.vip_words.specs.declared.request.TextVerb.{TextVerb}
use Rattle.vip_words.specs.declared.request.TextVerb.TheVariants.{Dis, Digest}
use Rattle.vip_tools.specs.declared.files.Wanted.{Wanted}
use Rattle.vip_tools.specs.declared.refusal.Kind.{Kind}
use Rattle.vip_tools.specs.declared.refusal.Kind.TheVariants.{Game, TallGame, Script, Commands, Source, Certificate, State, ProgramState, Message, Rom, Ram, Games}
use Rattle.vip_tools.specs.declared.refusal.Refusal.{Refusal}
use Rattle.vip_tools.specs.declared.refusal.Refusal.TheVariants.{Unread, TooLarge, State as BadState, NoMemory}

-- a file, by its name or by what it holds: the most bytes that it may have, and what it is
pub record Needed (N : Type 0) : Type 0 where
  pub file : N
  pub most : ℕ
  pub kind : Kind

-- the most bytes of a key script, of the debugger's commands, of a source or of a certificate
abbrev pub most_text : ℕ
most_text = 1_048_576

-- the most bytes of a message, and those of the ROM and of the RAM
abbrev pub most_message : ℕ
most_message = 3_000

abbrev pub rom_size : ℕ
rom_size = 2_048

abbrev pub ram_size : ℕ
ram_size = 4_096

abbrev pub game_kind : Edition → Kind
game_kind Usual = Game
game_kind Tall = TallGame

-- what a program is by its memory, and the bytes of that
abbrev pub program_kind : Memory → Kind
program_kind memory.Rom = Rom
program_kind memory.Ram = Ram

abbrev pub program_size : Memory → ℕ
program_size memory.Rom = rom_size
program_size memory.Ram = ram_size

-- the most bytes of the file of which a text is made: bytes to disassemble have to end at the highest address of their instruction set's programs at the latest
abbrev pub most_of : TextVerb → ℕ
most_of (Dis place) = last_of place.isa + 1 - place.address
most_of _ = most_text

-- what it is: a list of games, or a source
abbrev pub kind_of : TextVerb → Kind
kind_of (Digest limit) = Games
kind_of _ = Source

module _ {N : Type 0} where
  abbrev pub file : Kind → ℕ → N → Needed N
  file kind most n = record { file = n; most = most; kind = kind }

  -- a saved state, which has so many bytes
  abbrev pub state_file : N → Needed N
  state_file n = file State file_size n

  -- one of a program
  abbrev pub program_state_file : N → Needed N
  program_state_file n = file ProgramState program_state_size n

  -- the debugger's commands, and a key script
  abbrev pub commands_file : N → Needed N
  commands_file n = file Commands most_text n

  abbrev pub script_file : N → Needed N
  script_file n = file Script most_text n

  -- a message that one board sends to another
  abbrev pub message_file : N → Needed N
  message_file n = file Message most_message n

  -- a source, that of which a text is made, and a certificate
  abbrev pub source_file : N → Needed N
  source_file n = file Source most_text n

  abbrev pub text_file : TextVerb → N → Needed N
  text_file verb n = file (kind_of verb) (most_of verb) n

  abbrev pub certificate_file : N → Needed N
  certificate_file n = file Certificate most_text n

  -- the file of code: bytes of this kind, at most so many, or a source that gives them
  abbrev pub code_file : Kind → ℕ → Code N → Needed N
  code_file kind most (code.Bytes n) = file kind most n
  code_file kind most (code.Source n told) = source_file n

  -- a game, which has to fit into its edition's game memory, and a program, which has to fit into its memory, or their sources
  abbrev pub game_code : Edition → Code N → Needed N
  game_code e = code_file (game_kind e) (memory_size e)

  abbrev pub program_code : Memory → Code N → Needed N
  program_code m = code_file (program_kind m) (program_size m)

  -- ---- the files of a request, in the order in which they are read

  -- of the start of a run, of what is shown of it, and its key script, where one is named
  abbrev pub start_files : Beginning N → List (Needed N)
  start_files (start.Game game edition) = game_code edition game ∷ []
  start_files (start.State state) = state_file state ∷ []
  start_files (start.Made made) = []

  abbrev pub show_files : Show N → List (Needed N)
  show_files (show.Commands commands echo columns) = commands_file commands ∷ []
  show_files _ = []

  abbrev pub board_show_files : BoardShow N → List (Needed N)
  board_show_files (board.Commands commands echo) = commands_file commands ∷ []
  board_show_files board.State = []

  abbrev pub program_show_files : ProgramShow N → List (Needed N)
  program_show_files (program.Board shown) = board_show_files shown
  program_show_files _ = []

  abbrev pub script_files : Option N → List (Needed N)
  script_files None = []
  script_files (Some script) = script_file script ∷ []

  abbrev pub needed : Request N → List (Needed N)
  needed (request.Run run) = start_files run.start ++ (show_files run.show ++ script_files run.keys)
  needed (request.Program run) = program_code run.memory run.code ∷ (program_show_files run.show ++ script_files run.keys)
  needed (request.Resumed run) = program_state_file run.state ∷ (board_show_files run.show ++ script_files run.keys)
  needed (request.Link message moves number) = message_file message ∷ []
  needed (request.Text verb file) = text_file verb file ∷ []
  needed (request.Cycles source certificate exits) = source_file source ∷ certificate_file certificate ∷ []
  needed (request.Safe game certificate edition) = game_code edition game ∷ certificate_file certificate ∷ []
  needed (request.Certify game edition) = game_code edition game ∷ []
  needed (request.Own text) = []

  abbrev pub files_of : List (Needed N) → List N
  files_of ns = map (λ n. n.file) ns

-- code with this file
abbrev pub with_file : {A B : Type 0} → Code A → B → Code B
with_file (code.Bytes a) b = code.Bytes b
with_file (code.Source a told) b = code.Source b told

abbrev pub seen_wanted : Wanted → Needed Word
seen_wanted w = record { file = w.name.now; most = w.most; kind = w.kind }

-- ---- what is judged of a file before the next one is read: a saved state, and nothing of the other kinds

abbrev pub IsRight : Kind → List ℕ → Type 0
IsRight State content = (e : Edition) × IsAccepted e content
IsRight ProgramState content = IsProgram content
IsRight _ content = Unit {0}

abbrev pub HasFault : StateFault → Kind → List ℕ → Type 0
HasFault fault State content = Judges content (Err fault)
HasFault fault ProgramState content = JudgesProgram content (Err fault)
HasFault fault _ content = ⊥

-- ---- what is known of a file that was read whole: its bytes, where the map is told, that they are those there, and how they were judged

pub record HasThat (Judged : Kind → List ℕ → Type 0) (old : FilesMeaning) (n : Needed Word) (content : List ℕ) : Type 0 where
  pub found : IfSome old.told (λ files. get files n.file ≡ Some content)
  pub fits : length content ≤ n.most
  pub bytes : (i : ℕ) → slice_index content i < 256
  pub judged : Judged n.kind content

abbrev pub Has : FilesMeaning → Needed Word → List ℕ → Type 0
Has = HasThat IsRight

abbrev pub HasAll : FilesMeaning → List (Needed Word) → List (List ℕ) → Type 0
HasAll old [] [] = Unit {0}
HasAll old (n ∷ ns) (content ∷ contents) = Has old n content × HasAll old ns contents
HasAll old _ _ = ⊥

-- a content that has at most so many bytes as its file may have, and is right
pub record IsFit (n : Needed (List ℕ)) : Type 0 where
  pub fits : length n.file ≤ n.most
  pub right : IsRight n.kind n.file

abbrev pub AreFit : List (Needed (List ℕ)) → Type 0
AreFit [] = Unit {0}
AreFit (n ∷ ns) = IsFit n × AreFit ns

-- ---- what a read of one file came to that was refused

-- it has more bytes than it may have
pub record IsLarger (old : FilesMeaning) (n : Needed Word) (answer : Answer) : Type 0 where
  pub start : List ℕ
  pub is : answer ≡ Start start
  pub longer : length start ≡ n.most + 1
  pub larger : IfSome old.told (λ files. IsSomeAnd (get files n.file) (λ content. n.most < length content))

-- it could not be read: a fault, or the map that is told lacks it
abbrev pub IsUnread : FilesMeaning → FilesMeaning → Needed Word → Answer → Type 0
IsUnread old new n answer =
    ((answer ≡ Faulted) × Rose old.faults new.faults) ⊎ ((answer ≡ Lacked) × IsSomeAnd old.told (λ files. get files n.file ≡ None))

-- it is a saved state, and has this as its first fault
pub record IsFaulty (fault : StateFault) (old : FilesMeaning) (n : Needed Word) (answer : Answer) : Type 0 where
  pub content : List ℕ
  pub is : answer ≡ Whole content
  pub has : HasThat (HasFault fault) old n content

-- ---- which reads were made, each of one file

-- each file was read up to its end, and these are their contents
abbrev pub reads_of : List (Needed Word) → List (List ℕ) → List Read
reads_of (n ∷ ns) (content ∷ contents) = record { name = n.file; answer = Whole content } ∷ reads_of ns contents
reads_of _ _ = []

-- exactly these, in this order, and no read was a fault
abbrev pub with_reads : List Read → FilesMeaning → FilesMeaning
with_reads reads old = record old { reads = and_reads reads old.reads }

-- no read was a fault: but for the reads nothing changed
abbrev pub OnlyReads : FilesMeaning → FilesMeaning → Type 0
OnlyReads old new = new ≡ record old { reads = new.reads }

-- the first ones of these, each once
pub record ReadsSome (ns : List (Needed Word)) (old new : FilesMeaning) : Type 0 where
  pub count : ℕ
  pub reads : List Read
  pub names : map (λ r. r.name) reads ≡ files_of (take count ns)
  pub made : new.reads ≡ and_reads reads old.reads

-- Those before one of the files were read whole, then that one, of which this holds by what its read came to, and none behind it.
pub record ComesTo (old new : FilesMeaning) (needed : List (Needed Word)) (Here : Needed Word → Answer → Type 0) : Type 0 where
  pub before : List (Needed Word)
  pub this : Needed Word
  pub after : List (Needed Word)
  pub place : needed ≡ before ++ this ∷ after
  pub contents : List (List ℕ)
  pub read : HasAll old before contents
  pub answer : Answer
  pub reads : new.reads ≡ and_reads (reads_of before contents ++ record { name = this.file; answer = answer } ∷ []) old.reads
  pub here : Here this answer

-- what judging answers
abbrev pub JudgeAnswers : Kind → List ℕ → Result (Unit {0}) StateFault → Type 0
JudgeAnswers kind content (Ok done) = IsRight kind content
JudgeAnswers kind content (Err fault) = HasFault fault kind content

-- a file that was refused, behind others of the same request
abbrev pub FilesRefused : FilesMeaning → FilesMeaning → List (Needed Word) → Refusal → Type 0
FilesRefused old new needed (Unread name) = ComesTo old new needed (λ n answer. (name.now ≡ n.file) × IsUnread old new n answer)
FilesRefused old new needed (TooLarge kind) = ComesTo old new needed (λ n answer. (kind ≡ n.kind) × IsLarger old n answer)
FilesRefused old new needed (BadState fault) = ComesTo old new needed (λ n answer. IsFaulty fault old n answer × OnlyReads old new)
FilesRefused old new needed NoMemory = ReadsSome needed old new
FilesRefused old new needed _ = ⊥

-- ---- a request whose files were read

-- the same with each file by its content
abbrev pub Loaded : Type 0
Loaded = Request (List ℕ)

-- a request without its files
abbrev pub shape_of : {N : Type 0} → Request N → Request (Unit {0})
shape_of = map_request (λ _. tt)

-- all the files were read, each once and up to its end, in their order, and no other; and these are they, each of which fits and is right
pub record Loads (old new : FilesMeaning) (names : List (Needed Word)) (contents : List (Needed (List ℕ))) : Type 0 where
  pub read : HasAll old names (files_of contents)
  pub reads : new ≡ with_reads (reads_of names (files_of contents)) old
  pub fit : AreFit contents

-- a request was loaded: it is as it was, with the contents of its files in the places of their names
pub record IsLoaded (old new : FilesMeaning) (asked : Asked) (loaded : Loaded) : Type 0 where
  pub shape : shape_of asked ≡ shape_of loaded
  pub loads : Loads old new (needed asked) (needed loaded)

module _ {Z : Type 0} where
  abbrev pub loaded_of : Request (Vec ℕ Z) → Loaded
  loaded_of = map_request (λ bytes. bytes.items)

  -- what is answered of one file
  abbrev pub FileAnswers : FilesMeaning → FilesMeaning → Needed Word → Result (Vec ℕ Z) Refusal → Type 0
  FileAnswers old new n (Ok bytes) = Has old n bytes.items × (new ≡ with_read n.file (Whole bytes.items) old)
  FileAnswers old new n (Err (Unread name)) =
      (name.now ≡ n.file) × (answer : Answer) × IsUnread old new n answer × (new.reads ≡ and_read n.file answer old.reads)
  FileAnswers old new n (Err (TooLarge kind)) = (kind ≡ n.kind) × (answer : Answer) × IsLarger old n answer × (new ≡ with_read n.file answer old)
  FileAnswers old new n (Err (BadState fault)) = (answer : Answer) × IsFaulty fault old n answer × (new ≡ with_read n.file answer old)
  FileAnswers old new n (Err NoMemory) = (new ≡ old) ⊎ ((answer : Answer) × (new ≡ with_read n.file answer old))
  FileAnswers old new n (Err _) = ⊥

  -- what is answered of all
  abbrev pub LoadAnswers : FilesMeaning → FilesMeaning → Asked → Result (Request (Vec ℕ Z)) Refusal → Type 0
  LoadAnswers old new asked (Ok loaded) = IsLoaded old new asked (loaded_of loaded)
  LoadAnswers old new asked (Err refusal) = FilesRefused old new (needed asked) refusal

-- and of some of them, which are a part of the request
module _ {P : Type 0} (files : P → List (Needed (List ℕ))) (IsSame : P → Type 0) where
  abbrev pub PartAnswers : FilesMeaning → FilesMeaning → List (Needed Word) → Result P Refusal → Type 0
  PartAnswers old new names (Ok part) = IsSame part × Loads old new names (files part)
  PartAnswers old new names (Err refusal) = FilesRefused old new names refusal
