-- A request with files of any kind: their names, as the words give them, or what they hold.
use Rattle.std.specs.Borrow.{Bor}
use Rattle.std.specs.Prelude.{option_map}
use Rattle.vip_words.specs.Rules.{Word}
use Rattle.vip_words.specs.declared.request.BoardShow.{BoardShow}
use Rattle.vip_words.specs.declared.request.BoardShow.TheVariants as board
use Rattle.vip_words.specs.declared.request.Code.{Code}
use Rattle.vip_words.specs.declared.request.Code.TheVariants as code
use Rattle.vip_words.specs.declared.request.ProgramRequest.{ProgramRequest}
use Rattle.vip_words.specs.declared.request.ProgramShow.{ProgramShow}
use Rattle.vip_words.specs.declared.request.ProgramShow.TheVariants as program
use Rattle.vip_words.specs.declared.request.Request.{Request}
use Rattle.vip_words.specs.declared.request.Request.TheVariants.{Run, Program, Resumed, Link, Text, Cycles, Safe, Certify, Own}
use Rattle.vip_words.specs.declared.request.ResumedRequest.{ResumedRequest}
use Rattle.vip_words.specs.declared.request.RunRequest.{RunRequest}
use Rattle.vip_words.specs.declared.request.Show.{Show}
use Rattle.vip_words.specs.declared.request.Show.TheVariants as show
use Rattle.vip_words.specs.declared.request.Start.{Start}
use Rattle.vip_words.specs.declared.request.Start.TheVariants as start

-- ---- the same request with each file put in its place

module _ {A B : Type 0} (f : A → B) where
  abbrev pub map_code : Code A → Code B
  map_code (code.Bytes file) = code.Bytes (f file)
  map_code (code.Source file told) = code.Source (f file) told

  abbrev pub map_start : Start A → Start B
  map_start (start.Game game edition) = start.Game (map_code game) edition
  map_start (start.State file) = start.State (f file)
  map_start (start.Made made) = start.Made made

  abbrev pub map_show : Show A → Show B
  map_show (show.Commands file echo columns) = show.Commands (f file) echo columns
  map_show (show.Plain shown) = show.Plain shown

  abbrev pub map_run : RunRequest A → RunRequest B
  map_run run = record { start = map_start run.start; keys = option_map f run.keys; limit = run.limit; show = map_show run.show }

  abbrev pub map_board_show : BoardShow A → BoardShow B
  map_board_show (board.Commands file echo) = board.Commands (f file) echo
  map_board_show board.State = board.State

  abbrev pub map_program_show : ProgramShow A → ProgramShow B
  map_program_show program.Trace = program.Trace
  map_program_show program.Pictures = program.Pictures
  map_program_show program.Profile = program.Profile
  map_program_show (program.Board shown) = program.Board (map_board_show shown)

  abbrev pub map_program : ProgramRequest A → ProgramRequest B
  map_program run =
      record { code = map_code run.code; memory = run.memory; keys = option_map f run.keys; limit = run.limit; show = map_program_show run.show }

  abbrev pub map_resumed : ResumedRequest A → ResumedRequest B
  map_resumed run = record { state = f run.state; keys = option_map f run.keys; limit = run.limit; show = map_board_show run.show }

  abbrev pub map_request : Request A → Request B
  map_request (Run run) = Run (map_run run)
  map_request (Program run) = Program (map_program run)
  map_request (Resumed run) = Resumed (map_resumed run)
  map_request (Link message moves number) = Link (f message) moves number
  map_request (Text verb file) = Text verb (f file)
  map_request (Cycles file certificate exits) = Cycles (f file) (f certificate) exits
  map_request (Safe game certificate edition) = Safe (map_code game) (f certificate) edition
  map_request (Certify game edition) = Certify (map_code game) edition
  map_request (Own text) = Own text

-- what is asked for: each file by its name
abbrev pub Asked : Type 0
Asked = Request Word

abbrev pub code_of : Code (Bor Word) → Code Word
code_of = map_code (λ name. name.now)

abbrev pub start_of : Start (Bor Word) → Start Word
start_of = map_start (λ name. name.now)

abbrev pub show_of : Show (Bor Word) → Show Word
show_of = map_show (λ name. name.now)

abbrev pub board_show_of : BoardShow (Bor Word) → BoardShow Word
board_show_of = map_board_show (λ name. name.now)

abbrev pub program_show_of : ProgramShow (Bor Word) → ProgramShow Word
program_show_of = map_program_show (λ name. name.now)

abbrev pub asked_of : Request (Bor Word) → Asked
asked_of = map_request (λ name. name.now)
