-- What `trace`, `play`, `profile`, `debug` and `save` of a program come to, of the last two from a saved state, too. No ROM of the interpreter plays a part, so none is compared with its source.
use Rattle.std.specs.Prelude.{◌≡◌, ◌≤◌, ℕ, max, List, [], Option, Result, Ok, Err}
use Rattle.machine.specs.Keys.{Event as KeyEvent}
use Rattle.asm_core.specs.Origins.{Origins}
use Rattle.vip_board.specs.Seen.{Seen}
use Rattle.vip_board.specs.Shown.{HasPictures}
use Rattle.vip_words.specs.Spoken.{Spoken}
use Rattle.vip_words.specs.declared.debug_commands.Speaks.TheVariants.{Machine as Processor}
use Rattle.vip_byte.specs.Number.{most_cycles}
use Rattle.vip_debug.specs.Programs.{program_written, machine_at, machine_with}
use Rattle.vip_cpu.specs.declared.cpu.Phase.TheVariants.{Boundary}
use Rattle.vip_outside.specs.Sink.{SinkMeaning}
use Rattle.vip_outside.specs.Pieces.{PutsAll, FailsWithin}
use Rattle.vip_outside.specs.declared.sink.Failed.{Failed}
use Rattle.vip_program.specs.Instructions.{program_profile}
use Rattle.vip_program.specs.Program.{resumed, started}
use Rattle.vip_program.specs.Pictures.{pictured}
use Rattle.vip_program.specs.Trace.{end_at, last_machine, program_trace}
use Rattle.vip_program.specs.declared.start.Memory.{Memory}
use Rattle.vip_program.specs.declared.start.Memory.TheVariants.{Rom, Ram}
use Rattle.vip_program.specs.declared.trace.ProgramEnd.{ProgramEnd}
use Rattle.vip_program.specs.declared.trace.ProgramEnd.TheVariants as program
use Rattle.vip_text.specs.Stops.{idle_line}
use Rattle.asm_lex.specs.declared.shape.Isa.TheVariants.{Cdp1802}
use Rattle.vip_show.specs.Written.{program_pieces_of}
use Rattle.vip_tools.specs.Code.{ImageComes, Known, known_of, nothing_known}
use Rattle.vip_tools.specs.Report.{done}
use Rattle.vip_tools.specs.declared.ended.Ended.{Ended}
use Rattle.vip_tools.specs.declared.ended.Ended.TheVariants.{Idle, Ran}
use Rattle.vip_tools.specs.declared.fault.PerformFault.{PerformFault}
use Rattle.vip_tools.specs.declared.fault.PerformFault.TheVariants.{WriteFault}
use Rattle.vip_tools.specs.declared.status.Status.TheVariants.{Done}
use Rattle.vip_text.specs.declared.ending.RunEnd.TheVariants.{AtLimit}
use Rattle.vip_tools.specs.Judged.{Judged, bind, each, only}
use Rattle.vip_tools.specs.Opening.{CommandsCome, ScriptComes}
use Rattle.vip_tools.specs.Outcome.{Ends, Outcome, Output, Shown}
use Rattle.vip_words.specs.declared.request.BoardShow.{BoardShow}
use Rattle.vip_words.specs.declared.request.BoardShow.TheVariants as board
use Rattle.vip_words.specs.declared.request.Memory.{Memory as AskedMemory}
use Rattle.vip_words.specs.declared.request.Memory.TheVariants as asked
use Rattle.vip_words.specs.declared.request.ProgramRequest.{ProgramRequest}
use Rattle.vip_words.specs.declared.request.ProgramShow.{ProgramShow}
use Rattle.vip_words.specs.declared.request.ProgramShow.TheVariants as show
use Rattle.vip_words.specs.declared.request.ResumedRequest.{ResumedRequest}

-- where a program starts
abbrev pub memory_in : AskedMemory → Memory
memory_in asked.Rom = Rom
memory_in asked.Ram = Ram

-- the report at the end of its run
abbrev pub program_report : ℕ → ProgramEnd → List ℕ
program_report limit program.AtLimit = done limit
program_report limit (program.Idle address) = idle_line address

-- how the run of a board ends that begins at its first move: at the limit, or where the processor sleeps
abbrev pub ended_at : ℕ → Seen → ProgramEnd
ended_at limit board = end_at (last_machine board limit)

-- By the board that it makes of its script, a program comes to the first fault of that, or to its output and its end.
abbrev pub RunsOn : (List KeyEvent → Seen) → Option (List ℕ) → (Seen → Outcome) → Judged Output
RunsOn board_by keys outcome = bind (ScriptComes keys) (λ script. Ends (outcome (board_by script)))

abbrev pub ProgramComes : AskedMemory → List ℕ → List ℕ → Option (List ℕ) → (Seen → Outcome) → Judged Output
ProgramComes memory rom ram = RunsOn (started (memory_in memory) rom ram)

-- it is shown up to a limit, with its end
abbrev pub program_ran : ℕ → List (List ℕ) → ProgramEnd → Outcome
program_ran limit pieces end = Shown pieces Done (program_report limit end)

abbrev pub program_traced : Origins → ℕ → Seen → Outcome
program_traced origins limit board = program_ran limit (program_trace origins board limit) (ended_at limit board)

abbrev pub program_pictured : ℕ → Seen → Outcome
program_pictured limit board = program_ran limit (pictured board limit) (ended_at limit board)

abbrev pub program_profiled : Origins → ℕ → Seen → Outcome
program_profiled origins limit board = program_ran limit (program_profile origins board limit) (ended_at limit board)

-- a limit before the cycle at which a board stands is that cycle: no move is made
abbrev pub limit_at : ℕ → Seen → ℕ
limit_at limit board = max limit board.machine.cycle

-- the answers of the debugger's commands; it ends where they leave the board
abbrev pub program_debugged : Origins → List Spoken → ℕ → Seen → Outcome
program_debugged origins commands limit board =
    let last = limit_at limit board in
    program_ran limit (program_written origins board last commands) (end_at (machine_with board last commands))

-- the file of the machine in which its run ends
abbrev pub program_saved : ℕ → Seen → Outcome
program_saved limit board =
    let last = machine_at board (limit_at limit board) in
    program_ran limit (program_pieces_of board.rom last) (end_at last)

-- What needs the board alone: under the debugger it comes to the first fault of the commands, or else to what their answers come to.
abbrev pub BoardShowComes : Known → (List KeyEvent → Seen) → Option (List ℕ) → ℕ → BoardShow (List ℕ) → Judged Output
BoardShowComes known board_by keys limit (board.Commands text echo) =
    bind (CommandsCome Processor known.names echo limit text) (λ commands. RunsOn board_by keys (program_debugged known.origins commands limit))
BoardShowComes known board_by keys limit board.State = RunsOn board_by keys (program_saved limit)

abbrev pub ProgramShowComes : Known → AskedMemory → List ℕ → List ℕ → Option (List ℕ) → ℕ → ProgramShow (List ℕ) → Judged Output
ProgramShowComes known memory rom ram keys limit show.Trace = ProgramComes memory rom ram keys (program_traced known.origins limit)
ProgramShowComes known memory rom ram keys limit show.Pictures = ProgramComes memory rom ram keys (program_pictured limit)
ProgramShowComes known memory rom ram keys limit show.Profile = ProgramComes memory rom ram keys (program_profiled known.origins limit)
ProgramShowComes known memory rom ram keys limit (show.Board shown) = BoardShowComes known (started (memory_in memory) rom ram) keys limit shown

-- its bytes are those that its code gives
abbrev pub ProgramRunComes : ProgramRequest (List ℕ) → Judged Output
ProgramRunComes run =
    bind (ImageComes run.memory run.code)
    (λ image. ProgramShowComes (known_of Cdp1802 run.code) run.memory image.0 image.1 run.keys run.limit run.show)

-- One from a saved state goes on in the machine of that, and nothing is known of its source.
abbrev pub ResumedRunComes : ResumedRequest (List ℕ) → Judged Output
ResumedRunComes run = BoardShowComes nothing_known (resumed run.state) run.keys run.limit run.show

-- ---- what the calls answer

-- a board at a boundary in a cycle of a run
pub record IsStanding (board : Seen) : Type 0 where
  pub boundary : board.phase ≡ Boundary
  pub few : board.machine.cycle ≤ most_cycles

-- a board before its first move
pub record IsBegun (board : Seen) : Type 0 where
  pub boundary : board.phase ≡ Boundary
  pub begins : board.machine.cycle ≡ 0
  pub pictures : HasPictures board.rom [] board.machine.cycle board.pictures

-- the board of a program under its script
pub record BeginsProgram (memory : AskedMemory) (rom ram : List ℕ) (script : List KeyEvent) (board : Seen) : Type 0 where
  pub is : board ≡ started (memory_in memory) rom ram script
  pub pictures : HasPictures board.rom [] board.machine.cycle board.pictures

abbrev pub BoardComes : AskedMemory → List ℕ → List ℕ → Option (List ℕ) → Judged Seen
BoardComes memory rom ram keys = bind (ScriptComes keys) (λ script. each (BeginsProgram memory rom ram script))

abbrev pub ResumedBoardComes : List ℕ → Option (List ℕ) → Judged Seen
ResumedBoardComes file keys = bind (ScriptComes keys) (λ script. only (resumed file script))

-- the file of the machine in which a run ends went out whole, or a part of it did
abbrev pub SaveAnswers : ℕ → Seen → SinkMeaning → SinkMeaning → Result ProgramEnd Failed → Type 0
SaveAnswers limit board old new (Ok end) =
    PutsAll (program_pieces_of board.rom (machine_at board limit)) old new × (end ≡ end_at (machine_at board limit))
SaveAnswers limit board old new (Err failed) = FailsWithin (program_pieces_of board.rom (machine_at board limit)) old new

-- how the run of a program ended
abbrev pub program_ended : ℕ → Result ProgramEnd Failed → Result Ended PerformFault
program_ended limit (Ok program.AtLimit) = Ok (Ran limit AtLimit)
program_ended limit (Ok (program.Idle address)) = Ok (Idle address)
program_ended limit (Err failed) = Err WriteFault
