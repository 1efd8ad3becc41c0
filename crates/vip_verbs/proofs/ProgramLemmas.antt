-- The verbs of a program: what their opening answers, from the answer of its start, and what their work does.
use Rattle.std.proofs.Common.{◌≡◌, ℕ, List, [], refl, sym, ap, subst, arith, Option, Result, Ok, Err}
use Rattle.asm_core.specs.Origins.{Origins}
use Rattle.vip_board.specs.Seen.{Seen}
use Rattle.vip_words.specs.Spoken.{Spoken}
use Rattle.vip_debug.specs.Programs.{ProgramAnswers, machine_at}
use Rattle.vip_outside.specs.Pieces.{FailsWithin}
use Rattle.vip_outside.specs.Sink.{SinkMeaning}
use Rattle.vip_show.specs.Written.{program_pieces_of}
use Rattle.std.specs.Prelude.{IsErr}
use Rattle.vip_outside.specs.declared.sink.Failed.{Failed}
use Rattle.vip_program.specs.Trace.{ShowAnswers}
use Rattle.vip_program.specs.declared.trace.ProgramEnd.{ProgramEnd}
use Rattle.vip_program.specs.declared.trace.ProgramEnd.TheVariants as program
use Rattle.vip_tools.specs.declared.refusal.Refusal.{Refusal}
use Rattle.vip_tools.specs.Code.{Known}
use Rattle.machine.specs.Keys.{Event as KeyEvent}
use Rattle.vip_program.specs.Program.{started}
use Rattle.vip_words.specs.declared.debug_commands.Speaks.TheVariants.{Machine as Processor}
use Rattle.vip_text.specs.ProgramFile.{IsProgram}
use Rattle.vip_tools.specs.Judged.{Judged, RefusedBy, bind, cause_of, each, only}
use Rattle.vip_tools.specs.Judged.Verdict.{Given}
use Rattle.vip_tools.specs.Opening.{CommandsCome, ScriptComes}
use Rattle.vip_tools.specs.Outcome.{Ends, Outcome, Output}
use Rattle.vip_tools.proofs.JudgedLemmas.{behind, by-each, by-tail, refused-first, refused-so}
use Rattle.vip_verbs.specs.Opening.{BoardCommandsIn, IsBoardShow, IsProgramShow, ProgramCommandsIn}
use Rattle.vip_verbs.specs.Prepared.{PerformAnswers, board_shown_as, program_shown_as}
use Rattle.vip_verbs.specs.Programs.{BeginsProgram, BoardComes, BoardShowComes, IsBegun, IsStanding, ProgramShowComes, ResumedBoardComes, RunsOn, SaveAnswers, ended_at, limit_at, memory_in, program_debugged, program_ended, program_ran, program_report, program_saved}
use Rattle.vip_verbs.specs.declared.prepared.ReadyBoardShow.{ReadyBoardShow}
use Rattle.vip_verbs.specs.declared.prepared.ReadyProgramShow.{ReadyProgramShow}
use Rattle.vip_words.specs.declared.request.BoardShow.{BoardShow}
use Rattle.vip_words.specs.declared.request.BoardShow.TheVariants as board
use Rattle.vip_words.specs.declared.request.Memory.{Memory}
use Rattle.vip_words.specs.declared.request.ProgramShow.{ProgramShow}
use Rattle.vip_words.specs.declared.request.ProgramShow.TheVariants as show

-- ---- what needs the board alone, by the board that is made of a script

module _ (board_by : List KeyEvent → Seen) (keys : Option (List ℕ)) (known : Known) (limit : ℕ) where
  -- what is shown of it isn't ready
  pub refused-board-show : (asked : BoardShow (List ℕ)) (refusal : Refusal) → RefusedBy (BoardCommandsIn known limit asked) refusal
      → RefusedBy (BoardShowComes known board_by keys limit asked) refusal
  refused-board-show (board.Commands text echo) refusal by =
      refused-first (CommandsCome Processor known.names echo limit text) (λ commands. RunsOn board_by keys (program_debugged known.origins commands limit)) refusal by
  refused-board-show board.State refusal by =
      by-each (λ (commands : List Spoken). commands ≡ []) (BoardShowComes known board_by keys limit board.State) (cause_of refusal) by

  -- it is ready, so it comes to what it makes of its board
  module _ (ready : ReadyBoardShow) where
    abbrev board_ends : List KeyEvent → Judged Output
    board_ends script = Ends (board_shown_as ready (board_by script) limit)

    pub board-comes-as : (asked : BoardShow (List ℕ)) → IsBoardShow known limit asked ready → (o : Outcome) → bind (ScriptComes keys) board_ends o
        → BoardShowComes known board_by keys limit asked o
    board-comes-as (board.Commands text echo) is o come =
        behind (CommandsCome Processor known.names echo limit text) (λ commands. RunsOn board_by keys (program_debugged known.origins commands limit)) is.0
        is.2 o (rw (is.4, is.3) at come)
    board-comes-as board.State is o come = rw is at come

    pub board-comes : (asked : BoardShow (List ℕ)) → IsBoardShow known limit asked ready → (s : Seen)
        → bind (ScriptComes keys) (λ script. only (board_by script)) (Given s) → BoardShowComes known board_by keys limit asked (board_shown_as ready s limit)
    board-comes asked is s begins =
        board-comes-as asked is _
        (subst (λ b. bind (ScriptComes keys) board_ends (board_shown_as ready b limit)) (sym begins.here) (behind (ScriptComes keys) board_ends begins.value begins.gives _ refl))

    pub refused-standing : (asked : BoardShow (List ℕ)) → IsBoardShow known limit asked ready → (refusal : Refusal)
        → RefusedBy (bind (ScriptComes keys) (λ script. only (board_by script))) refusal → RefusedBy (BoardShowComes known board_by keys limit asked) refusal
    refused-standing asked is refusal by =
        refused-so (bind (ScriptComes keys) board_ends) (BoardShowComes known board_by keys limit asked) (board-comes-as asked is) refusal
        (by-tail (ScriptComes keys) (λ script. only (board_by script)) board_ends (λ script. by-each (λ b. b ≡ board_by script) (board_ends script)) (cause_of refusal) by)

-- a board that is at its first move stands
pub standing-of : (s : Seen) → IsBegun s → IsStanding s
standing-of s begun = let here = begun.begins in record { boundary = begun.boundary; few = omega (arith, here) }

-- one that goes on in the machine of an accepted file
pub standing-in : (file : List ℕ) (keys : Option (List ℕ)) → IsProgram file → (s : Seen) → ResumedBoardComes file keys (Given s) → IsStanding s
standing-in file keys accepted s begins =
    subst IsStanding (sym begins.here) (record { boundary = refl; few = accepted.cycle })

module _ (memory : Memory) (rom ram : List ℕ) (keys : Option (List ℕ)) where
  -- a board that begins is at its first move
  pub begun-of : (board : Seen) → BoardComes memory rom ram keys (Given board) → IsBegun board
  begun-of board begins = record {
    boundary = ap (λ (s : Seen). s.phase) begins.here.is;
    begins = ap (λ (s : Seen). s.machine.cycle) begins.here.is;
    pictures = begins.here.pictures;
  }

  module _ (known : Known) (limit : ℕ) where
    -- what is shown of it isn't ready
    pub refused-program-show : (asked : ProgramShow (List ℕ)) (refusal : Refusal) → RefusedBy (ProgramCommandsIn known limit asked) refusal
        → RefusedBy (ProgramShowComes known memory rom ram keys limit asked) refusal
    refused-program-show (show.Board shown) refusal by = refused-board-show (started (memory_in memory) rom ram) keys known limit shown refusal by
    refused-program-show asked refusal by = by-each (λ (commands : List Spoken). commands ≡ []) (ProgramShowComes known memory rom ram keys limit asked) (cause_of refusal) by

    -- it is ready, so it comes to what it makes of its board
    module _ (ready : ReadyProgramShow) where
      abbrev ends : List KeyEvent → Judged Output
      ends script = Ends (program_shown_as ready (started (memory_in memory) rom ram script) limit)

      abbrev Comes : Judged Output
      Comes = bind (ScriptComes keys) ends

      comes-as : (asked : ProgramShow (List ℕ)) → IsProgramShow known limit asked ready → (o : Outcome) → Comes o → ProgramShowComes known memory rom ram keys limit asked o
      comes-as show.Trace is o come = rw (is.2, is.1) at come
      comes-as show.Pictures is o come = rw is at come
      comes-as show.Profile is o come = rw (is.3, is.2) at come
      comes-as (show.Board shown) is o come = board-comes-as (started (memory_in memory) rom ram) keys known limit is.0 shown is.1 o (rw is.2 at come)

      pub program-comes : (asked : ProgramShow (List ℕ)) → IsProgramShow known limit asked ready → (board : Seen) → BoardComes memory rom ram keys (Given board)
          → ProgramShowComes known memory rom ram keys limit asked (program_shown_as ready board limit)
      program-comes asked is board begins =
          comes-as asked is _
          (subst (λ b. Comes (program_shown_as ready b limit)) (sym begins.here.is) (behind (ScriptComes keys) ends begins.value begins.gives _ refl))

      pub refused-board : (asked : ProgramShow (List ℕ)) → IsProgramShow known limit asked ready → (refusal : Refusal) → RefusedBy (BoardComes memory rom ram keys) refusal
          → RefusedBy (ProgramShowComes known memory rom ram keys limit asked) refusal
      refused-board asked is refusal by =
          refused-so Comes (ProgramShowComes known memory rom ram keys limit asked) (comes-as asked is) refusal
          (by-tail (ScriptComes keys) (λ script. each (BeginsProgram memory rom ram script)) ends (λ script. by-each (BeginsProgram memory rom ram script) (ends script))
          (cause_of refusal) by)

-- what was shown of a run
pub program-performs :
    (limit : ℕ) (pieces : List (List ℕ)) (board : Seen) (old new : SinkMeaning) (r : Result ProgramEnd Failed) → ShowAnswers pieces limit board old new r
    → PerformAnswers (program_ran limit pieces (ended_at limit board)) old new (program_ended limit r)
program-performs limit pieces board old new (Ok program.AtLimit) shows = record {
  puts = shows.puts;
  status_is = refl;
  report_is = ap (program_report limit) (sym shows.ending);
}
program-performs limit pieces board old new (Ok (program.Idle address)) shows = record {
  puts = shows.puts;
  status_is = refl;
  report_is = ap (program_report limit) (sym shows.ending);
}
program-performs limit pieces board old new (Err failed) fails = fails

-- ---- under the debugger

-- what the commands answered
pub program-debugs :
    (origins : Origins) (limit : ℕ) (commands : List Spoken) (board board' : Seen) (old new : SinkMeaning) (r : Result ProgramEnd Failed)
    → ProgramAnswers origins (limit_at limit board) commands board board' old new r
    → PerformAnswers (program_debugged origins commands limit board) old new (program_ended limit r)
program-debugs origins limit commands board board' old new (Ok program.AtLimit) runs = record {
  puts = runs.puts;
  status_is = refl;
  report_is = ap (program_report limit) (sym runs.ending);
}
program-debugs origins limit commands board board' old new (Ok (program.Idle address)) runs = record {
  puts = runs.puts;
  status_is = refl;
  report_is = ap (program_report limit) (sym runs.ending);
}
program-debugs origins limit commands board board' old new (Err failed) fails = fails

-- ---- what is saved

pub program-saves :
    (limit : ℕ) (board : Seen) (old new : SinkMeaning) (r : Result ProgramEnd Failed) → SaveAnswers (limit_at limit board) board old new r
    → PerformAnswers (program_saved limit board) old new (program_ended limit r)
program-saves limit board old new (Ok program.AtLimit) saves = record {
  puts = saves.0;
  status_is = refl;
  report_is = ap (program_report limit) (sym saves.1);
}
program-saves limit board old new (Ok (program.Idle address)) saves = record {
  puts = saves.0;
  status_is = refl;
  report_is = ap (program_report limit) (sym saves.1);
}
program-saves limit board old new (Err failed) fails = fails

-- a put of it failed, whatever is passed on
pub save-fails : (limit : ℕ) (board : Seen) (old new : SinkMeaning) (r : Result ProgramEnd Failed) → IsErr r
    → FailsWithin (program_pieces_of board.rom (machine_at board limit)) old new → SaveAnswers limit board old new r
save-fails limit board old new (Ok end) bad fault = cc
save-fails limit board old new (Err failed) bad fault = fault
