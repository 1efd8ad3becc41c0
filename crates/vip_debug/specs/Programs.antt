-- What the commands write on a board that runs any program, and where they leave it: a fold over the commands, whose state is the machine.
use Rattle.std.specs.Prelude.{◌≡◌, ◌≤◌, ◌-◌, ℕ, if◌then◌else◌, Bool, List, [], ◌∷◌, ◌++◌, Result, Ok, Err, Some, codes}
use Rattle.asm_core.specs.Origins.{Origins}
use Rattle.machine.specs.Board.{Machine}
use Rattle.machine.specs.Keys.{Event, held_at}
use Rattle.vip_board.specs.Seen.{Seen}
use Rattle.vip_byte.specs.Text.{newline}
use Rattle.vip_words.specs.Spoken.{Spoken}
use Rattle.vip_words.specs.declared.debug_commands.Command.{Command}
use Rattle.vip_words.specs.declared.debug_commands.Command.TheVariants.{Runs, Shows}
use Rattle.vip_words.specs.declared.debug_commands.Running.{Running}
use Rattle.vip_words.specs.declared.debug_commands.Running.TheVariants.{Step, To, Watch}
use Rattle.vip_cpu.specs.declared.cpu.Phase.TheVariants.{Boundary}
use Rattle.vip_outside.specs.Sink.{SinkMeaning}
use Rattle.vip_outside.specs.Pieces.{PutsAll, FailsWithin}
use Rattle.vip_outside.specs.declared.sink.Failed.{Failed}
use Rattle.vip_program.specs.Lines.{labels_before}
use Rattle.vip_program.specs.Trace.{sleeps, idle_address, lines, end_at}
use Rattle.vip_program.specs.declared.trace.ProgramEnd.{ProgramEnd}
use Rattle.vip_text.specs.Stops.{idle_line}
use Rattle.vip_debug.specs.TargetRun.{Run, state_of}
use Rattle.vip_debug.specs.Commands.{Came, came}
use Rattle.vip_debug.specs.Answered.{completed_lines, shown}
use Rattle.vip_debug.specs.Fold.{after_all, all_pieces}

-- what a command writes that comes to a machine: that the processor sleeps there, and else that the command isn't completed; these lines
-- where it is
abbrev pub ended_lines : Machine → Bool → List (List ℕ) → List (List ℕ)
ended_lines b completed lines =
    if sleeps b then idle_line (idle_address b) ∷ []
    else if completed then lines
    else (codes "end" ++ newline) ∷ []

module _ (rom : List ℕ) (script : List Event) (limit : ℕ) where
  -- the run from a machine on, which ends where the processor sleeps
  abbrev pub run_on : Machine → Run
  run_on b = record { rom = rom; script = script; first = b; ends = sleeps }

  abbrev pub comes : Running → Machine → Came
  comes running b = came (run_on b) limit running

  abbrev pub comes_to : Running → Machine → Machine
  comes_to running b = state_of (run_on b) (comes running b).moves

  -- the labels at the instruction that changed what a command watches
  abbrev pub changing : Origins → Running → Machine → List (List ℕ)
  changing origins (Watch address count) b = labels_before origins (state_of (run_on b) ((comes (Watch address count) b).moves - 1))
  changing origins running b = []

  -- what a command writes other than `step`
  abbrev pub gone_lines : Origins → Running → Machine → List (List ℕ)
  gone_lines origins running b =
      ended_lines (comes_to running b) (comes running b).completed
      (changing origins running b ++ completed_lines (Some origins) (run_on b) running (comes running b).moves)

  -- `step` writes the lines of the moves that it makes
  abbrev pub ran_lines : Origins → Running → Machine → List (List ℕ)
  ran_lines origins (Step count) b =
      lines rom (held_at script) origins b (comes (Step count) b).moves ++ ended_lines (comes_to (Step count) b) (comes (Step count) b).completed []
  ran_lines origins running b = gone_lines origins running b

  -- what a command writes, and the machine after it; one that speaks of the language does nothing: no text for a program says it
  abbrev pub program_pieces : Origins → Command → Machine → List (List ℕ)
  program_pieces origins (Runs running) b = ran_lines origins running b
  program_pieces origins (Shows showing) b = shown origins rom b showing
  program_pieces origins _ b = []

  abbrev pub machine_after : Command → Machine → Machine
  machine_after (Runs running) b = comes_to running b
  machine_after _ b = b

-- ---- all commands

-- the machine after some commands, and what they write
abbrev pub machine_with : Seen → ℕ → List Spoken → Machine
machine_with s limit commands = after_all (machine_after s.rom s.script limit) commands s.machine

-- the one at which `to` its limit leaves a board: the end of its run
abbrev pub machine_at : Seen → ℕ → Machine
machine_at s limit = machine_after s.rom s.script limit (Runs (To limit)) s.machine

abbrev pub program_written : Origins → Seen → ℕ → List Spoken → List (List ℕ)
program_written origins s limit commands =
    all_pieces (machine_after s.rom s.script limit) (program_pieces s.rom s.script limit origins) commands s.machine

-- the board with another machine, within a limit
pub record StandsAs (limit : ℕ) (old : Seen) (b : Machine) (new : Seen) : Type 0 where
  pub phase : new.phase ≡ Boundary
  pub rom : new.rom ≡ old.rom
  pub script : new.script ≡ old.script
  pub machine : new.machine ≡ b
  pub within : new.machine.cycle ≤ limit

-- all pieces went out whole; the board is where the commands leave it, and the processor sleeps there or not
pub record RunsProgram (origins : Origins) (limit : ℕ) (commands : List Spoken) (old new : Seen) (out out' : SinkMeaning) (end : ProgramEnd) : Type 0 where
  pub puts : PutsAll (program_written origins old limit commands) out out'
  pub stands : StandsAs limit old (machine_with old limit commands) new
  pub ending : end ≡ end_at (machine_with old limit commands)

abbrev pub ProgramAnswers : Origins → ℕ → List Spoken → Seen → Seen → SinkMeaning → SinkMeaning → Result ProgramEnd Failed → Type 0
ProgramAnswers origins limit commands old new out out' (Ok end) = RunsProgram origins limit commands old new out out' end
ProgramAnswers origins limit commands old new out out' (Err e) = FailsWithin (program_written origins old limit commands) out out'

-- the pieces of one command went out whole, and the board is where it leaves it; or a put of them failed
abbrev pub OneAnswers : ℕ → (Machine → List (List ℕ)) → (Machine → Machine) → Seen → Seen → SinkMeaning → SinkMeaning → Result (Unit {0}) Failed → Type 0
OneAnswers limit pieces after old new out out' (Ok done) = PutsAll (pieces old.machine) out out' × StandsAs limit old (after old.machine) new
OneAnswers limit pieces after old new out out' (Err e) = FailsWithin (pieces old.machine) out out'
