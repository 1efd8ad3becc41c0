-- A run of the board from a start, under a script and up to a limit.
use Rattle.std.specs.Prelude.{ℕ, List}
use Rattle.machine.specs.Board.{Machine}
use Rattle.machine.specs.Keys.{Event as KeyEvent, held_at}
use Rattle.machine.specs.Run.{run_to}
use Rattle.chip8_lang.specs.declared.view.Edition.{Edition}
use Rattle.chip8_lang.specs.Events.{Event}
use Rattle.chip8_image.specs.Interpreters.{interpreter_of}
use Rattle.vip_relation.specs.State.{Start, events_from, machine_of}

-- its machines, and its events
abbrev pub run_of : Edition → Start → List KeyEvent → ℕ → List Machine
run_of e s script limit = run_to (interpreter_of e).rom (held_at script) (machine_of s) limit

abbrev pub events_in : Edition → Start → List KeyEvent → ℕ → List Event
events_in e s script limit = events_from (interpreter_of e) script s limit
