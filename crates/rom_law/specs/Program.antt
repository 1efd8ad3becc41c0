-- A ROM under proof, and where a language state lies in a machine that runs it.
use Rattle.std.specs.Prelude.{◌≡◌, ℕ, ◌/◌, Bool, true, List, Option, slice_index}
use Rattle.machine.specs.Bank.{Word, word_of}
use Rattle.machine.specs.Board.{Machine}
use Rattle.machine.specs.Keys.{Event}
use Rattle.chip8_lang.specs.declared.view.Edition.{Edition}
use Rattle.chip8_lang.specs.declared.view.Stop.{Stop}
use Rattle.chip8_lang.specs.Editions.{memory_end, screen_start, stop_cell}
use Rattle.chip8_lang.specs.State.{Lang, instr_at}
use Rattle.chip8_lang.specs.Step.{KeyInput, stop_number, stop_of}
use Rattle.chip8_lang.specs.Timed.{Next, next_point, stop_cycles}
use Rattle.chip8_lang.specs.Between.{ticks_between}
use Rattle.chip8_lang.specs.Bounds.{bound_of}
use Rattle.chip8_lang.specs.Places.{Interpreter, Lies}
use Rattle.rom_law.specs.Code.{Code}
use Rattle.rom_law.specs.Moments.{takes_by}

-- An interpreter of an edition; whether its boot turns the display on, and what it leaves in R1 and RB.1; which stop fits a state, since
-- an interpreter may know a part of the language alone; the cycle bound of a state; the timer ticks between two cycles; the main cycles of a
-- state's step, by what it takes from the keypad, and of its stop; and what comes next behind a dispatch point in a
-- cycle, under a script and up to a limit.
pub record Program : Type 0 where
  pub edition : Edition
  pub interpreter : Interpreter
  pub on : Bool
  pub entry : Word
  pub page : ℕ
  pub stop_of : Lang → Option Stop
  pub bound_of : Lang → Option ℕ
  pub ticks_between : ℕ → ℕ → ℕ
  pub takes : Lang → KeyInput → Option ℕ
  pub stops_after : Lang → ℕ
  pub next : List Event → ℕ → ℕ → Lang → Next

-- its code, as the theory of moves takes it
abbrev pub code : Program → Code
code x =
    record { rom = x.interpreter.rom; fetch = x.interpreter.fetch; halt = x.interpreter.halt; low = memory_end x.edition }

-- the state s lies in the machine, and what boot set up is as boot left it
pub record KeepsState (x : Program) (b : Machine) (s : Lang) : Type 0 where
  pub lies : Lies x.edition b s
  pub on : b.on ≡ x.on
  pub entry : b.regs.r.r1 ≡ x.entry
  pub page : b.regs.r.rb.hi ≡ x.page

-- besides, the machine is at the fetch loop, with program counter R4
pub record Dispatches (x : Program) (b : Machine) (s : Lang) : Type 0 where
  pub keeps : KeepsState x b s
  pub p : b.regs.p ≡ 4
  pub r4 : b.regs.r.r4 ≡ word_of x.interpreter.fetch

-- or it is at the stop, with program counter R3 and the number of the stop in its cell
pub record Halts (x : Program) (b : Machine) (s : Lang) (stop : Stop) : Type 0 where
  pub keeps : KeepsState x b s
  pub p : b.regs.p ≡ 3
  pub r3 : b.regs.r.r3 ≡ word_of x.interpreter.halt
  pub number : slice_index b.ram stop_cell ≡ stop_number stop

-- An interpreter of the whole language: boot turns the display on, and leaves the interrupt routine in R1 and the page of the screen in
-- RB.1.
abbrev pub whole : Edition → Interpreter → Program
whole e i =
    record {
      edition = e;
      interpreter = i;
      on = true;
      entry = word_of i.entry;
      page = screen_start e / 256;
      stop_of = stop_of e;
      bound_of = bound_of e;
      ticks_between = ticks_between;
      takes = λ s key. takes_by e (instr_at s) s key;
      stops_after = stop_cycles e;
      next = next_point e;
    }
