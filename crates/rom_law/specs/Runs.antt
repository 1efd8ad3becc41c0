-- A move of the board, and the record of the moves since the last dispatch point.
use Rattle.std.specs.Prelude.{◌≡◌, ℕ, zero, suc, ◌+◌, ◌≤◌, true, false, if◌then◌else◌, List, [], ◌∷◌, ◌++◌}
use Rattle.machine.specs.Opcodes.{cycles_of}
use Rattle.machine.specs.Board.{Machine, Case, case_of, move, opcode_of}
use Rattle.machine.specs.Board.Case.{Interrupt, Instruction}
use Rattle.machine.specs.Keys.{Keys, held_at}
use Rattle.machine.specs.Keys.{Event as KeyEvent}
use Rattle.machine.specs.Run.{after_moves}
use Rattle.chip8_lang.specs.declared.view.Stop.{Stop}
use Rattle.chip8_lang.specs.State.{Lang}
use Rattle.chip8_lang.specs.Between.{keys_between}
use Rattle.chip8_lang.specs.Timed.Next.{Dispatch, Stopped}
use Rattle.chip8_lang.specs.Places.{state_of}
use Rattle.chip8_lang.specs.Events.{is_dispatch, is_stop}
use Rattle.rom_law.specs.Program.{Program}
use Rattle.rom_law.specs.Rows.{Since, Embeds, Stepped, Stopped as StoppedBy, after_tick, now, dispatched}

-- the language state at a dispatch point
abbrev pub state_at : Program → Machine → Lang
state_at x b = state_of x.edition b

-- the state after so many moves of a run
abbrev pub state_after : Program → List KeyEvent → Machine → ℕ → Machine
state_after x script first n = after_moves x.interpreter.rom (held_at script) first n

-- ---- the record

-- The record after the board's next move. An interrupt is one tick more. An instruction of main code, which runs with interrupts enabled, adds
-- its cycles and the set of keys that are held down in the cycle after its fetch. Idle cycles, DMA cycles and the instructions of an interrupt
-- routine, which runs with interrupts disabled, add nothing.
abbrev pub carried_by : Case → List ℕ → (ℕ → Keys) → Machine → Since → Since
carried_by Interrupt rom held b h = after_tick h
carried_by Instruction rom held b h =
    if b.regs.ie then record h {
      spent = h.spent + cycles_of (opcode_of rom b);
      keys = h.keys ++ held (b.cycle + 1) ∷ [];
      moments = record { spent = h.spent; ticks = h.ticks; held = held (b.cycle + 1) } ∷ h.moments;
    } else h
carried_by _ rom held b h = h

abbrev pub carried : List ℕ → (ℕ → Keys) → Machine → Since → Since
carried rom held b h = carried_by (case_of b) rom held b h

-- the record at the next state: a move that comes to a dispatch point begins it anew, and each other one carries it on
abbrev pub next_record : Program → List KeyEvent → Machine → Since → Since
next_record x script b h =
    let c = move x.interpreter.rom (held_at script) b in
    if is_dispatch x.interpreter c then dispatched c.cycle (state_at x c) else carried x.interpreter.rom (held_at script) b h

-- The record of the moves since the last dispatch point, after so many moves of a run that begins at one. In a run from reset it is that from the
-- first dispatch point on.
unfoldable pub record_after : Program → List KeyEvent → Machine → ℕ → Since
record_after x script first zero = dispatched first.cycle (state_at x first)
record_after x script first (suc n) = next_record x script (state_after x script first n) (record_after x script first n)

-- ---- a move

-- The record covers the interval from its dispatch point up to c: its ticks are the interrupts between the two, and its sets of keys were held
-- down in the cycles between, in order.
pub record Covers (x : Program) (script : List KeyEvent) (c : Machine) (h : Since) : Type 0 where
  pub ticks : h.ticks ≡ x.ticks_between h.from c.cycle
  pub keys : Embeds h.keys (keys_between script h.from c.cycle)

-- The dispatch point c is what comes next behind the one at which the record begins, up to every limit that leaves time for it.
abbrev pub IsNext : Program → List KeyEvent → Machine → Since → Type 0
IsNext x script c h =
    (limit : ℕ)
    → c.cycle ≤ limit
    → x.next script limit h.from h.state ≡ Dispatch c.cycle (state_at x c)

-- The same of the stop point c, under every script.
abbrev pub IsEnd : Program → Machine → Since → Stop → Type 0
IsEnd x c h stop = (script : List KeyEvent) (limit : ℕ) → x.next script limit h.from h.state ≡ Stopped c.cycle (now h) stop

-- What a move of the board comes to, from a state of which `Running` holds, where h is its record as the move carries it on: no event; a
-- dispatch, with the step made, from which a new record begins; or the stop of the state; each of these is what the language's time says.
pub data Moves (x : Program) (script : List KeyEvent) (Running : Machine → Since → Type 0) (h : Since) (c : Machine) : Type 0 where
  Still : is_dispatch x.interpreter c ≡ false → is_stop x.interpreter c ≡ false → Running c h → Moves x script Running h c
  Arrived : is_dispatch x.interpreter c ≡ true → is_stop x.interpreter c ≡ false → Covers x script c h → Stepped x c h (state_at x c)
      → IsNext x script c h → Running c (dispatched c.cycle (state_at x c)) → Moves x script Running h c
  Halted : is_stop x.interpreter c ≡ true → Covers x script c h → (stop : Stop) → StoppedBy x c h stop
      → IsEnd x c h stop → Moves x script Running h c
