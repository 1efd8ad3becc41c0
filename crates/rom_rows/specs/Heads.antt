-- What is known of a machine at the heads of the interpreter's blocks. In all of them s is the language state at the dispatch point,
-- after the ticks that came since.
use Rattle.std.specs.Prelude.{◌≡◌, ℕ, ◌+◌, ◌*◌, ◌/◌, ◌%◌, ◌≤◌, Bool, true, false, List, [], ◌∷◌, Some}
use Rattle.machine.specs.Bank.{word, word_of}
use Rattle.machine.specs.Board.{Machine}
use Rattle.chip8_lang.specs.declared.view.Edition.{Edition}
use Rattle.chip8_lang.specs.declared.view.Edition.TheVariants.{Usual, Tall}
use Rattle.chip8_lang.specs.declared.view.Stop.{Stop}
use Rattle.chip8_lang.specs.State.{Lang, memory_byte, instr_at, is_fetchable}
use Rattle.chip8_lang.specs.Step.{next, stop_number, step}
use Rattle.chip8_lang.specs.Step.KeyInput.{Nothing}
use Rattle.chip8_lang.specs.Timed.{cycles, stop_cycles}
use Rattle.chip8_image.specs.declared.image.labels.TheConstants.{AT_FETCH}
use Rattle.rom_law.specs.Moments.{TicksBefore, Sees, Searches, Holds}
use Rattle.rom_law.specs.Program.{Program}
use Rattle.rom_law.specs.Rows.{Since}
use Rattle.rom_law.specs.Holding.{places, Holding}

-- ---- time

-- The main cycles from the dispatch to a head: so many; so many that n are left of all those of the instruction or the stop; so many behind a
-- wait, where a tick has come. Or so many, where all ticks so far came before the main move at k of them; where that move found a key up or down; or
-- where FX0A has looked at so many keys in turn. Or it holds on to a key, at so many looks, or has let it go.
pub data Time : Type 0 where
  Exactly : ℕ → Time
  Left : (n all : ℕ) → Time
  Waited : ℕ → Time
  Met : (n k : ℕ) → Time
  Seen : (n k key : ℕ) (down : Bool) → Time
  Searching : (n turns : ℕ) → Time
  Looking : (turn looks : ℕ) → Time
  Freed : (turn looks : ℕ) → Time

abbrev pub Within : Time → Since → Type 0
Within (Exactly n) h = h.spent ≡ n
Within (Left n all) h = h.spent + n ≡ all
Within (Waited n) h = (h.spent ≡ n) × (1 ≤ h.ticks)
Within (Met n k) h = (h.spent ≡ n) × TicksBefore h.moments k h.ticks
Within (Seen n k key down) h = (h.spent ≡ n) × Sees h.moments k key down
Within (Searching n turns) h = (h.spent ≡ n) × Searches h.moments turns
Within (Looking turn looks) h = (h.spent ≡ 116 + 14 * turn + 2 * looks) × Holds h.moments turn looks
Within (Freed turn looks) h =
    (h.spent ≡ 118 + 14 * turn + 2 * looks) × Holds h.moments turn looks × Sees h.moments (116 + 14 * turn + 2 * looks) (turn % 16) false

-- all those of a stop, and of an instruction that takes no key
abbrev pub to_stop : Program → Lang → ℕ
to_stop x s = stop_cycles x.edition s

abbrev pub to_dispatch : Program → Lang → ℕ
to_dispatch x s = cycles x.edition (instr_at s) Nothing s

-- ---- addresses

-- the addresses so far past a label
abbrev pub from : ℕ → List ℕ → List ℕ
from a [] = []
from a (offset ∷ offsets) = (a + offset) ∷ from a offsets

-- ---- parts of a state

-- the bytes of the opcode at pc
abbrev pub high_byte : Lang → ℕ
high_byte s = memory_byte s s.pc

abbrev pub low_byte : Lang → ℕ
low_byte s = memory_byte s (s.pc + 1)

-- a byte that differs in the editions
abbrev pub by_edition : Edition → ℕ → ℕ → ℕ
by_edition Usual usual tall = usual
by_edition Tall usual tall = tall

-- the page of the end of game memory, of the stack, of the sprite work and of V0 to VF
abbrev pub page_of : Edition → ℕ
page_of e = by_edition e 0x0e 0x0d

-- the first page of the screen
abbrev pub screen_page : Edition → ℕ
screen_page e = by_edition e 0x0f 0x0e

-- ---- the heads

-- in the fetch, at a, with program counter R4: s is in its places
pub record Fetching (x : Program) (a : ℕ) (b : Machine) (s : Lang) : Type 0 where
  pub holds : Holding x (places b) s
  pub p : b.regs.p ≡ 4
  pub r4 : b.regs.r.r4 ≡ word_of a

-- In a routine, at a, with program counter R3 and with R4 at the fetch: s is in its places but for pc, which has gone past the opcode.
-- The opcode is in RC, R6 points to VX, and R7 to VY.
pub record Entered (x : Program) (a : ℕ) (b : Machine) (s : Lang) : Type 0 where
  pub holds : Holding x (places b) (next s)
  pub inside : is_fetchable x.edition s ≡ true
  pub p : b.regs.p ≡ 3
  pub r3 : b.regs.r.r3 ≡ word_of a
  pub r4 : b.regs.r.r4 ≡ word_of AT_FETCH
  pub r6 : b.regs.r.r6 ≡ word (page_of x.edition) (0xf0 + high_byte s % 16)
  pub r7 : b.regs.r.r7 ≡ word (page_of x.edition) (0xf0 + low_byte s / 16)
  pub rc : b.regs.r.rc ≡ word (high_byte s) (low_byte s)

-- the same at the routine for a first digit
pub record Enters (x : Program) (a d : ℕ) (b : Machine) (s : Lang) : Type 0 where
  pub entered : Entered x a b s
  pub digit : high_byte s / 16 ≡ d

-- in a routine, at a, where the step was made but for the way to the dispatch: no key was taken
pub record Done (x : Program) (a : ℕ) (b : Machine) (s : Lang) : Type 0 where
  pub holds : Holding x (places b) (step x.edition Nothing s)
  pub inside : is_fetchable x.edition s ≡ true
  pub p : b.regs.p ≡ 3
  pub r3 : b.regs.r.r3 ≡ word_of a
  pub r4 : b.regs.r.r4 ≡ word_of AT_FETCH

-- s stops, and the number of its stop is in D: at a page's way to the stops, with pc past the opcode
pub record Leaving (x : Program) (a : ℕ) (b : Machine) (s : Lang) : Type 0 where
  pub holds : Holding x (places b) (next s)
  pub p : b.regs.p ≡ 3
  pub r3 : b.regs.r.r3 ≡ word_of a
  pub stop : Stop
  pub fits : x.stop_of s ≡ Some stop
  pub number : b.regs.d ≡ stop_number stop

-- s stops, the number of its stop is in RE.0, and z is in its places: s, or s with pc past the opcode
pub record Stopping (x : Program) (a : ℕ) (z : Lang → Lang) (b : Machine) (s : Lang) : Type 0 where
  pub holds : Holding x (places b) (z s)
  pub p : b.regs.p ≡ 3
  pub r3 : b.regs.r.r3 ≡ word_of a
  pub stop : Stop
  pub fits : x.stop_of s ≡ Some stop
  pub number : b.regs.r.re.lo ≡ stop_number stop
