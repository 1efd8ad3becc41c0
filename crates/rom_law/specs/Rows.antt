-- The rows of main code: what is known of a machine at each instruction, with a record of what came since the last dispatch.
use Rattle.std.specs.Prelude.{◌≡◌, ℕ, suc, ◌+◌, ◌*◌, ◌<◌, true, false, List, [], ◌∷◌, ◌++◌, length, slice_get, Option, Some, None}
use Rattle.machine.specs.Board.{Machine}
use Rattle.machine.specs.Keys.{Keys}
use Rattle.machine.specs.Ranges.{FitsMachine}
use Rattle.chip8_lang.specs.declared.view.Stop.{Stop}
use Rattle.chip8_lang.specs.State.{Lang, instr_at}
use Rattle.chip8_lang.specs.Ticks.{ticks}
use Rattle.chip8_lang.specs.Between.{Between}
use Rattle.rom_law.specs.Code.{Input, run, is_event}
use Rattle.rom_law.specs.Later.{After}
use Rattle.rom_law.specs.Moments.{Moment, Among, MovesTell}
use Rattle.rom_law.specs.Program.{Program, code, Dispatches, Halts}

-- What came since the last dispatch: the cycle of that dispatch, the language state there, the ticks since, the main cycles since, the sets of
-- keys that were held down in the main moves since, in order, and these moves, the latest first.
pub record Since : Type 0 where
  pub from : ℕ
  pub state : Lang
  pub ticks : ℕ
  pub spent : ℕ
  pub keys : List Keys
  pub moments : List Moment

-- every set of the first list is in the second one, in the same order
pub record Embeds (few many : List Keys) : Type 0 where
  pub place : ℕ → ℕ
  pub there : (u : ℕ) (held : Keys) → slice_get few u ≡ Some held → slice_get many (place u) ≡ Some held
  pub order : (u w : ℕ) → u < w → place u < place w

-- nothing yet
abbrev pub dispatched : ℕ → Lang → Since
dispatched cycle s = record { from = cycle; state = s; ticks = 0; spent = 0; keys = []; moments = [] }

-- one main move more, and one tick more
abbrev pub after_main : Input → Since → Since
after_main u h =
    record h {
      spent = h.spent + 2;
      keys = h.keys ++ u.held ∷ [];
      moments = record { spent = h.spent; ticks = h.ticks; held = u.held } ∷ h.moments;
    }

abbrev pub after_tick : Since → Since
after_tick h = record h { ticks = suc h.ticks }

abbrev pub after_ticks : ℕ → Since → Since
after_ticks n h = record h { ticks = h.ticks + n }

-- the language state at the last dispatch, after the ticks since: what lies in the machine until the step is made
abbrev pub now : Since → Lang
now h = ticks h.ticks h.state

-- h' is h after k main moves and n ticks
pub record Grows (h : Since) (k n : ℕ) (h' : Since) : Type 0 where
  pub from : h'.from ≡ h.from
  pub state : h'.state ≡ h.state
  pub ticks : h'.ticks ≡ h.ticks + n
  pub spent : h'.spent ≡ h.spent + 2 * k
  pub more : List Keys
  pub keys : h'.keys ≡ h.keys ++ more
  pub count : length more ≡ k
  pub moments : (m : Moment) → Among m h.moments → Among m h'.moments

-- main code runs or waits: the latch is clear, interrupts are enabled, and the display and R1 are as boot left them
pub record Ready (x : Program) (b : Machine) : Type 0 where
  pub latch : b.latch ≡ false
  pub enabled : b.regs.ie ≡ true
  pub on : b.on ≡ x.on
  pub entry : b.regs.r.r1 ≡ x.entry

-- The pieces of a ROM's main code. A block is straight code that ticks may pass: `Head` says what is known at its first instruction, and
-- `moves` how many instructions it has. A place is one instruction that uses the timers, the tone, the count of ticks or a flag, or a
-- wait: `At` says what is known there, ticks included. `top`, where it is given, is an address below which the blocks write; and `Makes` says
-- which states' steps the pieces make.
pub record Pieces : Type 1 where
  pub Block : Type 0
  pub Head : Block → Machine → Since → Type 0
  pub moves : Block → Since → ℕ
  pub top : Option ℕ
  pub Place : Type 0
  pub At : Place → Machine → Since → Type 0
  pub Makes : Lang → Type 0

-- The row of a block: the machine is, after n ticks, what k main moves made of a machine at the head of the block.
pub record InBlock (x : Program) (t : Pieces) (l : t.Block) (b : Machine) (h : Since) : Type 0 where
  pub start : Machine
  pub since : Since
  pub k : ℕ
  pub n : ℕ
  pub inside : k < t.moves l since
  pub grows : Grows since k n h
  pub fits : FitsMachine start
  pub head : t.Head l start since
  pub after : After (code x).low n (run (code x) k start) b

-- the row of an address: the machine is in a block, or at a place
pub data Row (x : Program) (t : Pieces) (b : Machine) (h : Since) : Type 0 where
  Inside : (l : t.Block) → InBlock x t l b h → Row x t b h
  Alone : (l : t.Place) → t.At l b h → Row x t b h

-- a piece begins
pub data Starts (t : Pieces) (b : Machine) (h : Since) : Type 0 where
  Enters : (l : t.Block) → t.Head l b h → Starts t b h
  Meets : (l : t.Place) → t.At l b h → Starts t b h

-- a dispatch: the step was made, in its main cycles, with the ticks and the key that its main moves tell, and s lies in the machine
pub record Stepped (x : Program) (b : Machine) (h : Since) (s : Lang) : Type 0 where
  pub runs : x.stop_of h.state ≡ None
  pub between : Between x.edition h.state h.ticks h.keys s
  pub time : (n : ℕ) → x.takes h.state between.key ≡ Some n → h.spent ≡ n
  pub told : MovesTell (instr_at h.state) h.state h.moments h.spent between.before between.key
  pub stands : Dispatches x b s

-- a stop: it is that of the state, in its main cycles
pub record Stopped (x : Program) (b : Machine) (h : Since) (stop : Stop) : Type 0 where
  pub fits : x.stop_of h.state ≡ Some stop
  pub time : h.spent ≡ x.stops_after h.state
  pub halts : Halts x b (now h) stop

-- what a piece comes to: a next piece with no event, a dispatch or a stop
pub data Ends (x : Program) (t : Pieces) (b : Machine) (h : Since) : Type 0 where
  Continues : is_event (code x) b ≡ false → Starts t b h → Ends x t b h
  Steps : (s : Lang) → Stepped x b h s → t.Makes h.state → Ends x t b h
  Fails : (stop : Stop) → Stopped x b h stop → Ends x t b h

-- what a main move comes to: no event and a row, a dispatch or a stop
pub data Outcome (x : Program) (t : Pieces) (b : Machine) (h : Since) : Type 0 where
  Still : is_event (code x) b ≡ false → Row x t b h → Outcome x t b h
  Dispatched : (s : Lang) → Stepped x b h s → t.Makes h.state → Outcome x t b h
  Halted : (stop : Stop) → Stopped x b h stop → Outcome x t b h
