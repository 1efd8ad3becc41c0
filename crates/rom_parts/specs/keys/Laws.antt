-- What is proved of the sets of keys in FX0A. K is the sets of keys that were down at the main moves since the dispatch point.
use Rattle.std.specs.Prelude.{◌≡◌, ℕ, ◌+◌, ◌*◌, ◌%◌, ◌<◌, ◌≤◌, Bool, true, false, List, length}
use Rattle.machine.specs.Board.{Machine}
use Rattle.machine.specs.Keys.{Keys}
use Rattle.chip8_lang.specs.declared.view.Edition.{Edition}
use Rattle.chip8_lang.specs.State.{Lang}
use Rattle.chip8_lang.specs.Between.{IsAt, LetGo}
use Rattle.rom_law.specs.Code.{Input}
use Rattle.rom_law.specs.Program.{Program}
use Rattle.rom_law.specs.Rows.{Since, InBlock, dispatched, after_main, after_tick}
use Rattle.rom_rows.specs.Rom.{program_of}
use Rattle.rom_rows.specs.KeyBlocks.KeyBlock.{KeyNext, KeyCount, KeyFreed}
use Rattle.rom_rows.specs.KeyBlocks.KeyPlace.{KeyTest, KeyHeld}
use Rattle.rom_rows.specs.Table.{At, pieces}
use Rattle.rom_rows.specs.Table.Block.{OfKey}
use Rattle.rom_rows.specs.Table.Place.{AtKey}

-- each main move since the dispatch point took two cycles
abbrev pub Counted : Since → Type 0
Counted h = h.spent ≡ 2 * length h.keys

-- it holds of the record of what came since a dispatch, whatever comes
pub record CountsOn : Type 0 where
  pub none : (cycle : ℕ) (s : Lang) → Counted (dispatched cycle s)
  pub main : (u : Input) (h : Since) → Counted h → Counted (after_main u h)
  pub tick : (h : Since) → Counted h → Counted (after_tick h)

-- in one of the last n sets, key k is up or down as `down` says
pub record Lately (n : ℕ) (sets : List Keys) (k : ℕ) (down : Bool) : Type 0 where
  pub time : ℕ
  pub late : length sets ≤ time + n
  pub at : IsAt sets time k down

-- in one of the n sets from the p-th on it is so
pub record Within (p n : ℕ) (sets : List Keys) (k : ℕ) (down : Bool) : Type 0 where
  pub time : ℕ
  pub from : p ≤ time
  pub before : time < p + n
  pub at : IsAt sets time k down

-- FX0A waits for a key to go down: a row of a turn, up to the test or behind it, or the test itself
pub data Scans (x : Program) (b : Machine) (h : Since) : Type 0 where
  UpTo : (turn : ℕ) → InBlock x (pieces x) (OfKey (KeyNext turn)) b h → Scans x b h
  AtTest : (turn : ℕ) → At x (AtKey (KeyTest turn)) b h → Scans x b h
  Behind : (turn : ℕ) → InBlock x (pieces x) (OfKey (KeyCount turn)) b h → Scans x b h

-- There no key is down in all of any 400 successive sets of K.
abbrev pub NoneStays : (Edition → List ℕ) → Type 0
NoneStays rom =
    (e : Edition) (b : Machine) (h : Since)
    → Scans (program_of e (rom e)) b h
    → Counted h
    → (p : ℕ)
    → p + 400 ≤ length h.keys
    → (k : ℕ)
    → k < 16
    → Within p 400 h.keys k false

-- Where FX0A waits for the latched key to go up, that key is down in the last set of K.
abbrev pub StaysDown : (Edition → List ℕ) → Type 0
StaysDown rom =
    (e : Edition) (b : Machine) (h : Since) (turn looks : ℕ)
    → At (program_of e (rom e)) (AtKey (KeyHeld turn looks)) b h
    → Lately 1 h.keys b.key true

-- Behind its last test, its key is down in some set of K and up in some later one: down in one of the last five, and up in one of the last four.
abbrev pub GoesUp : (Edition → List ℕ) → Type 0
GoesUp rom =
    (e : Edition) (b : Machine) (h : Since) (turn looks : ℕ)
    (r : InBlock (program_of e (rom e)) (pieces (program_of e (rom e))) (OfKey (KeyFreed turn looks)) b h)
    → LetGo h.keys (r.start.regs.r.re.lo % 16) × Lately 5 h.keys (r.start.regs.r.re.lo % 16) true × Lately 4 h.keys (r.start.regs.r.re.lo % 16) false

pub record KeyLaws (rom : Edition → List ℕ) : Type 0 where
  pub none_stays : NoneStays rom
  pub stays_down : StaysDown rom
  pub goes_up : GoesUp rom
