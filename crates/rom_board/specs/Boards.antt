-- What is known of the board of a run.
use Rattle.std.specs.Prelude.{◌≡◌, ℕ, List, false, true, Some}
use Rattle.machine.specs.Board.{Machine}
use Rattle.chip8_lang.specs.Events.{is_stop}
use Rattle.chip8_lang.specs.View.{view_at}
use Rattle.rom_law.specs.Language.{IsStop}
use Rattle.rom_law.specs.Rows.{Since}
use Rattle.rom_law.specs.Runs.{record_after}
use Rattle.rom_run.specs.Running.{Running, Booting}
use Rattle.vip_relation.specs.State.{VipState, interpreter, machine_of}
use Rattle.vip_relation.specs.State.Start.{Reset}
use Rattle.rom_board.specs.Program.{program}

-- the record of the moves since the last dispatch point of its run
abbrev pub record_of : VipState → Since
record_of v = record_after (program v.edition) v.board.script (machine_of v.start) v.moves

-- it is at the stop point, and the stop is that of the state at the last dispatch point, of which it tells
pub record HasHalted (v : VipState) : Type 0 where
  pub here : is_stop (interpreter v) v.board.machine ≡ true
  pub b : Machine
  pub told : v.last ≡ Some (view_at v.edition b)
  pub stop : IsStop (program v.edition) b v.board.machine

-- The board is at the stop point; or it is in boot, behind a reset; or what is known of a running interpreter holds of it, with the record of the
-- moves since the last dispatch point.
pub data IsKnown (v : VipState) : Type 0 where
  Halts : HasHalted v → IsKnown v
  Boots : (game : List ℕ) → v.start ≡ Reset game → is_stop (interpreter v) v.board.machine ≡ false → Booting v.edition v.board.script game v.board.machine
      → IsKnown v
  Runs : is_stop (interpreter v) v.board.machine ≡ false → Running v.edition v.board.script v.board.machine (record_of v) → IsKnown v
