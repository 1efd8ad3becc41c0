-- The pieces before the waits of 00E0 and DXYN: what holds of them holds of the table's.
use Rattle.machine.specs.Board.{Machine}
use Rattle.rom_law.specs.Code.{moved}
use Rattle.rom_law.proofs.Moves.{reaches_any}
use Rattle.rom_law.specs.Program.{Program, code}
use Rattle.rom_law.specs.Rows.{Since, InBlock, Row, Starts, Ends, after_main, after_tick}
use Rattle.rom_law.specs.Rows.Ends.{Continues, Steps, Fails}
use Rattle.rom_law.specs.Rows.Row.{Inside, Alone}
use Rattle.rom_law.specs.Rows.Starts.{Enters, Meets}
use Rattle.rom_law.proofs.Kept.{RunsBlock, RunsPlace}
use Rattle.rom_rows.specs.Table.{Block, Place, moves, pieces, calm_pieces}

pub calm_in : (x : Program) {l : Block} {b : Machine} {h : Since} → InBlock x (calm_pieces x) l b h → InBlock x (pieces x) l b h
calm_in x r = record { start = r.start; since = r.since; k = r.k; n = r.n; inside = r.inside; grows = r.grows; fits = r.fits; head = r.head.0; after = r.after }

module _ (x : Program) (b : Machine) (h : Since) where
  pub starts_calm : Starts (calm_pieces x) b h → Starts (pieces x) b h
  starts_calm (Enters l head) = Enters l head.0
  starts_calm (Meets l at) = Meets l at

  ends_calm : Ends x (calm_pieces x) b h → Ends x (pieces x) b h
  ends_calm (Continues calm s) = Continues calm (starts_calm s)
  ends_calm (Steps s st makes) = Steps s st tt
  ends_calm (Fails stop st) = Fails stop st

  pub row_calm : Row x (calm_pieces x) b h → Row x (pieces x) b h
  row_calm (Inside l r) = Inside l (calm_in x r)
  row_calm (Alone l at) = Alone l at

pub comes_calm : {x : Program} {l : Block} {b : Machine} {h : Since} → RunsBlock x (calm_pieces x) l b h → RunsBlock x (pieces x) l b h
comes_calm {x = x} {l = l} {b = b} {h = h} c =
    record {
      runs = c.runs;
      awake = c.awake;
      some = c.some;
      end = c.end;
      reaches = reaches_any (code x) _ (moves l) b c.end c.reaches;
      ends = λ h' g. ends_calm x c.end h' (c.ends h' g);
    }

pub holds_calm : {x : Program} {l : Place} {b : Machine} {h : Since} → RunsPlace x (calm_pieces x) l b h → RunsPlace x (pieces x) l b h
holds_calm {x = x} {b = b} {h = h} o =
    record {
      runs = o.runs;
      moves = λ i u. ends_calm x (moved (code x) u b) (after_main u h) (o.moves i u);
      cycles = o.cycles;
      later = o.later;
      wakes = λ i c k. starts_calm x c (after_tick h) (o.wakes i c k);
    }
