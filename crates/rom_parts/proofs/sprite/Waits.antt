-- A place where main code waits for a tick.
use Rattle.std.proofs.Common.{◌≡◌, refl, sym, ◌∙◌, true, false}
use Rattle.machine.specs.Board.{Machine}
use Rattle.machine.specs.Ranges.{FitsMachine}
use Rattle.machine.specs.Schedule.{Tick}
use Rattle.chip8_lang.specs.declared.view.Edition.{Edition}
use Rattle.chip8_lang.specs.State.{Lang}
use Rattle.rom_law.specs.Program.{Program, code}
use Rattle.rom_law.specs.Holding.{Places, places, Holding}
use Rattle.rom_law.specs.Rows.{Since, Starts, after_tick}
use Rattle.rom_law.proofs.Kept.{RunsPlace}
use Rattle.rom_rows.specs.SpriteBlocks.{woken}
use Rattle.rom_rows.specs.Table.{Place, pieces}
use Rattle.rom_parts.specs.sprite.Code.{sprite_code}
use Rattle.rom_parts.proofs.Rom.{quick}

-- a state lies in the machine while it waits as it does when it is woken
pub waking : {x : Program} {p : Places} {s : Lang} → Holding x p s → Holding x (record p { idle = false }) s
waking o = record { is = o.is; stack = o.stack; size = o.size; latch = o.latch; enabled = o.enabled; awake = refl; on = o.on; entry = o.entry; page = o.page }

pub woken_fits : (b : Machine) → FitsMachine b → FitsMachine (woken b)
woken_fits b f =
    record {
      regs = record { r = f.regs.r; d = f.regs.d; df = f.regs.df; p = f.regs.p; x = f.regs.x; t = f.regs.t };
      ram = f.ram;
      size = f.size;
      key = f.key;
    }

-- what a place comes to where main code waits: a tick wakes it
pub waits : {e : Edition} {b : Machine} {h : Since} {s : Lang} (l : Place) → Holding (quick sprite_code e) (places (woken b)) s → b.regs.idle ≡ true
    → ((c : Machine) → Tick (code (quick sprite_code e)).low b c → Starts (pieces (quick sprite_code e)) c (after_tick h))
    → RunsPlace (quick sprite_code e) (pieces (quick sprite_code e)) l b h
waits l o idle wakes =
    record {
      runs = record { latch = o.latch; enabled = o.enabled; on = o.on; entry = o.entry };
      moves = λ i. absurd (awake (sym idle ∙ i));
      cycles = λ i. absurd (awake (sym idle ∙ i));
      later = λ i. absurd (awake (sym idle ∙ i));
      wakes = λ i. wakes;
    }
  where
    awake : true ≡ false → ⊥
    awake k = cc
