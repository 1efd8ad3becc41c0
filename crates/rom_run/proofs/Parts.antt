-- The laws of rows and of moves, part by part.
use Rattle.std.proofs.Common.{◌≡◌, suc, ◌<◌, ◌⊎◌, inl, inr, sym, subst, arith, refl}
use Rattle.std.proofs.lemmas.Bool.{cases_eq}
use Rattle.machine.specs.Board.{Machine, move, start}
use Rattle.machine.specs.Keys.{held_at}
use Rattle.machine.specs.Run.{after_moves}
use Rattle.chip8_image.specs.declared.parts.Part.{Part}
use Rattle.chip8_lang.specs.State.{first}
use Rattle.rom_law.specs.Program.{Dispatches}
use Rattle.rom_law.specs.Rows.{dispatched}
use Rattle.rom_law.proofs.Kept.{row_moves}
use Rattle.rom_rows.specs.Rom.{image, vip}
use Rattle.rom_rows.specs.Table.{pieces}
use Rattle.rom_parts.specs.fetch.Laws.{Boot, boot_moves}
use Rattle.rom_run.specs.Laws.{RowsIn, MovesIn, BootRows}
use Rattle.rom_run.specs.Running.{Running, FromBoot}
use Rattle.rom_run.specs.Running.FromBoot.{Boots, Begins}
use Rattle.rom_run.specs.States.{BootsTo}
use Rattle.rom_run.proofs.Moves.{board_moves}
use Rattle.rom_run.proofs.Proved.{proved}
use Rattle.rom_run.proofs.Run.{boot, booted, starts_event, starts_running}

pub rows_in : (p : Part) → RowsIn p
rows_in p e u b h f i at row = row_moves (vip e) (pieces (vip e)) (proved e) u b h f i row

pub moves_in : (p : Part) → MovesIn p
moves_in p e script b h r at = board_moves e script b h r

pub boot_rows : BootRows
boot_rows e script game b o = subst (λ z. FromBoot e script game (move (image e) (held_at script) z)) (sym o.is) (go (cases_eq (suc o.k) boot_moves))
  where
    boots : Boot e (image e) (held_at script) game
    boots = boot e game o.room o.bytes script

    begins : (c : Machine) → BootsTo e game c → Dispatches (vip e) c (first e game) → FromBoot e script game c
    begins c to d =
        Begins (starts_event e script c to.starts).0 (starts_event e script c to.starts).1 (omega (arith, to.cycle)) d
        (subst (λ z. Running e script c (dispatched c.cycle z)) to.first_is (starts_running e script c to.starts))

    go : (suc o.k ≡ boot_moves) ⊎ (suc o.k ≡ boot_moves → ⊥) → FromBoot e script game (after_moves (image e) (held_at script) (start game) (suc o.k))
    go (inl last) =
        subst (λ n. FromBoot e script game (after_moves (image e) (held_at script) (start game) n)) (sym last)
        (begins (after_moves (image e) (held_at script) (start game) boot_moves) (booted e game o.room o.bytes script) boots.stands)
    go (inr d) =
        let more : suc o.k < boot_moves = omega (arith, o.inside, d) in
        Boots (boots.quiet (suc o.k) more).0 (boots.quiet (suc o.k) more).1
        (record { room = o.room; bytes = o.bytes; k = suc o.k; inside = more; is = refl })
