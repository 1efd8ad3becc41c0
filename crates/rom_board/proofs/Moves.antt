-- A move of the board keeps what is known of the running interpreter.
use Rattle.std.proofs.Common.{◌≡◌, ◌≤◌, true, sym, ◌∙◌, ap, subst}
use Rattle.machine.specs.Board.{move}
use Rattle.chip8_image.specs.declared.parts.Part.{Part}
use Rattle.chip8_image.specs.declared.parts.Part.TheVariants.{Sprite}
use Rattle.rom_law.specs.Runs.{Moves, carried}
use Rattle.rom_law.specs.Runs.Moves.{Still, Arrived, Halted}
use Rattle.rom_rows.specs.Rom.{vip}
use Rattle.rom_run.specs.Display.{Display}
use Rattle.rom_run.specs.Running.{Running, FromBoot}
use Rattle.rom_run.proofs.Display.{waits_soon}
use Rattle.rom_run.proofs.Dispatch.{dispatch_in}
use Rattle.rom_run.proofs.Parts.{moves_in, boot_rows}
use Rattle.rom_run.proofs.Waits.{sleeps}
use Rattle.vip_board.specs.Moves.{moved}
use Rattle.vip_board.specs.Seen.{held_by}
use Rattle.rom_board.specs.Runs.{carried_on, KeepsRunning, KeepsBooting, KeepsTime, KeepsDisplay}

pub keeps_running : (p : Part) → KeepsRunning p
keeps_running p e h b o =
    subst (λ rom. Moves (vip e) b.script (Running e b.script) (carried rom (held_by b) b.machine h) (move rom (held_by b) b.machine))
    (sym o.0.0) (moves_in p e b.script b.machine h o.0.1 o.1)

pub keeps_booting : KeepsBooting
keeps_booting e game b o = subst (λ rom. FromBoot e b.script game (move rom (held_by b) b.machine)) (sym o.0) (boot_rows e b.script game b.machine o.1)

pub keeps_time : KeepsTime
keeps_time e h b o inside p q =
    ap (λ rom. (carried rom (held_by b) b.machine h).spent) o.0.0
    ∙ dispatch_in e b.script b.machine h o.0.1 o.1 inside p (sym (ap (λ rom. (move rom (held_by b) b.machine).regs.p) o.0.0) ∙ q)

pub keeps_display : KeepsDisplay
keeps_display e h b o enabled waits = go enabled waits (keeps_running Sprite e h b o)
  where
    go : (moved b).machine.regs.ie ≡ true → (moved b).machine.regs.idle ≡ true
        → Moves (vip e) b.script (Running e b.script) (carried_on b h) (moved b).machine
        → Display (carried_on b h) (λ most. (carried_on b h).spent ≤ most)
    go enabled waits (Still calm goes_on r) =
        let w = waits_soon e b.script (moved b).machine (carried_on b h) r enabled waits in record { most = w.most; waits = w.waits; here = w.here.1 }
    go enabled waits (Arrived at goes_on covers s due r) = absurd (sleeps (sym waits ∙ s.stands.keeps.lies.awake))
    go enabled waits (Halted at covers stop s cycle) = absurd (sleeps (sym waits ∙ s.halts.keeps.lies.awake))
