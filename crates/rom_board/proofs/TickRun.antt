-- A run of the interrupt routine on a board.
use Rattle.std.proofs.Common.{◌≡◌, ℕ, zero, suc, ◌+◌, sym, ◌∙◌, ap, subst, arith, refl}
use Rattle.machine.specs.Board.{Machine, move}
use Rattle.machine.specs.Keys.{held_at}
use Rattle.machine.specs.Pictures.{interrupt_at, place, interrupt_place}
use Rattle.machine.specs.Run.{after_moves}
use Rattle.machine.specs.Schedule.{Tick}
use Rattle.chip8_image.specs.declared.parts.Part.TheVariants.{Timer as IsTimer}
use Rattle.chip8_lang.specs.declared.view.Edition.{Edition}
use Rattle.chip8_lang.specs.Editions.{memory_end}
use Rattle.chip8_lang.specs.Timed.{routine_cycles}
use Rattle.rom_law.specs.Rows.{Since, after_tick}
use Rattle.rom_law.specs.Runs.{Moves}
use Rattle.rom_rows.specs.Rom.{image, vip}
use Rattle.rom_parts.specs.timer.Routine.{IsTick, routine_moves}
use Rattle.rom_parts.specs.timer.Scan.{Scans}
use Rattle.rom_run.specs.Running.{Running}
use Rattle.rom_run.proofs.Image.{parts}
use Rattle.rom_run.proofs.Moves.{interrupted}
use Rattle.rom_run.proofs.States.{taken_there}
use Rattle.rom_run.proofs.WholeTick.{main_there, whole_tick, tick_comes}
use Rattle.vip_board.specs.Seen.{Seen, held_by}
use Rattle.rom_board.specs.Ticks.{moved_times, ticked, frame_of, StartsTick, MadeTick, Scanned, TakesTick, MakesTick, ScansScreen}

-- ---- the machine of a board after so many moves

same_rom : (n : ℕ) (b : Seen) → (moved_times n b).rom ≡ b.rom
unfolding moved_times
same_rom zero b = refl
same_rom (suc n) b = same_rom n b

same_script : (n : ℕ) (b : Seen) → (moved_times n b).script ≡ b.script
unfolding moved_times
same_script zero b = refl
same_script (suc n) b = same_script n b

machine_after : (n : ℕ) (b : Seen) → (moved_times n b).machine ≡ after_moves b.rom (held_by b) b.machine n
unfolding moved_times
machine_after zero b = refl
machine_after (suc n) b = λ j. move (same_rom n b j) (held_at (same_script n b j)) (machine_after n b j)

-- ---- the whole routine

-- from an interrupt of a board that runs the interpreter
module _ (e : Edition) (h : Since) (old : Seen) (o : StartsTick e h old) where
  abbrev m : ℕ
  m = frame_of old

  place_is : place old.machine.cycle ≡ interrupt_place
  place_is = taken_there e old.script old.machine h o.0.1 o.1

  at : old.machine.cycle ≡ interrupt_at m
  at = omega (arith, place_is)

  scanned : Scanned e old
  scanned =
      record {
        interrupt = at;
        scans =
            subst (λ rom. Scans e rom m old.machine (held_by old)) (sym o.0.0) (
            (parts IsTimer).laws.own.scan e m old.machine (held_by old) (interrupted e old.script old.machine h m (main_there e old.script old.machine h o.0.1 place_is) at));
      }

  machine_is : (ticked old).machine ≡ after_moves (image e) (held_by old) old.machine routine_moves
  machine_is = machine_after routine_moves old ∙ ap (λ rom. after_moves rom (held_by old) old.machine routine_moves) o.0.0

  there : IsTick e (image e) m old.machine (held_by old)
  there = whole_tick e old.script old.machine h m o.0.1 at

  takes : (ticked old).machine.cycle ≡ old.machine.cycle + routine_cycles
  takes = ap (λ (z : Machine). z.cycle) machine_is ∙ there.cycle ∙ ap (λ z. z + routine_cycles) (sym at)

  makes : MadeTick e h old (ticked old)
  makes =
      record {
        tick = subst (Tick (memory_end e) old.machine) (sym machine_is) there.tick;
        comes =
            subst (Moves (vip e) old.script (Running e old.script) (after_tick h)) (sym machine_is) (
            tick_comes e old.script old.machine h m o.0.1 at);
      }

pub takes_tick : TakesTick
takes_tick e h b o = takes e h b o

pub makes_tick : MakesTick
makes_tick e h b o = makes e h b o

pub scans_screen : ScansScreen
scans_screen e h b o = scanned e h b o
