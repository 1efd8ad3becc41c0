-- A run from a machine that may start, and from reset, where boot comes to one: each move keeps what is known of the board, so the law of a run holds.
use Rattle.std.proofs.Common.{◌≡◌, ℕ, suc, ◌-◌, ◌<◌, ◌≤◌, ◌⊎◌, inl, inr, refl, sym, ap, subst, subst₂, arith, true, false, List, [], ◌∷◌, length, slice_index}
use Rattle.std.proofs.lemmas.Bool.{cases_lt}
use Rattle.machine.specs.Board.{Machine, move, start}
use Rattle.machine.specs.Keys.{Event, Keys, held_at}
use Rattle.machine.specs.Run.{run_to}
use Rattle.machine.specs.Ranges.{FitsMachine}
use Rattle.machine.specs.Pictures.{windows_ended, place, interrupt_place, window_place}
use Rattle.machine.proofs.Counts.{windows}
use Rattle.machine.proofs.Runs.{later-move, run_to-past}
use Rattle.chip8_image.specs.declared.parts.Part.TheVariants.{Fetch as IsFetch}
use Rattle.chip8_lang.specs.declared.view.Edition.{Edition}
use Rattle.chip8_lang.specs.State.{first, memory_size}
use Rattle.chip8_lang.specs.Events.{Event as RunEvent, events_at, events_of, game_run, numbers_from, is_dispatch, is_stop, events_behind}
use Rattle.chip8_lang.specs.Events.Event.{Dispatch}
use Rattle.rom_law.specs.Language.{nothing_else, frames_of, end_cycle}
use Rattle.rom_law.specs.Program.{Program, Dispatches}
use Rattle.rom_law.specs.Rows.{Since, dispatched}
use Rattle.rom_law.specs.Runs.{state_at, state_after, carried, Moves}
use Rattle.rom_law.specs.Runs.Moves.{Still, Arrived, Halted}
use Rattle.rom_law.proofs.First.{start_fits, moves_fit}
use Rattle.rom_law.proofs.Frames.{frames_on, frames_begin}
use Rattle.rom_law.proofs.Runs.{Carries, Boots, goes_on, boot_events, begins_so}
use Rattle.rom_rows.specs.Rom.{image, vip}
use Rattle.rom_parts.specs.fetch.Laws.{Boot, boot_moves}
use Rattle.rom_parts.specs.timer.Frame.{IsMainPlace}
use Rattle.rom_run.specs.Laws.{EveryRun, FromAnyStart, BootStarts, EveryPicture, EveryPictureBehind}
use Rattle.rom_run.specs.Running.{Running}
use Rattle.rom_run.specs.States.{MayStart, BootsTo}
use Rattle.rom_run.proofs.NoneDue.{UnderAny, still_there, arrived_there, known_there, none_due}
use Rattle.rom_run.proofs.Image.{parts}
use Rattle.rom_run.proofs.Keys.{KeysKnown, begins, known_on, in_time}
use Rattle.rom_run.proofs.Moves.{board_moves, dispatch_there, renewed}
use Rattle.rom_run.proofs.Pictures.{InRun, run_begins, run_on, shows, stops_at_window}
use Rattle.rom_run.proofs.Proved.{proved}
use Rattle.rom_law.proofs.Places.{memory_most, stack_room, stack_below, variables_below, screen_below}

-- ---- where a run may begin

module _ (e : Edition) (script : List Event) (b : Machine) (m : MayStart e b) where
  main_place : IsMainPlace b.cycle
  main_place = record { outside = go m.outside; even = m.even }
    where
      go : (place b.cycle < interrupt_place) ⊎ (window_place ≤ place b.cycle) → (place b.cycle ≤ interrupt_place) ⊎ (window_place ≤ place b.cycle)
      go (inl l) = inl (omega (arith, l))
      go (inr l) = inr l

  apart : place b.cycle ≡ interrupt_place → ⊥
  apart i = omega (arith, m.outside, i)

  pub starts_event : (is_dispatch (vip e).interpreter b ≡ true) × (is_stop (vip e).interpreter b ≡ false)
  starts_event = dispatch_there e script b (state_at (vip e) b) m.stands main_place.outside apart

  pub starts_running : Running e script b (dispatched b.cycle (state_at (vip e) b))
  starts_running = renewed e script b (state_at (vip e) b) m.fits m.stands main_place apart

-- ---- boot comes to such a machine

boots_to : (e : Edition) (game : List ℕ) (c : Machine) → FitsMachine c → c.cycle ≡ 56 → Dispatches (vip e) c (first e game) → BootsTo e game c
boots_to e game c f at st =
    record {
      starts =
          record {
            fits = f;
            stands = subst (Dispatches (vip e) c) (sym st.keeps.lies.is) st;
            even = omega (arith, at);
            outside = inl (omega (arith, at));
          };
      first_is = st.keeps.lies.is;
      cycle = at;
    }

room : (e : Edition) → memory_size e ≤ 0xe00
room e = omega (arith, memory_most e, stack_room e, stack_below e, variables_below e, screen_below e)

module _ (e : Edition) (game : List ℕ) (small : length game ≤ memory_size e) (bytes : (i : ℕ) → slice_index game i < 256) (script : List Event) where
  pub boot : Boot e (image e) (held_at script) game
  boot = (parts IsFetch).laws.own.boot e (held_at script) game small

  pub booted : BootsTo e game (state_after (vip e) script (start game) boot_moves)
  booted =
      boots_to e game (state_after (vip e) script (start game) boot_moves)
      (moves_fit (image e) (proved e).rom (held_at script) (start game) (start_fits game (omega (arith, small, room e)) bytes) boot_moves)
      boot.cycle boot.stands

pub boot_starts : BootStarts
boot_starts e game small bytes script = booted e game small bytes script

-- ---- what is known along a run

module _ (e : Edition) (script : List Event) (first : Machine) where
  abbrev x : Program
  x = vip e

  abbrev held : ℕ → Keys
  held = held_at script

  abbrev next : Machine → Machine
  next b = move (image e) held b

  pub record RunsFrom (b : Machine) (h : Since) : Type 0 where
    pub running : Running e script b h
    pub known : KeysKnown e script b.cycle h
    pub in_run : InRun e script first b h
    pub any : UnderAny e script b h

  runs_on : (b : Machine) (h : Since) → RunsFrom b h → Moves x script (Running e script) (carried (image e) held b h) (next b)
      → Moves x script RunsFrom (carried (image e) held b h) (next b)
  runs_on b h r (Still d z k) =
      Still d z
      (record {
        running = k;
        known = known_on e script b h r.running r.known;
        in_run = run_on e script first b h r.running r.in_run;
        any = λ other same. (still_there e script b h r.any other same d z, known_there e script b h r.any other same);
      })
  runs_on b h r (Arrived d z i st due k) =
      Arrived d z i st due
      (record {
        running = k;
        known = begins e script (next b).cycle (state_at x (next b));
        in_run =
            run_begins e script first (next b) (suc r.in_run.i) (ap next r.in_run.is) k;
        any = λ other same. (arrived_there e script b h r.any other same d z, begins e other (next b).cycle (state_at x (next b)));
      })
  runs_on b h r (Halted z i stop st cycle) = Halted z i stop st cycle

  carries : (limit : ℕ) → Carries x script limit (run_to (image e) held first limit) RunsFrom
  carries limit =
      record {
        moves = λ b h r. runs_on b h r (board_moves e script b h r.running);
        timely = λ b h r. in_time e script b h r.running r.known;
        meets = λ b h m r. stops_at_window e script b h m r.running;
        shown = λ b h m r past by within. shows e script first limit b h m r.in_run past by within;
        none_due = λ b h r from inside past. none_due e script b h r.any limit from inside past;
      }

  -- so many moves on, at a machine that may start
  runs_from : (b : Machine) (i : ℕ) → b ≡ state_after x script first i → MayStart e b → RunsFrom b (dispatched b.cycle (state_at x b))
  runs_from b i is m =
      let running = starts_running e script b m in
      record {
        running = running;
        known = begins e script b.cycle (state_at x b);
        in_run = run_begins e script first b i is running;
        any = λ other same. (starts_running e other b m, begins e other b.cycle (state_at x b));
      }

-- ---- the laws

pub from_any_start : FromAnyStart
from_any_start e b m script limit = goes_on (vip e) script limit (RunsFrom e script b) b (carries e script b limit) (runs_from e script b b 0 refl m)

module _ (e : Edition) (game : List ℕ) (small : length game ≤ memory_size e) (bytes : (i : ℕ) → slice_index game i < 256) (script : List Event) where
  abbrev at_56 : Machine
  at_56 = state_after (vip e) script (start game) boot_moves

  starts_so : MayStart e at_56
  starts_so = (booted e game small bytes script).starts

  boots : Boots (vip e) game script (RunsFrom e script (start game))
  boots =
      record {
        moves = boot_moves;
        quiet = (boot e game small bytes script).quiet;
        soon = omega (arith, (booted e game small bytes script).cycle);
        dispatch = (starts_event e script at_56 starts_so).0;
        runs = (starts_event e script at_56 starts_so).1;
        stands = (boot e game small bytes script).stands;
        running = runs_from e script (start game) at_56 boot_moves refl starts_so;
      }

  -- what holds of the events from the first dispatch point on, where the limit leaves time for it, and else of none, holds of the events of the run
  pub from_boot :
      (limit : ℕ) (P : List RunEvent → Type 0) → (limit < at_56.cycle → P [])
      → (at_56.cycle ≤ limit → P (Dispatch at_56 ∷ events_at (vip e).interpreter (game_run (vip e).interpreter game script limit) at_56.cycle
      (run_to (image e) (held_at script) (state_after (vip e) script (start game) (suc boot_moves)) limit)))
      → P (events_of (vip e).interpreter game script limit)
  unfolding boots
  from_boot limit P none some = boot_events (vip e) game script limit (RunsFrom e script (start game)) boots P none some

pub every_run : EveryRun
every_run e game small bytes script limit =
    begins_so (vip e) game script limit (RunsFrom e script (start game)) (boots e game small bytes script) (carries e script (start game) limit)

-- ---- the frames with a picture

pub every_picture : EveryPicture
every_picture e game small bytes script limit =
    frames_begin (vip e) script limit (game_run (vip e).interpreter game script limit) nothing_else game (events_of (vip e).interpreter game script limit)
    (every_run e game small bytes script limit)

module _ (e : Edition) (b : Machine) (m : MayStart e b) (script : List Event) (limit : ℕ) where
  abbrev run : List Machine
  run = run_to (image e) (held_at script) b limit

  -- the events of these states
  abbrev AllShown : List Machine → List Machine → Type 0
  AllShown all bs =
      let events = events_at (vip e).interpreter all b.cycle bs in
      frames_of events ≡ numbers_from (windows_ended b.cycle) (windows_ended (end_cycle limit events) - windows_ended b.cycle)

  all_shown : (limit < b.cycle) ⊎ (b.cycle ≤ limit) → AllShown run (run_to (image e) (held_at script) (move (image e) (held_at script) b) limit)
  all_shown (inl past) =
      subst₂ AllShown
      (sym (run_to-past (image e) (held_at script) limit b past))
      (sym (run_to-past (image e) (held_at script) limit (move (image e) (held_at script) b) (omega (arith, past, later-move (image e) (held_at script) b))))
      (ap (numbers_from (windows_ended b.cycle)) none)
    where
      none : 0 ≡ windows_ended limit - windows_ended b.cycle
      none = omega (arith, past, windows limit, windows b.cycle)
  all_shown (inr here) =
      frames_on (vip e) script limit run nothing_else (windows_ended b.cycle) b (events_behind (vip e).interpreter script b limit) here
      (from_any_start e b m script limit)

pub every_picture_behind : EveryPictureBehind
every_picture_behind e b m script limit = all_shown e b m script limit (cases_lt limit b.cycle)
