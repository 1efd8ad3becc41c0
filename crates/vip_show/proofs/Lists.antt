-- Lists of events: one event more at their end, and nothing behind a stop.
use Rattle.std.proofs.Common.{◌≡◌, ℕ, ◌+◌, ◌-◌, ◌≤◌, List, [], ◌∷◌, ◌++◌, length, map, refl, subst, arith, Bool, true, false, length-append}
use Rattle.std.specs.Prelude.{if◌then◌else◌, filter}
use Rattle.std.proofs.lemmas.List.Elements.{filter-append}
use Rattle.machine.specs.Board.{Machine}
use Rattle.machine.specs.Keys.{Event as KeyEvent}
use Rattle.machine.specs.Pictures.{windows_ended, is_shown}
use Rattle.chip8_lang.specs.Events.{Event, is_dispatch, is_stop, events_at, events_of, game_run, numbers_from}
use Rattle.chip8_lang.specs.Events.Event.{Picture, Dispatch, Stopped}
use Rattle.chip8_lang.specs.Places.{Interpreter}
use Rattle.vip_relation.specs.State.{Start, events_from, machine_of}
use Rattle.vip_relation.specs.State.Start.{Reset, Saved}
use Rattle.vip_show.specs.Output.{count_of}

-- ---- counts

pub count-more : (is : Event → Bool) (events : List Event) (e : Event) → count_of is (events ++ e ∷ []) ≡ count_of is events + count_of is (e ∷ [])
count-more is events e = rw (filter-append is events (e ∷ []), length-append) refl

-- a count is at most that of all events
pub counted : (is : Event → Bool) (events : List Event) → count_of is events ≤ length events
counted is [] = omega arith
counted is (e ∷ events) = go (is e) (counted is events)
  where
    go : (b : Bool) → count_of is events ≤ length events → length (if b then e ∷ filter is events else filter is events) ≤ length (e ∷ events)
    go true h = omega (arith, h)
    go false h = omega (arith, h)

-- ---- nothing comes after a stop

Closed : List Event → Type 0
Closed [] = Unit {0}
Closed (Picture m ∷ events) = Closed events
Closed (Dispatch b ∷ events) = Closed events
Closed (Stopped b ∷ events) = events ≡ []

pictures-closed : (ms : List ℕ) (events : List Event) → Closed events → Closed (map Picture ms ++ events)
unfolding Closed
pictures-closed [] events c = c
pictures-closed (m ∷ ms) events c = pictures-closed ms events c

events-closed : (i : Interpreter) (run : List Machine) (before : ℕ) (bs : List Machine) → Closed (events_at i run before bs)
unfolding Closed
events-closed i run before [] = tt
events-closed i run before (b ∷ bs) =
    pictures-closed
    (filter (is_shown i.rom run) (numbers_from (windows_ended before) (windows_ended b.cycle - windows_ended before)))
    (if is_stop i b then Stopped b ∷ [] else if is_dispatch i b then Dispatch b ∷ events_at i run b.cycle bs else events_at i run b.cycle bs)
    (here (is_stop i b) (is_dispatch i b) (events-closed i run b.cycle bs))
  where
    here : (stop dispatch : Bool) → Closed (events_at i run b.cycle bs)
        → Closed (if stop then Stopped b ∷ [] else if dispatch then Dispatch b ∷ events_at i run b.cycle bs else events_at i run b.cycle bs)
    here true dispatch c = refl
    here false true c = c
    here false false c = c

closed-last : (done : List Event) (b : Machine) (rest : List Event) → Closed (done ++ Stopped b ∷ rest) → rest ≡ []
unfolding Closed
closed-last [] b rest c = c
closed-last (Picture m ∷ done) b rest c = closed-last done b rest c
closed-last (Dispatch d ∷ done) b rest c = closed-last done b rest c
closed-last (Stopped d ∷ []) b rest c = cc
closed-last (Stopped d ∷ e ∷ done) b rest c = cc

run_closed : (i : Interpreter) (script : List KeyEvent) (s : Start) (limit : ℕ) → Closed (events_from i script s limit)
unfolding events_of Closed
run_closed i script (Reset game) limit = events-closed i (game_run i game script limit) 0 (game_run i game script limit)
run_closed i script (Saved file) limit = events-closed i _ (machine_of (Saved file)).cycle _

pub stop-last : (i : Interpreter) (s : Start) (script : List KeyEvent) (limit : ℕ) (done : List Event) (b : Machine) (rest : List Event)
    → events_from i script s limit ≡ done ++ Stopped b ∷ rest → rest ≡ []
stop-last i s script limit done b rest split = closed-last done b rest (subst Closed split (run_closed i script s limit))
