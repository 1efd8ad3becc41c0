-- What holds of the fields at the start, and after a move.
use Rattle.std.proofs.Common.{◌≡◌, ℕ, ◌+◌, ◌<◌, ◌≤◌, Bool, true, false, List, [], length, take, drop, refl, sym, ap, ◌∙◌, subst, subst₂, arith}
use Rattle.std.proofs.lemmas.List.{drop_all}
use Rattle.machine.specs.Board.{length_of}
use Rattle.machine.specs.Keys.{Event as KeyEvent, held_at}
use Rattle.machine.proofs.Runs.{cycle-move, later-move}
use Rattle.chip8_lang.specs.declared.view.Edition.{Edition}
use Rattle.chip8_lang.specs.Events.{is_stop}
use Rattle.chip8_lang.specs.Places.{Interpreter}
use Rattle.vip_board.specs.Moves.{moved, name_of}
use Rattle.vip_board.specs.Seen.{Seen}
use Rattle.vip_board.specs.Shown.{CarriesOn}
use Rattle.vip_board.specs.declared.board.Move.{Move}
use Rattle.vip_board.proofs.Shown.{shows-nothing}
use Rattle.chip8_image.specs.Interpreters.{interpreter_of}
use Rattle.vip_relation.specs.State.{Start, VipState, begun, events_from, events_to, events_waiting, first_events, first_screen, first_view, machine_of, most_cycles}
use Rattle.vip_relation.specs.State.Start.{Reset, Saved}
use Rattle.vip_relation.specs.Follows.{Fits, Follows, last_screen, last_view}
use Rattle.vip_relation.specs.Meets.{HasStopped}
use Rattle.vip_relation.specs.Parts.{Steps}
use Rattle.vip_relation.specs.Points.{point_of}
use Rattle.vip_relation.specs.Waiting.{waits_by}
use Rattle.vip_relation.specs.Kept.{by_run, state_of, IsKept, HasWaiting}
use Rattle.vip_relation.specs.declared.point.Point.{Point}
use Rattle.vip_relation.specs.declared.run.Waits.{Waits}
use Rattle.vip_relation.specs.declared.run.Run.TheInside.{Inside}
use Rattle.vip_relation.proofs.ByRun.{as-run, follows-run, named-run}
use Rattle.vip_relation.proofs.Beginning.{begins-early, begins-running}
use Rattle.vip_relation.proofs.Past.{state, events-last, events-short, past-first}
use Rattle.vip_relation.proofs.Steps.{stepped, follows-on, waits-on, later-on, goes-on}

-- ---- before the first move

-- what is told is that of the first events
first_view_is : (e : Edition) (s : Start) (script : List KeyEvent) (limit : ℕ)
    → first_view e s ≡ last_view e (take (length (first_events s)) (events_from (interpreter_of e) script s limit))
first_view_is e (Reset game) script limit = refl
first_view_is e (Saved file) script limit = refl

first_screen_is : (e : Edition) (s : Start) (script : List KeyEvent) (limit : ℕ)
    → first_screen e s ≡ last_screen e (take (length (first_events s)) (events_from (interpreter_of e) script s limit))
first_screen_is e (Reset game) script limit = refl
first_screen_is e (Saved file) script limit = refl

module _ (e : Edition) (s : Start) (script : List KeyEvent) (fits : Fits e s) where
  abbrev i : Interpreter
  i = interpreter_of e

  abbrev first : VipState
  first = begun e s script

  -- the first move comes later
  over_first : (machine_of s).cycle < (state i s script 1).cycle
  over_first = later-move i.rom (held_at script) (machine_of s)

  here_first : events_to first (machine_of s).cycle ≡ first_events s
  here_first = events-last i s script (machine_of s).cycle 0 (omega arith) over_first (λ k below. absurd (omega (arith, below))) ∙ past-first i s script

  pub follows-begun : Follows first
  follows-begun =
      record {
        fits = fits;
        phase = refl;
        rom = refl;
        machine = refl;
        runs = λ k below. absurd (omega (arith, below));
        in_time = begins-early e s fits;
        pictures = shows-nothing i.rom (machine_of s).cycle;
        first = omega arith;
        behind =
            λ t over. omega (
              arith,
              events-short i s script t 0 (omega (arith, over, over_first)) (λ k below. absurd (omega (arith, below))),
              ap length (past-first i s script),
            );
        within = omega (arith, ap length here_first);
        last = first_view_is e s script (machine_of s).cycle;
        shown = first_screen_is e s script (machine_of s).cycle;
      }

  pub waiting-begun : events_waiting first ≡ []
  waiting-begun = ap (drop (length (first_events s))) here_first ∙ drop_all (length (first_events s)) (first_events s) (omega arith)

  pub runs-begun : HasStopped first → ⊥
  runs-begun stopped = not_both (is_stop i (machine_of s)) (begins-running e s fits) stopped.stop
    where
      not_both : (b : Bool) → b ≡ false → b ≡ true → ⊥
      not_both b h g = cc

-- ---- after a move

module _ (a : Inside) (k : IsKept a) (met : events_waiting (state_of a) ≡ []) (runs : is_stop (interpreter_of a.edition) a.board.machine ≡ false) where
  abbrev v : VipState
  v = state_of a

  abbrev then : Seen → Point → Waits → Inside
  then s point waits = record a { board = s; moves = a.moves + 1; point = point; waits = waits }

  kept_moved : CarriesOn a.board (moved a.board) → (moved a.board).machine.cycle ≤ most_cycles
      → IsKept (then (moved a.board) (point_of (interpreter_of a.edition) (moved a.board).machine)
      (waits_by a.board.pictures.count (moved a.board).pictures.count))
  kept_moved carries in_time =
      let f = follows-on v k.follows met runs carries in_time in
      record {
        follows = follows-run (stepped v k.follows met runs) f;
        point = refl;
        waiting =
            as-run (λ w. HasWaiting (waits_by a.board.pictures.count (moved a.board).pictures.count) w
            (point_of (interpreter_of a.edition) (moved a.board).machine))
            (stepped v k.follows met runs) f (waits-on v k.follows met runs carries);
        last = named-run (stepped v k.follows met runs) f a.last k.last;
      }

  pub kept-step : (s : Seen) (point : Point) (waits : Waits) → s ≡ moved a.board → CarriesOn a.board s → s.machine.cycle ≤ most_cycles
      → point ≡ point_of (interpreter_of a.edition) s.machine → waits ≡ waits_by a.board.pictures.count s.pictures.count → IsKept (then s point waits)
  kept-step s point waits is carries in_time is_point is_waits =
      let P : Seen → Type 0 =
      λ s. CarriesOn a.board s → s.machine.cycle ≤ most_cycles
      → IsKept (then s (point_of (interpreter_of a.edition) s.machine) (waits_by a.board.pictures.count s.pictures.count)) in
      subst₂ (λ p w. IsKept (then s p w)) (sym is_point) (sym is_waits) (subst P (sym is) kept_moved carries in_time)

  steps_moved : (name : Move) → name ≡ name_of a.board.machine → CarriesOn a.board (moved a.board) → (moved a.board).machine.cycle ≤ most_cycles
      → Steps v (by_run (record v { moves = v.moves + 1; board = moved a.board })) name
  steps_moved name named carries in_time =
      as-run (λ w. Steps v w name) (stepped v k.follows met runs) (follows-on v k.follows met runs carries in_time)
      (record { state = refl; move = named; later = later-on v k.follows met runs; goes_on = goes-on v k.follows met runs })

  pub steps-to : (s : Seen) (name : Move) → s ≡ moved a.board → name ≡ name_of a.board.machine → CarriesOn a.board s → s.machine.cycle ≤ most_cycles
      → Steps v (by_run (record v { moves = v.moves + 1; board = s })) name
  steps-to s name is named carries in_time =
      let P : Seen → Type 0 = λ s. CarriesOn a.board s → s.machine.cycle ≤ most_cycles → Steps v (by_run (record v { moves = v.moves + 1; board = s })) name in
      subst P (sym is) (steps_moved name named) carries in_time

-- the cycle after a move that ended within the limit
pub in-time : (s t : Seen) (limit : ℕ) → t ≡ moved s → (limit < s.machine.cycle + length_of s.rom s.machine → ⊥) → t.machine.cycle ≤ limit
in-time s t limit is made =
    let cycle : t.machine.cycle ≡ s.machine.cycle + length_of s.rom s.machine =
    ap (λ (x : Seen). x.machine.cycle) is ∙ cycle-move s.rom (held_at s.script) s.machine in
    subst (λ c. c ≤ limit) (sym cycle) (not_above (s.machine.cycle + length_of s.rom s.machine) limit made)
  where
    not_above : (n limit : ℕ) → (limit < n → ⊥) → n ≤ limit
    not_above n limit h = grind arith
