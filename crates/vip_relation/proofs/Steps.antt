-- A run, after one move more: its board is the next state of the run, whose events wait.
use Rattle.std.proofs.Common.{◌≡◌, ℕ, suc, ◌+◌, ◌<◌, ◌≤◌, Bool, true, false, List, [], ◌∷◌, ◌++◌, length, take, drop, refl, sym, ap, ◌∙◌, subst, arith, append_assoc, length-append, add-one, Some}
use Rattle.std.proofs.Common.{◌⊎◌, inl, inr}
use Rattle.std.proofs.lemmas.Bool.{cases_lt, eqb-true, eqb-false}
use Rattle.std.proofs.lemmas.List.{length-drop, drop_all, drop_at, take-append-le, drop-append-le}
use Rattle.machine.specs.Board.{Machine, move, length_of}
use Rattle.machine.specs.Keys.{held_at}
use Rattle.machine.specs.Pictures.{picture_of}
use Rattle.machine.proofs.Runs.{cycle-move, later-move}
use Rattle.chip8_lang.specs.Events.{Event, is_dispatch, is_stop}
use Rattle.chip8_lang.specs.Events.Event.{Picture, Stopped}
use Rattle.chip8_lang.specs.Places.{Interpreter}
use Rattle.vip_board.specs.Moves.{moved}
use Rattle.vip_board.specs.Shown.{HasPicturesSince, CarriesOn}
use Rattle.vip_relation.specs.State.{VipState, machine_of, interpreter, events_to, events_left, events_met, events_waiting, most_cycles, run_of, moves_by}
use Rattle.vip_relation.specs.Follows.{Follows, last_view, last_screen}
use Rattle.vip_relation.specs.Points.{point_of, point_events}
use Rattle.vip_relation.specs.Waiting.{waits_by}
use Rattle.vip_relation.specs.Meets.{HasStopped}
use Rattle.std.specs.Prelude.{◌==◌, if◌then◌else◌}
use Rattle.vip_relation.specs.Kept.{HasWaiting}
use Rattle.vip_relation.specs.declared.point.Point.TheVariants.{Dispatch as DispatchPoint, Stop as StopPoint, Other as OtherPoint}
use Rattle.vip_relation.specs.declared.run.Waits.TheVariants.{Picture as PictureWaiting, Point as PointWaiting}
use Rattle.vip_board.proofs.Along.{states-more, length-states, cycles-some, in-turn, run-last, run-short}
use Rattle.vip_relation.proofs.Past.{state, earlier, past, pictures, point, Runs, Goes, goes, events-last, events-short, few-events, Finishes, finishes}
use Rattle.vip_relation.proofs.Beginning.{apart, begins-running}
use Rattle.vip_relation.proofs.Past.Finishes.{NoPicture, OnePicture}

nothing_left : (n : ℕ) (xs : List Event) → drop n xs ≡ [] → length xs ≤ n
nothing_left n xs none = omega (arith, sym (length-drop n xs) ∙ ap length none)

-- ---- where it stands

module _ (v : VipState) (f : Follows v) where
  abbrev i : Interpreter
  i = interpreter v

  abbrev pub at_state : ℕ → Machine
  at_state n = state i v.start v.board.script n

  abbrev pub past_of : ℕ → List Event
  past_of n = past i v.start v.board.script n

  abbrev now : ℕ
  now = v.board.machine.cycle

  cycle_is : now ≡ (at_state v.moves).cycle
  cycle_is = ap (λ (b : Machine). b.cycle) f.machine

  next_cycle : (at_state (suc v.moves)).cycle ≡ now + length_of v.board.rom v.board.machine
  next_cycle =
      cycle-move i.rom (held_at v.board.script) (at_state v.moves)
      ∙ ap (λ (b : Machine). b.cycle + length_of i.rom b) (sym f.machine)
      ∙ ap (λ rom. now + length_of rom v.board.machine) (sym f.rom)

  later : now < (at_state (suc v.moves)).cycle
  later = omega (arith, cycle_is, later-move i.rom (held_at v.board.script) (at_state v.moves))

  -- no run begins at a stop point
  pub begins : is_stop i (machine_of v.start) ≡ false
  begins = begins-running v.edition v.start f.fits

  -- the events up to here
  pub events-here : events_to v now ≡ past_of (suc v.moves)
  events-here = events-last i v.start v.board.script now v.moves (omega (arith, cycle_is)) later f.runs

  pub few-moves : v.moves ≤ most_cycles
  few-moves = omega (arith, f.in_time, cycle_is, cycles-some i.rom (held_at v.board.script) v.moves (machine_of v.start))

  pub few-met : v.met ≤ 8_000_000_002
  few-met = omega (arith, f.within, ap length events-here, few-events i v.start v.board.script (suc v.moves), few-moves)

  -- the events up to a limit are those up to here, and others, which are none where the run stops here
  pub record Others (limit : ℕ) : Type 0 where
    pub others : List Event
    pub all : events_to v limit ≡ events_to v now ++ others
    pub left : events_left v limit ≡ events_waiting v ++ others
    pub stop : is_stop i v.board.machine ≡ true → others ≡ []

  pub others-to : (limit : ℕ) → now ≤ limit → Others limit
  others-to limit within =
      let g : Goes i v.start v.board.script begins limit v.moves = goes i v.start v.board.script begins limit v.moves (omega (arith, cycle_is, within)) f.runs in
      let all : events_to v limit ≡ events_to v now ++ g.others = g.is ∙ ap (λ es. es ++ g.others) (sym events-here) in
      record {
        others = g.others;
        all = all;
        left = ap (drop v.met) all ∙ drop-append-le v.met (events_to v now) g.others f.within;
        stop = λ h. g.stop (ap (is_stop i) (sym f.machine) ∙ h);
      }

  -- before the limit of the next move there are no others, and no other moves
  pub none-left : (limit : ℕ) → now ≤ limit → limit < now + length_of v.board.rom v.board.machine → events_left v limit ≡ events_waiting v
  none-left limit within over =
      ap (drop v.met)
      (events-last i v.start v.board.script limit v.moves (omega (arith, cycle_is, within)) (omega (arith, next_cycle, over)) f.runs ∙ sym events-here)

  pub all-moves : (limit : ℕ) → now ≤ limit → limit < now + length_of v.board.rom v.board.machine → moves_by v limit ≡ v.moves
  all-moves limit within over =
      let size : length (run_of v limit) ≡ suc v.moves =
      ap length (run-last i.rom (held_at v.board.script) limit v.moves (machine_of v.start) (omega (arith, cycle_is, within)) (omega (arith, next_cycle, over)))
      ∙ length-states i.rom (held_at v.board.script) (suc v.moves) (machine_of v.start) in
      omega (arith, size)

  -- up to a limit before here nothing is left, and no more moves are there
  pub none-before : (limit : ℕ) → limit < now → events_left v limit ≡ []
  none-before limit over = drop_all v.met (events_to v limit) (f.behind limit over)

  pub moves-before : (limit : ℕ) → limit < now → moves_by v limit ≤ v.moves
  moves-before limit over = omega (arith, run-short i.rom (held_at v.board.script) limit v.moves (machine_of v.start) (omega (arith, cycle_is, over)))

  -- ---- one move more

  module _ (met_all : events_waiting v ≡ []) (runs : is_stop (interpreter v) v.board.machine ≡ false) where
    abbrev pub stepped : VipState
    stepped = record v { moves = v.moves + 1; board = moved v.board }

    all_met : length (past_of (suc v.moves)) ≡ v.met
    all_met =
        let most : length (events_to v now) ≤ v.met = nothing_left v.met (events_to v now) met_all in
        omega (arith, most, f.within, ap length events-here)

    runs_on : Runs i v.start v.board.script (suc v.moves)
    runs_on k below = by_test (cases_lt k v.moves)
      where
        by_test : (k < v.moves) ⊎ (v.moves ≤ k) → is_stop i (at_state k) ≡ false
        by_test (inl l) = f.runs k l
        by_test (inr l) = let same : k ≡ v.moves = omega (arith, l, below) in ap (λ n. is_stop i (at_state n)) same ∙ ap (is_stop i) (sym f.machine) ∙ runs

    machine_on : (moved v.board).machine ≡ at_state (suc v.moves)
    machine_on = ap (λ rom. move rom (held_at v.board.script) v.board.machine) f.rom ∙ ap (move i.rom (held_at v.board.script)) f.machine

    states_on : earlier i v.start v.board.script v.moves ++ v.board.machine ∷ [] ≡ earlier i v.start v.board.script (suc v.moves)
    states_on =
        ap (λ b. earlier i v.start v.board.script v.moves ++ b ∷ []) f.machine ∙ sym (states-more i.rom (held_at v.board.script) v.moves (machine_of v.start))

    abbrev now_on : ℕ
    now_on = (moved v.board).machine.cycle

    cycle_on : now_on ≡ (at_state (suc v.moves)).cycle
    cycle_on = ap (λ (b : Machine). b.cycle) machine_on

    events_on : events_to stepped now_on ≡ past_of (suc (suc v.moves))
    events_on =
        events-last i v.start v.board.script now_on (suc v.moves) (omega (arith, cycle_on))
        (omega (arith, cycle_on, later-move i.rom (held_at v.board.script) (at_state (suc v.moves)))) runs_on

    past_on : past_of (suc (suc v.moves)) ≡ past_of (suc v.moves)
        ++ (pictures i v.start v.board.script (suc v.moves) ++ point i v.start v.board.script (suc v.moves))
    unfolding past
    past_on = simp append_assoc

    same_met : events_met stepped ≡ events_met v
    same_met =
        ap (take v.met) (events_on ∙ past_on)
        ∙ take-append-le v.met (past_of (suc v.moves)) (pictures i v.start v.board.script (suc v.moves) ++ point i v.start v.board.script (suc v.moves))
        (omega (arith, all_met))
        ∙ ap (take v.met) (sym events-here)

    pub waiting-on : events_waiting stepped ≡ pictures i v.start v.board.script (suc v.moves) ++ point i v.start v.board.script (suc v.moves)
    waiting-on =
        ap (drop v.met) (events_on ∙ past_on)
        ∙ drop_at (past_of (suc v.moves)) (pictures i v.start v.board.script (suc v.moves) ++ point i v.start v.board.script (suc v.moves)) v.met all_met

    point_on : point i v.start v.board.script (suc v.moves) ≡ point_events (point_of i (moved v.board).machine) (moved v.board).machine
    point_on = ap (λ b. point_events (point_of i b) b) (sym machine_on)

    module _ (carries : CarriesOn v.board (moved v.board)) where
      shows_on : HasPicturesSince (machine_of v.start).cycle v.board.rom (earlier i v.start v.board.script (suc v.moves)) now_on (moved v.board).pictures
      shows_on =
          subst (λ run. HasPicturesSince (machine_of v.start).cycle v.board.rom run now_on (moved v.board).pictures) states_on
          (carries (machine_of v.start).cycle (earlier i v.start v.board.script v.moves) f.pictures)

      pub follows-on : now_on ≤ most_cycles → Follows stepped
      follows-on in_time =
          record {
            fits = f.fits;
            phase = f.phase;
            rom = f.rom;
            machine = machine_on ∙ ap at_state (sym (add-one v.moves));
            runs = λ k below. runs_on k (omega (arith, below));
            in_time = in_time;
            pictures =
                subst (λ n. HasPicturesSince (machine_of v.start).cycle v.board.rom (earlier i v.start v.board.script n) now_on (moved v.board).pictures) (sym (add-one v.moves)) shows_on;
            first = f.first;
            behind = λ t over. omega (arith, all_met, events-short i v.start v.board.script t v.moves (omega (arith, over, cycle_on)) f.runs);
            within =
                let more : length (past_of (suc v.moves)) ≤ length (events_to stepped now_on) = rw (events_on ∙ past_on, length-append) (omega arith) in
                omega (arith, more, all_met);
            last = f.last ∙ ap (last_view v.edition) (sym same_met);
            shown = f.shown ∙ ap (last_screen v.edition) (sym same_met);
          }

      -- which events wait, by the count of pictures before and after
      finishes_on : Finishes i v.start v.board.script v.moves v.board.pictures.count (moved v.board).pictures.count (moved v.board).pictures.finished
      finishes_on =
          finishes i v.start v.board.script v.moves v.board.pictures (moved v.board).pictures (apart v.edition v.start f.fits)
          (subst (λ t. HasPicturesSince (machine_of v.start).cycle i.rom (earlier i v.start v.board.script v.moves) t v.board.pictures) cycle_is
          (subst (λ rom. HasPicturesSince (machine_of v.start).cycle rom (earlier i v.start v.board.script v.moves) now v.board.pictures) f.rom f.pictures))
          (subst (λ t. HasPicturesSince (machine_of v.start).cycle i.rom (earlier i v.start v.board.script (suc v.moves)) t (moved v.board).pictures) cycle_on
          (subst (λ rom. HasPicturesSince (machine_of v.start).cycle rom (earlier i v.start v.board.script (suc v.moves)) now_on (moved v.board).pictures) f.rom shows_on))

      pub waits-point : (moved v.board).pictures.count ≡ v.board.pictures.count → HasWaiting PointWaiting stepped (point_of i (moved v.board).machine)
      waits-point same = by_case finishes_on
        where
          by_case : Finishes i v.start v.board.script v.moves v.board.pictures.count (moved v.board).pictures.count (moved v.board).pictures.finished
              → HasWaiting PointWaiting stepped (point_of i (moved v.board).machine)
          by_case (NoPicture count none) = waiting-on ∙ ap (λ ps. ps ++ point i v.start v.board.script (suc v.moves)) none ∙ point_on
          by_case (OnePicture m count one ended not_yet finished) = absurd (omega (arith, count, same))

      pub waits-picture : ((moved v.board).pictures.count ≡ v.board.pictures.count → ⊥) → HasWaiting PictureWaiting stepped (point_of i (moved v.board).machine)
      waits-picture differs = by_case finishes_on
        where
          by_case : Finishes i v.start v.board.script v.moves v.board.pictures.count (moved v.board).pictures.count (moved v.board).pictures.finished
              → HasWaiting PictureWaiting stepped (point_of i (moved v.board).machine)
          by_case (NoPicture count none) = absurd (differs count)
          by_case (OnePicture m count one ended not_yet finished) =
              record {
                frame = m;
                events = waiting-on ∙ ap (λ ps. ps ++ point i v.start v.board.script (suc v.moves)) one ∙ ap (λ ps. Picture m ∷ ps) point_on;
                ended = omega (arith, ended, cycle_on);
                first = λ k below. omega (arith, not_yet, in-turn i.rom (held_at v.board.script) v.moves k (machine_of v.start) (omega (arith, below)));
                finished = finished ∙ ap (λ n. Some (picture_of i.rom (earlier i v.start v.board.script n) m)) (sym (add-one v.moves));
              }

      pub waits-on : HasWaiting (waits_by v.board.pictures.count (moved v.board).pictures.count) stepped (point_of i (moved v.board).machine)
      waits-on = by_test ((moved v.board).pictures.count == v.board.pictures.count) refl
        where
          by_test : (t : Bool) → ((moved v.board).pictures.count == v.board.pictures.count) ≡ t
              → HasWaiting (if t then PointWaiting else PictureWaiting) stepped (point_of i (moved v.board).machine)
          by_test true h = waits-point (eqb-true (moved v.board).pictures.count v.board.pictures.count h)
          by_test false h = waits-picture (eqb-false (moved v.board).pictures.count v.board.pictures.count h)

    -- a stop point's event waits there
    pub goes-on : HasStopped stepped → ⊥
    goes-on stopped =
        nothing (is_stop i (moved v.board).machine) (is_dispatch i (moved v.board).machine) stopped.stop
        (ap (λ ps. pictures i v.start v.board.script (suc v.moves) ++ ps) (sym point_on) ∙ sym waiting-on ∙ stopped.met)
      where
        nothing : (stop dispatch : Bool) → stop ≡ true
            → pictures i v.start v.board.script (suc v.moves)
            ++ point_events (if stop then StopPoint else if dispatch then DispatchPoint else OtherPoint) (moved v.board).machine ≡ [] → ⊥
        nothing false dispatch h e = cc
        nothing true dispatch h e = last_stays (pictures i v.start v.board.script (suc v.moves)) e
          where
            last_stays : (xs : List Event) → xs ++ Stopped (moved v.board).machine ∷ [] ≡ [] → ⊥
            last_stays [] e = cc
            last_stays (x ∷ xs) e = cc

    pub later-on : now < now_on
    later-on = omega (arith, cycle_on, later)
