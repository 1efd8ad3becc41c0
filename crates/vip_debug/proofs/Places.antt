-- How many moves the board of a game makes up to a cycle, and what it has met there.
use Rattle.std.proofs.Common.{◌≡◌, ◌⊎◌, inl, inr, ℕ, ◌≤◌, Bool, true, false, List, [], ◌∷◌, ◌++◌, length, drop, refl, sym, ap, ◌∙◌, arith}
use Rattle.std.proofs.lemmas.List.{length-drop}
use Rattle.machine.specs.Board.{Machine}
use Rattle.machine.specs.Keys.{Event as KeyEvent}
use Rattle.chip8_lang.specs.Events.{Event, is_stop}
use Rattle.vip_relation.specs.State.{VipState, interpreter, events_to, events_left, events_waiting, run_of, moves_by, state_after, begun as begun_from}
use Rattle.vip_relation.specs.Follows.{Follows}
use Rattle.vip_relation.specs.Meets.{IsSame, HasStopped, Rests}
use Rattle.vip_relation.proofs.Steps.{Others, others-to}
use Rattle.vip_debug.proofs.TargetRuns.{Progress, Stands}
use Rattle.vip_debug.proofs.TargetRuns as runs
use Rattle.vip_debug.specs.Game.{run_at}
use Rattle.vip_debug.specs.Answers.{begun, moves_until, place_of, all_met}

-- ---- the same game

pub same-trans : (u v w : VipState) → IsSame u v → IsSame v w → IsSame u w
same-trans u v w a b = record { edition = b.edition ∙ a.edition; start = b.start ∙ a.start; script = b.script ∙ a.script }

pub begun-same : (old new : VipState) → IsSame old new → begun new ≡ begun old
begun-same old new s =
    ap (λ e. begun_from e new.start new.board.script) s.edition
    ∙ ap (λ first. begun_from old.edition first new.board.script) s.start
    ∙ ap (λ (k : List KeyEvent). begun_from old.edition old.start k) s.script

-- ---- where a board is

-- its place in the run of its game
abbrev pub progress_of : VipState → Progress
progress_of v = record { run = run_at v 0; made = v.moves; board = v.board }

module _ (v : VipState) (f : Follows v) where
  abbrev now : ℕ
  now = v.board.machine.cycle

  pub stands : Stands (progress_of v)
  stands = record { phase = f.phase; rom = f.rom; script = refl; machine = f.machine; goes_on = f.runs }

  there : (limit : ℕ) → now ≤ limit → (state_after v v.moves).cycle ≤ limit
  there limit within = omega (arith, within, ap (λ (b : Machine). b.cycle) f.machine)

  module _ (limit : ℕ) where
    -- no more moves are made than there are
    pub made-most : now ≤ limit → v.moves ≤ moves_until (begun v) limit
    made-most within = runs.made-most (progress_of v) stands limit within

    -- where the board rests all are made
    pub made-all : now ≤ limit → Rests limit v → v.moves ≡ moves_until (begun v) limit
    made-all within rests = runs.made-all (progress_of v) stands limit within rests

    -- and no more than those of the run
    pub made-few : moves_until (begun v) limit ≤ moves_by v limit
    made-few = runs.made-few (run_at v 0) limit

    -- the state after all moves of the run is within the limit
    pub all-within : 1 ≤ length (run_of v limit) → v.moves ≤ moves_by v limit → now ≤ limit
    all-within some made = omega (arith, runs.all-within (run_at v 0) limit v.moves some made, ap (λ (b : Machine). b.cycle) f.machine)

    pub some-run : now ≤ limit → 1 ≤ length (run_of v limit)
    some-run within = runs.some-run (run_at v 0) limit v.moves (there limit within)

    -- where the run up to the limit has no event left, all are met
    pub none-left-stays : now ≤ limit → events_left v limit ≡ [] → events_waiting v ≡ []
    none-left-stays within none =
        let o : Others v f limit = others-to v f limit within in
        front (events_waiting v) o.others (sym o.left ∙ none)
      where
        front : (xs ys : List Event) → xs ++ ys ≡ [] → xs ≡ []
        front [] ys e = refl
        front (x ∷ xs) ys e = cc

  -- by its cycle
  pub made-now : v.moves ≡ moves_until (begun v) now
  made-now = runs.made-now (progress_of v) stands

  -- where all events up to here are met, the moves made say the place
  pub all-here : v.met ≡ length (events_to v now) → place_of v ≡ all_met (begun v) v.moves
  all-here all = ap (λ n. record { moves = v.moves; met = n }) (all ∙ ap (λ (b : Machine). length (events_to v b.cycle)) f.machine)

  -- so it is where no event waits
  pub none-waits : events_waiting v ≡ [] → place_of v ≡ all_met (begun v) v.moves
  none-waits none =
      let most : length (events_to v now) ≤ v.met = nothing v.met (events_to v now) none in
      all-here (omega (arith, most, f.within))
    where
      nothing : (n : ℕ) (xs : List Event) → drop n xs ≡ [] → length xs ≤ n
      nothing n xs e = omega (arith, sym (length-drop n xs) ∙ ap length e)

-- ---- two places in one run

module _ (u v : VipState) (f : Follows u) (g : Follows v) (s : IsSame u v) where
  pub state-same : (n : ℕ) → state_after v n ≡ state_after u n
  state-same n = ap (λ (x : VipState). state_after x n) (begun-same u v s)

  pub events-same : (t : ℕ) → events_to v t ≡ events_to u t
  events-same t = ap (λ (x : VipState). events_to x t) (begun-same u v s)

  pub until-same : (t : ℕ) → moves_until (begun v) t ≡ moves_until (begun u) t
  until-same t = ap (λ (x : VipState). moves_until x t) (begun-same u v s)

-- ---- a stop that was met

pub decided : (v : VipState) → HasStopped v ⊎ (HasStopped v → ⊥)
decided v = by_test (is_stop (interpreter v) v.board.machine) (events_waiting v) refl refl
  where
    by_test : (t : Bool) (es : List Event) → is_stop (interpreter v) v.board.machine ≡ t → events_waiting v ≡ es → HasStopped v ⊎ (HasStopped v → ⊥)
    by_test true [] h none = inl (record { stop = h; met = none })
    by_test true (e ∷ es) h some = inr (λ stopped. let e : _ ∷ _ ≡ [] = sym some ∙ stopped.met in cc)
    by_test false es h left = inr (λ stopped. let e : true ≡ false = sym stopped.stop ∙ h in cc)
