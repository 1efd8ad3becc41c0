-- A run on its way whose dispatch points are counted.
use Rattle.std.proofs.Common.{◌≡◌, ℕ, Bool, true, false, ◌+◌, ◌≤◌, ◌<◌, List, [], ◌∷◌, ◌++◌, length, refl, sym, ap, ◌∙◌, subst, arith, length-append}
use Rattle.std.specs.Prelude.{nat_le, None, Result, Ok, Err, IsErr, slice_index_or}
use Rattle.std.proofs.lemmas.List.{length-map, map-append}
use Rattle.std.proofs.lemmas.Bool.Decides.{nat_tests}
use Rattle.machine.specs.Keys.{Event as KeyEvent}
use Rattle.chip8_lang.specs.declared.view.Edition.{Edition}
use Rattle.chip8_lang.specs.declared.view.StopRecord.{StopRecord}
use Rattle.chip8_lang.specs.Events.{Event}
use Rattle.chip8_lang.specs.Events.Event.{Picture, Dispatch, Stopped}
use Rattle.chip8_lang.specs.View.{View, view_at}
use Rattle.chip8_image.specs.Interpreters.{interpreter_of}
use Rattle.machine.specs.Board.{Machine}
use Rattle.asm_core.specs.Origins.{Origins}
use Rattle.vip_outside.specs.Sink.{SinkMeaning, PutAnswers}
use Rattle.vip_outside.specs.Pieces.{PutsAll, FailsWithin}
use Rattle.vip_outside.specs.declared.sink.Failed.{Failed}
use Rattle.vip_outside.proofs.PiecesLemmas.{PutsAll-nil, PutsAll-one, FailsWithin-snoc}
use Rattle.vip_relation.specs.Follows.{Follows, dispatch_of}
use Rattle.vip_relation.specs.Meets.{IsSame}
use Rattle.vip_relation.specs.State.{Start, VipState, events_from, events_left, events_to, first_events, first_view, machine_of}
use Rattle.vip_relation.specs.State.Start.{Reset, Saved}
use Rattle.vip_relation.proofs.Nexts.{Dispatched, Pictured, Halted, Ended}
use Rattle.vip_relation.proofs.Steps.{few-met}
use Rattle.vip_text.specs.declared.ending.RunEnd.{RunEnd}
use Rattle.vip_text.specs.declared.ending.RunEnd.TheVariants as run
use Rattle.vip_show.specs.Answers.{IsFresh, ShowAnswers}
use Rattle.vip_program.specs.Counts.{addresses, Awaits, Counted}
use Rattle.vip_program.specs.Profile.{Code, last_cycle, profile_text as text_of}
use Rattle.vip_program.specs.Sums.{IsShown}
use Rattle.vip_program.specs.declared.counts.Point.{Point}
use Rattle.vip_program.proofs.Counting.{last_cycle-more}
use Rattle.vip_show.specs.declared.opcodes.Profile.{Profile}
use Rattle.vip_show.specs.Profile.{Profiles, ProfilesRun, code_of, met_points, opcode_at, point_of, profile_pieces, profile_text, title, views_of}
use Rattle.vip_show.proofs.EventsShown.{none-first}
use Rattle.vip_show.proofs.Underway.{Underway, Through, under-first, under-dispatch, under-picture, through-end, through-stop}

-- ---- the points among events, with one more

abbrev last_of : List View → ℕ
last_of views = last_cycle (met_points views)

last_of-more : (views : List View) (view : View) → last_of (views ++ view ∷ []) ≡ view.cycle
last_of-more views view = ap last_cycle (map-append point_of views (view ∷ [])) ∙ last_cycle-more (met_points views) (point_of view)

dispatches-more : (e : Edition) (events : List Event) (b : Machine) → views_of e (events ++ Dispatch b ∷ []) ≡ views_of e events ++ view_at e b ∷ []
dispatches-more e [] b = refl
dispatches-more e (Picture m ∷ events) b = dispatches-more e events b
dispatches-more e (Dispatch d ∷ events) b = ap (λ views. view_at e d ∷ views) (dispatches-more e events b)
dispatches-more e (Stopped d ∷ events) b = dispatches-more e events b

dispatches-kept : (e : Edition) (events : List Event) (event : Event) → dispatch_of event ≡ None → views_of e (events ++ event ∷ []) ≡ views_of e events
dispatches-kept e [] (Picture m) none = refl
dispatches-kept e [] (Dispatch b) none = cc
dispatches-kept e [] (Stopped b) none = refl
dispatches-kept e (Picture m ∷ events) event none = dispatches-kept e events event none
dispatches-kept e (Dispatch d ∷ events) event none = ap (λ views. view_at e d ∷ views) (dispatches-kept e events event none)
dispatches-kept e (Stopped d ∷ events) event none = dispatches-kept e events event none

views-few : (e : Edition) (events : List Event) → length (views_of e events) ≤ length events
views-few e [] = omega arith
views-few e (Picture m ∷ events) = let few = views-few e events in omega (arith, few)
views-few e (Dispatch b ∷ events) = let few = views-few e events in omega (arith, few)
views-few e (Stopped b ∷ events) = let few = views-few e events in omega (arith, few)

cycle-seen : (e : Edition) (b : Machine) → (view_at e b).cycle ≡ b.cycle
unfolding view_at
cycle-seen e b = refl

-- ---- time goes on

events-same : (limit : ℕ) (v v' : VipState) → IsSame v v' → events_to v' limit ≡ events_to v limit
events-same limit v v' s =
    ap (λ e. events_from (interpreter_of e) v'.board.script v'.start limit) s.edition
    ∙ ap (λ start. events_from (interpreter_of v.edition) v'.board.script start limit) s.start
    ∙ ap (λ (script : List KeyEvent). events_from (interpreter_of v.edition) script v.start limit) s.script

later : (v v' : VipState) → Follows v → Follows v' → IsSame v v' → v'.met ≡ v.met + 1 → v.board.machine.cycle ≤ v'.board.machine.cycle
later v v' f f' same one = go (nat_le v.board.machine.cycle v'.board.machine.cycle) refl
  where
    go : (on : Bool) → nat_le v.board.machine.cycle v'.board.machine.cycle ≡ on → v.board.machine.cycle ≤ v'.board.machine.cycle
    go true is = grind (arith, nat_tests, is)
    go false is =
        let back : v'.board.machine.cycle < v.board.machine.cycle = grind (arith, nat_tests, is) in
        let all = f.behind v'.board.machine.cycle back in
        let here = ap length (events-same v'.board.machine.cycle v v' same) in
        absurd (omega (arith, all, here, f'.within, one))

-- ---- on its way

-- of the events met the dispatch points are counted
pub record Profiling (limit : ℕ) (start v : VipState) (profile : Profile) : Type 0 where
  pub done : List Event
  pub under : Underway limit start v done
  pub follows : Follows v
  pub counted : Profiles profile (views_of start.edition done)
  pub met : length done ≤ v.met
  pub in_time : last_of (views_of start.edition done) ≤ v.board.machine.cycle

module _ (start : VipState) (fresh : IsFresh start) (follows : Follows start) where
  -- the point at which it begins, where there is one
  pub awaits-first : (profile : Profile) (view : View) → Profiles profile [] → view ≡ view_at start.edition start.board.machine → Awaits profile.counts (point_of view)
  awaits-first profile view counted is = record {
    points = [];
    counted = counted.counted;
    few = omega arith;
    behind = omega arith;
    in_time = let cycle = ap (λ (view : View). view.cycle) is ∙ cycle-seen start.edition start.board.machine in omega (arith, cycle, follows.in_time);
  }

  pub first-counted : (profile : Profile) (view : View) → (start.last ≡ None → ⊥) → view ≡ view_at start.edition start.board.machine
      → Profiles profile (view ∷ []) → Profiles profile (views_of start.edition (first_events start.start))
  first-counted profile view some is counted = by_start start.start refl
    where
      by_start : (s : Start) → start.start ≡ s → Profiles profile (views_of start.edition (first_events start.start))
      by_start (Reset game) at = absurd (some (fresh.last ∙ ap (first_view start.edition) at))
      by_start (Saved file) at =
          subst (Profiles profile)
          (ap (λ v. v ∷ []) (is ∙ ap (view_at start.edition) (fresh.stands file at ∙ ap machine_of at))
          ∙ sym (ap (λ s. views_of start.edition (first_events s)) at)) counted

  pub none-counted : (profile : Profile) → start.last ≡ None → Profiles profile [] → Profiles profile (views_of start.edition (first_events start.start))
  none-counted profile none counted = rw (none-first start fresh none) counted

  -- the point lies at the cycle at which it begins
  first-cycle : last_of (views_of start.edition (first_events start.start)) ≤ start.board.machine.cycle
  first-cycle = by_start start.start refl
    where
      by_start : (s : Start) → start.start ≡ s → last_of (views_of start.edition (first_events start.start)) ≤ start.board.machine.cycle
      by_start (Reset game) at = rw at (omega arith)
      by_start (Saved file) at =
          let seen : (view_at start.edition (machine_of (Saved file))).cycle ≡ start.board.machine.cycle =
          cycle-seen start.edition (machine_of (Saved file)) ∙ sym (ap (λ (b : Machine). b.cycle) (fresh.stands file at ∙ ap machine_of at)) in
          rw at (omega (arith, seen))

  pub profiling-first : (limit : ℕ) (profile : Profile) → Profiles profile (views_of start.edition (first_events start.start))
      → Profiling limit start start profile
  profiling-first limit profile counted = record {
    done = first_events start.start;
    under = under-first limit start fresh;
    follows = follows;
    counted = counted;
    met = let met = fresh.met in omega (arith, met);
    in_time = first-cycle;
  }

module _ (limit : ℕ) (start v v' : VipState) (profile : Profile) (p : Profiling limit start v profile) (follows : Follows v') where
  module _ (d : Dispatched limit v v' (events_left v limit)) (view : View) (is : view ≡ view_at v'.edition v'.board.machine) where
    same : view ≡ view_at start.edition d.b
    same = is ∙ ap (λ e. view_at e v'.board.machine) (d.meets.one.same.edition ∙ p.under.edition) ∙ ap (view_at start.edition) d.meets.machine

    cycle : view.cycle ≡ v'.board.machine.cycle
    cycle = ap (λ (view : View). view.cycle) is ∙ cycle-seen v'.edition v'.board.machine

    on : v.board.machine.cycle ≤ v'.board.machine.cycle
    on = later v v' p.follows follows d.meets.one.same d.meets.one.met

    behind : last_of (views_of start.edition p.done) ≤ view.cycle
    behind = omega (arith, p.in_time, on, cycle)

    pub awaits-next : Awaits profile.counts (point_of view)
    awaits-next = record {
      points = met_points (views_of start.edition p.done);
      counted = p.counted.counted;
      few = rw length-map (let few = views-few start.edition p.done in let all = few-met v' follows in omega (arith, few, p.met, d.meets.one.met, all));
      behind = behind;
      in_time = omega (arith, cycle, follows.in_time);
    }

    pub profiling-dispatch : (profile' : Profile)
        → ((views : List View) → Profiles profile views → last_cycle (met_points views) ≤ view.cycle → Profiles profile' (views ++ view ∷ []))
        → Profiling limit start v' profile'
    profiling-dispatch profile' meets = record {
      done = p.done ++ Dispatch d.b ∷ [];
      under = under-dispatch limit start v v' p.done p.under d;
      follows = follows;
      counted = subst (Profiles profile') points (meets (views_of start.edition p.done) p.counted behind);
      met = rw length-append (omega (arith, p.met, d.meets.one.met));
      in_time =
          let last = ap last_of (sym points) ∙ last_of-more (views_of start.edition p.done) view in
          omega (arith, last, cycle);
    }
      where
        points : views_of start.edition p.done ++ view ∷ [] ≡ views_of start.edition (p.done ++ Dispatch d.b ∷ [])
        points = ap (λ v. views_of start.edition p.done ++ v ∷ []) same ∙ sym (dispatches-more start.edition p.done d.b)

  pub profiling-picture : (d : Pictured limit v v' (events_left v limit)) → Profiling limit start v' profile
  profiling-picture d = record {
    done = p.done ++ Picture d.m ∷ [];
    under = under-picture limit start v v' p.done p.under d;
    follows = follows;
    counted = subst (Profiles profile) points p.counted;
    met = rw length-append (omega (arith, p.met, d.meets.one.met));
    in_time =
        let last = ap last_of (sym points) in let on = later v v' p.follows follows d.meets.one.same d.meets.one.met in
        omega (arith, last, on, p.in_time);
  }
    where
      points : views_of start.edition p.done ≡ views_of start.edition (p.done ++ Picture d.m ∷ [])
      points = sym (dispatches-kept start.edition p.done (Picture d.m) refl)

-- ---- the end

ended-with : (limit : ℕ) (start v v' : VipState) (profile : Profile) (done : List Event) (end : RunEnd) → Profiling limit start v profile
    → Through limit start v' done end → Profiles profile (views_of start.edition done) → last_of (views_of start.edition done) ≤ v.board.machine.cycle
    → length (views_of start.edition done) ≤ v.met → ProfilesRun start limit profile end
ended-with limit start v v' profile done end p t counted in_time few = record {
  profiles = rw t.all counted;
  count =
      record {
        points = met_points (views_of start.edition done);
        counted = counted.counted;
        few = rw length-map (let all = few-met v p.follows in omega (arith, few, all));
        in_time = omega (arith, in_time, p.follows.in_time);
      };
  ending = t.ending;
}

module _ (limit : ℕ) (start v v' : VipState) (profile : Profile) (p : Profiling limit start v profile) where
  few : length (views_of start.edition p.done) ≤ v.met
  few = let points = views-few start.edition p.done in omega (arith, points, p.met)

  pub counted-end : (e : Ended limit v v' (events_left v limit)) → ProfilesRun start limit profile run.AtLimit
  counted-end e = ended-with limit start v v' profile p.done run.AtLimit p (through-end limit start v v' p.done p.under e) p.counted p.in_time few

  pub counted-stop : (stop : StopRecord) (h : Halted limit v v' (events_left v limit) stop) → ProfilesRun start limit profile (run.AtStop stop)
  counted-stop stop h =
      ended-with limit start v v' profile (p.done ++ Stopped h.b ∷ []) (run.AtStop stop) p (through-stop limit start v v' p.done p.under stop h)
      (subst (Profiles profile) points p.counted) (subst (λ views. last_of views ≤ v.board.machine.cycle) points p.in_time)
      (subst (λ views. length views ≤ v.met) points few)
    where
      points : views_of start.edition p.done ≡ views_of start.edition (p.done ++ Stopped h.b ∷ [])
      points = sym (dispatches-kept start.edition p.done (Stopped h.b) refl)

-- ---- what goes out

module _ (origins : Origins) (start : VipState) (limit : ℕ) (profile : Profile) (end : RunEnd) (c : ProfilesRun start limit profile end) (out out' : SinkMeaning) where
  -- what a put of the text of what was counted answers
  abbrev pub PutsProfile : Result (Unit {0}) Failed → Type 0
  PutsProfile answer =
      (points : List Point) (code : ℕ → Code) → Counted profile.counts points
      → IsShown (λ pc. code_of (slice_index_or profile.opcodes.last.items pc None)) code
      → PutAnswers (text_of title origins code points) out out' answer

  abbrev views : List View
  views = views_of start.edition (events_to start limit)

  abbrev piece : List ℕ
  piece = text_of title origins (λ pc. code_of (opcode_at views pc)) (met_points views)

  text_is : piece ≡ profile_text origins (views_of start.edition (events_to start limit))
  unfolding profile_text
  text_is = refl

  put : (answer : Result (Unit {0}) Failed) → PutsProfile answer → PutAnswers piece out out' answer
  put answer puts = puts _ _ c.profiles.counted (λ pc below. ap code_of (c.profiles.last pc None below))

  pub profile-whole : (done : Unit {0}) → PutsProfile (Ok done)
      → ShowAnswers start limit (profile_pieces origins start.edition (events_to start limit)) out out' (Ok end)
  profile-whole done puts = record {
    puts = subst (λ text. PutsAll (text ∷ []) out out') text_is (PutsAll-one piece out out' (put (Ok done) puts));
    ending = c.ending;
  }

  pub profile-fails : (r : Result RunEnd Failed) → IsErr r → (e : Failed) → PutsProfile (Err e)
      → ShowAnswers start limit (profile_pieces origins start.edition (events_to start limit)) out out' r
  profile-fails (Ok end) bad e puts = cc
  profile-fails (Err e') bad e puts =
      subst (λ text. FailsWithin (text ∷ []) out out') text_is (FailsWithin-snoc [] piece [] out out out' (PutsAll-nil out) (put (Err e) puts))
