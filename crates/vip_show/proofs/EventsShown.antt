-- A run on its way: what was met is written, and what is left is to come.
use Rattle.std.proofs.Common.{◌≡◌, ℕ, ◌+◌, ◌≤◌, List, [], ◌∷◌, ◌++◌, drop, length, replicate, refl, sym, ap, ◌∙◌, subst, arith, Bool, true, false, append-nil, append_assoc}
use Rattle.std.specs.Prelude.{if◌then◌else◌, Option, Some, None, Result, Ok, Err, IsErr}
use Rattle.std.specs.List.{flat_map}
use Rattle.std.specs.Option.{option_map, option_map_or, option_to_list}
use Rattle.std.proofs.lemmas.Grind.{flat_map-append}
use Rattle.machine.specs.Board.{Machine}
use Rattle.machine.specs.Pictures.{picture_of}
use Rattle.machine.specs.Keys.{Event as KeyEvent, held_at}
use Rattle.machine.specs.Run.{run_to}
use Rattle.chip8_lang.specs.declared.view.Edition.{Edition}
use Rattle.chip8_lang.specs.declared.view.StopRecord.{StopRecord}
use Rattle.chip8_lang.specs.Events.{Event}
use Rattle.chip8_lang.specs.Events.Event.{Picture, Dispatch, Stopped}
use Rattle.chip8_lang.specs.Places.{Interpreter, state_of}
use Rattle.chip8_lang.specs.View.{view_at}
use Rattle.vip_outside.specs.Sink.{SinkMeaning, PutsWhole, PutFails, PutAnswers}
use Rattle.vip_outside.specs.Pieces.{PutsAll, FailsWithin}
use Rattle.vip_outside.specs.declared.sink.Failed.{Failed}
use Rattle.vip_outside.proofs.PiecesLemmas.{PutsAll-nil, PutsAll-append, PutsAll-one, FailsWithin-snoc, FailsWithin-more}
use Rattle.vip_text.specs.Summaries.{summary_line}
use Rattle.vip_relation.specs.Follows.{Follows, last_dispatch, last_view, last_screen}
use Rattle.vip_relation.proofs.Steps.{few-met}
use Rattle.chip8_image.specs.Interpreters.{interpreter_of}
use Rattle.vip_relation.specs.State.Start.{Reset, Saved}
use Rattle.vip_relation.specs.State.{Start, VipState, events_from, first_events, first_screen, first_view, interpreter, machine_of, run_of, events_to, events_left, screen_size, screen_bytes}
use Rattle.vip_relation.specs.Stops.{pc_of, opcode_of}
use Rattle.vip_relation.specs.declared.run.Met.TheVariants as met
use Rattle.vip_text.specs.Endings.{ending_in}
use Rattle.asm_core.specs.Origins.{Origins}
use Rattle.vip_text.specs.Endings.Ending.{AtStop}
use Rattle.vip_text.specs.declared.ending.RunEnd.{RunEnd}
use Rattle.vip_text.specs.declared.ending.RunEnd.TheVariants as run
use Rattle.vip_text.specs.declared.trace.TraceColumns.{TraceColumns}
use Rattle.vip_show.specs.declared.run.Tally.{Tally}
use Rattle.vip_show.specs.Answers.{summary_of, IsFresh, ShowsRun, ShowAnswers, run_trace, run_pictures, run_summary}
use Rattle.vip_show.specs.Endings.{ending_after, ending_of}
use Rattle.vip_show.specs.Output.{count_of, is_dispatch_event, is_picture_event, trace_lines, picture_pieces, screen_piece, lit_at}
use Rattle.vip_show.specs.Run.Told.{Lines, Pictures, Nothing}
use Rattle.vip_show.specs.Run.{Told, piece_of, pieces_of, event_piece, screen_told, lit_told, PieceAnswers, Ran, RunAnswers}
use Rattle.vip_relation.proofs.Meetings.{last-dispatched, last-kept}
use Rattle.vip_relation.proofs.Nexts.{Dispatched, Pictured, Halted, Ended}
use Rattle.vip_show.proofs.Endings.{last-told, ends-dispatch, ends-picture}
use Rattle.vip_show.proofs.Lists.{count-more, counted, stop-last}

-- ---- the same run

-- the run and the pieces of a machine with the same edition, start and script
run_same : (limit : ℕ) (v v' : VipState) → v'.edition ≡ v.edition → v'.start ≡ v.start → v'.board.script ≡ v.board.script → run_of v' limit ≡ run_of v limit
run_same limit v v' e s k =
    ap (λ x. run_to (interpreter_of x).rom (held_at v'.board.script) (machine_of v'.start) limit) e
    ∙ ap (λ x. run_to (interpreter_of v.edition).rom (held_at v'.board.script) (machine_of x) limit) s
    ∙ ap (λ (x : List KeyEvent). run_to (interpreter_of v.edition).rom (held_at x) (machine_of v.start) limit) k

rom_same : (v v' : VipState) → v'.edition ≡ v.edition → (interpreter v').rom ≡ (interpreter v).rom
rom_same v v' e = ap (λ x. (interpreter_of x).rom) e

length-snoc : (es : List Event) (e : Event) → length (es ++ e ∷ []) ≡ length es + 1
length-snoc [] e = refl
length-snoc (x ∷ es) e = let same = length-snoc es e in omega (arith, same)

plus-none : (n : ℕ) → n ≡ n + 0
plus-none n = omega arith

-- ---- the start

by_first : (i : Interpreter) (script : List KeyEvent) (s : Start) (limit : ℕ)
    → events_from i script s limit ≡ first_events s ++ drop (length (first_events s)) (events_from i script s limit)
by_first i script (Reset game) limit = refl
by_first i script (Saved file) limit = refl

-- all events are those of the start and those that are left
pub split-first : (v : VipState) (limit : ℕ) → v.met ≡ length (first_events v.start) → events_to v limit ≡ first_events v.start ++ events_left v limit
split-first v limit met =
    by_first (interpreter v) v.board.script v.start limit ∙ ap (λ n. first_events v.start ++ drop n (events_to v limit)) (sym met)

pub first-view : (e : Edition) (s : Start) → first_view e s ≡ last_view e (first_events s)
first-view e (Reset game) = refl
first-view e (Saved file) = refl

first-screen : (e : Edition) (s : Start) → first_screen e s ≡ last_screen e (first_events s)
first-screen e (Reset game) = refl
first-screen e (Saved file) = refl

ends_by : (e : Edition) (s : Start) (left : List Event)
    → ending_of e (first_events s ++ left) ≡ ending_after e (pc_of (first_view e s)) (opcode_of (first_view e s)) left
unfolding ending_after
ends_by e (Reset game) left = refl
ends_by e (Saved file) left = refl

pub ends-first : (v : VipState) (limit : ℕ) → IsFresh v
    → ending_of v.edition (events_to v limit) ≡ ending_after v.edition (pc_of v.last) (opcode_of v.last) (events_left v limit)
ends-first v limit fresh =
    ap (ending_of v.edition) (split-first v limit fresh.met) ∙ ends_by v.edition v.start (events_left v limit)
    ∙ ap (λ last. ending_after v.edition (pc_of last) (opcode_of last) (events_left v limit)) (sym fresh.last)

-- the screen that is told of at the start
pub first-told : (v : VipState) → IsFresh v → (pc : ℕ) → Some pc ≡ option_map (λ view. view.pc) v.last → screen_bytes v.edition v.board.machine ≡ v.shown
first-told v fresh pc some = by_start v.start refl
  where
    by_start : (s : Start) → v.start ≡ s → screen_bytes v.edition v.board.machine ≡ v.shown
    by_start (Reset game) is = absurd (differ (some ∙ ap (option_map (λ view. view.pc)) (fresh.last ∙ ap (first_view v.edition) is)))
      where
        differ : Some pc ≡ None → ⊥
        differ h = cc
    by_start (Saved file) is =
        ap (screen_bytes v.edition) (fresh.stands file is ∙ ap machine_of is) ∙ sym (fresh.screen ∙ ap (first_screen v.edition) is)

pub first-dark : (v : VipState) → IsFresh v → None ≡ option_map (λ view. view.pc) v.last → replicate (screen_size v.edition) 0 ≡ v.shown
first-dark v fresh none = by_start v.start refl
  where
    by_start : (s : Start) → v.start ≡ s → replicate (screen_size v.edition) 0 ≡ v.shown
    by_start (Reset game) is = sym (fresh.screen ∙ ap (first_screen v.edition) is)
    by_start (Saved file) is = absurd (differ _ (none ∙ ap (option_map (λ view. view.pc)) (fresh.last ∙ ap (first_view v.edition) is)))
      where
        differ : (pc : ℕ) → None ≡ Some pc → ⊥
        differ pc h = cc

-- where nothing is told at the start there are no events there
pub none-first : (v : VipState) → IsFresh v → v.last ≡ None → first_events v.start ≡ []
none-first v fresh none = by_start v.start (sym fresh.last ∙ none)
  where
    by_start : (s : Start) → first_view v.edition s ≡ None → first_events s ≡ []
    by_start (Reset game) h = refl
    by_start (Saved file) h = cc

-- ---- on its way

-- From a start up to v, with these counts: of the events up to the limit some are met and written.
pub record EventsShown (shown : Told) (limit : ℕ) (start v : VipState) (out out' : SinkMeaning) (dispatches pictures : ℕ) : Type 0 where
  pub edition : v.edition ≡ start.edition
  pub begun : v.start ≡ start.start
  pub script : v.board.script ≡ start.board.script
  pub done : List Event
  pub split : events_to start limit ≡ done ++ events_left v limit
  -- those behind the start
  pub behind : List Event
  pub split_behind : events_left start limit ≡ behind ++ events_left v limit
  pub met : length behind ≤ v.met
  pub puts : PutsAll (pieces_of shown start limit behind) out out'
  pub dispatches_are : dispatches ≡ count_of is_dispatch_event behind
  pub pictures_are : pictures ≡ count_of is_picture_event behind
  pub last : v.last ≡ last_view start.edition done
  pub screen : v.shown ≡ last_screen start.edition done
  pub ends : ending_of start.edition (events_to start limit) ≡ ending_after start.edition (pc_of v.last) (opcode_of v.last) (events_left v limit)

module _ (shown : Told) (limit : ℕ) (start : VipState) (out : SinkMeaning) where
  -- no event was met
  pub events_shown-first : IsFresh start → EventsShown shown limit start start out out 0 0
  events_shown-first fresh = record {
    edition = refl;
    begun = refl;
    script = refl;
    done = first_events start.start;
    split = split-first start limit fresh.met;
    behind = [];
    split_behind = refl;
    met = omega arith;
    puts = PutsAll-nil out;
    dispatches_are = refl;
    pictures_are = refl;
    last = fresh.last ∙ first-view start.edition start.start;
    screen = fresh.screen ∙ first-screen start.edition start.start;
    ends = ends-first start limit fresh;
  }

  module _ (v v' : VipState) (out' out'' : SinkMeaning) (dispatches pictures : ℕ) (g : EventsShown shown limit start v out out' dispatches pictures) where
    -- what is left begins with this event: it is the next of all
    next : (event : Event) (rest : List Event) → events_left v limit ≡ event ∷ rest → events_to start limit ≡ (g.done ++ event ∷ []) ++ rest
    next event rest split = g.split ∙ ap (λ left. g.done ++ left) split ∙ sym (append_assoc g.done (event ∷ []) rest)

    abbrev piece_here : Event → List (List ℕ)
    piece_here event = piece_of shown start.edition (interpreter start).rom (run_of start limit) event

    next_behind : (event : Event) (rest : List Event) → events_left v limit ≡ event ∷ rest → events_left start limit ≡ (g.behind ++ event ∷ []) ++ rest
    next_behind event rest split = g.split_behind ∙ ap (λ left. g.behind ++ left) split ∙ sym (append_assoc g.behind (event ∷ []) rest)

    puts-next : (event : Event) → PutsAll (piece_here event) out' out'' → PutsAll (pieces_of shown start limit (g.behind ++ event ∷ [])) out out''
    puts-next event put =
        rw (flat_map-append (piece_of shown start.edition (interpreter start).rom (run_of start limit)) g.behind (event ∷ []), append-nil)
        (PutsAll-append (pieces_of shown start limit g.behind) (piece_here event) out out' out'' g.puts put)

    -- a fault at the piece of this event
    pub fails-next : (event : Event) (rest : List Event) (piece : List ℕ) → events_left v limit ≡ event ∷ rest → piece_here event ≡ piece ∷ []
        → PutFails piece out' out'' → FailsWithin (pieces_of shown start limit (events_left start limit)) out out''
    fails-next event rest piece split is fault =
        rw (
          next_behind event rest split,
          flat_map-append (piece_of shown start.edition (interpreter start).rom (run_of start limit)) (g.behind ++ event
              ∷ []) rest,
          flat_map-append (piece_of shown start.edition (interpreter start).rom (run_of start limit)) g.behind (event
              ∷ []),
          append-nil,
          is,
        )
        (FailsWithin-more (pieces_of shown start limit g.behind ++ piece ∷ []) (pieces_of shown start limit rest) out out''
        (FailsWithin-snoc (pieces_of shown start limit g.behind) piece [] out out' out'' g.puts fault))

    pub shown-dispatch : (d : Dispatched limit v v' (events_left v limit)) → PutsAll (piece_here (Dispatch d.b)) out' out''
        → EventsShown shown limit start v' out out'' (dispatches + 1) pictures
    shown-dispatch d put = record {
      edition = d.meets.one.same.edition ∙ g.edition;
      begun = d.meets.one.same.start ∙ g.begun;
      script = d.meets.one.same.script ∙ g.script;
      done = g.done ++ Dispatch d.b ∷ [];
      split = next (Dispatch d.b) d.rest d.split ∙ ap (λ left. (g.done ++ Dispatch d.b ∷ []) ++ left) (sym d.meets.one.left);
      behind = g.behind ++ Dispatch d.b ∷ [];
      split_behind = next_behind (Dispatch d.b) d.rest d.split ∙ ap (λ left. (g.behind ++ Dispatch d.b ∷ []) ++ left) (sym d.meets.one.left);
      met = omega (arith, length-snoc g.behind (Dispatch d.b), d.meets.one.met, g.met);
      puts = puts-next (Dispatch d.b) put;
      dispatches_are = rw (count-more is_dispatch_event g.behind (Dispatch d.b)) (ap (λ n. n + 1) g.dispatches_are);
      pictures_are = rw (count-more is_picture_event g.behind (Dispatch d.b)) (g.pictures_are ∙ plus-none _);
      last = last_is;
      screen =
          d.meets.shown ∙ ap (λ e. screen_bytes e d.b) g.edition
          ∙ sym (ap (λ p. option_map_or (screen_bytes start.edition) p (replicate (screen_size start.edition) 0)) (last-dispatched g.done d.b));
      ends = g.ends ∙ ends-dispatch start.edition limit v v' g.edition d;
    }
      where
        last_is : v'.last ≡ last_view start.edition (g.done ++ Dispatch d.b ∷ [])
        last_is = last-told start.edition limit v v' g.edition d ∙ sym (ap (λ p. option_map (view_at start.edition) p) (last-dispatched g.done d.b))

    pub shown-picture : (d : Pictured limit v v' (events_left v limit)) → PutsAll (piece_here (Picture d.m)) out' out''
        → EventsShown shown limit start v' out out'' dispatches (pictures + 1)
    shown-picture d put = record {
      edition = d.meets.one.same.edition ∙ g.edition;
      begun = d.meets.one.same.start ∙ g.begun;
      script = d.meets.one.same.script ∙ g.script;
      done = g.done ++ Picture d.m ∷ [];
      split = next (Picture d.m) d.rest d.split ∙ ap (λ left. (g.done ++ Picture d.m ∷ []) ++ left) (sym d.meets.one.left);
      behind = g.behind ++ Picture d.m ∷ [];
      split_behind = next_behind (Picture d.m) d.rest d.split ∙ ap (λ left. (g.behind ++ Picture d.m ∷ []) ++ left) (sym d.meets.one.left);
      met = omega (arith, length-snoc g.behind (Picture d.m), d.meets.one.met, g.met);
      puts = puts-next (Picture d.m) put;
      dispatches_are = rw (count-more is_dispatch_event g.behind (Picture d.m)) (g.dispatches_are ∙ plus-none _);
      pictures_are = rw (count-more is_picture_event g.behind (Picture d.m)) (ap (λ n. n + 1) g.pictures_are);
      last = d.meets.told.last ∙ g.last ∙ sym (ap (λ p. option_map (view_at start.edition) p) (last-kept g.done (Picture d.m) refl));
      screen =
          d.meets.told.shown ∙ g.screen ∙ sym
          (ap (λ p. option_map_or (screen_bytes start.edition) p (replicate (screen_size start.edition) 0))
          (last-kept g.done (Picture d.m) refl));
      ends = g.ends ∙ ends-picture start.edition limit v v' d;
    }

    -- the picture that is lent is that of the run
    pub picture-lent : (d : Pictured limit v v' (events_left v limit))
        → v'.board.pictures.finished ≡ Some (picture_of (interpreter start).rom (run_of start limit) d.m)
    picture-lent d =
        d.meets.picture ∙ ap (λ rom. Some (picture_of rom (run_of v limit) d.m)) (rom_same start v g.edition)
        ∙ ap (λ run. Some (picture_of (interpreter start).rom run d.m)) (run_same limit start v g.edition g.begun g.script)

    -- at the limit all events are met
    pub ran-end : (e : Ended limit v v' (events_left v limit)) → (tally : Tally) → tally.end ≡ run.AtLimit → tally.dispatches ≡ dispatches
        → tally.pictures ≡ pictures → Ran shown limit start v' out out' tally
    ran-end e tally end ds ps = record {
      puts = subst (λ events. PutsAll (pieces_of shown start limit events) out out') (sym all_behind) g.puts;
      ending = ap ending_in end ∙ sym (g.ends ∙ ap (ending_after start.edition (pc_of v.last) (opcode_of v.last)) e.none ∙ (unfold ending_after in refl));
      dispatches = ds ∙ g.dispatches_are ∙ ap (count_of is_dispatch_event) (sym all_behind);
      pictures = ps ∙ g.pictures_are ∙ ap (count_of is_picture_event) (sym all_behind);
      edition = e.ends.same.edition ∙ g.edition;
      last = e.ends.told.last ∙ g.last ∙ ap (last_view start.edition) (sym all);
      screen = e.ends.told.shown ∙ g.screen ∙ ap (last_screen start.edition) (sym all);
    }
      where
        all : events_to start limit ≡ g.done
        all = g.split ∙ ap (λ left. g.done ++ left) e.none ∙ append-nil g.done

        all_behind : events_left start limit ≡ g.behind
        all_behind = g.split_behind ∙ ap (λ left. g.behind ++ left) e.none ∙ append-nil g.behind

-- ---- what was put

-- a piece, or none
puts-piece : (piece : Option (List ℕ)) (old new : SinkMeaning) (done : Unit {0}) → PieceAnswers piece old new (Ok done) → PutsAll (option_to_list piece) old new
puts-piece None old new done put = rw put.1 (PutsAll-nil old)
puts-piece (Some piece) old new done put = PutsAll-one piece old new put

module _ (shown : Told) (limit : ℕ) (start : VipState) (out : SinkMeaning) (v v' : VipState) (out' : SinkMeaning) (dispatches pictures : ℕ) (g : EventsShown shown limit start v out out' dispatches pictures) where
  dispatch_piece : (s : Told) (d : Dispatched limit v v' (events_left v limit))
      → option_to_list (event_piece s met.Dispatch v') ≡ piece_of s start.edition (interpreter start).rom (run_of start limit) (Dispatch d.b)
  dispatch_piece (Lines origins columns) d = rw (d.meets.machine, d.meets.one.same.edition, g.edition) refl
  dispatch_piece Pictures d = refl
  dispatch_piece Nothing d = refl

  picture_piece_is : (s : Told) (d : Pictured limit v v' (events_left v limit))
      → option_to_list (event_piece s met.Picture v') ≡ piece_of s start.edition (interpreter start).rom (run_of start limit) (Picture d.m)
  picture_piece_is (Lines origins columns) d = refl
  picture_piece_is Pictures d = rw (picture-lent shown limit start out v v' out' out' dispatches pictures g d) refl
  picture_piece_is Nothing d = refl

  module _ (out'' : SinkMeaning) where
    pub puts-dispatch : (d : Dispatched limit v v' (events_left v limit)) (done : Unit {0})
        → PieceAnswers (event_piece shown met.Dispatch v') out' out'' (Ok done) → EventsShown shown limit start v' out out'' (dispatches + 1) pictures
    puts-dispatch d done put =
        shown-dispatch shown limit start out v v' out' out'' dispatches pictures g d
        (rw (← dispatch_piece shown d) (puts-piece (event_piece shown met.Dispatch v') out' out'' done put))

    pub puts-picture : (d : Pictured limit v v' (events_left v limit)) (done : Unit {0})
        → PieceAnswers (event_piece shown met.Picture v') out' out'' (Ok done) → EventsShown shown limit start v' out out'' dispatches (pictures + 1)
    puts-picture d done put =
        shown-picture shown limit start out v v' out' out'' dispatches pictures g d
        (rw (← picture_piece_is shown d) (puts-piece (event_piece shown met.Picture v') out' out'' done put))

    fails : (event : Event) (rest : List Event) (piece : Option (List ℕ)) (e : Failed) → events_left v limit ≡ event ∷ rest
        → option_to_list piece ≡ piece_of shown start.edition (interpreter start).rom (run_of start limit) event
        → PieceAnswers piece out' out'' (Err e) → FailsWithin (pieces_of shown start limit (events_left start limit)) out out''
    fails event rest None e split is fault = let bad = fault.0 in cc
    fails event rest (Some piece) e split is fault =
        fails-next shown limit start out v v' out' out'' dispatches pictures g event rest piece split (sym is) fault

    pub fails-dispatch : (d : Dispatched limit v v' (events_left v limit)) (e : Failed)
        → PieceAnswers (event_piece shown met.Dispatch v') out' out'' (Err e)
        → FailsWithin (pieces_of shown start limit (events_left start limit)) out out''
    fails-dispatch d e fault = fails (Dispatch d.b) d.rest (event_piece shown met.Dispatch v') e d.split (dispatch_piece shown d) fault

    pub fails-picture : (d : Pictured limit v v' (events_left v limit)) (e : Failed)
        → PieceAnswers (event_piece shown met.Picture v') out' out'' (Err e)
        → FailsWithin (pieces_of shown start limit (events_left start limit)) out out''
    fails-picture d e fault = fails (Picture d.m) d.rest (event_piece shown met.Picture v') e d.split (picture_piece_is shown d) fault

-- the screen of the dispatch point where the board stands is that of the last one met
pub screen-here : (limit : ℕ) (v v' : VipState) (left : List Event) (d : Dispatched limit v v' left) (bytes : List ℕ)
    → bytes ≡ screen_bytes v'.edition v'.board.machine → bytes ≡ v'.shown
screen-here limit v v' left d bytes is =
    is ∙ ap (λ e. screen_bytes e v'.board.machine) d.meets.one.same.edition ∙ ap (screen_bytes v.edition) d.meets.machine ∙ sym d.meets.shown

-- at whatever error is passed on
pub run-fails : (shown : Told) (limit : ℕ) (old new : VipState) (out out' : SinkMeaning) (r : Result Tally Failed) → IsErr r
    → FailsWithin (pieces_of shown old limit (events_left old limit)) out out' → RunAnswers shown limit old new out out' r
run-fails shown limit old new out out' (Ok tally) bad fault = cc
run-fails shown limit old new out out' (Err e) bad fault = fault

-- ---- the end at a stop

module _ (shown : Told) (limit : ℕ) (start : VipState) (out : SinkMeaning) (v v' : VipState) (out' : SinkMeaning) (dispatches pictures : ℕ) (g : EventsShown shown limit start v out out' dispatches pictures) where
  pub ran-stop : (stop : StopRecord) (h : Halted limit v v' (events_left v limit) stop) (tally : Tally) → tally.end ≡ run.AtStop stop
      → tally.dispatches ≡ dispatches → tally.pictures ≡ pictures → Ran shown limit start v' out out' tally
  ran-stop stop h tally end ds ps = record {
    puts =
        subst (λ events. PutsAll (pieces_of shown start limit events) out out') (sym all_behind)
        (rw (
          flat_map-append (piece_of shown start.edition (interpreter start).rom (run_of start limit)) g.behind (Stopped h.b
              ∷ []),
          none shown,
          append-nil,
        ) g.puts);
    ending = ap ending_in end ∙ sym (g.ends ∙ ap (ending_after start.edition (pc_of v.last) (opcode_of v.last)) h.split ∙ here);
    dispatches = ds ∙ g.dispatches_are ∙ plus-none _ ∙ sym (count-more is_dispatch_event g.behind (Stopped h.b)) ∙ ap (count_of is_dispatch_event) (sym all_behind);
    pictures = ps ∙ g.pictures_are ∙ plus-none _ ∙ sym (count-more is_picture_event g.behind (Stopped h.b)) ∙ ap (count_of is_picture_event) (sym all_behind);
    edition = h.meets.one.same.edition ∙ g.edition;
    last =
        h.meets.told.last ∙ g.last ∙ sym (ap (λ p. option_map (view_at start.edition) p) (last-kept g.done (Stopped h.b) refl))
        ∙ ap (last_view start.edition) (sym all);
    screen =
        h.meets.told.shown ∙ g.screen ∙ sym
        (ap (λ p. option_map_or (screen_bytes start.edition) p (replicate (screen_size start.edition) 0)) (last-kept g.done (Stopped h.b) refl))
        ∙ ap (last_screen start.edition) (sym all);
  }
    where
      so_far : events_to start limit ≡ g.done ++ Stopped h.b ∷ h.rest
      so_far = g.split ∙ ap (λ left. g.done ++ left) h.split

      none_behind : h.rest ≡ []
      none_behind = stop-last (interpreter start) start.start start.board.script limit g.done h.b h.rest so_far

      all : events_to start limit ≡ g.done ++ Stopped h.b ∷ []
      all = so_far ∙ ap (λ rest. g.done ++ Stopped h.b ∷ rest) none_behind

      all_behind : events_left start limit ≡ g.behind ++ Stopped h.b ∷ []
      all_behind =
          g.split_behind ∙ ap (λ left. g.behind ++ left) h.split ∙ ap (λ rest. g.behind ++ Stopped h.b ∷ rest) none_behind

      none : (s : Told) → flat_map (piece_of s start.edition (interpreter start).rom (run_of start limit)) (Stopped h.b ∷ []) ≡ []
      none (Lines origins columns) = refl
      none Pictures = refl
      none Nothing = refl

      here : ending_after start.edition (pc_of v.last) (opcode_of v.last) (Stopped h.b ∷ h.rest) ≡ AtStop stop.stop stop.pc stop.opcode
      here = unfold ending_after in rw h.meets.stop refl

-- a piece that was put, where there is one
pub piece-put : {X : Type 0} (f : X → List ℕ) (found : Option X) (x : X) (bytes : List ℕ) (old new : SinkMeaning) (r : Result (Unit {0}) Failed)
    → found ≡ Some x → bytes ≡ f x → PutAnswers bytes old new r → PieceAnswers (option_map f found) old new r
piece-put f found x bytes old new r is same put = rw is (subst (λ b. PutAnswers b old new r) same put)

-- the counts and the events met are few
pub counts-fit : (shown : Told) (limit : ℕ) (start v v' : VipState) (out out' : SinkMeaning) (dispatches pictures : ℕ)
    → EventsShown shown limit start v out out' dispatches pictures → Follows v' → v'.met ≡ v.met + 1
    → (dispatches ≤ 8_000_000_001) × (pictures ≤ 8_000_000_001)
counts-fit shown limit start v v' out out' dispatches pictures g follows one =
    let few : v'.met ≤ 8_000_000_002 = few-met v' follows in
    let ds : count_of is_dispatch_event g.behind ≤ length g.behind = counted is_dispatch_event g.behind in
    let ps : count_of is_picture_event g.behind ≤ length g.behind = counted is_picture_event g.behind in
    (omega (arith, few, one, g.met, ds, g.dispatches_are), omega (arith, few, one, g.met, ps, g.pictures_are))

-- ---- what the whole run writes

-- at whatever error is passed on
pub show-fails : (v : VipState) (limit : ℕ) (pieces : List (List ℕ)) (out out' : SinkMeaning) (r : Result RunEnd Failed) → IsErr r
    → FailsWithin pieces out out' → ShowAnswers v limit pieces out out' r
show-fails v limit pieces out out' (Ok end) bad fault = cc
show-fails v limit pieces out out' (Err e) bad fault = fault

pub pictures-are : (v : VipState) (limit : ℕ) → pieces_of Pictures v limit (events_left v limit) ≡ run_pictures v limit
unfolding picture_pieces
pictures-are v limit = refl

pub lines-are : (origins : Origins) (columns : TraceColumns) (v : VipState) (limit : ℕ)
    → pieces_of (Lines origins columns) v limit (events_left v limit) ≡ trace_lines origins v.edition columns (events_left v limit)
unfolding trace_lines
lines-are origins columns v limit = refl

-- the screen that is told of is that of the last dispatch point
screen_of : (e : Edition) (events : List Event) (last : Option Machine) (v : VipState) → v.edition ≡ e → v.last ≡ option_map (view_at e) last
    → v.shown ≡ option_map_or (screen_bytes e) last (replicate (screen_size e) 0) → option_to_list (screen_told v) ≡ screen_piece e last
screen_of e events None v edition told shown = rw told refl
screen_of e events (Some b) v edition told shown = rw (told, edition, shown) (unfold state_of in refl)

lit_of : (e : Edition) (last : Option Machine) (v : VipState) → v.edition ≡ e → v.last ≡ option_map (view_at e) last
    → v.shown ≡ option_map_or (screen_bytes e) last (replicate (screen_size e) 0) → lit_told v ≡ lit_at e last
lit_of e None v edition told shown = rw told refl
lit_of e (Some b) v edition told shown = rw (told, edition, shown) (unfold state_of in refl)

module _ (origins : Origins) (columns : TraceColumns) (limit : ℕ) (old new : VipState) (out out' out'' : SinkMeaning) (tally : Tally) (ran : Ran (Lines origins columns) limit old new out out' tally) where
  lines_out : PutsAll (trace_lines origins old.edition columns (events_left old limit)) out out'
  lines_out = subst (λ pieces. PutsAll pieces out out') (lines-are origins columns old limit) ran.puts

  screen : option_to_list (screen_told new) ≡ screen_piece old.edition (last_dispatch (events_to old limit))
  screen = screen_of old.edition (events_to old limit) (last_dispatch (events_to old limit)) new ran.edition ran.last ran.screen

  -- the lines, and the screen behind them where it is asked for
  abbrev lines_and : Bool → List (List ℕ)
  lines_and asked =
      trace_lines origins old.edition columns (events_left old limit)
      ++ (if asked then screen_piece old.edition (last_dispatch (events_to old limit)) else [])

  pub traced-whole : columns.screen ≡ true → (done : Unit {0}) → PieceAnswers (screen_told new) out' out'' (Ok done)
      → ShowsRun old limit (run_trace origins columns old limit) out out'' tally.end
  traced-whole asked done put = record {
    puts =
        subst (λ asked. PutsAll (lines_and asked) out out'') (sym asked)
        (PutsAll-append (trace_lines origins old.edition columns (events_left old limit))
        (screen_piece old.edition (last_dispatch (events_to old limit))) out out' out'' lines_out
        (rw (← screen) (puts-piece (screen_told new) out' out'' done put)));
    ending = ran.ending;
  }

  pub traced-lines : columns.screen ≡ false → ShowsRun old limit (run_trace origins columns old limit) out out' tally.end
  traced-lines unasked = record { puts = subst (λ asked. PutsAll (lines_and asked) out out') (sym unasked) (rw append-nil lines_out); ending = ran.ending }

  fails_at : columns.screen ≡ true → (piece : Option (List ℕ)) (e : Failed) → option_to_list piece ≡ screen_piece old.edition (last_dispatch (events_to old limit))
      → PieceAnswers piece out' out'' (Err e) → FailsWithin (run_trace origins columns old limit) out out''
  fails_at asked None e is fault = let bad = fault.0 in cc
  fails_at asked (Some piece) e is fault =
      subst (λ asked. FailsWithin (lines_and asked) out out'') (sym asked)
      (rw (← is) (FailsWithin-snoc (trace_lines origins old.edition columns (events_left old limit)) piece [] out out' out'' lines_out fault))

  pub traced-fails : columns.screen ≡ true → (e : Failed) → PieceAnswers (screen_told new) out' out'' (Err e) → FailsWithin (run_trace origins columns old limit) out out''
  traced-fails asked e fault = fails_at asked (screen_told new) e screen fault

-- a fault among the lines
pub traced-early : (origins : Origins) (columns : TraceColumns) (v : VipState) (limit : ℕ) (out out' : SinkMeaning)
    → FailsWithin (pieces_of (Lines origins columns) v limit (events_left v limit)) out out' → FailsWithin (run_trace origins columns v limit) out out'
traced-early origins columns v limit out out' fault =
    FailsWithin-more (trace_lines origins v.edition columns (events_left v limit))
    (if columns.screen then screen_piece v.edition (last_dispatch (events_to v limit)) else []) out out'
    (subst (λ pieces. FailsWithin pieces out out') (lines-are origins columns v limit) fault)

-- ---- the line of summary

module _ (number limit : ℕ) (old new : VipState) (out out' out'' : SinkMeaning) (tally : Tally) (ran : Ran Nothing limit old new out out' tally) where
  none : (events : List Event) → pieces_of Nothing old limit events ≡ []
  none [] = refl
  none (event ∷ events) = none events

  nothing_out : PutsAll [] out out'
  nothing_out = subst (λ pieces. PutsAll pieces out out') (none (events_left old limit)) ran.puts

  abbrev pub line_told : List ℕ
  line_told = summary_line number tally.dispatches tally.pictures (lit_told new)

  line_is : line_told ≡ summary_of number old limit
  line_is = rw (ran.dispatches, ran.pictures, lit_of old.edition (last_dispatch (events_to old limit)) new ran.edition ran.last ran.screen) refl

  pub summed-whole : PutsWhole line_told out' out'' → ShowsRun old limit (run_summary number old limit) out out'' tally.end
  summed-whole put = record {
    puts =
        PutsAll-append [] (summary_of number old limit ∷ []) out out' out'' nothing_out
        (subst (λ line. PutsAll (line ∷ []) out' out'') line_is (PutsAll-one line_told out' out'' put));
    ending = ran.ending;
  }

  pub summed-fails : PutFails line_told out' out'' → FailsWithin (run_summary number old limit) out out''
  summed-fails fault = subst (λ line. FailsWithin (line ∷ []) out out'') line_is (FailsWithin-snoc [] line_told [] out out' out'' nothing_out fault)

pub summed-early : (number : ℕ) (v : VipState) (limit : ℕ) (out out' : SinkMeaning)
    → FailsWithin (pieces_of Nothing v limit (events_left v limit)) out out' → FailsWithin (run_summary number v limit) out out'
summed-early number v limit out out' fault = absurd (never _ (no_pieces (events_left v limit)) fault.before fault.piece fault.after fault.place)
  where
    no_pieces : (events : List Event) → pieces_of Nothing v limit events ≡ []
    no_pieces [] = refl
    no_pieces (event ∷ events) = no_pieces events

    never : (pieces : List (List ℕ)) → pieces ≡ [] → (before : List (List ℕ)) (piece : List ℕ) (after : List (List ℕ)) → pieces ≡ before ++ piece ∷ after → ⊥
    never pieces none [] piece after place = let bad : piece ∷ after ≡ [] = sym place ∙ none in cc
    never pieces none (b ∷ before) piece after place = let bad : b ∷ (before ++ piece ∷ after) ≡ [] = sym place ∙ none in cc

-- the line that is put
pub line-put : (number dispatches pictures lit lit' : ℕ) (bytes text : List ℕ) → bytes ≡ text → text ≡ summary_line number dispatches pictures lit
    → lit ≡ lit' → bytes ≡ summary_line number dispatches pictures lit'
line-put number dispatches pictures lit lit' bytes text is same told = is ∙ same ∙ ap (summary_line number dispatches pictures) told

pub puts-line : (line line' : List ℕ) (old new : SinkMeaning) → line ≡ line' → PutsWhole line old new → PutsWhole line' old new
puts-line line line' old new same put = subst (λ l. PutsWhole l old new) same put

pub fails-line : (line line' : List ℕ) (old new : SinkMeaning) → line ≡ line' → PutFails line old new → PutFails line' old new
fails-line line line' old new same fault = subst (λ l. PutFails l old new) same fault
