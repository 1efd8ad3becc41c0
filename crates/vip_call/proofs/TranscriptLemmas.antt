-- The run of a game that is one of CHIP-8 has a transcript, and what is written of its events is what is written of that.
use Rattle.std.proofs.Common.{◌≡◌, ℕ, suc, ◌+◌, ◌-◌, ◌<◌, ◌≤◌, List, [], ◌∷◌, ◌++◌, length, map, Option, Some, None, slice_get, refl, sym, ap, ap₂, subst, ◌∙◌, arith}
use Rattle.std.specs.Prelude.{if◌then◌else◌, filter_map}
use Rattle.std.specs.List.{last_or}
use Rattle.std.specs.Option.{option_map}
use Rattle.machine.specs.Board.{Machine}
use Rattle.machine.specs.Keys.{Event as KeyEvent}
use Rattle.machine.specs.Pictures.{windows_ended}
use Rattle.machine.proofs.Counts.{windows}
use Rattle.chip8_lang.specs.declared.view.Edition.{Edition}
use Rattle.chip8_lang.specs.Events.{Event}
use Rattle.chip8_lang.specs.Events.Event.{Picture, Dispatch, Stopped}
use Rattle.chip8_lang.specs.Places.{state_of}
use Rattle.chip8_lang.specs.Timed.{boot_cycle}
use Rattle.chip8_lang.specs.View.{view_at, view_of}
use Rattle.rom_law.specs.Language.{Begins as BeginsRun, GoesOn as GoesOnRun, end_cycle}
use Rattle.rom_board.specs.Program.{program}
use Rattle.vip_relation.specs.Follows.{dispatch_of, last_dispatch}
use Rattle.vip_text.specs.Endings.{Ending}
use Rattle.vip_text.specs.StateFile.{bank_in, shown}
use Rattle.vip_text.specs.Summaries.{summary_line}
use Rattle.vip_text.specs.declared.trace.TraceColumns.{TraceColumns}
use Rattle.asm_core.specs.Origins.{Origins}
use Rattle.vip_show.specs.Output.{trace_lines, screen_piece, picture_pieces, lit_at, is_dispatch_event, is_picture_event, count_of}
use Rattle.vip_show.specs.Profile.{profile_pieces, profile_text, views_of}
use Rattle.vip_call.specs.Language.{named}
use Rattle.vip_call.specs.Transcribed.{file_point}
use Rattle.vip_call.specs.Transcript.{Point, Begins, GoesOn, Ends, last_point, last_screen, lit, profile_of, summary_text, trace_text, traced}

-- ---- the points among some events

abbrev pub point_of : Edition → Machine → Point
point_of e b = record { cycle = b.cycle; state = state_of e b }

abbrev pub points_of : Edition → List Event → List Point
points_of e events = map (point_of e) (filter_map dispatch_of events)

-- the point of a file is that of the machine state that it shows
pub file_point_is : (e : Edition) (f : List ℕ) → point_of e (shown f) ≡ file_point e f
unfolding state_of bank_in
file_point_is e f = refl

-- the first point is in its cycle, and there is none where the limit is below that
abbrev pub Boots : ℕ → List Point → Type 0
Boots limit [] = limit < boot_cycle
Boots limit (p ∷ ps) = p.cycle ≡ boot_cycle

module _ (e : Edition) (script : List KeyEvent) (limit : ℕ) (run : List Machine) (ending : Ending) where
  abbrev Behind : ℕ → Machine → List Event → Type 0
  Behind k b events = GoesOnRun (program e) script limit run (named e ending) k b events

  pub goes_on :
      (k : ℕ) (b : Machine) (events : List Event) → Behind k b events
      → GoesOn e script limit (point_of e b) (points_of e events) ending (end_cycle limit events)
  goes_on k b [] h = subst (λ z. Ends e script limit (point_of e b) z limit) (sym h.also_is) (refl, h.soon)
  goes_on k b (Picture m ∷ events) h = goes_on (k + 1) b events h.2
  goes_on k b (Dispatch c ∷ events) h =
      (record { comes = record { later = h.0.later; within = h.0.within; in_time = h.0.soon }; between = h.1.between }, goes_on k c events h.2)
  goes_on k b (Stopped c ∷ events) h =
      subst (λ es. GoesOn e script limit (point_of e b) (points_of e es) ending c.cycle) (sym h.last)
      (subst (λ z. Ends e script limit (point_of e b) z c.cycle) (sym h.also_is)
      (record {
        fits = h.stop.fits;
        comes = record { later = h.comes.later; within = h.comes.within; in_time = h.comes.soon };
        pc_is = refl;
        opcode_is = refl;
      }))

  pub begins :
      (game : List ℕ) (events : List Event) → BeginsRun (program e) script limit run (named e ending) game events → Boots limit (points_of e events)
      → Begins e script limit game (points_of e events) ending (end_cycle limit events)
  begins game [] h boots = (boots, h.1, refl)
  begins game (Picture m ∷ events) h boots = absurd h
  begins game (Dispatch b ∷ events) h boots = (h.0.keeps.lies.is, boots, h.2, goes_on 0 b events h.3)
  begins game (Stopped b ∷ events) h boots = absurd h

  -- ---- how many pictures there are

  abbrev files : List Event → List (List ℕ)
  files events = picture_pieces (program e).interpreter.rom run events

  counted :
      (k : ℕ) (b : Machine) (events : List Event) → b.cycle ≤ limit → Behind k b events
      → k + length (files events) ≡ windows_ended (end_cycle limit events)
  unfolding picture_pieces
  counted k b [] inside h = omega (arith, h.shown inside)
  counted k b (Picture m ∷ events) inside h = omega (arith, counted (k + 1) b events inside h.2)
  counted k b (Dispatch c ∷ events) inside h = counted k c events h.0.within h.2
  counted k b (Stopped c ∷ events) inside h =
      subst (λ es. k + length (files es) ≡ windows_ended c.cycle) (sym h.last) (omega (arith, h.comes.shown))

  -- of a game's run
  pub game_pictures :
      (game : List ℕ) (events : List Event) → BeginsRun (program e) script limit run (named e ending) game events
      → length (files events) ≡ windows_ended (end_cycle limit events) - windows_ended 0
  unfolding picture_pieces
  game_pictures game [] h = omega (arith, h.0, windows limit, windows 0)
  game_pictures game (Picture m ∷ events) h = absurd h
  game_pictures game (Dispatch b ∷ events) h = omega (arith, counted 0 b events h.2 h.3, windows 0)
  game_pictures game (Stopped b ∷ events) h = absurd h

  -- behind a dispatch point that comes by the limit
  pub later_pictures :
      (b : Machine) (events : List Event) → b.cycle ≤ limit → Behind (windows_ended b.cycle) b events
      → length (files events) ≡ windows_ended (end_cycle limit events) - windows_ended b.cycle
  later_pictures b events inside h = omega (arith, counted (windows_ended b.cycle) b events inside h)

  -- or behind the limit
  pub late_pictures : (b : Machine) → limit < b.cycle → length (files []) ≡ windows_ended limit - windows_ended b.cycle
  unfolding picture_pieces
  late_pictures b over = omega (arith, over, windows limit, windows b.cycle)

-- ---- the lines

module _ (e : Edition) where
  pub lines_are : (origins : Origins) (columns : TraceColumns) (events : List Event) → trace_lines origins e columns events ≡ map (traced e origins columns) (points_of e events)
  unfolding trace_lines view_at
  lines_are origins columns [] = refl
  lines_are origins columns (Picture m ∷ events) = lines_are origins columns events
  lines_are origins columns (Dispatch b ∷ events) = ap (λ l. traced e origins columns (point_of e b) ∷ l) (lines_are origins columns events)
  lines_are origins columns (Stopped b ∷ events) = lines_are origins columns events

  -- the last of them
  last_of :
      (o : Option Point) (b : Machine) (bs : List Machine)
      → last_or o (map (point_of e) (b ∷ bs)) ≡ option_map (point_of e) (slice_get (b ∷ bs) (length bs))
  last_of o b [] = refl
  last_of o b (c ∷ bs) = last_of (Some (point_of e b)) c bs

  last_found : (bs : List Machine) → last_point (map (point_of e) bs) ≡ option_map (point_of e) (slice_get bs (length bs - 1))
  last_found [] = refl
  last_found (b ∷ bs) = last_of None b bs ∙ ap (λ n. option_map (point_of e) (slice_get (b ∷ bs) n)) one_less
    where
      one_less : length bs ≡ suc (length bs) - 1
      one_less = omega arith

  pub last_is_last : (events : List Event) → last_point (points_of e events) ≡ option_map (point_of e) (last_dispatch events)
  last_is_last events = last_found (filter_map dispatch_of events)

  screen_is : (last : Option Machine) → screen_piece e last ≡ last_screen e (option_map (point_of e) last)
  screen_is None = refl
  screen_is (Some b) = refl

  -- the lines of some events, and the screen at the last dispatch point of all
  pub traced_is :
      (origins : Origins) (columns : TraceColumns) (shown all : List Event)
      → trace_lines origins e columns shown ++ (if columns.screen then screen_piece e (last_dispatch all) else [])
      ≡ trace_text e origins columns (points_of e shown) (last_point (points_of e all))
  traced_is origins columns shown all =
      ap₂ (λ lines last. lines ++ (if columns.screen then last else []))
      (lines_are origins columns shown)
      (screen_is (last_dispatch all) ∙ ap (last_screen e) (sym (last_is_last all)))

  -- ---- the profile

  views_are : (events : List Event) → views_of e events ≡ map (λ p. view_of e p.state p.cycle) (points_of e events)
  unfolding view_at
  views_are [] = refl
  views_are (Picture m ∷ events) = views_are events
  views_are (Dispatch b ∷ events) = ap (λ views. view_at e b ∷ views) (views_are events)
  views_are (Stopped b ∷ events) = views_are events

  pub profiled_is : (origins : Origins) (events : List Event) → profile_pieces origins e events ≡ profile_of e origins (points_of e events)
  profiled_is origins events = ap (λ views. profile_text origins views ∷ []) (views_are events)

  -- ---- the counts

  points_counted : (events : List Event) → count_of is_dispatch_event events ≡ length (points_of e events)
  points_counted [] = refl
  points_counted (Picture m ∷ events) = points_counted events
  points_counted (Dispatch b ∷ events) = ap suc (points_counted events)
  points_counted (Stopped b ∷ events) = points_counted events

  pictures_counted : (image : List ℕ) (run : List Machine) (events : List Event) → count_of is_picture_event events ≡ length (picture_pieces image run events)
  unfolding picture_pieces
  pictures_counted image run [] = refl
  pictures_counted image run (Picture m ∷ events) = ap suc (pictures_counted image run events)
  pictures_counted image run (Dispatch b ∷ events) = pictures_counted image run events
  pictures_counted image run (Stopped b ∷ events) = pictures_counted image run events

  lit_is : (last : Option Machine) → lit_at e last ≡ lit e (option_map (point_of e) last)
  lit_is None = refl
  lit_is (Some b) = refl

  pub summed_is :
      (number n : ℕ) (image : List ℕ) (run : List Machine) (shown all : List Event) → length (picture_pieces image run shown) ≡ n
      → summary_line number (count_of is_dispatch_event shown) (count_of is_picture_event shown) (lit_at e (last_dispatch all)) ∷ []
      ≡ summary_text e number n (points_of e shown) (last_point (points_of e all))
  summed_is number n image run shown all count =
      (λ i. summary_line number (points_counted shown i) ((pictures_counted image run shown ∙ count) i) (lit_last i) ∷ [])
    where
      lit_last : lit_at e (last_dispatch all) ≡ lit e (last_point (points_of e all))
      lit_last = lit_is (last_dispatch all) ∙ ap (lit e) (sym (last_is_last all))
