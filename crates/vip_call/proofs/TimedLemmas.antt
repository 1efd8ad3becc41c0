-- The transcript of a game's run is the one in the language's time, by the law of every run's time.
use Rattle.std.proofs.Common.{◌≡◌, ℕ, zero, suc, ◌+◌, ◌<◌, Bool, true, false, List, [], ◌∷◌, slice_index, refl, sym, ap, subst, ◌∙◌}
use Rattle.std.specs.Prelude.{if◌then◌else◌, nat_le}
use Rattle.std.proofs.lemmas.Bool.{leb-false}
use Rattle.machine.specs.Board.{Machine}
use Rattle.machine.specs.Keys.{Event as KeyEvent, held_at}
use Rattle.machine.specs.Pictures.{picture_of, windows_ended}
use Rattle.machine.specs.Run.{run_to}
use Rattle.chip8_lang.specs.declared.view.Edition.{Edition}
use Rattle.chip8_lang.specs.declared.view.Stop.{Stop}
use Rattle.chip8_lang.specs.Events.{Event, events_behind}
use Rattle.chip8_lang.specs.Events.Event.{Picture, Dispatch, Stopped}
use Rattle.chip8_lang.specs.Places.{state_of}
use Rattle.chip8_lang.specs.State.{Lang, first}
use Rattle.chip8_lang.specs.Ticks.{ticks}
use Rattle.chip8_lang.specs.Timed.{Shown as TimedShown, boot_cycle, shown_behind, timed_run}
use Rattle.chip8_lang.specs.Timed.Shown.{Picture as PictureAt, Point as PointAt, End}
use Rattle.chip8_lang.specs.View.{opcode_at}
use Rattle.rom_law.specs.Language.{Begins as BeginsRun, GoesOn as GoesOnRun, Halted, end_cycle}
use Rattle.rom_law.specs.Program.{Halts}
use Rattle.rom_run.specs.Timeline.{AreShown}
use Rattle.rom_board.specs.Laws.{EveryRun, EveryTime}
use Rattle.rom_board.specs.Program.{program}
use Rattle.rom_board.proofs.Speaking.{stop_numbered-stop_number}
use Rattle.chip8_image.specs.Interpreters.{interpreter_of}
use Rattle.vip_relation.specs.Follows.{Fits}
use Rattle.vip_relation.specs.State.{Start}
use Rattle.vip_relation.specs.State.Start.{Reset, Saved}
use Rattle.vip_relation.specs.Stops.{stop_numbered}
use Rattle.vip_show.specs.Output.{picture_pieces}
use Rattle.vip_text.specs.Endings.{Ending}
use Rattle.vip_text.specs.Endings.Ending.{AtStop}
use Rattle.vip_text.specs.StateFile.{shown, IsAccepted}
use Rattle.vip_verbs.specs.Outcome.{events_shown, run_ending}
use Rattle.vip_show.specs.Runs.{events_in, run_of}
use Rattle.vip_call.specs.Language.{named}
use Rattle.vip_call.specs.Transcribed.{shown_from}
use Rattle.vip_call.specs.Transcript.{Point, Shows, ShowsPictures}
use Rattle.vip_call.proofs.LanguageLemmas.{is_chip8}
use Rattle.vip_call.proofs.ResumedLemmas.{FromFile as FromAccepted}
use Rattle.vip_call.proofs.TranscriptLemmas.{Boots, file_point_is, points_of}

-- ---- a stop

-- ticks leave pc and the opcode there
same_pc : (n : ℕ) (s : Lang) → (ticks n s).pc ≡ s.pc
same_pc zero s = refl
same_pc (suc n) s = same_pc n s

same_opcode : (e : Edition) (n : ℕ) (s : Lang) → opcode_at e (ticks n s) ≡ opcode_at e s
same_opcode e zero s = refl
same_opcode e (suc n) s = same_opcode e n s

module _ (e : Edition) (script : List KeyEvent) (limit : ℕ) (run : List Machine) (ending : Ending) where
  -- the stop of the run is the one that is shown, and so are its pc and its opcode
  ending_is :
      (k : ℕ) (b c : Machine) (events : List Event) (s : Lang) (stop : Stop) → Halted (program e) script limit run (named e ending) k b c events
      → Halts (program e) c s stop → ending ≡ AtStop stop s.pc (opcode_at e s)
  ending_is k b c events s stop h halts =
      h.also_is
      ∙ ap (λ z. AtStop z (state_of e b).pc (opcode_at e (state_of e b))) same_stop
      ∙ ap (λ pc. AtStop stop pc (opcode_at e (state_of e b))) (sym (same_pc n (state_of e b)))
      ∙ ap (λ opcode. AtStop stop (ticks n (state_of e b)).pc opcode) (sym (same_opcode e n (state_of e b)))
      ∙ ap (λ (z : Lang). AtStop stop z.pc (opcode_at e z)) same_state
    where
      n : ℕ
      n = (program e).ticks_between b.cycle c.cycle

      same_stop : h.stop.stop ≡ stop
      same_stop = sym (stop_numbered-stop_number h.stop.stop) ∙ ap stop_numbered (sym h.stop.halts.number ∙ halts.number) ∙ stop_numbered-stop_number stop

      same_state : ticks n (state_of e b) ≡ s
      same_state = sym h.stop.halts.keeps.lies.is ∙ halts.keeps.lies.is

  -- ---- the points

  shows :
      (k : ℕ) (b : Machine) (events : List Event) (those : List TimedShown) → GoesOnRun (program e) script limit run (named e ending) k b events
      → AreShown (program e) run events those → Shows e script limit those (points_of e events) ending (end_cycle limit events)
  shows k b [] [] h a = (h.also_is, refl)
  shows k b [] (PictureAt m screen ∷ those) h a = absurd a
  shows k b [] (PointAt t s ∷ those) h a = absurd a
  shows k b [] (End t s stop ∷ those) h a = absurd a
  shows k b (Picture m ∷ events) [] h a = absurd a
  shows k b (Picture m ∷ events) (PictureAt n screen ∷ those) h a = shows (k + 1) b events those h.2 a.2
  shows k b (Picture m ∷ events) (PointAt t s ∷ those) h a = absurd a
  shows k b (Picture m ∷ events) (End t s stop ∷ those) h a = absurd a
  shows k b (Dispatch c ∷ events) [] h a = absurd a
  shows k b (Dispatch c ∷ events) (PictureAt n screen ∷ those) h a = absurd a
  shows k b (Dispatch c ∷ events) (PointAt t s ∷ those) h a = (a.0, a.1.keeps.lies.is, shows k c events those h.2 a.2)
  shows k b (Dispatch c ∷ events) (End t s stop ∷ those) h a = absurd a
  shows k b (Stopped c ∷ events) [] h a = absurd a
  shows k b (Stopped c ∷ events) (PictureAt n screen ∷ those) h a = absurd a
  shows k b (Stopped c ∷ events) (PointAt t s ∷ those) h a = absurd a
  shows k b (Stopped c ∷ events) (End t s stop ∷ those) h a =
      subst (λ es. Shows e script limit (End t s stop ∷ those) (points_of e es) ending c.cycle) (sym h.last)
      (ending_is k b c events s stop h a.1, a.0)

  shows_all :
      (game : List ℕ) (events : List Event) (those : List TimedShown) → BeginsRun (program e) script limit run (named e ending) game events
      → AreShown (program e) run events those → Shows e script limit those (points_of e events) ending (end_cycle limit events)
  shows_all game [] [] h a = (h.1, refl)
  shows_all game [] (PictureAt m screen ∷ those) h a = absurd a
  shows_all game [] (PointAt t s ∷ those) h a = absurd a
  shows_all game [] (End t s stop ∷ those) h a = absurd a
  shows_all game (Picture m ∷ events) those h a = absurd h
  shows_all game (Dispatch b ∷ events) [] h a = absurd a
  shows_all game (Dispatch b ∷ events) (PictureAt n screen ∷ those) h a = absurd a
  shows_all game (Dispatch b ∷ events) (PointAt t s ∷ those) h a = (a.0, a.1.keeps.lies.is, shows 0 b events those h.3 a.2)
  shows_all game (Dispatch b ∷ events) (End t s stop ∷ those) h a = absurd a
  shows_all game (Stopped b ∷ events) those h a = absurd h

-- ---- the pictures

pictures_shown :
    (e : Edition) (run : List Machine) (events : List Event) (those : List TimedShown) → AreShown (program e) run events those
    → ShowsPictures e those (picture_pieces (program e).interpreter.rom run events)
unfolding picture_pieces
pictures_shown e run [] [] a = tt
pictures_shown e run [] (PictureAt m screen ∷ those) a = absurd a
pictures_shown e run [] (PointAt t s ∷ those) a = absurd a
pictures_shown e run [] (End t s stop ∷ those) a = absurd a
pictures_shown e run (Picture m ∷ events) [] a = absurd a
pictures_shown e run (Picture m ∷ events) (PictureAt n screen ∷ those) a =
    (record { picture = picture_of (program e).interpreter.rom run m; shows = a.1; is = refl }, pictures_shown e run events those a.2)
pictures_shown e run (Picture m ∷ events) (PointAt t s ∷ those) a = absurd a
pictures_shown e run (Picture m ∷ events) (End t s stop ∷ those) a = absurd a
pictures_shown e run (Dispatch c ∷ events) [] a = absurd a
pictures_shown e run (Dispatch c ∷ events) (PictureAt n screen ∷ those) a = absurd a
pictures_shown e run (Dispatch c ∷ events) (PointAt t s ∷ those) a = pictures_shown e run events those a.2
pictures_shown e run (Dispatch c ∷ events) (End t s stop ∷ those) a = absurd a
pictures_shown e run (Stopped c ∷ events) [] a = absurd a
pictures_shown e run (Stopped c ∷ events) (PictureAt n screen ∷ those) a = absurd a
pictures_shown e run (Stopped c ∷ events) (PointAt t s ∷ those) a = absurd a
pictures_shown e run (Stopped c ∷ events) (End t s stop ∷ those) a = pictures_shown e run events those a.2

-- ---- the run from a start

abbrev pub TimeFromFile : Type 0
TimeFromFile =
    (e : Edition) (f : List ℕ) → ((k : ℕ) → slice_index f k < 256) → IsAccepted e f → (script : List KeyEvent) (limit : ℕ)
    → AreShown (program e) (run_to (interpreter_of e).rom (held_at script) (shown f) limit) (events_behind (interpreter_of e) script (shown f) limit)
    (shown_behind e script limit limit (windows_ended (shown f).cycle) (shown f).cycle (state_of e (shown f)))

module _ (time : EveryTime) (time_from : TimeFromFile) where
  shown_is :
      (e : Edition) (s : Start) → Fits e s → (script : List KeyEvent) (limit : ℕ)
      → AreShown (program e) (run_of e s script limit) (events_shown e s script limit) (shown_from e s script limit)
  shown_is e (Reset game) fits script limit = time e game fits.fits fits.bytes script limit
  shown_is e (Saved f) fits script limit =
      subst
      (λ (p : Point). AreShown (program e) (run_of e (Saved f) script limit) (events_behind (interpreter_of e) script (shown f) limit)
      (shown_behind e script limit limit (windows_ended p.cycle) p.cycle p.state))
      (file_point_is e f) (time_from e f fits.bytes fits.accepted script limit)

  pub timed_pictures :
      (e : Edition) (s : Start) → Fits e s → (script : List KeyEvent) (limit : ℕ)
      → ShowsPictures e (shown_from e s script limit) (picture_pieces (interpreter_of e).rom (run_of e s script limit) (events_shown e s script limit))
  timed_pictures e s fits script limit = pictures_shown e (run_of e s script limit) (events_shown e s script limit) _ (shown_is e s fits script limit)

  pub timed_points :
      EveryRun → FromAccepted → (e : Edition) (s : Start) → Fits e s → (script : List KeyEvent) (limit : ℕ)
      → Shows e script limit (shown_from e s script limit) (points_of e (events_shown e s script limit)) (run_ending e s script limit)
      (end_cycle limit (events_shown e s script limit))
  timed_points law from e (Reset game) fits script limit =
      shows_all e script limit (run_of e (Reset game) script limit) (run_ending e (Reset game) script limit) game (events_in e (Reset game) script limit) _
      (is_chip8 law from e (Reset game) fits script limit) (shown_is e (Reset game) fits script limit)
  timed_points law from e (Saved f) fits script limit =
      shows e script limit (run_of e (Saved f) script limit) (run_ending e (Saved f) script limit) (windows_ended (shown f).cycle) (shown f)
      (events_behind (interpreter_of e) script (shown f) limit) _ (is_chip8 law from e (Saved f) fits script limit).events
      (shown_is e (Saved f) fits script limit)

-- ---- the first point

pub boots : (e : Edition) (script : List KeyEvent) (limit : ℕ) (game : List ℕ) (points : List Point) (ending : Ending) (t : ℕ)
    → Shows e script limit (timed_run e script limit game) points ending t → Boots limit points
boots e script limit game points ending t = by_test (nat_le boot_cycle limit) refl points
  where
    by_test :
        (early : Bool) → nat_le boot_cycle limit ≡ early → (points : List Point)
        → Shows e script limit
        (if early then PointAt boot_cycle (first e game) ∷ shown_behind e script limit limit 0 boot_cycle (first e game) else []) points ending t
        → Boots limit points
    by_test true is [] x = absurd x
    by_test true is (p ∷ ps) x = x.0
    by_test false is [] x = leb-false boot_cycle limit is
    by_test false is (p ∷ ps) x = absurd x
