-- What an accepted certificate shows: of a routine by its law, of a game by its law and that of every run.
use Rattle.std.proofs.Common.{◌≡◌, ℕ, ◌+◌, ◌<◌, ◌≤◌, List, [], ◌∷◌, length, slice_index, None, Ok, ap, subst, sym}
use Rattle.machine.specs.Board.{Machine}
use Rattle.machine.specs.Keys.{Event as KeyEvent}
use Rattle.chip8_lang.specs.declared.view.Edition.{Edition}
use Rattle.chip8_lang.specs.Events.{Event, events_of, game_run}
use Rattle.chip8_lang.specs.Events.Event.{Picture, Dispatch, Stopped}
use Rattle.chip8_lang.specs.Places.{state_of}
use Rattle.chip8_lang.specs.State.{Lang, memory_size}
use Rattle.chip8_lang.specs.Step.{stop_of}
use Rattle.asm_core.specs.Origins.{origins_of}
use Rattle.asm_core.specs.Sources.{source_lines}
use Rattle.asm_lex.specs.declared.shape.Isa.TheVariants.{Cdp1802, Chip8}
use Rattle.cycle_check.specs.Closed.{checked}
use Rattle.cycle_check.specs.Leaving.{AcceptedIsWithin}
use Rattle.cycle_check.specs.declared.Within.{Within}
use Rattle.game_check.specs.Laws.{CertifiedGames}
use Rattle.game_check.specs.Proof.{IsAccepted}
use Rattle.game_check.specs.States.{IsRunFrom, NeverStops, last_of}
use Rattle.rom_law.specs.Language.{Begins, GoesOn}
use Rattle.rom_board.specs.Laws.{EveryRun}
use Rattle.rom_board.specs.Program.{numbered, program}
use Rattle.chip8_image.specs.Interpreters.{interpreter_of}
use Rattle.chip8_lang.specs.declared.view.Edition.TheVariants.{Usual}
use Rattle.vip_words.specs.declared.request.Code.{Code}
use Rattle.vip_words.specs.declared.request.Code.TheVariants.{Bytes, Source}
use Rattle.vip_words.specs.declared.request.Request.TheVariants as request
use Rattle.vip_words.specs.declared.request.Start.{Start}
use Rattle.vip_words.specs.declared.request.Start.TheVariants.{Made}
use Rattle.vip_words.specs.declared.request.TextVerb.TheVariants as text
use Rattle.vip_tools.specs.declared.status.Status.TheVariants.{Done}
use Rattle.vip_tools.specs.Certificates.{certify_shown, rom_in, timing_shown}
use Rattle.vip_tools.specs.Files.{Loaded, needed}
use Rattle.vip_tools.specs.Judged.Verdict.{Given}
use Rattle.vip_tools.specs.Outcome.{Output, Shown}
use Rattle.vip_tools.specs.Demo.{made_game}
use Rattle.vip_tools.proofs.DemoLemmas.{made-bytes, made-fits}
use Rattle.vip_tools.proofs.JudgedLemmas.{same_value}
use Rattle.vip_tools.proofs.RemarkLemmas.{proof-accepted, routine-accepted}
use Rattle.vip_verbs.specs.Outcome.{HasOutcome}
use Rattle.vip_call.specs.Certified.{Certifies, IsSafe, NeedsNone, NoneStops}
use Rattle.vip_call.specs.Top.{Call, ProvesCertified}
use Rattle.vip_call.proofs.FilledLemmas.{AreGiven, are_given}
use Rattle.vip_call.proofs.GivenStarts.{game_fits}
use Rattle.vip_call.proofs.MadeGames.{never_stops}

-- ---- no event of a run is a stop

module _ (e : Edition) (script : List KeyEvent) (limit : ℕ) (run : List Machine) where
  -- no stop fits a state that a run from this one comes to
  abbrev NeverFrom : Lang → Type 0
  NeverFrom s = (states : List Lang) → IsRunFrom e s states → stop_of e (last_of s states) ≡ None

  behind :
      (k : ℕ) (b : Machine) (events : List Event) → NeverFrom (state_of e b) → GoesOn (program e) script limit run numbered k b events
      → NoneStops events
  behind k b [] never h = tt
  behind k b (Picture m ∷ events) never h = behind (k + 1) b events never h.2
  behind k b (Dispatch c ∷ events) never h =
      behind k c events (λ states goes. never (state_of e c ∷ states) (record { ticks = _; sets = _; between = h.1.between }, goes)) h.2
  behind k b (Stopped c ∷ events) never h = let none = never [] tt in let some = h.stop.fits in absurd (cc)

  from_reset :
      (game : List ℕ) (events : List Event) → NeverStops e game → Begins (program e) script limit run numbered game events → NoneStops events
  from_reset game [] never h = tt
  from_reset game (Picture m ∷ events) never h = absurd h
  from_reset game (Dispatch b ∷ events) never h = behind 0 b events (subst NeverFrom (sym h.0.keeps.lies.is) never) h.3
  from_reset game (Stopped b ∷ events) never h = absurd h

module _ (routines : AcceptedIsWithin) (games : CertifiedGames) (law : EveryRun) where
  is_endless : (e : Edition) (game : List ℕ) → length game ≤ memory_size e → ((i : ℕ) → slice_index game i < 256) → NeverStops e game → IsSafe e game
  is_endless e game fits bytes never =
      record {
        never = never;
        runs = λ script limit.
            from_reset e script limit (game_run (interpreter_of e) game script limit) game (events_of (interpreter_of e) game script limit) never
            (law e game fits bytes script limit);
      }

  is_safe :
      (e : Edition) (game text : List ℕ) → length game ≤ memory_size e → ((i : ℕ) → slice_index game i < 256) → IsAccepted e game text → IsSafe e game
  is_safe e game text fits bytes accepted = is_endless e game fits bytes (games e game text bytes accepted)

  needs_none : (start : Start (List ℕ)) → NeedsNone start
  needs_none (Made made) = is_endless Usual (made_game made) (made-fits made) (made-bytes made) (never_stops made)
  needs_none _ = tt

  -- ---- a command

  -- what is found is accepted as it is shown
  shown_routine : (source text : List ℕ) (within : Within) → checked (rom_in source) text ≡ Ok within → checked (rom_in source) (timing_shown source text) ≡ Ok within
  shown_routine source text within accepted = routine-accepted (rom_in source) (origins_of Cdp1802 (source_lines source)) text within accepted

  shown_proof : (e : Edition) (code : Code (List ℕ)) (game text : List ℕ) → IsAccepted e game text → IsAccepted e game (certify_shown e code game text)
  shown_proof e (Bytes bytes) game text accepted = accepted
  shown_proof e (Source source told) game text accepted = proof-accepted e game (origins_of Chip8 (source_lines source)) text accepted

  written : (output : Output) (text : List ℕ) → Given output ≡ Shown (text ∷ []) Done [] → output.pieces ≡ text ∷ []
  written output text is = ap (λ o. o.pieces) (same_value output _ is)

  shows : (loaded : Loaded) (output : Output) → AreGiven (needed loaded) → HasOutcome loaded (Given output) → Certifies loaded output.pieces
  shows (request.Cycles source certificate exits) output given comes =
      let routine = comes.here in
      record { bound = routine.value; named = written output _ routine.here; leaves = routines _ certificate routine.value comes.value.fits routine.gives }
  shows (request.Text (text.Timing entry p k) source) output given comes =
      let at = comes.here in
      let found = at.here in
      record {
        text = found.value;
        written = written output _ found.here;
        made = comes.value;
        address = at.value;
        entered = at.gives;
        found = found.gives.0;
        accepted = shown_routine source found.value _ found.gives.0.accepted;
        leaves =
            routines _ (timing_shown source found.value) (record { entry = at.value; limit = found.gives.0.bound.limit }) comes.value.fits
            (shown_routine source found.value _ found.gives.0.accepted);
      }
  shows (request.Safe code certificate edition) output given comes =
      let game = game_fits edition code given.0 comes.value comes.gives in
      record {
        value = comes.value;
        gives = comes.gives;
        here = is_safe edition comes.value certificate game.fits game.bytes (record { count = comes.here.value; is = comes.here.gives });
      }
  shows (request.Certify code edition) output given comes =
      let game = game_fits edition code given.0 comes.value comes.gives in
      let found = comes.here in
      record {
        value = comes.value;
        gives = comes.gives;
        here =
            record {
              text = found.value;
              written = written output _ found.here;
              found = found.gives;
              accepted = shown_proof edition code comes.value found.value found.gives.accepted;
              safe = is_safe edition comes.value found.value game.fits game.bytes found.gives.accepted;
            };
      }
  shows (request.Run run) output given comes = needs_none run.start
  shows _ output given comes = tt

  pub proves_certified : (call : Call) → ProvesCertified call
  proves_certified call asked loaded pieces status report asks comes =
      shows loaded (record { pieces = pieces; status = status; report = report }) (are_given call.files asked loaded asks.shape asks.read) comes
