-- What certificates show that were accepted, or found; and that a game which the program makes never stops.
use Rattle.std.specs.Prelude.{◌≡◌, ℕ, Bool, List, [], ◌∷◌, Some, Ok}
use Rattle.machine.specs.Keys.{Event as KeyEvent}
use Rattle.chip8_lang.specs.declared.view.Edition.{Edition}
use Rattle.chip8_lang.specs.Events.{Event, events_of}
use Rattle.chip8_lang.specs.Events.Event.{Picture, Dispatch, Stopped}
use Rattle.cycle_check.specs.Closed.{checked}
use Rattle.cycle_check.specs.Found.{IsFound}
use Rattle.cycle_check.specs.Leaving.{IsWithin}
use Rattle.cycle_check.specs.declared.Within.{Within}
use Rattle.game_check.specs.Least.{IsFound as IsGameFound}
use Rattle.game_check.specs.Proof.{IsAccepted}
use Rattle.game_check.specs.States.{NeverStops}
use Rattle.chip8_image.specs.Interpreters.{interpreter_of}
use Rattle.chip8_lang.specs.declared.view.Edition.TheVariants.{Usual}
use Rattle.vip_words.specs.declared.request.Code.{Code}
use Rattle.vip_words.specs.declared.request.Request.TheVariants.{Certify, Cycles, Run, Safe, Text}
use Rattle.vip_words.specs.declared.request.Start.{Start}
use Rattle.vip_words.specs.declared.request.Start.TheVariants.{Made}
use Rattle.vip_words.specs.declared.request.TextVerb.TheVariants.{Timing}
use Rattle.vip_words.specs.declared.request.Entry.{Entry}
use Rattle.vip_tools.specs.Certificates.{Assembled, certify_shown, entry_in, exits_asked, rom_in, routine_text, timing_shown}
use Rattle.vip_tools.specs.Code.{GameComes}
use Rattle.vip_tools.specs.Demo.{made_game}
use Rattle.vip_tools.specs.Files.{Loaded}
use Rattle.vip_tools.specs.Judged.{Of}

-- The output names the entry and the limit of a certificate, and its exits where they are asked for; and the code in the ROM of the source leaves as it
-- says.
pub record LeavesInTime (source text : List ℕ) (exits : Bool) (pieces : List (List ℕ)) : Type 0 where
  pub bound : Within
  pub named : pieces ≡ routine_text bound (exits_asked exits (rom_in source) text) ∷ []
  pub leaves : IsWithin (rom_in source) text bound

-- All of the output is a certificate of the routine that is entered there, as it is shown with the names of labels, which `cycles` accepts for the same
-- source: its code leaves as it says.
pub record WritesTiming (source : List ℕ) (entry : Entry) (p k : ℕ) (pieces : List (List ℕ)) : Type 0 where
  pub text : List ℕ
  pub written : pieces ≡ timing_shown source text ∷ []
  pub made : Assembled source
  pub address : ℕ
  pub entered : entry_in made.made entry ≡ Some address
  pub found : IsFound (rom_in source) address p k text
  pub accepted : checked (rom_in source) (timing_shown source text) ≡ Ok (record { entry = address; limit = found.bound.limit })
  pub leaves : IsWithin (rom_in source) (timing_shown source text) (record { entry = address; limit = found.bound.limit })

-- none of these events is a stop
abbrev pub NoneStops : List Event → Type 0
NoneStops [] = Unit {0}
NoneStops (Picture m ∷ events) = NoneStops events
NoneStops (Dispatch b ∷ events) = NoneStops events
NoneStops (Stopped b ∷ events) = ⊥

-- A game never stops: no stop fits a state of the language that a run of it comes to; and on the board no event of its run is a stop, under
-- every script and up to every limit.
pub record IsSafe (e : Edition) (game : List ℕ) : Type 0 where
  pub never : NeverStops e game
  pub runs : (script : List KeyEvent) (limit : ℕ) → NoneStops (events_of (interpreter_of e) game script limit)

-- all of the output is the least certificate of such a game, of a source with the names of its labels, which `safe` accepts
pub record WritesCertificate (e : Edition) (code : Code (List ℕ)) (game : List ℕ) (pieces : List (List ℕ)) : Type 0 where
  pub text : List ℕ
  pub written : pieces ≡ certify_shown e code game text ∷ []
  pub found : IsGameFound e game text
  pub accepted : IsAccepted e game (certify_shown e code game text)
  pub safe : IsSafe e game

-- a game that the program makes never stops, without a certificate
abbrev pub NeedsNone : Start (List ℕ) → Type 0
NeedsNone (Made made) = IsSafe Usual (made_game made)
NeedsNone _ = Unit {0}

-- what the output of a verb of certificates says: of a game, or of the one that a source gives; and what holds of a run without one
abbrev pub Certifies : Loaded → List (List ℕ) → Type 0
Certifies (Cycles source certificate exits) pieces = LeavesInTime source certificate exits pieces
Certifies (Text (Timing entry p k) source) pieces = WritesTiming source entry p k pieces
Certifies (Safe code certificate edition) pieces = Of (GameComes edition code) (λ game. IsSafe edition game)
Certifies (Certify code edition) pieces = Of (GameComes edition code) (λ game. WritesCertificate edition code game pieces)
Certifies (Run run) pieces = NeedsNone run.start
Certifies _ pieces = Unit {0}
