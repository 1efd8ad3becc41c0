-- What is saved of a run: the file of the state at its last dispatch point.
use Rattle.std.specs.Prelude.{◌≡◌, ℕ, List, [], ◌∷◌, Option, Some, None, unwrap_or, Result, Ok, Err}
use Rattle.std.specs.Option.{option_map}
use Rattle.chip8_lang.specs.declared.view.Edition.{Edition}
use Rattle.chip8_lang.specs.Events.{Event}
use Rattle.vip_outside.specs.Sink.{SinkMeaning}
use Rattle.vip_outside.specs.Pieces.{PutsAll, FailsWithin}
use Rattle.vip_outside.specs.declared.sink.Failed.{Failed}
use Rattle.vip_relation.specs.Follows.{last_dispatch, last_view}
use Rattle.vip_relation.specs.State.{VipState, events_to}
use Rattle.vip_show.specs.Endings.{ending_of}
use Rattle.vip_text.specs.Endings.{Ending, ending_in}
use Rattle.vip_text.specs.declared.ending.RunEnd.{RunEnd}
use Rattle.vip_show.specs.Written.{file_of}

-- the file of the state at the last dispatch point among some events, where there is one
abbrev pub saved_file : Edition → List Event → Option (List ℕ)
saved_file e events = option_map (file_of e) (last_dispatch events)

-- a run up to its end: the last dispatch point is told, and these bytes are its file, or none where there is no such point
pub record KeepsFile (old : VipState) (limit : ℕ) (new : VipState) (bytes : List ℕ) (end : RunEnd) : Type 0 where
  pub last : new.last ≡ last_view old.edition (events_to old limit)
  pub bytes_are : bytes ≡ unwrap_or (saved_file old.edition (events_to old limit)) []
  pub ending : ending_in end ≡ ending_of old.edition (events_to old limit)

-- Where there is a file, it went out whole, and this is the run's end, or a part of it did. Where there is none, nothing was put, and no end is told.
abbrev pub SavedAnswers : Option (List ℕ) → Ending → SinkMeaning → SinkMeaning → Result (Option RunEnd) Failed → Type 0
SavedAnswers (Some file) ending old new (Ok (Some end)) = PutsAll (file ∷ []) old new × (ending_in end ≡ ending)
SavedAnswers (Some file) ending old new (Err failed) = FailsWithin (file ∷ []) old new
SavedAnswers None ending old new (Ok None) = new ≡ old
SavedAnswers _ ending old new _ = ⊥
