-- What a run that begins has come to, with what is written of each event.
use Rattle.std.specs.Prelude.{◌≡◌, ℕ, List, [], Option, Some, None, Result, Ok, Err}
use Rattle.std.specs.List.{flat_map, range_with_len}
use Rattle.std.specs.Option.{option_map, option_map_or}
use Rattle.machine.specs.Board.{Machine}
use Rattle.chip8_lang.specs.declared.view.Edition.{Edition}
use Rattle.chip8_lang.specs.Editions.{rows_of}
use Rattle.chip8_lang.specs.Events.{Event}
use Rattle.chip8_lang.specs.Places.{pixels}
use Rattle.chip8_lang.specs.Screen.{Pixels}
use Rattle.chip8_lang.specs.View.{view_at}
use Rattle.asm_core.specs.Origins.{Origins}
use Rattle.vip_outside.specs.Sink.{SinkMeaning, PutAnswers}
use Rattle.vip_outside.specs.Pieces.{PutsAll, FailsWithin}
use Rattle.vip_outside.specs.declared.sink.Failed.{Failed}
use Rattle.vip_text.specs.Screens.{picture_file, screen_lines}
use Rattle.vip_text.specs.Traces.{told_line}
use Rattle.vip_text.specs.declared.trace.TraceColumns.{TraceColumns}
use Rattle.vip_relation.specs.declared.run.Met.{Met}
use Rattle.vip_relation.specs.declared.run.Met.TheVariants.{Dispatch as MetDispatch, Picture as MetPicture}
use Rattle.vip_relation.specs.Follows.{last_view, last_screen}
use Rattle.vip_relation.specs.State.{VipState, interpreter, run_of, events_left, events_to}
use Rattle.vip_show.specs.declared.run.Shown.{Shown}
use Rattle.vip_show.specs.declared.run.Shown.TheVariants as shown
use Rattle.vip_show.specs.declared.run.Tally.{Tally}
use Rattle.vip_text.specs.Endings.{ending_in}
use Rattle.vip_show.specs.Endings.{ending_of}
use Rattle.vip_show.specs.Output.{trace_piece, picture_piece, is_dispatch_event, is_picture_event, count_of, lit_in_rows}

-- what is told of each event: a line for each dispatch point, with what a source gave; a file for each picture; or nothing
pub data Told : Type 0 where
  Lines : Origins → TraceColumns → Told
  Pictures : Told
  Nothing : Told

abbrev pub told_of : Shown → Told
told_of (shown.Lines columns origins) = Told.Lines origins.now columns
told_of shown.Pictures = Told.Pictures
told_of shown.Nothing = Told.Nothing

-- what is written of one event
abbrev pub piece_of : Told → Edition → List ℕ → List Machine → Event → List (List ℕ)
piece_of (Told.Lines origins columns) e rom run event = trace_piece origins e columns event
piece_of Told.Pictures e rom run event = picture_piece rom run event
piece_of Told.Nothing e rom run event = []

-- and of the events of a run
abbrev pub pieces_of : Told → VipState → ℕ → List Event → List (List ℕ)
pieces_of told v limit events = flat_map (piece_of told v.edition (interpreter v).rom (run_of v limit)) events

-- the run has ended as its events say, and this was written and is known of it, of those behind its start
pub record Ran (told : Told) (limit : ℕ) (old new : VipState) (out out' : SinkMeaning) (tally : Tally) : Type 0 where
  pub puts : PutsAll (pieces_of told old limit (events_left old limit)) out out'
  pub ending : ending_in tally.end ≡ ending_of old.edition (events_to old limit)
  pub dispatches : tally.dispatches ≡ count_of is_dispatch_event (events_left old limit)
  pub pictures : tally.pictures ≡ count_of is_picture_event (events_left old limit)
  pub edition : new.edition ≡ old.edition
  pub last : new.last ≡ last_view old.edition (events_to old limit)
  pub screen : new.shown ≡ last_screen old.edition (events_to old limit)

abbrev pub RunAnswers : Told → ℕ → VipState → VipState → SinkMeaning → SinkMeaning → Result Tally Failed → Type 0
RunAnswers told limit old new out out' (Ok tally) = Ran told limit old new out out' tally
RunAnswers told limit old new out out' (Err e) = FailsWithin (pieces_of told old limit (events_left old limit)) out out'

-- a piece, where there is one
abbrev pub PieceAnswers : Option (List ℕ) → SinkMeaning → SinkMeaning → Result (Unit {0}) Failed → Type 0
PieceAnswers (Some piece) old new r = PutAnswers piece old new r
PieceAnswers None old new r = (r ≡ Ok tt) × (new ≡ old)

-- what is put of an event that was just met
abbrev pub event_piece : Told → Met → VipState → Option (List ℕ)
event_piece (Told.Lines origins columns) MetDispatch v = Some (told_line origins columns (view_at v.edition v.board.machine))
event_piece Told.Pictures MetPicture v = option_map picture_file v.board.pictures.finished
event_piece _ met v = None

-- ---- the screen that is told of

abbrev pub pixels_told : VipState → Pixels
pixels_told v = pixels (rows_of v.edition) v.shown

-- its text, where a dispatch point was met
abbrev pub screen_told : VipState → Option (List ℕ)
screen_told v = option_map (λ view. screen_lines (pixels_told v) (rows_of v.edition)) v.last

-- its lit pixels, or 0 where none was met
abbrev pub lit_told : VipState → ℕ
lit_told v = option_map_or (λ view. lit_in_rows (pixels_told v) (range_with_len 0 (rows_of v.edition))) v.last 0
