-- A run on its way whose pieces are hashed: what the hashers hold is what sinks would hold that were put the pieces.
use Rattle.std.proofs.Common.{◌≡◌, ℕ, ◌+◌, List, [], ◌∷◌, ◌++◌, refl, sym, ap, ◌∙◌, subst, true, false, append-nil}
use Rattle.std.specs.Prelude.{Option, Some, None, Ok, unwrap_or}
use Rattle.std.specs.Option.{option_map}
use Rattle.sha2.specs.Hashers.{Holds256}
use Rattle.sha2.specs.Sha256.{sha256}
use Rattle.sha2.specs.declared.Sha256.{Sha256}
use Rattle.chip8_lang.specs.declared.view.StopRecord.{StopRecord}
use Rattle.asm_core.specs.Origins.{no_origins}
use Rattle.chip8_lang.specs.View.{View}
use Rattle.vip_text.specs.Traces.{opcode_bytes, record_text, told_line, trace_line}
use Rattle.vip_byte.specs.Text.{newline}
use Rattle.asm_core.specs.Origins.{source_end}
use Rattle.vip_text.specs.declared.trace.TraceColumns.{TraceColumns}
use Rattle.vip_outside.specs.Sink.{SinkMeaning, PutsWhole}
use Rattle.vip_outside.specs.Pieces.{joined, PutsAll}
use Rattle.vip_relation.specs.State.{VipState, events_left, events_to}
use Rattle.vip_relation.specs.declared.run.Met.TheVariants as met
use Rattle.vip_relation.proofs.Nexts.{Dispatched, Pictured, Halted, Ended}
use Rattle.vip_text.specs.Endings.{ending_in}
use Rattle.vip_text.specs.declared.ending.RunEnd.{RunEnd}
use Rattle.vip_text.specs.declared.ending.RunEnd.TheVariants as end
use Rattle.vip_show.specs.declared.digests.Digests.{Digests}
use Rattle.vip_show.specs.Run.Told.{Lines, Pictures}
use Rattle.vip_show.specs.declared.run.Tally.{Tally}
use Rattle.vip_show.specs.Answers.{IsFresh, run_pictures, run_trace}
use Rattle.vip_show.specs.Digests.{AddsPiece, IsDigested, digested_columns}
use Rattle.vip_show.specs.Run.{event_piece, screen_told, PieceAnswers, Ran}
use Rattle.vip_show.proofs.EventsShown.{EventsShown, events_shown-first, puts-dispatch, puts-picture, ran-stop, ran-end, traced-whole, pictures-are}

-- a sink that holds this message
abbrev pub holding : List ℕ → SinkMeaning
holding message = record { held = Some message; faults = 0; calls = None }

-- a piece goes to its end
put-piece : (piece : Option (List ℕ)) (message : List ℕ) → PieceAnswers piece (holding message) (holding (message ++ unwrap_or piece [])) (Ok tt)
put-piece None message = (refl, ap holding (append-nil message))
put-piece (Some piece) message = record { gains = record { held = refl; faults = refl }; calls = refl; unspent = λ spent. cc }

-- a piece that is told goes to the end of a message
pub adds-told : {X : Type 0} (f : X → List ℕ) (found : Option X) (x : X) (bytes message : List ℕ) (hasher : Sha256) → found ≡ Some x → bytes ≡ f x
    → Holds256 hasher (message ++ bytes) → Holds256 hasher (message ++ unwrap_or (option_map f found) [])
adds-told f found x bytes message hasher is same holds = rw is (subst (λ b. Holds256 hasher (message ++ b)) same holds)

-- the line of a state of no source
untold : (pc : ℕ) (opcode : Option ℕ) → source_end no_origins false pc (opcode_bytes opcode) ≡ []
untold pc None = refl
untold pc (Some opcode) = refl

pub line-alone : (columns : TraceColumns) (view : View) → trace_line columns view ≡ told_line no_origins columns view
line-alone columns view =
    ap (λ text. text ++ newline) (sym (append-nil (record_text columns view)))
    ∙ ap (λ end. record_text columns view ++ end ++ newline) (sym (untold view.pc view.opcode))

pub adds-line : (view : View) (trace trace' : Sha256) → AddsPiece (Some (trace_line digested_columns view)) trace trace'
    → AddsPiece (Some (told_line no_origins digested_columns view)) trace trace'
adds-line view trace trace' adds = subst (λ line. AddsPiece (Some line) trace trace') (line-alone digested_columns view) adds

-- From a start up to v, with so many points met: the hashers hold the lines and the pictures of the events that are met.
pub record Digesting (limit : ℕ) (start v : VipState) (trace pictures : Sha256) (points : ℕ) : Type 0 where
  pub lines : List ℕ
  pub files : List ℕ
  pub count : ℕ
  pub lined : EventsShown (Lines no_origins digested_columns) limit start v (holding []) (holding lines) points count
  pub pictured : EventsShown Pictures limit start v (holding []) (holding files) points count
  pub holds_lines : Holds256 trace lines
  pub holds_files : Holds256 pictures files

module _ (limit : ℕ) (start : VipState) where
  -- no event was met
  pub digesting-first : (trace pictures : Sha256) → IsFresh start → Holds256 trace [] → Holds256 pictures [] → Digesting limit start start trace pictures 0
  digesting-first trace pictures fresh lines files = record {
    lines = [];
    files = [];
    count = 0;
    lined = events_shown-first (Lines no_origins digested_columns) limit start (holding []) fresh;
    pictured = events_shown-first Pictures limit start (holding []) fresh;
    holds_lines = lines;
    holds_files = files;
  }

  module _ (v v' : VipState) (trace pictures : Sha256) (points : ℕ) (g : Digesting limit start v trace pictures points) where
    pub digesting-dispatch : (d : Dispatched limit v v' (events_left v limit)) (trace' : Sha256) → AddsPiece (event_piece (Lines no_origins digested_columns) met.Dispatch v') trace trace'
        → Digesting limit start v' trace' pictures (points + 1)
    digesting-dispatch d trace' adds =
        let line = event_piece (Lines no_origins digested_columns) met.Dispatch v' in
        record {
          lines = g.lines ++ unwrap_or line [];
          files = g.files;
          count = g.count;
          lined =
              puts-dispatch (Lines no_origins digested_columns) limit start (holding []) v v' (holding g.lines) points g.count g.lined (holding (g.lines ++ unwrap_or line [])) d tt
              (put-piece line g.lines);
          pictured = puts-dispatch Pictures limit start (holding []) v v' (holding g.files) points g.count g.pictured (holding g.files) d tt (refl, refl);
          holds_lines = adds g.lines g.holds_lines;
          holds_files = g.holds_files;
        }

    pub digesting-picture : (d : Pictured limit v v' (events_left v limit)) (pictures' : Sha256) → AddsPiece (event_piece Pictures met.Picture v') pictures pictures'
        → Digesting limit start v' trace pictures' points
    digesting-picture d pictures' adds =
        let file = event_piece Pictures met.Picture v' in
        record {
          lines = g.lines;
          files = g.files ++ unwrap_or file [];
          count = g.count + 1;
          lined = puts-picture (Lines no_origins digested_columns) limit start (holding []) v v' (holding g.lines) points g.count g.lined (holding g.lines) d tt (refl, refl);
          pictured =
              puts-picture Pictures limit start (holding []) v v' (holding g.files) points g.count g.pictured (holding (g.files ++ unwrap_or file [])) d tt
              (put-piece file g.files);
          holds_lines = g.holds_lines;
          holds_files = adds g.files g.holds_files;
        }

    -- what is told at the end, by what the run has come to
    module _ (tally : Tally) (digests : Digests) (points_is : digests.points ≡ tally.dispatches) (end_is : digests.end ≡ tally.end)
        (lined : Ran (Lines no_origins digested_columns) limit start v' (holding []) (holding g.lines) tally)
        (pictured : Ran Pictures limit start v' (holding []) (holding g.files) tally)
        (traced : (lines : List ℕ) → Holds256 trace lines → digests.trace ≡ sha256 (lines ++ unwrap_or (screen_told v') []))
        (filmed : (files : List ℕ) → Holds256 pictures files → digests.pictures ≡ sha256 files) where
      pub digested : IsDigested start limit digests
      digested =
          let whole =
          traced-whole no_origins digested_columns limit start v' (holding []) (holding g.lines) (holding (g.lines ++ unwrap_or (screen_told v') [])) tally lined refl tt
          (put-piece (screen_told v') g.lines) in
          let films = subst (λ pieces. PutsAll pieces (holding []) (holding g.files)) (pictures-are start limit) pictured.puts in
          record {
            trace = traced g.lines g.holds_lines ∙ ap sha256 whole.puts.gains.held;
            pictures = filmed g.files g.holds_files ∙ ap sha256 films.gains.held;
            points = points_is ∙ lined.dispatches;
            ending = ap ending_in end_is ∙ lined.ending;
          }
