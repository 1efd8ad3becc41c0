-- What a command writes, by the board and by what it tells.
use Rattle.std.proofs.Common.{◌≡◌, ℕ, Bool, true, false, List, [], ◌∷◌, ◌++◌, take, refl, sym, ap, ◌∙◌, Some, None, Option}
use Rattle.std.specs.Prelude.{if◌then◌else◌, codes}
use Rattle.machine.specs.Board.{Machine}
use Rattle.chip8_lang.specs.declared.view.StopRecord.{StopRecord}
use Rattle.chip8_lang.specs.Events.{is_stop}
use Rattle.chip8_lang.specs.View.{view_at}
use Rattle.vip_byte.specs.Text.{newline}
use Rattle.vip_text.specs.Traces.{told_line}
use Rattle.vip_relation.specs.State.{VipState, interpreter, events_to, state_after}
use Rattle.vip_relation.specs.Follows.{Follows, last_view, last_screen}
use Rattle.vip_relation.specs.Meets.{IsSame}
use Rattle.vip_relation.specs.Stops.{stop_record}
use Rattle.vip_relation.proofs.Waits.{last-at-stop}
use Rattle.vip_words.specs.declared.debug_commands.Telling.TheVariants.{State, Screen, Code}
use Rattle.vip_debug.specs.BoardParts.{clear_reads}
use Rattle.vip_debug.specs.Code.{clear_byte, code_lines}
use Rattle.vip_debug.specs.Shown.{state_line, screen_text}
use Rattle.vip_debug.specs.declared.looks.Looks.{Looks}
use Rattle.vip_debug.specs.Answers.{begun, Place, place_of, Arrival, stop_by, stop_text, lines_at, told, StandsAt}
use Rattle.vip_debug.proofs.Places.{begun-same, state-same}

-- ---- what is told of the events met

module _ (looks : Looks) (v : VipState) (f : Follows v) where
  pub state-told : state_line looks.origins looks.columns v.last ∷ [] ≡ told looks (begun v) State (place_of v)
  state-told =
      ap (λ last. state_line looks.origins looks.columns last ∷ []) (f.last ∙ ap (λ (b : Machine). last_view v.edition (take v.met (events_to v b.cycle))) f.machine)

  pub screen-told : screen_text v.edition v.shown ∷ [] ≡ told looks (begun v) Screen (place_of v)
  screen-told =
      ap (λ bytes. screen_text v.edition bytes ∷ []) (f.shown ∙ ap (λ (b : Machine). last_screen v.edition (take v.met (events_to v b.cycle))) f.machine)

-- ---- opcodes

module _ (looks : Looks) (v : VipState) (f : Follows v) where
  pub code-told : (address count : ℕ)
      → code_lines (clear_reads (record { ram = v.board.machine.ram; rom = v.board.rom; latch = v.board.machine.latch })) looks.origins address count
      ≡ told looks (begun v) (Code address count) (place_of v)
  code-told address count =
      ap (λ rom. code_lines (clear_byte rom v.board.machine) looks.origins address count) f.rom
      ∙ ap (λ (b : Machine). code_lines (clear_byte (interpreter v).rom b) looks.origins address count) f.machine

-- ---- where the board stands

pub stands : (old v : VipState) (p : Place) → Follows old → Follows v → IsSame old v → place_of v ≡ p → StandsAt (begun old) p v
stands old v p f g s is =
    record {
      same = record { edition = s.edition; start = s.start; script = s.script };
      made = ap (λ (q : Place). q.moves) is;
      met = ap (λ (q : Place). q.met) is;
      machine = g.machine ∙ state-same old v f g s v.moves ∙ ap (λ (q : Place). state_after old q.moves) is;
    }

-- ---- the stop, or that there is none

-- the stop where the board is at a stop point
abbrev pub stop_here : VipState → Option StopRecord
stop_here v = if is_stop (interpreter v) v.board.machine then Some (stop_record v.last v.board.machine) else None

pub runs-here : (v : VipState) → None ≡ stop_here v → is_stop (interpreter v) v.board.machine ≡ false
runs-here v is = by_test (is_stop (interpreter v) v.board.machine) is
  where
    by_test : (t : Bool) → None ≡ (if t then Some (stop_record v.last v.board.machine) else None) → t ≡ false
    by_test true e = cc
    by_test false e = refl

pub stops-here : (v : VipState) (stop : StopRecord) → Some stop ≡ stop_here v → is_stop (interpreter v) v.board.machine ≡ true
stops-here v stop is = by_test (is_stop (interpreter v) v.board.machine) is
  where
    by_test : (t : Bool) → Some stop ≡ (if t then Some (stop_record v.last v.board.machine) else None) → t ≡ true
    by_test true e = refl
    by_test false e = cc

-- it is named by the last dispatch point before it
pub stop-is : (v : VipState) → Follows v → (stop : StopRecord) → Some stop ≡ stop_here v → stop ≡ stop_by (begun v) v.moves
stop-is v f stop is =
    let stops : is_stop (interpreter v) v.board.machine ≡ true = stops-here v stop is in
    by_test (is_stop (interpreter v) v.board.machine) stops is
    ∙ ap (λ last. stop_record last v.board.machine) (last-at-stop v f stops)
    ∙ ap (λ (b : Machine). stop_record (last_view v.edition (events_to v b.cycle)) b) f.machine
  where
    by_test : (t : Bool) → t ≡ true → Some stop ≡ (if t then Some (stop_record v.last v.board.machine) else None) → stop ≡ stop_record v.last v.board.machine
    by_test true stops e = cc
    by_test false stops e = cc

-- ---- what a command writes that comes somewhere

module _ (v : VipState) (f : Follows v) where
  -- where the board is, and whether the command is completed
  abbrev pub here : Bool → Arrival
  here completed = record { place = place_of v; completed = completed }

  abbrev ended : List (List ℕ)
  ended = (codes "end" ++ newline) ∷ []

  at_stop : (t c : Bool) (stop lines : List (List ℕ)) → t ≡ true → (if t then stop else if c then lines else ended) ≡ stop
  at_stop true c stop lines e = refl
  at_stop false c stop lines e = cc

  at_lines : (t c : Bool) (stop lines : List (List ℕ)) → t ≡ false → c ≡ true → (if t then stop else if c then lines else ended) ≡ lines
  at_lines true c stop lines e done = cc
  at_lines false true stop lines e done = refl
  at_lines false false stop lines e done = cc

  at_end : (t c : Bool) (stop lines : List (List ℕ)) → t ≡ false → c ≡ false → (if t then stop else if c then lines else ended) ≡ ended
  at_end true c stop lines e done = cc
  at_end false true stop lines e done = cc
  at_end false false stop lines e done = refl

  stop_test : (t : Bool) → is_stop (interpreter v) v.board.machine ≡ t → is_stop (interpreter v) (state_after v v.moves) ≡ t
  stop_test t e = ap (is_stop (interpreter v)) (sym f.machine) ∙ e

  module _ (completed : Bool) (lines : List (List ℕ)) where
    abbrev stop_lines : List (List ℕ)
    stop_lines = stop_text (stop_by (begun v) v.moves) ∷ []

    pub lines-stop : (stop : StopRecord) → Some stop ≡ stop_here v → stop_text stop ∷ [] ≡ lines_at (begun v) (here completed) lines
    unfolding lines_at
    lines-stop stop is =
        ap (λ s. stop_text s ∷ []) (stop-is v f stop is)
        ∙ sym (at_stop (is_stop (interpreter v) (state_after v v.moves)) completed stop_lines lines (stop_test true (stops-here v stop is)))

    pub lines-completed : None ≡ stop_here v → completed ≡ true → lines ≡ lines_at (begun v) (here completed) lines
    unfolding lines_at
    lines-completed is done =
        sym (at_lines (is_stop (interpreter v) (state_after v v.moves)) completed stop_lines lines (stop_test false (runs-here v is)) done)

    pub lines-end : None ≡ stop_here v → completed ≡ false → ended ≡ lines_at (begun v) (here completed) lines
    unfolding lines_at
    lines-end is done = sym (at_end (is_stop (interpreter v) (state_after v v.moves)) completed stop_lines lines (stop_test false (runs-here v is)) done)

-- where the board arrived, seen from where the command began
module _ (old v : VipState) (g : Follows v) (a : Arrival) (completed : Bool) (same : IsSame old v) (place : place_of v ≡ a.place)
    (done : completed ≡ a.completed) where
  module _ (lines : List (List ℕ)) where
    arrived : lines_at (begun v) (here v g completed) lines ≡ lines_at (begun old) a lines
    arrived =
        ap (λ (x : VipState). lines_at x (record { place = place_of v; completed = completed }) lines) (begun-same old v same)
        ∙ ap (λ p. lines_at (begun old) (record { place = p; completed = completed }) lines) place
        ∙ ap (λ c. lines_at (begun old) (record { place = a.place; completed = c }) lines) done

    pub writes-stop : (stop : StopRecord) → Some stop ≡ stop_here v → stop_text stop ∷ [] ≡ lines_at (begun old) a lines
    writes-stop stop is = lines-stop v g completed lines stop is ∙ arrived

    pub writes-lines : None ≡ stop_here v → completed ≡ true → lines ≡ lines_at (begun old) a lines
    writes-lines is goes = lines-completed v g completed lines is goes ∙ arrived

    pub writes-end : None ≡ stop_here v → completed ≡ false → (codes "end" ++ newline) ∷ [] ≡ lines_at (begun old) a lines
    writes-end is goes = lines-end v g completed lines is goes ∙ arrived

  -- the record of the dispatch point
  pub point-lines : (looks : Looks) → Follows old
      → told_line looks.origins looks.columns (view_at v.edition v.board.machine) ∷ [] ≡ told_line looks.origins looks.columns
      (view_at (begun old).edition (state_after (begun old) a.place.moves)) ∷ []
  point-lines looks f =
      ap (λ e. told_line looks.origins looks.columns (view_at e v.board.machine) ∷ []) same.edition
      ∙ ap (λ b. told_line looks.origins looks.columns (view_at old.edition b) ∷ [])
      (g.machine ∙ state-same old v f g same v.moves ∙ ap (λ (p : Place). state_after old p.moves) place)
