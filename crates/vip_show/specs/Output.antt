-- What is written of a run, piece by piece.
use Rattle.std.specs.Prelude.{ℕ, ◌+◌, List, [], ◌∷◌, Bool, true, false, Option, Some, None, length, filter}
use Rattle.std.specs.List.{flat_map, range_with_len}
use Rattle.machine.specs.Board.{Machine}
use Rattle.machine.specs.Pictures.{picture_of}
use Rattle.chip8_lang.specs.declared.view.Edition.{Edition}
use Rattle.chip8_lang.specs.Editions.{rows_of}
use Rattle.chip8_lang.specs.Events.{Event}
use Rattle.chip8_lang.specs.Events.Event.{Picture, Dispatch}
use Rattle.chip8_lang.specs.Places.{state_of}
use Rattle.chip8_lang.specs.Screen.{Pixels}
use Rattle.chip8_lang.specs.View.{view_at}
use Rattle.asm_core.specs.Origins.{Origins}
use Rattle.vip_text.specs.Screens.{screen_lines, picture_file}
use Rattle.vip_text.specs.Traces.{told_line}
use Rattle.vip_text.specs.declared.trace.TraceColumns.{TraceColumns}

-- ---- a trace: a line for the state read off at each dispatch point, with the source's line that gave its opcode, where that is told

abbrev pub trace_piece : Origins → Edition → TraceColumns → Event → List (List ℕ)
trace_piece origins e columns (Dispatch b) = told_line origins columns (view_at e b) ∷ []
trace_piece origins e columns _ = []

unfoldable pub trace_lines : Origins → Edition → TraceColumns → List Event → List (List ℕ)
trace_lines origins e columns = flat_map (trace_piece origins e columns)

-- the screen at the last dispatch point, and nothing where there is none
abbrev pub screen_at : Edition → Machine → List ℕ
screen_at e b = screen_lines (state_of e b).screen (rows_of e)

abbrev pub screen_piece : Edition → Option Machine → List (List ℕ)
screen_piece e None = []
screen_piece e (Some b) = screen_at e b ∷ []

-- ---- the pictures, each a file of its own

abbrev pub picture_piece : List ℕ → List Machine → Event → List (List ℕ)
picture_piece rom run (Picture m) = picture_file (picture_of rom run m) ∷ []
picture_piece rom run _ = []

unfoldable pub picture_pieces : List ℕ → List Machine → List Event → List (List ℕ)
picture_pieces rom run = flat_map (picture_piece rom run)

-- ---- a summary

abbrev pub is_dispatch_event : Event → Bool
is_dispatch_event (Dispatch b) = true
is_dispatch_event _ = false

abbrev pub is_picture_event : Event → Bool
is_picture_event (Picture m) = true
is_picture_event _ = false

abbrev pub count_of : (Event → Bool) → List Event → ℕ
count_of is events = length (filter is events)

-- the lit pixels of a row, and of so many rows
abbrev pub lit_in_row : Pixels → ℕ → ℕ
lit_in_row pixels y = length (filter (λ x. pixels x y) (range_with_len 0 64))

unfoldable pub lit_in_rows : Pixels → List ℕ → ℕ
lit_in_rows pixels [] = 0
lit_in_rows pixels (y ∷ ys) = lit_in_row pixels y + lit_in_rows pixels ys

-- the lit pixels at the last dispatch point, or 0 where there is none
abbrev pub lit_at : Edition → Option Machine → ℕ
lit_at e None = 0
lit_at e (Some b) = lit_in_rows (state_of e b).screen (range_with_len 0 (rows_of e))
