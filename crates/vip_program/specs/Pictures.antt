-- The pictures of the run of a program up to a limit.
use Rattle.std.specs.Prelude.{◌≡◌, ℕ, List, map, filter, Option, Some, None, Result, Ok}
use Rattle.std.specs.List.{range_with_len}
use Rattle.machine.specs.Board.{Machine}
use Rattle.machine.specs.Pictures.{windows_ended, picture_of, is_shown}
use Rattle.machine.specs.Run.{states}
use Rattle.vip_board.specs.Seen.{Seen, held_by}
use Rattle.vip_outside.specs.Sink.{SinkMeaning, PutAnswers}
use Rattle.vip_outside.specs.declared.sink.Failed.{Failed}
use Rattle.vip_text.specs.Screens.{picture_file}
use Rattle.vip_program.specs.Trace.{moves_to, last_machine}

-- the machines before the moves of the run
abbrev pub made : Seen → ℕ → List Machine
made s limit = states s.rom (held_by s) s.machine (moves_to s.rom (held_by s) s.machine limit)

-- a file for each frame that has a picture, of those whose windows have ended by a cycle
abbrev pub picture_files : List ℕ → List Machine → ℕ → List (List ℕ)
picture_files rom run cycle =
    map (λ m. picture_file (picture_of rom run m)) (filter (is_shown rom run) (range_with_len 0 (windows_ended cycle)))

-- of all moves of a run, by its last state
unfoldable pub pictured : Seen → ℕ → List (List ℕ)
pictured s limit = picture_files s.rom (made s limit) (last_machine s limit).cycle

-- a picture is put, where there is one
abbrev pub PictureAnswers : Option (List (List ℕ)) → SinkMeaning → SinkMeaning → Result (Unit {0}) Failed → Type 0
PictureAnswers (Some lines) old new r = PutAnswers (picture_file lines) old new r
PictureAnswers None old new r = (r ≡ Ok tt) × (new ≡ old)
