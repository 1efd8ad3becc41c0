-- What the interrupt routine shows: the bytes that the DMA cycles of its moves put on the bus, and the picture that they make.
use Rattle.std.specs.Prelude.{◌≡◌, ℕ, ◌+◌, ◌*◌, ◌/◌, ◌<◌, ◌≤◌, Bool, true, List, filter, length, map, slice_range}
use Rattle.machine.specs.Board.{Machine, case_of, dma_byte}
use Rattle.machine.specs.Keys.{Keys}
use Rattle.machine.specs.Run.{states, after_moves, run_to}
use Rattle.machine.specs.Pictures.{is_dma, is_dma_in, window_end, is_shown, picture_of}
use Rattle.machine.specs.Signals.{frame_lines, window_line, window_lines}
use Rattle.chip8_lang.specs.declared.view.Edition.{Edition}
use Rattle.chip8_lang.specs.Editions.{screen_start, lines_of}
use Rattle.chip8_lang.specs.Places.{state_of}
use Rattle.rom_law.specs.Pictures.{ShowsScreen}
use Rattle.rom_parts.specs.timer.Routine.{IsInterrupted, routine_moves}

-- the bytes of a line's DMA cycles among these states, in order
abbrev pub fetched : List ℕ → ℕ → List Machine → List ℕ
fetched rom line run = map (dma_byte rom) (filter (is_dma_in line) run)

-- the state makes a DMA cycle
abbrev pub is_dma_cycle : Machine → Bool
is_dma_cycle b = is_dma (case_of b)

-- where the row of the screen begins that line k of the window shows: row k / 4, in the tall edition k / 2
abbrev pub row_start : Edition → ℕ → ℕ
row_start e k = screen_start e + 8 * (k / lines_of e)

-- Of the routine's moves from the interrupt of frame m on, 1,024 are DMA cycles: eight in each of the 128 lines of the frame's window, with the
-- eight bytes of the line's row as they lie in RAM when the interrupt comes.
pub record Scans (e : Edition) (rom : List ℕ) (m : ℕ) (b : Machine) (held : ℕ → Keys) : Type 0 where
  pub count : length (filter is_dma_cycle (states rom held b routine_moves)) ≡ 1024
  pub lines :
      (k : ℕ)
      → k < window_lines
      → fetched rom (frame_lines * m + window_line + k) (states rom held b routine_moves) ≡ slice_range b.ram (row_start e k) (row_start e k + 8)

abbrev pub RunScan : (Edition → List ℕ) → Type 0
RunScan rom = (e : Edition) (m : ℕ) (b : Machine) (held : ℕ → Keys) → IsInterrupted e m b → Scans e (rom e) m b held

-- frame m has a picture in a run, which shows the screen that lies in RAM at b
pub record Pictured (e : Edition) (rom : List ℕ) (run : List Machine) (m : ℕ) (b : Machine) : Type 0 where
  pub shown : is_shown rom run m ≡ true
  pub shows : ShowsScreen e (picture_of rom run m) (state_of e b).screen

-- Where the interrupt of frame m comes after i moves of a run, and the run goes on to the end of its window, that frame has a picture, and it
-- shows the screen in RAM at the interrupt.
abbrev pub RunPicture : (Edition → List ℕ) → Type 0
RunPicture rom =
    (e : Edition) (m i limit : ℕ) (held : ℕ → Keys) (first : Machine)
    → IsInterrupted e m (after_moves (rom e) held first i)
    → window_end m ≤ limit
    → Pictured e (rom e) (run_to (rom e) held first limit) m (after_moves (rom e) held first i)
