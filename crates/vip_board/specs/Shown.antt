-- What the video chip of a board has of pictures, by the moves made so far: what the definition of pictures says of them.
use Rattle.std.specs.Prelude.{◌≡◌, ◌≤◌, ℕ, zero, suc, ◌+◌, ◌*◌, ◌/◌, ◌&&◌, if◌then◌else◌, Bool, true, nat_le, List, [], ◌∷◌, ◌++◌, length, filter, map, slice_get}
use Rattle.std.specs.Option.{option_map}
use Rattle.machine.specs.Board.{Machine, dma_byte}
use Rattle.machine.specs.Signals.{line_cycles, frame_lines, window_line, window_lines}
use Rattle.machine.specs.Pictures.{frame, interrupt_at, windows_ended, is_dma_in, picture_of, is_shown}
use Rattle.vip_video.specs.Chip.{Pictures}
use Rattle.vip_board.specs.Seen.{Seen}

-- the bytes of the DMA cycles of a line so far, the line counted since reset
abbrev pub dma_bytes : List ℕ → List Machine → ℕ → List ℕ
dma_bytes rom run line = map (dma_byte rom) (filter (is_dma_in line) run)

-- those of so many lines from this one on
abbrev pub bytes_from : (ℕ → List ℕ) → ℕ → ℕ → List (List ℕ)
bytes_from bytes line zero = []
bytes_from bytes line (suc n) = bytes line ∷ bytes_from bytes (line + 1) n

-- those of the window of frame m
unfoldable pub window_bytes : (ℕ → List ℕ) → ℕ → List (List ℕ)
window_bytes bytes m = bytes_from bytes (frame_lines * m + window_line) window_lines

-- those of the first n frames that have a picture, the last one first
abbrev pub shown_frames : (ℕ → Bool) → ℕ → List ℕ
shown_frames shown zero = []
shown_frames shown (suc n) = if shown n then n ∷ shown_frames shown n else shown_frames shown n

-- Of a board whose first cycle is `from`, only a frame whose interrupt starts at or after it has a picture. Such a frame has one where
-- the display is on in each cycle from there to the end of its window.
abbrev pub shown_since : ℕ → List ℕ → List Machine → ℕ → Bool
shown_since from rom run m = nat_le from (interrupt_at m) && is_shown rom run m

-- The moves of `run` have been made since cycle `from`, and `cycle` is the number of the present machine cycle. A frame whose window
-- hasn't ended is shown so far where the display was on in each of those cycles that has passed.
pub record HasPicturesSince (from : ℕ) (rom : List ℕ) (run : List Machine) (cycle : ℕ) (p : Pictures) : Type 0 where
  -- the present frame
  pub shown : p.shown ≡ shown_since from rom run (cycle / frame)
  pub lines : p.lines ≡ window_bytes (dma_bytes rom run) (cycle / frame)
  -- the frames whose windows have ended
  pub count : p.count ≡ length (shown_frames (shown_since from rom run) (windows_ended cycle))
  pub finished : p.finished ≡ option_map (picture_of rom run) (slice_get (shown_frames (shown_since from rom run) (windows_ended cycle)) 0)
  -- the frames and lines to come
  pub later_frames : (m : ℕ) → cycle ≤ interrupt_at m → shown_since from rom run m ≡ true
  pub later_lines : (line : ℕ) → cycle ≤ line_cycles * line → dma_bytes rom run line ≡ []

-- the same since reset
abbrev pub HasPictures : List ℕ → List Machine → ℕ → Pictures → Type 0
HasPictures = HasPicturesSince 0

-- where a board has the pictures of the moves made so far, it has them with one move more after that move
abbrev pub CarriesOn : Seen → Seen → Type 0
CarriesOn s v =
    (from : ℕ) (run : List Machine) → HasPicturesSince from s.rom run s.machine.cycle s.pictures
    → HasPicturesSince from v.rom (run ++ s.machine ∷ []) v.machine.cycle v.pictures
