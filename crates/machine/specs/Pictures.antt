-- The pictures that the CDP1861 shows in a run (data sheet, "Display"; the places in a frame are this project's profile): the 128 lines
-- of the window, each of 8 bytes that DMA cycles put on the bus.
use Rattle.std.specs.Prelude.{ℕ, zero, suc, ◌+◌, ◌-◌, ◌*◌, ◌/◌, ◌%◌, ◌==◌, ◌&&◌, ◌||◌, not, nat_lt, nat_le, Bool, true, false, List, [], ◌∷◌, ◌++◌, length, filter, map, replicate}
use Rattle.std.specs.List.{list_all, range_with_len}
use Rattle.machine.specs.Board.{Machine, Case, case_of, dma_byte, length_of}
use Rattle.machine.specs.Board.Case.{Dma}
use Rattle.machine.specs.Signals.{line_cycles, frame_lines, interrupt_line, window_line, window_end_line, window_lines}

-- the cycles of a frame
abbrev pub frame : ℕ
frame = frame_lines * line_cycles

-- the place of a cycle in its frame, that of the interrupt, and that at which the window has ended
abbrev pub place : ℕ → ℕ
place t = t % frame

abbrev pub interrupt_place : ℕ
interrupt_place = interrupt_line * line_cycles

abbrev pub window_place : ℕ
window_place = window_end_line * line_cycles

-- the cycle in which the interrupt of frame m starts, and the cycle at which its window has ended
abbrev pub interrupt_at : ℕ → ℕ
interrupt_at m = frame * m + interrupt_line * line_cycles

abbrev pub window_end : ℕ → ℕ
window_end m = frame * m + window_end_line * line_cycles

-- how many windows have ended by a cycle (frame m's doesn't end before cycle m)
unfoldable pub windows_ended : ℕ → ℕ
windows_ended cycle = length (filter (λ m. nat_le (window_end m) cycle) (range_with_len 0 cycle))

abbrev pub is_dma : Case → Bool
is_dma Dma = true
is_dma _ = false

-- the state makes a DMA cycle in this line, counted since reset
abbrev pub is_dma_in : ℕ → Machine → Bool
is_dma_in line b = is_dma (case_of b) && b.cycle / line_cycles == line

-- eight bytes: those given, followed by 00
abbrev pub filled : List ℕ → List ℕ
filled bytes = bytes ++ replicate (8 - length bytes) 0

module _ (rom : List ℕ) (run : List Machine) where
  -- the bytes of a line: those of its DMA cycles, in order
  abbrev pub line_bytes : ℕ → List ℕ
  line_bytes line = filled (map (dma_byte rom) (filter (is_dma_in line) run))

  -- so many lines from this one on
  abbrev pub lines_from : ℕ → ℕ → List (List ℕ)
  lines_from line zero = []
  lines_from line (suc n) = line_bytes line ∷ lines_from (line + 1) n

  -- the picture of frame m: the lines of its window
  unfoldable pub picture_of : ℕ → List (List ℕ)
  picture_of m = lines_from (frame_lines * m + window_line) window_lines

  -- the move of a state has a cycle between the interrupt's cycle of frame m and the end of its window
  abbrev pub is_within : ℕ → Machine → Bool
  is_within m b = nat_lt b.cycle (window_end m) && nat_lt (interrupt_at m) (b.cycle + length_of rom b)

  -- Frame m has a picture where the display is on in each of these cycles. A move's cycles have the switch that its state has.
  unfoldable pub is_shown : ℕ → Bool
  is_shown m = list_all (λ b. b.on || not (is_within m b)) run
