-- The three signals of the CDP1861 (data sheet, "Signal Descriptions": a line of 14 machine cycles, a frame of 262 lines, a display
-- window of 128 lines with 8 DMA cycles each), by the number of the machine cycle since reset and the display switch. The exact places
-- in a frame are this project's profile. While the display is off no signal is active.
use Rattle.std.specs.Prelude.{◌/◌, ◌%◌, ◌&&◌, ◌||◌, ℕ, Bool, nat_lt, nat_le}

-- the machine cycles of a raster line
abbrev pub line_cycles : ℕ
line_cycles = 14

-- the raster lines of a frame
abbrev pub frame_lines : ℕ
frame_lines = 262

-- the first line of the interrupt request
abbrev pub interrupt_line : ℕ
interrupt_line = 78

-- the display window, whose lines have DMA cycles: its first line, the line behind it, and how many lines it has
abbrev pub window_line : ℕ
window_line = 80

abbrev pub window_end_line : ℕ
window_end_line = 208

abbrev pub window_lines : ℕ
window_lines = 128

-- the raster line of a cycle, in its frame
abbrev pub line_of : ℕ → ℕ
line_of t = t / line_cycles % frame_lines

-- INT: lines 78 and 79, up to the window
abbrev pub int_at : ℕ → Bool → Bool
int_at t on = on && nat_le interrupt_line (line_of t) && nat_lt (line_of t) window_line

-- DMA is wanted: the lines of the window, in their cycles 2 to 9
abbrev pub dma_at : ℕ → Bool → Bool
dma_at t on =
    on && nat_le window_line (line_of t) && nat_lt (line_of t) window_end_line && nat_le 2 (t % line_cycles) && nat_lt (t % line_cycles) 10

-- EFX: the four lines before the window, 76 to 79, and the last four of it, 204 to 207
abbrev pub efx_at : ℕ → Bool → Bool
efx_at t on =
    on
    && ((nat_le 76 (line_of t) && nat_lt (line_of t) window_line) || (nat_le 204 (line_of t) && nat_lt (line_of t) window_end_line))
