-- What the fields of the chip mean, and what holds of them.
use Rattle.std.specs.Prelude.{◌≡◌, ◌<◌, ◌≤◌, ◌+◌, ◌-◌, ◌%◌, ◌==◌, if◌then◌else◌, ℕ, List, [], length, slice_index_or, Some, None}
use Rattle.machine.specs.Signals.{line_cycles, window_line, line_of}
use Rattle.vip_video.specs.declared.raster.Raster.TheInside.{Inside}
use Rattle.vip_video.specs.Chip.{Pictures}

abbrev pub pictures_of : Inside → Pictures
pictures_of a =
    record {
      shown = a.shown;
      lines = a.buffer;
      count = a.count;
      finished = if a.count == 0 then None else Some a.finished.lines;
    }

-- In cycle t a line that is still to come has no bytes, and the present one at most as many as its DMA cycles before.
pub record HasRoom (t : ℕ) (lines : List (List ℕ)) : Type 0 where
  pub later : (k : ℕ) → line_of t < window_line + k → length (slice_index_or lines k []) ≡ 0
  pub present : (k : ℕ) → line_of t ≡ window_line + k → length (slice_index_or lines k []) ≤ t % line_cycles - 2
