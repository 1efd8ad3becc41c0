-- The place of a machine cycle in the frame.
use Rattle.std.specs.Prelude.{ℕ, ◌%◌}
use Rattle.machine.specs.Signals.{line_cycles, line_of}
use Rattle.vip_video.specs.declared.place.Place.{Place}

abbrev pub frame_place : ℕ → Place
frame_place t = record { line = line_of t; column = t % line_cycles }
