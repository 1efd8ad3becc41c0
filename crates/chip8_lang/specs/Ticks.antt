-- The timer tick, 60 times a second on the machine.
use Rattle.std.specs.Prelude.{ℕ, zero, suc, ◌+◌, ◌-◌, ◌%◌, ◌==◌, not}
use Rattle.chip8_lang.specs.State.{Lang}

-- A tick counts. Each timer that isn't 0 falls by 1. The tone is on where the sound timer wasn't 0.
abbrev pub tick : Lang → Lang
tick s = record s { n = (s.n + 1) % 65536; dt = s.dt - 1; st = s.st - 1; tone = not (s.st == 0) }

abbrev pub ticks : ℕ → Lang → Lang
ticks zero s = s
ticks (suc k) s = tick (ticks k s)
