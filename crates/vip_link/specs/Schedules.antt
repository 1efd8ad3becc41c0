-- Schedules: that of a number, and how often B moves right behind A in one.
use Rattle.std.specs.Prelude.{ℕ, zero, suc, ◌+◌, ◌*◌, ◌/◌, ◌%◌, ◌==◌, if◌then◌else◌, List, [], ◌∷◌}
use Rattle.vip_link.specs.declared.side.Side.{Side}
use Rattle.vip_link.specs.declared.side.Side.TheVariants.{A, B}

-- The random number that follows one: a linear congruence modulo 2 to the 32, that of the demonstration games (this project's profile).
abbrev pub next_random : ℕ → ℕ
next_random x = (1664525 * x + 1013904223) % 4294967296

-- A moves by a random number whose high half is even
abbrev pub side_by : ℕ → Side
side_by x = if x / 65536 % 2 == 0 then A else B

-- so many moves, each by the next of the random numbers that follow this one
abbrev pub schedule_by : ℕ → ℕ → List Side
schedule_by number zero = []
schedule_by number (suc moves) = side_by (next_random number) ∷ schedule_by (next_random number) moves

-- how often a move of B comes right behind one of A
abbrev pub turns : List Side → ℕ
turns (A ∷ B ∷ schedule) = suc (turns schedule)
turns (_ ∷ schedule) = turns schedule
turns [] = 0
