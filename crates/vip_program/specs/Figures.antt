-- Some numbers, summed up.
use Rattle.std.specs.Prelude.{ℕ, ◌+◌, ◌*◌, ◌<◌, ◌≤◌, List, length}
use Rattle.std.specs.List.{sum}
use Rattle.vip_program.specs.declared.figures.Figures.{Figures}
use Rattle.vip_program.specs.Profile.{least, most}

abbrev pub figures_of : List ℕ → Figures
figures_of numbers = record { count = length numbers; sum = sum numbers; least = least numbers; most = most numbers }

-- no number that a profile tells of has more than ten digits
abbrev pub most_number : ℕ
most_number = 9_999_999_999

-- they can tell of one number more
pub record HasRoom (figures : Figures) (number : ℕ) : Type 0 where
  pub count : figures.count < most_number
  pub sum : figures.sum + number ≤ most_number

-- each of them has at most ten digits
pub record IsTold (figures : Figures) : Type 0 where
  pub count : figures.count ≤ most_number
  pub sum : figures.sum ≤ most_number
  pub least : figures.least ≤ most_number
  pub most : figures.most ≤ most_number
