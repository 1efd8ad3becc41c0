-- Which event waits first after a move.
use Rattle.std.specs.Prelude.{ℕ, ◌==◌, if◌then◌else◌}
use Rattle.vip_relation.specs.declared.run.Waits.{Waits}
use Rattle.vip_relation.specs.declared.run.Waits.TheVariants.{Picture, Point}

-- a picture where the count of finished pictures rose, and else the point that the new state is, if it is one
abbrev pub waits_by : ℕ → ℕ → Waits
waits_by before after = if after == before then Point else Picture
