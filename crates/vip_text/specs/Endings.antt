-- How a run ends.
use Rattle.std.specs.Prelude.{ℕ, Option}
use Rattle.chip8_lang.specs.declared.view.Stop.{Stop}
use Rattle.vip_text.specs.declared.ending.RunEnd.{RunEnd}
use Rattle.vip_text.specs.declared.ending.RunEnd.TheVariants as run

-- at its limit, or at a stop point, with pc and opcode of the last dispatch point
pub data Ending : Type 0 where
  AtLimit : Ending
  AtStop : (stop : Stop) (pc : ℕ) (opcode : Option ℕ) → Ending

abbrev pub ending_in : RunEnd → Ending
ending_in run.AtLimit = AtLimit
ending_in (run.AtStop stop) = AtStop stop.stop stop.pc stop.opcode
