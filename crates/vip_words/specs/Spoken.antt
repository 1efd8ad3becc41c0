-- A command of a text, as it is run.
use Rattle.std.specs.Prelude.{ℕ, List, Option}
use Rattle.vip_words.specs.declared.debug_commands.Command.{Command}

-- the command, and the line that is put before its answer, if one is
pub record Spoken : Type 0 where
  pub command : Command
  pub echo : Option (List ℕ)
