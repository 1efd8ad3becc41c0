-- The name of each cause for which a text of the debugger's commands has a fault, as texts and reports show it.
use Rattle.std.specs.Prelude.{ℕ, List, codes}
use Rattle.vip_words.specs.declared.debug_commands.CommandCause.{CommandCause}
use Rattle.vip_words.specs.declared.debug_commands.CommandCause.TheVariants.{BadWord, BadCount, BadNumber, Range}

abbrev pub command_cause_name : CommandCause → List ℕ
command_cause_name BadWord = codes "BadWord"
command_cause_name BadCount = codes "BadCount"
command_cause_name BadNumber = codes "BadNumber"
command_cause_name Range = codes "Range"
