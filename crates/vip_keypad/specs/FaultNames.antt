-- The name of each cause for which a key script has a fault, as texts and reports show it.
use Rattle.std.specs.Prelude.{ℕ, List, codes}
use Rattle.vip_keypad.specs.declared.script.ScriptCause.{ScriptCause}
use Rattle.vip_keypad.specs.declared.script.ScriptCause.TheVariants.{BadLine, BadCycle, BadKey, OutOfOrder, TooMany}

abbrev pub script_cause_name : ScriptCause → List ℕ
script_cause_name BadLine = codes "BadLine"
script_cause_name BadCycle = codes "BadCycle"
script_cause_name BadKey = codes "BadKey"
script_cause_name OutOfOrder = codes "OutOfOrder"
script_cause_name TooMany = codes "TooMany"
