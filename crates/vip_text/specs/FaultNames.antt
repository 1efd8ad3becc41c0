-- The name of each fault for which a file is no machine state, as texts and reports show it.
use Rattle.std.specs.Prelude.{ℕ, List, codes}
use Rattle.vip_text.specs.declared.fault.StateFault.{StateFault}
use Rattle.vip_text.specs.declared.fault.StateFault.TheVariants.{BadLength, BadHead, BadEdition, BadCycle, BadMachine}

abbrev pub state_fault_name : StateFault → List ℕ
state_fault_name BadLength = codes "BadLength"
state_fault_name BadHead = codes "BadHead"
state_fault_name BadEdition = codes "BadEdition"
state_fault_name BadCycle = codes "BadCycle"
state_fault_name BadMachine = codes "BadMachine"
