-- The name of each cause for which a source has a fault, as texts and reports show it.
use Rattle.std.specs.Prelude.{ℕ, List, codes}
use Rattle.asm_core.specs.declared.fault.AsmCause.{AsmCause}
use Rattle.asm_core.specs.declared.fault.AsmCause.TheVariants.{BadText, UnknownMnemonic, BadOperand, Range, Duplicate, Undefined, OffPage, Overlap, TooLarge}

abbrev pub asm_cause_name : AsmCause → List ℕ
asm_cause_name BadText = codes "BadText"
asm_cause_name UnknownMnemonic = codes "UnknownMnemonic"
asm_cause_name BadOperand = codes "BadOperand"
asm_cause_name Range = codes "Range"
asm_cause_name Duplicate = codes "Duplicate"
asm_cause_name Undefined = codes "Undefined"
asm_cause_name OffPage = codes "OffPage"
asm_cause_name Overlap = codes "Overlap"
asm_cause_name TooLarge = codes "TooLarge"
