-- The name of each cause for which a certificate of cycles is refused, or none is found, as texts and reports show it.
use Rattle.std.specs.Prelude.{ℕ, List, codes}
use Rattle.cycle_check.specs.declared.fault.CertCause.{CertCause}
use Rattle.cycle_check.specs.declared.fault.CertCause.TheVariants.{BadLine, BadNumber, Order, NoEntry, Opcode, Step}
use Rattle.cycle_check.specs.declared.fault.TimingCause.{TimingCause}
use Rattle.cycle_check.specs.declared.fault.TimingCause.TheVariants as timing

abbrev pub cert_cause_name : CertCause → List ℕ
cert_cause_name BadLine = codes "BadLine"
cert_cause_name BadNumber = codes "BadNumber"
cert_cause_name Order = codes "Order"
cert_cause_name NoEntry = codes "NoEntry"
cert_cause_name Opcode = codes "Opcode"
cert_cause_name Step = codes "Step"

abbrev pub timing_cause_name : TimingCause → List ℕ
timing_cause_name timing.Opcode = codes "Opcode"
timing_cause_name timing.Loop = codes "Loop"
timing_cause_name timing.Most = codes "Most"
timing_cause_name timing.Fact = codes "Fact"
