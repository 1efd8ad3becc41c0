-- The name of each cause for which a certificate of a game is refused, as texts and reports show it.
use Rattle.std.specs.Prelude.{ℕ, List, codes}
use Rattle.game_check.specs.declared.fault.ProofCause.{ProofCause}
use Rattle.game_check.specs.declared.fault.ProofCause.TheVariants.{BadLine, Order, NoStart, Outside, Opcode, Access, Next}

abbrev pub proof_cause_name : ProofCause → List ℕ
proof_cause_name BadLine = codes "BadLine"
proof_cause_name Order = codes "Order"
proof_cause_name NoStart = codes "NoStart"
proof_cause_name Outside = codes "Outside"
proof_cause_name Opcode = codes "Opcode"
proof_cause_name Access = codes "Access"
proof_cause_name Next = codes "Next"
