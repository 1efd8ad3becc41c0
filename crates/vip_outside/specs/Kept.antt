-- The reads that are kept in memory, as those of `Files`.
use Rattle.std.specs.Prelude.{string_bytes}
use Rattle.vip_outside.specs.Files.{Answer, Read}
use Rattle.vip_outside.specs.Files.Answer.{Whole, Start, Lacked, Faulted}
use Rattle.vip_outside.specs.declared.kept.Answer.{Answer as KeptAnswer}
use Rattle.vip_outside.specs.declared.kept.Answer.TheVariants as kept
use Rattle.vip_outside.specs.declared.kept.Kept.{Kept}

abbrev pub seen_answer : KeptAnswer → Answer
seen_answer (kept.Whole bytes) = Whole bytes.items
seen_answer (kept.Start bytes) = Start bytes.items
seen_answer kept.Lacked = Lacked
seen_answer kept.Faulted = Faulted

abbrev pub seen_read : Kept → Read
seen_read kept = record { name = string_bytes kept.name; answer = seen_answer kept.answer }
