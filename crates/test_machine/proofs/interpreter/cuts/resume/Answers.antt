use Rattle.vip_show.proofs.Fresh.{fresh-begun}
use Rattle.test_machine.proofs.interpreter.cuts.resume.Goals as goal

pub show_trace-requires : goal.show_trace-requires
show_trace-requires c = record { fresh = fresh-begun _ _ _ _ c.in_ok-run.ensures.answer.1 c.in_ok-run.ensures.runs }
