use Rattle.vip_show.proofs.Fresh.{fresh-begun}
use Rattle.test_machine.proofs.interpreter.cuts.save.Goals as goal

pub show_saved-requires : goal.show_saved-requires
show_saved-requires c = record { fresh = fresh-begun _ _ _ _ c.in_ok-run.ensures.answer.1 c.in_ok-run.ensures.runs }
