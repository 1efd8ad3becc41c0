use Rattle.std.proofs.Common.{◌≤◌, ℕ, List, [], inl, refl, sym, ◌∙◌, subst, arith}
use Rattle.machine.specs.Board.{Machine, length_of}
use Rattle.machine.specs.Keys.{held_at}
use Rattle.machine.proofs.Runs.{cycle-move}
use Rattle.chip8_lang.specs.Events.{is_dispatch, is_stop}
use Rattle.chip8_image.specs.Interpreters.{interpreter_of}
use Rattle.vip_board.proofs.Along.{soon-move}
use Rattle.vip_relation.specs.Meets.{Rests}
use Rattle.vip_relation.specs.State.{most_cycles}
use Rattle.vip_relation.proofs.Meetings.{is-stop}
use Rattle.vip_relation.proofs.run.Run.rests.Goals as goal

few : (rom : List ℕ) (b : Machine) → length_of rom b ≤ 3
few rom b = omega (arith, cycle-move rom (held_at []) b, soon-move rom (held_at []) b)

pub overflow_add-result : goal.overflow_add-result
overflow_add-result c =
    let in_time : c.self.inside.board.machine.cycle ≤ most_cycles = c.self.invariant.follows.in_time in
    omega (arith, in_time, c.now.ensures, c.next_length.ensures, few c.self.inside.board.rom c.self.inside.board.machine)

pub returns-in-Stop-clause-rests : goal.returns-in-Stop-clause-rests
returns-in-Stop-clause-rests c = (
  λ _. subst (Rests c.args.limit) c.self.view_is (
      inl (is-stop (is_stop (interpreter_of c.self.inside.edition) c.self.inside.board.machine)
      (is_dispatch (interpreter_of c.self.inside.edition) c.self.inside.board.machine) (sym c.in-Stop.is ∙ c.self.invariant.point))),
  λ _. refl,
)
