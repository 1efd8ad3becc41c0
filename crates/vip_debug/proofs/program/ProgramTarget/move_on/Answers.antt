use Rattle.std.proofs.Common.{◌∙◌, refl, sym, inl}
use Rattle.vip_debug.proofs.Sleeping.{asleep, awake, program-makes, rests-none}
use Rattle.vip_debug.proofs.program.ProgramTarget.move_on.Goals as goal

pub returns-in-Idle-clause-end : goal.returns-in-Idle-clause-end
returns-in-Idle-clause-end g c = (λ e. inl (asleep c.args.self.now.board.now.machine _ (sym c.in-Idle.is ∙ c.ending.ensures)).0, λ r. refl)

pub returns-in-AtLimit-clause-end : goal.returns-in-AtLimit-clause-end
returns-in-AtLimit-clause-end g c =
    rests-none _ c.args.limit c.args.self.now.board.now c.run.new.self c.run.result
    (awake c.args.self.now.board.now.machine (sym c.in-AtLimit.is ∙ c.ending.ensures)) (rw c.cycles.ensures.value at c.run.ensures.made) (rw c.cycles.ensures.value at c.run.ensures.none)

pub returns-in-AtLimit-clause-moved : goal.returns-in-AtLimit-clause-moved
returns-in-AtLimit-clause-moved g c some = (
  program-makes _ c.args.limit c.args.self.now.board.now c.run.new.self c.run.result
      (awake c.args.self.now.board.now.machine (sym c.in-AtLimit.is ∙ c.ending.ensures)) (rw c.cycles.ensures.value at c.run.ensures.made) some,
  refl,
  refl,
)
