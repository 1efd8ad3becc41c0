use Rattle.std.proofs.Common.{◌≡◌, ◌∙◌, refl, sym, inl}
use Rattle.vip_debug.proofs.Sleeping.{asleep, awake, program-moved, rests-awake}
use Rattle.vip_debug.proofs.program.ProgramTarget.one_move.Goals as goal

pub returns-in-Idle-clause-end : goal.returns-in-Idle-clause-end
returns-in-Idle-clause-end c = (λ e. inl (asleep c.args.self.now.board.now.machine _ (sym c.in-Idle.is ∙ c.ending.ensures)).0, λ r. refl)

pub returns-in-AtLimit-clause-end : goal.returns-in-AtLimit-clause-end
returns-in-AtLimit-clause-end c =
    rests-awake c.args.limit c.args.self.now.board.now c.to_boundary.result (awake c.args.self.now.board.now.machine (sym c.in-AtLimit.is ∙ c.ending.ensures))
    (rw c.cycles.ensures.value at c.to_boundary.ensures.end)

pub returns-in-AtLimit-clause-moved : goal.returns-in-AtLimit-clause-moved
returns-in-AtLimit-clause-moved c =
    program-moved c.args.self.now.board.now c.to_boundary.new.self c.to_boundary.result (c.args.self.now.board.ghost_name ≡ c.args.self.now.board.ghost_name)
    refl c.to_boundary.ensures.moved
