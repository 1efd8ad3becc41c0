use Rattle.std.proofs.Common.{◌∙◌, sym}
use Rattle.vip_program.proofs.Instructing.{walked-moved, walked-profiles, walking-first, walking-next}
use Rattle.vip_program.proofs.profile.count_moves.Goals as goal

pub loop-limit-init : goal.loop-limit-init
loop-limit-init c =
    let none = c.clear.ensures c.args.board.now.rom in
    walking-first c.args.limit c.args.board.now c.clear.new.self c.requires.boundary c.requires.within none.counted none.first

pub loop-limit-preserved : goal.loop-limit-preserved
loop-limit-preserved c =
    walking-next c.args.limit c.args.board.now c.loop-limit.board c.loop-limit.profile c.loop-limit.invariant c.goes_on.ensures.cycle c.make.new.board c.meet.new.self
    (sym c.goes_on.ensures.goes ∙ c.loop-limit-test.true) c.make.ensures.moved c.make.ensures.boundary c.meet.ensures

pub returns-clause-moved : goal.returns-clause-moved
returns-clause-moved c = walked-moved _ _ _ _ c.loop-limit.invariant (sym c.goes_on.ensures.goes ∙ c.loop-limit-test.false)

pub returns-clause-profiles : goal.returns-clause-profiles
returns-clause-profiles c = walked-profiles _ _ _ _ c.loop-limit.invariant (sym c.goes_on.ensures.goes ∙ c.loop-limit-test.false)
