use Rattle.std.proofs.Common.{arith, sym, subst, ◌∙◌}
use Rattle.vip_program.specs.Frames.{CountsPoint}
use Rattle.vip_program.specs.Profile.{cycles_at}
use Rattle.vip_program.proofs.Counting.{awaits-few, awaits-order, counted-next, row-room}
use Rattle.vip_program.proofs.counts.Counts.meet_next.Goals as goal

pub overflow_sub-point : goal.overflow_sub-point
overflow_sub-point c = awaits-order c.args.self.now c.args.point c.args.last c.requires.awaits c.requires.last

pub count_step-requires-clause-room : goal.count_step-requires-clause-room
count_step-requires-clause-room c other = row-room c.args.self.now c.args.point c.args.last c.requires.awaits c.requires.last other (omega arith)

pub count_step-requires-clause-few : goal.count_step-requires-clause-few
count_step-requires-clause-few c = awaits-few c.args.self.now c.args.point c.requires.awaits

pub returns : goal.returns
returns c points counted behind =
    counted-next c.args.self.now points c.args.point c.args.last counted (sym counted.last ∙ c.requires.last) behind
    c.arrive.new.self (sym c.args.self.now.steps.ok.0 ∙ c.args.self.now.steps_len) (omega arith)
    (c.arrive.ensures.steps
    ∙ c.count_step.ensures.steps (cycles_at points c.args.last.pc) (λ other. counted.steps c.args.last.pc other (omega arith)))
    (subst (λ frames. CountsPoint frames c.args.point c.arrive.new.self.frames) c.count_step.ensures.frames c.arrive.ensures.frames)
    (c.arrive.ensures.count ∙ c.count_step.ensures.count)
    (c.arrive.ensures.first ∙ c.count_step.ensures.first)
    c.arrive.ensures.last
