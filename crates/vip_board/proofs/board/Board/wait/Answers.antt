use Rattle.std.proofs.Common.{◌≡◌, ◌<◌, ◌+◌, ◌∙◌, refl, ap, subst, arith}
use Rattle.machine.specs.Board.{length_of}
use Rattle.vip_board.specs.Seen.{Seen}
use Rattle.vip_board.specs.Moves.{moved}
use Rattle.vip_board.specs.declared.board.Move.{Move}
use Rattle.vip_board.specs.declared.board.Moved.TheVariants.{Done, End}
use Rattle.vip_board.proofs.Through.{stays, one-made}
use Rattle.vip_board.proofs.board.Board.wait.Given.{Over}
use Rattle.vip_board.proofs.board.Board.wait.Goals as goal
use Rattle.vip_board.proofs.board.Board.wait.Goals.{After-to_boundary}

-- where no idle cycle was made
before_move : (g : Over) (c : After-to_boundary g) → c.rest-rested.new.self ≡ c.args.self.now
before_move g c = stays c.rest-rested.result c.args.self.now c.rest-rested.new.self c.rest-rested.ensures.moved c.if-rested-gt0.false

never : (move : Move) → Done move ≡ End → ⊥
never move e = cc

pub returns-in-End-clause-none : goal.returns-in-End-clause-none
returns-in-End-clause-none g c none =
    subst (λ (x : Seen). c.args.limit < x.machine.cycle + length_of x.rom x.machine) (before_move g c.before) (c.in-End.ensures.end.0 refl)

pub returns-in-Done-clause-moved : goal.returns-in-Done-clause-moved
returns-in-Done-clause-moved g c = c.in-Done.ensures.moved.0 ∙ ap moved (before_move g c.before)

pub returns-in-Done-clause-within : goal.returns-in-Done-clause-within
returns-in-Done-clause-within g c some =
    (one-made c.args.limit (λ regs memory. ⊥) _ c.to_boundary.new.self c.in-Done.ensures.moved.0 (λ late. never _ (c.in-Done.ensures.end.1 late))).within
    (omega arith)
