use Rattle.std.proofs.Common.{◌≡◌, inl, ◌<◌, ◌+◌, ◌∙◌, subst}
use Rattle.machine.specs.Board.{length_of}
use Rattle.vip_board.specs.Seen.{Seen}
use Rattle.vip_board.specs.Moves.{Made}
use Rattle.vip_board.proofs.Through.{stays, aside-made}
use Rattle.vip_board.proofs.board.Board.some.Given.{Over}
use Rattle.vip_board.proofs.board.Board.some.Goals as goal
use Rattle.vip_board.proofs.board.Board.some.Goals.{After-wait}

-- where no DMA cycle was made, and then no instruction
before_wait : (g : Over) (c : After-wait g) → c.instructions-instructed.new.self ≡ c.args.self.now
before_wait g c =
    stays c.instructions-instructed.result c.look_ahead.new.self c.instructions-instructed.new.self c.instructions-instructed.ensures.made.moves
    c.if-instructed-gt0.false
    ∙ c.look_ahead.ensures
    ∙ stays c.scan-scanned.result c.args.self.now c.scan-scanned.new.self c.scan-scanned.ensures.moved c.if-scanned-gt0.false

pub returns-then-scanned-gt0-clause-made : goal.returns-then-scanned-gt0-clause-made
returns-then-scanned-gt0-clause-made g c =
    aside-made c.args.limit (g.S.Stops.stands c.args.stops) _ c.scan-scanned.new.self c.scan-scanned.result c.scan-scanned.ensures.moved
    c.scan-scanned.ensures.aside c.scan-scanned.ensures.within

pub returns-clause-made : goal.returns-clause-made
returns-clause-made g c =
    subst (λ x. Made c.args.limit (g.S.Stops.stands c.args.stops) x c.wait.new.self c.wait.result) (before_wait g c)
    (aside-made c.args.limit _ _ c.wait.new.self c.wait.result c.wait.ensures.moved c.wait.ensures.aside c.wait.ensures.within)

pub returns-clause-none : goal.returns-clause-none
returns-clause-none g c none =
    inl (subst (λ (x : Seen). c.args.limit < x.machine.cycle + length_of x.rom x.machine) (before_wait g c) (c.wait.ensures.none none))
