use Rattle.std.proofs.Common.{◌∙◌, ap}
use Rattle.vip_board.specs.Seen.{cycled}
use Rattle.vip_board.proofs.Calls.{begun-made, seen_after}
use Rattle.vip_board.proofs.board.Board.begin.Goals as goal

pub returns-clause-board : goal.returns-clause-board
returns-clause-board g c =
    let m =
    begun-made c.args.self.now c.self.inside.cpu c.self.inside.wires c.args.requests.dma c.args.requests.int c.begin-did.new.self c.begin-did.result
    c.self.view_is c.requires.boundary c.requires.dma c.requires.int c.begin-did.ensures.processor c.begin-did.ensures.did in
    seen_after c.self.inside.cpu c.self.inside.wires c.begin-did.new.self c.self.inside.wires c.begin-did.result c.byte_in.result c.end_cycle.new.self
    c.self.invariant m c.byte_in.ensures c.end_cycle.ensures
    ∙ ap cycled c.self.view_is
