use Rattle.std.proofs.Common.{◌∙◌, refl, sym, ap}
use Rattle.vip_board.specs.Seen.{cycle_of, cycled}
use Rattle.vip_board.specs.declared.wires.Wires.{Wires}
use Rattle.vip_board.proofs.Calls.{made, seen_after}
use Rattle.vip_board.proofs.board.Board.cycle.Goals as goal

pub end_cycle-requires-clause-present : goal.end_cycle-requires-clause-present
end_cycle-requires-clause-present g c =
    let m =
    made c.self.inside.cpu c.self.inside.wires c.self.inside.wires.video.cycles c.requests-requests.result.dma c.requests-requests.result.int
    c.cycle-did.new.self c.cycle-did.new.bus c.cycle-did.result
    refl c.requests-requests.ensures.dma c.requests-requests.ensures.int c.cycle-did.ensures in
    c.now-now.ensures ∙ sym (ap (λ (w : Wires _). w.video.cycles) m.wires)

pub returns-clause-board : goal.returns-clause-board
returns-clause-board g c =
    let cpu = c.self.inside.cpu in
    let m =
    made cpu c.self.inside.wires c.self.inside.wires.video.cycles c.requests-requests.result.dma c.requests-requests.result.int
    c.cycle-did.new.self c.cycle-did.new.bus c.cycle-did.result
    refl c.requests-requests.ensures.dma c.requests-requests.ensures.int c.cycle-did.ensures in
    seen_after cpu c.self.inside.wires c.cycle-did.new.self c.cycle-did.new.bus c.cycle-did.result c.byte_in.result c.end_cycle.new.self
    c.self.invariant m c.byte_in.ensures c.end_cycle.ensures
    ∙ ap cycled c.self.view_is

pub returns-clause-did : goal.returns-clause-did
returns-clause-did g c =
    let m =
    made c.self.inside.cpu c.self.inside.wires c.self.inside.wires.video.cycles c.requests-requests.result.dma c.requests-requests.result.int
    c.cycle-did.new.self c.cycle-did.new.bus c.cycle-did.result
    refl c.requests-requests.ensures.dma c.requests-requests.ensures.int c.cycle-did.ensures in
    m.did ∙ ap (λ s. (cycle_of s).did) c.self.view_is
