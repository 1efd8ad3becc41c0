use Rattle.std.proofs.Common.{◌∙◌, sym, ap}
use Rattle.vip_board.specs.Seen.{Seen}
use Rattle.vip_board.specs.Wired.{seen_of}
use Rattle.vip_board.specs.Linked.{incoming_after, outgoing_after}
use Rattle.vip_board.specs.declared.wires.Wires.{Wires}
use Rattle.vip_board.specs.Joins.{last_cycle, last_cycled}
use Rattle.vip_board.proofs.Joins.{MadeLast, made-last, seen-last}
use Rattle.vip_board.proofs.board.Board.end_linked.Goals as goal

pub end_cycle-requires-clause-present : goal.end_cycle-requires-clause-present
end_cycle-requires-clause-present g c =
    let cpu = c.self.inside.cpu in
    let m : MadeLast cpu c.self.inside.wires c.full.result c.full-2.result c.cycle.new.self c.cycle.new.bus.wires.now c.cycle.new.bus.incoming
    c.cycle.new.bus.outgoing =
    made-last c.requires.last.0 cpu _ c.cycle.new.bus c.cycle.new.self c.cycle.result
    (ap (λ (s : Seen). s.phase) c.self.view_is ∙ c.requires.last.1) c.cycle.ensures in
    c.now-now.ensures ∙ sym (ap (λ (w : Wires _). w.video.cycles) m.wires)

pub returns-clause-board : goal.returns-clause-board
returns-clause-board g c =
    let cpu = c.self.inside.cpu in
    let m =
    made-last c.requires.last.0 cpu _ c.cycle.new.bus c.cycle.new.self c.cycle.result
    (ap (λ (s : Seen). s.phase) c.self.view_is ∙ c.requires.last.1) c.cycle.ensures in
    seen-last cpu c.self.inside.wires c.full.result c.full-2.result c.cycle.new.self c.cycle.new.bus.wires.now c.cycle.new.bus.incoming
    c.cycle.new.bus.outgoing c.end_cycle.new.self
    c.self.invariant m c.end_cycle.ensures
    ∙ (λ t. last_cycled (seen_of cpu c.self.inside.wires) (c.full.ensures t) (c.full-2.ensures t))
    ∙ ap (λ s. last_cycled s c.args.incoming.now c.args.outgoing.now) c.self.view_is

pub returns-clause-incoming : goal.returns-clause-incoming
returns-clause-incoming g c =
    let cpu = c.self.inside.cpu in
    let m : MadeLast cpu c.self.inside.wires c.full.result c.full-2.result c.cycle.new.self c.cycle.new.bus.wires.now c.cycle.new.bus.incoming
    c.cycle.new.bus.outgoing =
    made-last c.requires.last.0 cpu _ c.cycle.new.bus c.cycle.new.self c.cycle.result
    (ap (λ (s : Seen). s.phase) c.self.view_is ∙ c.requires.last.1) c.cycle.ensures in
    c.set.ensures ∙ m.incoming_is
    ∙ (λ t. incoming_after (last_cycle (seen_of cpu c.self.inside.wires) (c.full.ensures t) (c.full-2.ensures t)).effect.port (c.full.ensures t))
    ∙ ap (λ s. incoming_after (last_cycle s c.args.incoming.now c.args.outgoing.now).effect.port c.args.incoming.now) c.self.view_is

pub returns-clause-outgoing : goal.returns-clause-outgoing
returns-clause-outgoing g c =
    let cpu = c.self.inside.cpu in
    let m : MadeLast cpu c.self.inside.wires c.full.result c.full-2.result c.cycle.new.self c.cycle.new.bus.wires.now c.cycle.new.bus.incoming
    c.cycle.new.bus.outgoing =
    made-last c.requires.last.0 cpu _ c.cycle.new.bus c.cycle.new.self c.cycle.result
    (ap (λ (s : Seen). s.phase) c.self.view_is ∙ c.requires.last.1) c.cycle.ensures in
    c.set-2.ensures ∙ m.outgoing_is
    ∙ (λ t. outgoing_after (last_cycle (seen_of cpu c.self.inside.wires) (c.full.ensures t) (c.full-2.ensures t)).effect.port (c.full-2.ensures t))
    ∙ ap (λ s. outgoing_after (last_cycle s c.args.incoming.now c.args.outgoing.now).effect.port c.args.outgoing.now) c.self.view_is
