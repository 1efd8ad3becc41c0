use Rattle.std.proofs.Common.{◌∙◌, sym, ap}
use Rattle.machine.specs.Memory.{read}
use Rattle.vip_board.specs.declared.wires.Wires.{Wires}
use Rattle.vip_board.proofs.Plain.{plain-length, plain-works, plain-wires}
use Rattle.vip_board.proofs.board.Board.instruct.Goals as goal

pub returns-clause-worked : goal.returns-clause-worked
returns-clause-worked g c some =
    let w = c.self.inside.wires in
    let plain = plain-length c.read-opcode.result c.from-length.result (c.from-length.ensures ∙ c.plain_cycles.ensures) c.if-length-eq0.false in
    plain-works c.self.inside.cpu w c.instruct.new.bus c.args.self.now c.from-length.result c.read-opcode.result c.instruct.ensures.0 c.instruct.new.self
    c.self.view_is c.requires.boundary c.requires.awake (c.read-opcode.ensures ∙ ap (read w.memory.rom w.memory.latch w.memory.ram) c.requires.address)
    plain.1 plain.0 c.instruct.ensures.1

pub invariant_of-self : goal.invariant_of-self
invariant_of-self g c =
    let w = c.self.inside.wires in
    let plain = plain-length c.read-opcode.result c.from-length.result (c.from-length.ensures ∙ c.plain_cycles.ensures) c.if-length-eq0.false in
    let wires = plain-wires c.self.inside.cpu w c.instruct.new.bus c.instruct.ensures.0 c.instruct.new.self c.read-opcode.result plain.0 c.instruct.ensures.1 in
    ap (λ (x : Wires _). x.video.cycle_on) wires ∙ c.self.invariant ∙ sym (ap (λ (x : Wires _). x.video.on) wires)
