use Rattle.std.proofs.Common.{◌≡◌, ◌∙◌, sym, ap, None}
use Rattle.vip_cpu.specs.declared.cpu.Phase.TheVariants.{Boundary}
use Rattle.vip_board.specs.Seen.{Seen, cycled}
use Rattle.vip_board.specs.declared.wires.Wires.{Wires}
use Rattle.vip_board.proofs.Calls.{made-on, no-byte, seen_after}
use Rattle.vip_board.proofs.board.Board.go_on.Goals as goal

pub end_cycle-requires-clause-present : goal.end_cycle-requires-clause-present
end_cycle-requires-clause-present g c =
    let going : c.self.inside.cpu.phase ≡ Boundary → ⊥ = λ h. c.requires.middle (sym (ap (λ (s : Seen). s.phase) c.self.view_is) ∙ h) in
    let m = made-on c.self.inside.cpu c.self.inside.wires _ _ c.cycle.new.self c.cycle.new.bus c.cycle.result going c.cycle.ensures in
    c.now-now.ensures ∙ sym (ap (λ (w : Wires _). w.video.cycles) m.wires)

pub returns : goal.returns
returns g c =
    let cpu = c.self.inside.cpu in
    let going : cpu.phase ≡ Boundary → ⊥ = λ h. c.requires.middle (sym (ap (λ (s : Seen). s.phase) c.self.view_is) ∙ h) in
    let m = made-on cpu c.self.inside.wires _ _ c.cycle.new.self c.cycle.new.bus c.cycle.result going c.cycle.ensures in
    seen_after cpu c.self.inside.wires c.cycle.new.self c.cycle.new.bus c.cycle.result None c.end_cycle.new.self
    c.self.invariant m (no-byte cpu _ _ _ _ going m) c.end_cycle.ensures
    ∙ ap cycled c.self.view_is
