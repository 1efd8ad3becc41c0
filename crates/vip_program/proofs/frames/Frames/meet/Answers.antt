use Rattle.std.proofs.Common.{sym, ap, ◌∙◌}
use Rattle.std.specs.Prelude.{◌/◌, max}
use Rattle.machine.specs.Pictures.{frame}
use Rattle.vip_program.proofs.Framing.{meets-here, meets-before}
use Rattle.vip_program.proofs.frames.Frames.meet.Goals as goal

pub returns-then-self-frame : goal.returns-then-self-frame
returns-then-self-frame c point is =
    meets-here c.args.self.now c.pass.new.self point (c.pass.ensures.next ∙ sym (ap (λ t. max c.args.self.now.next (t / frame)) is)) c.pass.ensures.framed
    c.pass.ensures.few (c.if-self-frame.true ∙ sym (ap (λ t. t / frame) is))

pub returns-else-self-frame : goal.returns-else-self-frame
returns-else-self-frame c point is =
    meets-before c.args.self.now c.pass.new.self point (c.pass.ensures.next ∙ sym (ap (λ t. max c.args.self.now.next (t / frame)) is)) c.pass.ensures.framed
    c.pass.ensures.few (λ same. c.if-self-frame.false (same ∙ ap (λ t. t / frame) is))
