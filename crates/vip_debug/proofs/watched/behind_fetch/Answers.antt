use Rattle.std.proofs.Common.{◌<◌, ◌∙◌, sym, ap, subst}
use Rattle.machine.specs.Bank.{value}
use Rattle.machine.proofs.Registers.{get_put_other}
use Rattle.vip_debug.proofs.watched.behind_fetch.Goals as goal

pub returns-else-n-p : goal.returns-else-n-p
returns-else-n-p c =
    let s = c.args.cpu.now.regs in
    c.r-pointer.ensures.number
    ∙ ap value (sym (get_put_other s.r s.p c.args.n _ (subst (λ p. p < 16) c.p.ensures.value c.p.ensures.below) c.requires
    (λ same. c.if-n-p.false (same ∙ sym c.p.ensures.value))))
