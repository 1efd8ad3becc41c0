use Rattle.std.proofs.Common.{List, ℕ, ◌∙◌, ap, sym, subst}
use Rattle.vip_link.specs.Roms.{sender_rom}
use Rattle.vip_link.specs.Laws.{start}
use Rattle.vip_link.specs.Links.{started}
use Rattle.vip_link.specs.Kept.{AtStart}
use Rattle.vip_link.proofs.link.Link.with_copies.Goals as goal

pub joining-requires-clause-a : goal.joining-requires-clause-a
joining-requires-clause-a c =
    subst (λ (message : List ℕ). AtStart sender_rom (start message).a c.args.a) (sym c.in_ok-message.ensures.0) c.requires.a

pub returns : goal.returns
returns c = c.joining.ensures ∙ ap started c.in_ok-message.ensures.0
