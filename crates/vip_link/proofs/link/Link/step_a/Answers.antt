use Rattle.std.proofs.Common.{◌+◌, ◌∙◌, ap, ap₂, arith, length}
use Rattle.vip_link.specs.Pair.{entered}
use Rattle.vip_link.specs.Links.{Linking}
use Rattle.vip_link.specs.Kept.{linking_of}
use Rattle.vip_link.specs.declared.side.Side.TheVariants.{A}
use Rattle.vip_link.proofs.Links.{reached-within, moved_by, kept-a, stepped-a}
use Rattle.vip_link.proofs.link.Link.step_a.Goals as goal

pub linked-made-requires-clause-fits : goal.linked-made-requires-clause-fits
linked-made-requires-clause-fits c =
    omega (arith, (reached-within (linking_of c.self.inside) c.self.invariant.reached).a, ap (λ (l : Linking). l.moves) c.self.view_is, c.requires)

pub invariant_of-self : goal.invariant_of-self
invariant_of-self c =
    kept-a c.self.inside c.self.invariant c.linked-made.new.self c.linked-made.new.incoming c.linked-made.new.outgoing
    (c.self.inside.sent + c.bytes_entered.result)
    c.linked-made.ensures.moved c.linked-made.ensures.incoming c.linked-made.ensures.outgoing
    (ap (λ n. c.self.inside.sent + n) (c.bytes_entered.ensures ∙ ap₂ (λ x y. length (entered x y)) c.full-before.ensures c.full.ensures))

pub returns-clause-stepped : goal.returns-clause-stepped
returns-clause-stepped c =
    stepped-a c.self.inside c.self.invariant c.linked-made.new.self c.linked-made.new.incoming c.linked-made.new.outgoing
    (c.self.inside.sent + c.bytes_entered.result)
    c.linked-made.ensures.moved c.linked-made.ensures.incoming c.linked-made.ensures.outgoing
    (ap (λ n. c.self.inside.sent + n) (c.bytes_entered.ensures ∙ ap₂ (λ x y. length (entered x y)) c.full-before.ensures c.full.ensures))
    ∙ ap (moved_by A) c.self.view_is
