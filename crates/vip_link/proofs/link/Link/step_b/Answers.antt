use Rattle.std.proofs.Common.{◌++◌, ◌∙◌, ap, ap₂, arith, length}
use Rattle.vip_link.specs.Pair.{left}
use Rattle.vip_link.specs.Links.{Linking}
use Rattle.vip_link.specs.Kept.{linking_of}
use Rattle.vip_link.specs.declared.side.Side.TheVariants.{B}
use Rattle.vip_link.proofs.Links.{reached-within, moved_by, room-b, kept-b, stepped-b}
use Rattle.vip_link.proofs.link.Link.step_b.Goals as goal

pub linked-made-requires-clause-fits : goal.linked-made-requires-clause-fits
linked-made-requires-clause-fits c =
    omega (arith, (reached-within (linking_of c.self.inside) c.self.invariant.reached).b, ap (λ (l : Linking). l.moves) c.self.view_is, c.requires)

pub store-requires : goal.store-requires
store-requires c =
    omega (
      arith,
      room-b c.self.inside c.self.invariant c.linked-made.new.self c.linked-made.new.incoming c.linked-made.ensures.moved c.linked-made.ensures.incoming,
      ap length (c.byte_left.ensures ∙ ap₂ left c.full-before.ensures c.full.ensures),
    )

pub invariant_of-self : goal.invariant_of-self
invariant_of-self c =
    kept-b c.self.inside c.self.invariant c.linked-made.new.self c.linked-made.new.outgoing c.linked-made.new.incoming c.store.new.received
    c.linked-made.ensures.moved c.linked-made.ensures.incoming c.linked-made.ensures.outgoing
    (c.store.ensures.items ∙ ap (λ x. c.self.inside.received.items ++ x) (c.byte_left.ensures ∙ ap₂ left c.full-before.ensures c.full.ensures))
    c.store.ensures.room

pub returns-clause-stepped : goal.returns-clause-stepped
returns-clause-stepped c =
    stepped-b c.self.inside c.self.invariant c.linked-made.new.self c.linked-made.new.outgoing c.linked-made.new.incoming c.store.new.received
    c.linked-made.ensures.moved c.linked-made.ensures.incoming c.linked-made.ensures.outgoing
    (c.store.ensures.items ∙ ap (λ x. c.self.inside.received.items ++ x) (c.byte_left.ensures ∙ ap₂ left c.full-before.ensures c.full.ensures))
    c.store.ensures.room
    ∙ ap (moved_by B) c.self.view_is
