use Rattle.std.proofs.Common.{refl}
use Rattle.vip_link.specs.declared.link.Link.TheInside.{Inside}
use Rattle.vip_link.proofs.Links.{kept-at-start, is-started}
use Rattle.vip_link.proofs.link.Link.joining.Goals as goal

pub invariant_of-result : goal.invariant_of-result
invariant_of-result c =
    kept-at-start _ c.requires.a c.requires.b c.requires.short c.new.ensures c.new-2.ensures c.requires.empty refl refl c.requires.room

pub returns : goal.returns
returns c =
    let l : Inside =
    record {
      a = c.args.a;
      b = c.args.b;
      to_b = c.new.result;
      to_a = c.new-2.result;
      message = c.args.message;
      received = c.args.received;
      sent = 0;
      moves = 0;
    } in
    is-started l c.requires.a c.requires.b c.requires.short c.new.ensures c.new-2.ensures c.requires.empty refl refl c.requires.room
