use Rattle.vip_text.specs.Bounds.{bounds_table}
use Rattle.vip_text.proofs.bounds.bounds_text.Goals as goal

pub returns : goal.returns
unfolding bounds_table
returns c =
    rw (
      c.put_line-9.ensures.items,
      c.put_line-8.ensures.items,
      c.put_line-7.ensures.items,
      c.put_line-6.ensures.items,
      c.put_line-5.ensures.items,
      c.put_line-4.ensures.items,
      c.put_line-3.ensures.items,
      c.put_line-2.ensures.items,
      c.put_line.ensures.items,
      c.requires,
      c.bound.ensures,
      c.bound-2.ensures,
      c.bound-3.ensures,
      c.bound-4.ensures,
      c.bound-5.ensures,
      c.bound-6.ensures,
      c.bound-7.ensures,
    )
