use Rattle.std.proofs.Common.{refl}
use Rattle.vip_show.specs.Written.{program_head_of}
use Rattle.vip_show.proofs.writing.put_program_head.Goals as goal

pub returns-clause-items : goal.returns-clause-items
unfolding program_head_of
returns-clause-items c =
    rw (
      c.put_middle.ensures.items,
      c.put.ensures.items,
      c.requires,
      c.if_on.ensures.value,
      c.if_on-2.ensures.value,
      c.if_on-3.ensures.value,
      c.if_on-4.ensures.value,
      c.latch_set.ensures,
      c.is_on.ensures,
      c.ie.ensures,
      c.idle.ensures,
      c.memory.ensures,
      c.video.ensures,
      c.cpu-cpu.ensures,
    ) refl
