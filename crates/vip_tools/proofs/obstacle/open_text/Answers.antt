use Rattle.vip_tools.specs.Report.{open_line}
use Rattle.vip_tools.proofs.obstacle.open_text.Goals as goal

pub returns : goal.returns
unfolding open_line
returns c =
    rw (
      c.put-10.ensures.items,
      c.put_addresses.ensures.items,
      c.put-9.ensures.items,
      c.put-8.ensures.items,
      c.put-7.ensures.items,
      c.put-6.ensures.items,
      c.put-5.ensures.items,
      c.put-4.ensures.items,
      c.put-3.ensures.items,
      c.put_opcode.ensures.items,
      c.put-2.ensures.items,
      c.put.ensures.items,
      c.requires,
      c.as_bytes.ensures.value,
      c.name.ensures.text,
      c.hex4.ensures,
      c.hex4-2.ensures,
      c.hex4-3.ensures,
      c.as_slice.ensures.value,
    )
