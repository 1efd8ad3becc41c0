use Rattle.vip_text.specs.Stops.{stop_line}
use Rattle.vip_text.proofs.stop.stop_text.Goals as goal

pub returns : goal.returns
unfolding stop_line
returns c =
    rw (
      c.put-5.ensures.items,
      c.put-4.ensures.items,
      c.put-3.ensures.items,
      c.put_opcode.ensures.items,
      c.put-2.ensures.items,
      c.put.ensures.items,
      c.requires,
      c.as_bytes.ensures.value,
      c.name.ensures.text,
      c.hex4.ensures,
    )
