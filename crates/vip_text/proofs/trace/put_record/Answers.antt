use Rattle.vip_text.specs.Traces.{record_text}
use Rattle.vip_text.proofs.trace.put_record.Goals as goal

pub returns-clause-items : goal.returns-clause-items
unfolding record_text
returns-clause-items c =
    rw (
      c.put_columns.ensures.items,
      c.put_words.ensures.items,
      c.put.ensures.items,
      c.put_timers.ensures.items,
      c.put_index.ensures.items,
      c.put_bytes.ensures.items,
      c.put_place.ensures.items,
      c.requires,
      c.as_slice.ensures.value,
    )
