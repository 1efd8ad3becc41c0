use Rattle.vip_text.specs.Summaries.{summary_line}
use Rattle.vip_text.proofs.summary.summary_text.Goals as goal

pub returns : goal.returns
unfolding summary_line
returns c =
    rw (
      c.put-5.ensures.items,
      c.put_number-4.ensures.items,
      c.put-4.ensures.items,
      c.put_number-3.ensures.items,
      c.put-3.ensures.items,
      c.put_number-2.ensures.items,
      c.put-2.ensures.items,
      c.put_number.ensures.items,
      c.put.ensures.items,
      c.requires,
      c.from.ensures,
    )
