use Rattle.vip_tools.specs.Certificates.{within_line}
use Rattle.vip_tools.proofs.certificates.within_text.Goals as goal

pub returns : goal.returns
unfolding within_line
returns c =
    rw (c.put-4.ensures.items, c.put_number.ensures.items, c.put-3.ensures.items, c.put-2.ensures.items, c.put.ensures.items, c.from.ensures, c.requires, c.hex4.ensures)
