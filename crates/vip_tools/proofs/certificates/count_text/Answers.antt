use Rattle.vip_tools.specs.Certificates.{count_line}
use Rattle.vip_tools.proofs.certificates.count_text.Goals as goal

pub returns : goal.returns
unfolding count_line
returns c = rw (c.put-2.ensures.items, c.put_number.ensures.items, c.put.ensures.items, c.from.ensures, c.requires)
