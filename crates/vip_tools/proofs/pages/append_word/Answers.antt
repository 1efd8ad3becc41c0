use Rattle.std.proofs.Common.{append-nil}
use Rattle.vip_tools.proofs.pages.append_word.Goals as goal

pub returns-else-may_be_left_out : goal.returns-else-may_be_left_out
returns-else-may_be_left_out c =
    rw c.if-may_be_left_out.false
    (rw (c.as_bytes-else-may_be_left_out.ensures.value, append-nil) at c.append-else-may_be_left_out.ensures)
