use Rattle.std.proofs.Common.{ap, length}
use Rattle.vip_video.proofs.Lines.{blank-filled, blank-so_far}
use Rattle.vip_video.proofs.buffer.FrameBuffer.clear.Goals as goal

pub invariant_of-self : goal.invariant_of-self
invariant_of-self c =
    let is = c.blank-self-inside.ensures in
    let no = c.no_bytes-self-inside.ensures in
    record { lines = ap length is; lengths = ap length no; filled = rw (is, no) (blank-filled 128) }

pub returns : goal.returns
returns c = rw (c.blank-self-inside.ensures, c.no_bytes-self-inside.ensures) (blank-so_far 128)
