use Rattle.std.proofs.Common.{ap, length}
use Rattle.vip_video.proofs.Lines.{blank-filled, blank-so_far}
use Rattle.vip_video.proofs.buffer.FrameBuffer.new.Goals as goal

pub invariant_of-result : goal.invariant_of-result
invariant_of-result c =
    record {
      lines = ap length c.blank.ensures;
      lengths = ap length c.no_bytes.ensures;
      filled = rw (c.blank.ensures, c.no_bytes.ensures) (blank-filled 128);
    }

pub returns : goal.returns
returns c = rw (c.blank.ensures, c.no_bytes.ensures) (blank-so_far 128)
