use Rattle.std.proofs.Common.{arith}
use Rattle.vip_video.proofs.video.Video.restore.Goals as goal

pub invariant_of-result : goal.invariant_of-result
invariant_of-result c =
    record {
      ahead = omega arith;
      place = c.of.ensures;
      quiet = λ t from to. absurd (omega (arith, from, to));
      count = omega (arith, c.restore.ensures.count);
      room = c.restore.ensures.room;
    }
