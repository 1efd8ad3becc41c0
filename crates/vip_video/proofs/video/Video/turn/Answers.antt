use Rattle.std.proofs.Common.{arith}
use Rattle.vip_video.proofs.video.Video.turn.Goals as goal

pub invariant_of-self : goal.invariant_of-self
invariant_of-self c =
    record {
      ahead = omega arith;
      place = c.of-self-inside.ensures;
      quiet = λ t from to. absurd (omega (arith, from, to));
      count = c.self.invariant.count;
      room = c.self.invariant.room;
    }
