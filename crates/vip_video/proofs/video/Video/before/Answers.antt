use Rattle.std.proofs.Common.{refl, arith}
use Rattle.vip_video.proofs.Room.{room-blank}
use Rattle.vip_video.proofs.video.Video.before.Goals as goal

pub invariant_of-result : goal.invariant_of-result
invariant_of-result c =
    rw (c.of.ensures, c.new.ensures)
    (record {
      ahead = omega arith;
      place = refl;
      quiet = λ t from to. absurd (omega (arith, from, to));
      count = omega arith;
      room = room-blank c.args.t;
    })
