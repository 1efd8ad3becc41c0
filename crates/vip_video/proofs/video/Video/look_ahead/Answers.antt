use Rattle.std.proofs.Common.{◌≡◌, ◌+◌, ◌∙◌, ap, subst, arith}
use Rattle.vip_video.specs.Place.{frame_place}
use Rattle.vip_video.specs.Quiet.{AreQuiet}
use Rattle.vip_video.proofs.Quiet.{quiet-ahead}
use Rattle.vip_video.proofs.video.Video.look_ahead.Goals as goal

pub invariant_of-self : goal.invariant_of-self
invariant_of-self c =
    let inner = c.self.inside in
    let settled : inner.quiet_to ≡ inner.cycles = omega (arith, c.self.invariant.ahead, c.if-self.false) in
    let here : inner.place ≡ frame_place inner.cycles = c.self.invariant.place ∙ ap frame_place settled in
    let ahead : inner.cycles + c.quiet-quiet.result ≡ c.in-Some.quiet_to = omega (arith, c.in-Some.ensures, c.from.ensures) in
    record {
      ahead = omega (arith, ahead);
      place = c.of-self-inside.ensures;
      quiet =
          subst (AreQuiet inner.on inner.cycle_on inner.raster.shown inner.cycles) ahead
          (quiet-ahead inner.cycles c.quiet-quiet.result inner.on inner.cycle_on inner.raster.shown c.if-not-self.false c.if-not-self-2.false
          (c.quiet-quiet.ensures inner.cycles here));
      count = c.self.invariant.count;
      room = c.self.invariant.room;
    }
