use Rattle.std.proofs.Common.{◌≡◌, ◌+◌, ◌<◌, ℕ, Bool, arith, subst, sym}
use Rattle.vip_video.specs.Chip.{Chip, Pictures}
use Rattle.vip_video.specs.Kept.{HasRoom}
use Rattle.vip_video.specs.Quiet.{IsQuiet}
use Rattle.vip_video.proofs.Quiet.{chip, quiet-rooms}
use Rattle.vip_video.proofs.video.Video.pass.Goals as goal

-- the lines have room as before
rooms : (x : Chip) (n t : ℕ) (on cycle_on : Bool) (p : Pictures) → chip t on cycle_on p ≡ x → ((k : ℕ) → k < n → IsQuiet x.on x.cycle_on x.pictures.shown (x.cycles + k))
    → HasRoom t p.lines → HasRoom (t + n) p.lines
rooms x n t on cycle_on p view quiet room =
    quiet-rooms n t on cycle_on p (subst (λ (y : Chip). (k : ℕ) → k < n → IsQuiet y.on y.cycle_on y.pictures.shown (y.cycles + k)) (sym view) quiet) room

pub invariant_of-self : goal.invariant_of-self
invariant_of-self c =
    let inner = c.self.inside in
    record {
      ahead = omega arith;
      place = c.of-self-inside.ensures;
      quiet = λ t from to. absurd (omega (arith, from, to));
      count = omega (arith, c.self.invariant.count);
      room =
          rooms c.args.self.now c.args.count inner.cycles inner.on inner.cycle_on inner.raster c.self.view_is c.requires.quiet c.self.invariant.room;
    }

pub invariant_of-self-else-self : goal.invariant_of-self-else-self
invariant_of-self-else-self c =
    let inner = c.self.inside in
    record {
      ahead = omega (arith, c.if-self.false);
      place = c.self.invariant.place;
      quiet = λ t from to. c.self.invariant.quiet t (omega (arith, from)) to;
      count = omega (arith, c.self.invariant.count);
      room =
          rooms c.args.self.now c.args.count inner.cycles inner.on inner.cycle_on inner.raster c.self.view_is c.requires.quiet c.self.invariant.room;
    }
