use Rattle.std.proofs.Common.{◌≡◌, ◌≢◌, ◌+◌, ◌%◌, ◌∙◌, ℕ, ap, arith, subst, subst₂, sym}
use Rattle.std.specs.Prelude.{IsSome, IsTrue}
use Rattle.machine.specs.Signals.{line_cycles, line_of, dma_at}
use Rattle.vip_video.specs.Chip.{Chip, drawn, passed, ended}
use Rattle.vip_video.specs.Place.{frame_place}
use Rattle.vip_video.specs.declared.place.Place.{Place}
use Rattle.vip_video.specs.Kept.{HasRoom}
use Rattle.vip_video.proofs.Room.{dma-place, room-drawn, room-passed, passed-count}
use Rattle.vip_video.proofs.Quiet.{chip, quiet-ended, quiet-room}
use Rattle.vip_video.proofs.video.Video.end_any.Goals as goal

pub invariant_of-self-then-self-eq0 : goal.invariant_of-self-then-self-eq0
invariant_of-self-then-self-eq0 c =
    let t = c.args.t in
    let inner = c.self.inside in
    let present : inner.cycles ≡ t = ap (λ (v : Chip). v.cycles) c.self.view_is ∙ sym c.requires.present in
    let settled : inner.quiet_to ≡ t = omega (arith, present, c.self.invariant.ahead, c.if-self.false) in
    let here : inner.place ≡ frame_place t = c.self.invariant.place ∙ ap frame_place settled in
    let next : c.next-self-inside.result ≡ frame_place (t + 1) = c.next-self-inside.ensures t here in
    let starts : (t + 1) % line_cycles ≡ 0 = sym (ap (λ (p : Place). p.column) next) ∙ c.if-self-eq0.true in
    let line : line_of (t + 1) ≡ c.next-self-inside.result.line = sym (ap (λ (p : Place). p.line) next) in
    let drawn_is : c.draw.new.self ≡ drawn t inner.cycle_on c.args.byte inner.raster = c.draw.ensures t here in
    let is : c.begin_line.new.self ≡ passed (t + 1) (drawn t inner.cycle_on c.args.byte inner.raster) =
    c.begin_line.ensures (t + 1) starts line ∙ ap (passed (t + 1)) drawn_is in
    let Room : ℕ → Type 0 = λ n. HasRoom n inner.raster.lines in
    record {
      ahead = omega arith;
      place = next;
      quiet = λ u from to. absurd (omega (arith, from, to));
      count = rw is (omega (arith, passed-count (t + 1) (drawn t inner.cycle_on c.args.byte inner.raster), c.self.invariant.count));
      room =
          rw is (room-passed t inner.cycle_on c.args.byte inner.raster (subst Room present c.self.invariant.room)
          (λ s. dma-place t _ (c.requires.wanted s)));
    }

pub invariant_of-self-else-self-eq0 : goal.invariant_of-self-else-self-eq0
invariant_of-self-else-self-eq0 c =
    let t = c.args.t in
    let inner = c.self.inside in
    let present : inner.cycles ≡ t = ap (λ (v : Chip). v.cycles) c.self.view_is ∙ sym c.requires.present in
    let settled : inner.quiet_to ≡ t = omega (arith, present, c.self.invariant.ahead, c.if-self.false) in
    let here : inner.place ≡ frame_place t = c.self.invariant.place ∙ ap frame_place settled in
    let next : c.next-self-inside.result ≡ frame_place (t + 1) = c.next-self-inside.ensures t here in
    let column : (t + 1) % line_cycles ≡ c.next-self-inside.result.column = sym (ap (λ (p : Place). p.column) next) in
    let goes_on : (t + 1) % line_cycles ≢ 0 = λ e. c.if-self-eq0.false (sym column ∙ e) in
    let is : c.draw.new.self ≡ drawn t inner.cycle_on c.args.byte inner.raster = c.draw.ensures t here in
    let Room : ℕ → Type 0 = λ n. HasRoom n inner.raster.lines in
    record {
      ahead = omega arith;
      place = next;
      quiet = λ u from to. absurd (omega (arith, from, to));
      count = rw is (omega (arith, c.self.invariant.count));
      room =
          rw is (room-drawn t inner.cycle_on c.args.byte inner.raster (subst Room present c.self.invariant.room)
          (λ s. dma-place t _ (c.requires.wanted s)) (omega arith));
    }

-- ---- a quiet cycle

pub invariant_of-self : goal.invariant_of-self
invariant_of-self c =
    let t = c.args.t in
    let inner = c.self.inside in
    let present : inner.cycles ≡ t = ap (λ (v : Chip). v.cycles) c.self.view_is ∙ sym c.requires.present in
    let quiet = c.self.invariant.quiet inner.cycles (omega arith) c.if-self.true in
    let room : HasRoom (inner.cycles + 1) inner.raster.lines = quiet-room inner.cycles inner.on inner.cycle_on inner.raster quiet c.self.invariant.room in
    record {
      ahead = omega (arith, present, c.if-self.true);
      place = c.self.invariant.place;
      quiet = λ u from to. c.self.invariant.quiet u (omega (arith, present, from)) to;
      count = omega (arith, present, c.self.invariant.count);
      room = subst (λ n. HasRoom (n + 1) inner.raster.lines) present room;
    }

pub returns-then-self : goal.returns-then-self
returns-then-self c =
    let t = c.args.t in
    let inner = c.self.inside in
    let present : inner.cycles ≡ t = ap (λ (v : Chip). v.cycles) c.self.view_is ∙ sym c.requires.present in
    let quiet = c.self.invariant.quiet inner.cycles (omega arith) c.if-self.true in
    let wanted : IsSome c.args.byte → IsTrue (dma_at inner.cycles inner.on) =
    λ s. subst₂ (λ n x. IsTrue (dma_at n x)) (sym present) (ap (λ (v : Chip). v.on) (sym c.self.view_is)) (c.requires.wanted s) in
    ap (λ n. chip (n + 1) inner.on inner.cycle_on inner.raster) (sym present)
    ∙ quiet-ended inner.cycles inner.on inner.cycle_on c.args.byte inner.raster quiet wanted
    ∙ ap (ended c.args.byte) c.self.view_is
