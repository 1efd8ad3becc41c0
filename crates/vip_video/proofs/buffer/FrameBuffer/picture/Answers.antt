use Rattle.std.proofs.Common.{◌≡◌, ◌∙◌, sym, ap, map, length}
use Rattle.machine.specs.Pictures.{filled}
use Rattle.vip_video.proofs.Lines.{filled-so_far}
use Rattle.vip_video.proofs.buffer.FrameBuffer.picture.Goals as goal

pub returns : goal.returns
returns c =
    let inner = c.self.inside in
    let same : length inner.picture.lines ≡ length inner.lengths = c.self.invariant.lines ∙ sym c.self.invariant.lengths in
    sym (filled-so_far inner.picture.lines inner.lengths c.self.invariant.filled same) ∙ ap (map filled) c.self.view_is
