use Rattle.std.proofs.Common.{ap, ◌∙◌, sym}
use Rattle.vip_board.specs.Seen.{Seen}
use Rattle.vip_video.specs.Chip.{Chip}
use Rattle.vip_text.specs.Screens.{picture_file}
use Rattle.vip_show.proofs.EventsShown.{piece-put}
use Rattle.vip_show.proofs.run.put_picture.Goals as goal

pub returns : goal.returns
returns g c =
    piece-put picture_file _ _ _ _ _ _
    (ap (λ (b : Seen). b.pictures.finished) (sym c.board.ensures.board) ∙ ap (λ (v : Chip). v.pictures.finished) (sym c.video.ensures)
    ∙ sym c.in-Some.ensures.picture)
    (c.as_slice.ensures.value ∙ c.picture_text.ensures.file)
    c.put.ensures.answer
