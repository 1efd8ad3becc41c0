use Rattle.std.proofs.Common.{ap, ◌∙◌, sym}
use Rattle.vip_video.specs.Chip.{Chip}
use Rattle.vip_program.proofs.Picturing.{picture-put}
use Rattle.vip_program.proofs.pictures.put_picture.Goals as goal

pub returns : goal.returns
returns g c =
    picture-put _ _ _ _ _ _
    (ap (λ (v : Chip). v.pictures.finished) (sym c.video.ensures) ∙ sym c.in-Some.ensures.picture)
    (c.as_slice.ensures.value ∙ c.picture_text.ensures.file)
    c.put.ensures.answer
