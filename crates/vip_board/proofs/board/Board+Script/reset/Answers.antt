use Rattle.std.proofs.Common.{sym, subst, [], arith}
use Rattle.machine.proofs.Fits.{reset-fits}
use Rattle.vip_video.specs.Chip.{Chip}
use Rattle.vip_board.specs.Shown.{HasPictures}
use Rattle.vip_board.proofs.Shown.{shows-nothing}
use Rattle.vip_board.proofs.board.Board+Script.reset.Goals as goal

pub returns-clause-pictures : goal.returns-clause-pictures
returns-clause-pictures c =
    let S : Chip → Type 0 = λ v. HasPictures c.in_ok-memory.memory.rom [] v.cycles v.pictures in
    subst S (sym c.new-video.ensures) (shows-nothing _ 0)

pub returns-clause-fits : goal.returns-clause-fits
returns-clause-fits c =
    rw (c.reset-cpu.ensures, c.in_ok-memory.ensures, c.in_ok-keypad.ensures, c.new-video.ensures)
    (reset-fits, record { size = c.requires; bytes = λ a. omega (arith, c.type_inv.rom a) })
