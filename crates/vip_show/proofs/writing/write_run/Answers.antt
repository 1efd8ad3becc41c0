use Rattle.std.proofs.Common.{◌≡◌, ap₂, sym, ◌∙◌, length, subst}
use Rattle.vip_board.specs.Seen.{Seen}
use Rattle.vip_show.specs.Written.{file_of}
use Rattle.vip_show.proofs.RamSizes.{ram-size}
use Rattle.vip_show.proofs.writing.write_run.Goals as goal

pub put_file-requires-clause-ram : goal.put_file-requires-clause-ram
put_file-requires-clause-ram c =
    subst (λ (s : Seen). length s.machine.ram ≡ 0x1000) (sym c.board.ensures.board) (ram-size c.args.run.now c.board.ensures.follows)

pub returns : goal.returns
returns c = c.put_file.ensures ∙ ap₂ (λ e (s : Seen). file_of e s.machine) c.edition.ensures.edition c.board.ensures.board
