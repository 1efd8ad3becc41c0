use Rattle.std.proofs.Common.{Err, Global, refl, sym, subst}
use Rattle.vip_words.specs.Request.{board_show_of}
use Rattle.vip_tools.specs.Loading.{BoardShowLoads}
use Rattle.vip_tools.proofs.FilesLemmas.{loads-none, loads-one, refused-one}
use Rattle.vip_tools.proofs.WorkLemmas.{passed}
use Rattle.vip_tools.proofs.loading.load_board_show.Goals as goal

pub returns-in_err-file-in-Commands : goal.returns-in_err-file-in-Commands
returns-in_err-file-in-Commands g c =
    passed (BoardShowLoads {Z = Global} (g.F.Files.meaning c.args.files.now) (g.F.Files.meaning c.open_file.new.files) (board_show_of c.args.show)) _ _ c.from_residual.ensures.1
    (subst (λ x. BoardShowLoads {Z = Global} (g.F.Files.meaning c.args.files.now) (g.F.Files.meaning c.open_file.new.files) (board_show_of x) (Err c.in_err-file-in-Commands.field-0.0)) (sym c.in-Commands.is)
    (refused-one _ _ _ _ c.commands_file.ensures c.in_err-file-in-Commands.field-0.0 c.in_err-file-in-Commands.ensures))

pub returns-in_ok-file-in-Commands : goal.returns-in_ok-file-in-Commands
returns-in_ok-file-in-Commands g c = rw c.in-Commands.is (refl, loads-one _ _ _ _ c.commands_file.ensures c.in_ok-file-in-Commands.file c.in_ok-file-in-Commands.ensures)

pub returns-in-State : goal.returns-in-State
returns-in-State g c = rw c.in-State.is (refl, loads-none _)
