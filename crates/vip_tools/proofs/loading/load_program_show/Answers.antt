use Rattle.std.proofs.Common.{Err, Global, ap, refl, sym, subst}
use Rattle.vip_words.specs.Request.{program_show_of}
use Rattle.vip_words.specs.declared.request.ProgramShow.TheVariants.{Board}
use Rattle.vip_tools.specs.Loading.{ProgramShowLoads}
use Rattle.vip_tools.proofs.FilesLemmas.{loads-none}
use Rattle.vip_tools.proofs.WorkLemmas.{passed}
use Rattle.vip_tools.proofs.loading.load_program_show.Goals as goal

pub returns-in_err-show-in-Board : goal.returns-in_err-show-in-Board
returns-in_err-show-in-Board g c =
    passed (ProgramShowLoads {Z = Global} (g.F.Files.meaning c.args.files.now) (g.F.Files.meaning c.load_board_show.new.files) (program_show_of c.args.show)) _ _ c.from_residual.ensures.1
    (subst (λ x. ProgramShowLoads {Z = Global} (g.F.Files.meaning c.args.files.now) (g.F.Files.meaning c.load_board_show.new.files) (program_show_of x) (Err c.in_err-show-in-Board.field-0.0)) (sym c.in-Board.is)
    c.in_err-show-in-Board.ensures)

pub returns-in_ok-show-in-Board : goal.returns-in_ok-show-in-Board
returns-in_ok-show-in-Board g c = rw c.in-Board.is (ap Board c.in_ok-show-in-Board.ensures.0, c.in_ok-show-in-Board.ensures.1)

pub returns-in-Trace : goal.returns-in-Trace
returns-in-Trace g c = rw c.in-Trace.is (refl, loads-none _)

pub returns-in-Pictures : goal.returns-in-Pictures
returns-in-Pictures g c = rw c.in-Pictures.is (refl, loads-none _)

pub returns-in-Profile : goal.returns-in-Profile
returns-in-Profile g c = rw c.in-Profile.is (refl, loads-none _)
