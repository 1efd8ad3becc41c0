use Rattle.std.proofs.Common.{Err, Ok, subst}
use Rattle.vip_program.specs.Program.{resumed}
use Rattle.vip_tools.specs.Code.{nothing_known}
use Rattle.vip_tools.proofs.WorkLemmas.{passed}
use Rattle.vip_words.specs.Request.{map_resumed}
use Rattle.vip_verbs.specs.Opening.{BoardShowReady}
use Rattle.vip_verbs.specs.Programs.{ResumedRunComes}
use Rattle.vip_verbs.specs.Prepared.{PrepareAnswers}
use Rattle.vip_verbs.proofs.FitLemmas.{resumed-keys-fit, resumed-show-fits}
use Rattle.vip_verbs.proofs.ProgramLemmas.{board-comes, refused-board-show, refused-standing, standing-in}
use Rattle.vip_verbs.proofs.program.open_resumed.Goals as goal

pub make_board_ready-requires : goal.make_board_ready-requires
make_board_ready-requires c = resumed-show-fits (map_resumed (λ bytes. bytes.items) c.args.request) c.requires

pub resume_board-requires-clause-file : goal.resume_board-requires-clause-file
resume_board-requires-clause-file c = rw c.as_slice.ensures.value c.requires.0.right

pub resume_board-requires-clause-keys : goal.resume_board-requires-clause-keys
resume_board-requires-clause-keys c = resumed-keys-fit (map_resumed (λ bytes. bytes.items) c.args.request) c.requires

pub returns-in_err-show : goal.returns-in_err-show
returns-in_err-show c =
    let asked = map_resumed (λ bytes. bytes.items) c.args.request in
    passed (PrepareAnswers (ResumedRunComes asked)) _ _ c.from_residual.ensures.1
    (refused-board-show (resumed asked.state) asked.keys nothing_known asked.limit asked.show _
    (subst (λ known. BoardShowReady known asked.limit asked.show (Err c.in_err-show.field-0.0)) c.none.ensures c.in_err-show.ensures))

pub returns-in_err-board : goal.returns-in_err-board
returns-in_err-board c =
    let asked = map_resumed (λ bytes. bytes.items) c.args.request in
    passed (PrepareAnswers (ResumedRunComes asked)) _ _ c.from_residual-in_err-board.ensures.1
    (refused-standing (resumed asked.state) asked.keys nothing_known asked.limit c.in_ok-show.show asked.show
    (subst (λ known. BoardShowReady known asked.limit asked.show (Ok c.in_ok-show.show)) c.none.ensures c.in_ok-show.ensures) _
    (rw c.as_slice.ensures.value at c.in_err-board.ensures))

pub returns : goal.returns
returns c =
    let asked = map_resumed (λ bytes. bytes.items) c.args.request in
    let begins = rw c.as_slice.ensures.value at c.in_ok-board.ensures in (
      standing-in asked.state asked.keys c.requires.0.right _ begins,
      board-comes (resumed asked.state) asked.keys nothing_known asked.limit c.in_ok-show.show asked.show
          (subst (λ known. BoardShowReady known asked.limit asked.show (Ok c.in_ok-show.show)) c.none.ensures c.in_ok-show.ensures) _ begins,
    )
