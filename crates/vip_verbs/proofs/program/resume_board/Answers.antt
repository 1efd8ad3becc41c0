use Rattle.vip_program.specs.Program.{resumed}
use Rattle.vip_tools.specs.Judged.{Answers, only}
use Rattle.vip_tools.specs.Opening.{ScriptComes, keys_in}
use Rattle.vip_tools.proofs.JudgedLemmas.{refused-first}
use Rattle.vip_tools.proofs.WorkLemmas.{passed}
use Rattle.vip_verbs.specs.Programs.{ResumedBoardComes}
use Rattle.vip_verbs.proofs.program.resume_board.Goals as goal

pub returns-in_err-script : goal.returns-in_err-script
returns-in_err-script c =
    let keys = keys_in c.args.keys in
    passed (Answers (ResumedBoardComes c.args.file.now keys)) _ _ c.from_residual.ensures.1
    (refused-first (ScriptComes keys) (λ script. only (resumed c.args.file.now script)) _ c.in_err-script.ensures)

pub returns : goal.returns
returns c = record { value = c.in_ok-script.script; gives = c.in_ok-script.ensures; here = c.in_ok-board.ensures }
