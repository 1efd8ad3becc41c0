use Rattle.vip_tools.specs.Judged.{Answers, each}
use Rattle.vip_tools.specs.Opening.{ScriptComes, keys_in}
use Rattle.vip_tools.proofs.JudgedLemmas.{refused-first}
use Rattle.vip_tools.proofs.WorkLemmas.{passed}
use Rattle.vip_verbs.specs.Programs.{BeginsProgram, BoardComes}
use Rattle.vip_verbs.proofs.program.start_board.Goals as goal

pub returns-in_err-script : goal.returns-in_err-script
returns-in_err-script c =
    let keys = keys_in c.args.keys in
    let image = c.args.image.now in
    passed (Answers (BoardComes c.args.memory image.rom.items image.ram.items keys)) _ _ c.from_residual.ensures.1
    (refused-first (ScriptComes keys) (λ script. each (BeginsProgram c.args.memory image.rom.items image.ram.items script)) _ c.in_err-script.ensures)

pub returns : goal.returns
returns c = record {
  value = c.in_ok-script.script;
  gives = c.in_ok-script.ensures;
  here =
      record {
        is = rw (c.memory_in.ensures, c.as_slice-rom.ensures.value, c.as_slice-ram.ensures.value) at c.in_ok-board.ensures.board;
        pictures = c.in_ok-board.ensures.pictures;
      };
}
