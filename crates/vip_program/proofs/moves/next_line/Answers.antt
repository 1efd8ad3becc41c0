use Rattle.std.proofs.Common.{[], ◌++◌, ◌∙◌, ap}
use Rattle.vip_board.specs.Seen.{held_by}
use Rattle.vip_program.specs.Lines.{cycle_column}
use Rattle.vip_program.proofs.Takes.{takes}
use Rattle.vip_program.proofs.Texts.{line-is}
use Rattle.vip_program.proofs.moves.next_line.Goals as goal

pub returns-clause-line : goal.returns-clause-line
returns-clause-line c =
    takes _ _ _ _ _ c.make_line.ensures.stretch c.requires.within _
    (line-is c.args.board.now.rom (held_by c.args.board.now) c.args.board.now.machine [] _ _ c.make_line.ensures.stretch.some _
    (c.put_cycle.ensures.items ∙ ap (λ text. text ++ cycle_column c.args.board.now.machine) c.requires.empty) c.make_line.ensures.items)
