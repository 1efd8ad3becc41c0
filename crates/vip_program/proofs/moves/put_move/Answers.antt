use Rattle.std.proofs.Common.{◌++◌, ◌∙◌, sym, ap, arith}
use Rattle.std.specs.Prelude.{codes}
use Rattle.std.proofs.lemmas.Fmt.{decimal_digit}
use Rattle.machine.specs.Board.Case.{Idle}
use Rattle.vip_board.specs.Seen.{held_by}
use Rattle.vip_program.proofs.Makes.{case-named}
use Rattle.vip_program.proofs.Texts.{says}
use Rattle.vip_program.proofs.moves.put_move.Goals as goal

pub returns-in-Idle-clause-items : goal.returns-in-Idle-clause-items
returns-in-Idle-clause-items c =
    says c.args.board.now.rom (held_by c.args.board.now) c.args.board.now.machine _ _ Idle _ (case-named c.args.board.now.machine _ c.in-Idle.ensures)
    (c.put.ensures.items ∙ ap (λ digits. c.args.into.now.items ++ (codes " IDLE " ++ digits)) (sym (decimal_digit 1 (omega arith))))
