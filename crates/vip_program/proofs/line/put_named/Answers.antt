use Rattle.std.proofs.Common.{◌++◌, ◌∙◌, sym, ap}
use Rattle.vip_byte.specs.HexText.{hex2}
use Rattle.vip_board.specs.Seen.{held_by}
use Rattle.vip_program.specs.Lines.{named_text}
use Rattle.vip_program.proofs.Bus.{sent-text, taken-text}
use Rattle.vip_program.proofs.Texts.{appended}
use Rattle.vip_program.proofs.line.put_named.Goals as goal

pub returns-in-Output-clause-items : goal.returns-in-Output-clause-items
returns-in-Output-clause-items c =
    appended _ _ _ _ _ c.put-in-Output.ensures.items
    (c.put-in-Output-2.ensures.items ∙ ap (λ bytes. c.put-in-Output.new.into.items ++ bytes) (c.hex2.ensures ∙ ap hex2 c.sent_byte.ensures))
    ∙ ap (λ text. c.args.into.now.items ++ text)
    (sym (sent-text c.args.board.now.rom (held_by c.args.board.now) c.args.board.now.machine c.in-Output.field-0 (sym c.in-Output.is ∙ c.requires.names))
    ∙ ap (λ names. named_text c.args.board.now.rom (held_by c.args.board.now) names c.args.board.now.machine) (sym c.in-Output.is))

pub returns-in-Input-clause-items : goal.returns-in-Input-clause-items
returns-in-Input-clause-items c =
    c.put-in-Input.ensures.items
    ∙ ap (λ text. c.args.into.now.items ++ text)
    (sym (taken-text c.args.board.now.rom (held_by c.args.board.now) c.args.board.now.machine c.in-Input.field-0 (sym c.in-Input.is ∙ c.requires.names))
    ∙ ap (λ names. named_text c.args.board.now.rom (held_by c.args.board.now) names c.args.board.now.machine) (sym c.in-Input.is))
