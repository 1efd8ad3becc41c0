use Rattle.std.proofs.Common.{◌≡◌, ◌++◌, ◌∷◌, [], refl}
use Rattle.std.specs.Prelude.{false, codes}
use Rattle.vip_byte.specs.HexText.{hex4}
use Rattle.vip_byte.specs.Text.{newline}
use Rattle.vip_outside.proofs.PiecesLemmas.{FailsWithin-more, StreamAnswers-append, StreamAnswers-err, StreamAnswers-one}
use Rattle.asm_core.specs.Origins.{labels_over, source_end}
use Rattle.vip_debug.specs.BoardParts.{clear_reads}
use Rattle.vip_debug.specs.Code.{code_bytes, code_line, code_text}
use Rattle.vip_debug.proofs.code.put_line.Goals as goal

pub returns-in_err-put_labels_at : goal.returns-in_err-put_labels_at
returns-in_err-put_labels_at g c =
    StreamAnswers-err _ _ _ _ c.from_residual.ensures.0
    (FailsWithin-more (labels_over c.args.origins.now c.args.address) (code_line (clear_reads c.args.memory.now) c.args.origins.now c.args.address ∷ []) _ _
    c.in_err-put_labels_at.ensures)

pub returns : goal.returns
unfolding code_line
returns g c =
    let text : c.as_slice.result.now ≡ hex4 c.args.address ++ codes " " ++ code_text (clear_reads c.args.memory.now) c.args.address ++ source_end c.args.origins.now false c.args.address (code_bytes (clear_reads c.args.memory.now) c.args.address) ++ newline =
    rw (
      c.as_slice.ensures.value,
      c.put-3.ensures.items,
      c.put_code_at.ensures.items,
      c.put-2.ensures.items,
      c.put.ensures.items,
      c.hex4.ensures,
      c.new-text.ensures,
    ) refl in
    StreamAnswers-append (labels_over c.args.origins.now c.args.address) _ _ _ _ _ c.in_ok-put_labels_at.ensures
    (StreamAnswers-one _ _ _ _ (rw text at c.put-4.ensures.answer))
