use Rattle.std.proofs.Common.{arith, sym, ap, ◌∙◌, ◌∷◌, []}
use Rattle.std.proofs.lemmas.List.{take_all}
use Rattle.asm_lex.specs.Cuts.{stops}
use Rattle.asm_lex.proofs.Splits.{slice_split_whole, slice_split_cut, list_any_whole, list_any_cut, take_behind}
use Rattle.asm_lex.proofs.spans.cut.Goals as goal

pub returns-then-end-text-clause-parts : goal.returns-then-end-text-clause-parts
returns-then-end-text-clause-parts c =
    rw (c.part-first.ensures.text c.args.line.now, ← c.text_at-text.ensures)
    (slice_split_whole (stops c.args.stop) c.text_at-text.result.now (omega arith)
    ∙ ap (λ first. first ∷ []) (sym (take_all c.position-end.result c.text_at-text.result.now (omega arith))))

pub returns-then-end-text-clause-found : goal.returns-then-end-text-clause-found
returns-then-end-text-clause-found c = rw (← c.text_at-text.ensures) (sym (list_any_whole (stops c.args.stop) c.text_at-text.result.now (omega arith)))

pub returns-else-end-text-clause-parts : goal.returns-else-end-text-clause-parts
returns-else-end-text-clause-parts c =
    rw (c.part-first.ensures.text c.args.line.now, c.part.ensures.text c.args.line.now, ← c.text_at-text.ensures)
    (rw (take_behind c.text_at-text.result.now c.position-end.result, c.position-end.ensures.place)
    (slice_split_cut (stops c.args.stop) c.text_at-text.result.now (omega arith)))

pub returns-else-end-text-clause-found : goal.returns-else-end-text-clause-found
returns-else-end-text-clause-found c = rw (← c.text_at-text.ensures) (sym (list_any_cut (stops c.args.stop) c.text_at-text.result.now (omega arith)))
