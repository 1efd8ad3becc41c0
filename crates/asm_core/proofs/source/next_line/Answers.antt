use Rattle.std.proofs.Common.{arith, sym, ap, ◌∙◌, ◌≡◌, ◌∷◌, [], ◌+◌, ◌-◌, take, drop, length}
use Rattle.std.proofs.lemmas.List.{take_rest, drop_all, nil_from_length}
use Rattle.std.proofs.lemmas.Bool.{eqb-true}
use Rattle.std.specs.Str.Lines.{strip_carriage_return}
use Rattle.asm_core.specs.Sources.{source_lines}
use Rattle.asm_core.proofs.Lines.{source_lines-empty, source_lines-last, source_lines-next, there_from}
use Rattle.asm_core.proofs.source.next_line.Goals as goal

pub returns-then-is_empty-clause-lines : goal.returns-then-is_empty-clause-lines
returns-then-is_empty-clause-lines c =
    ap source_lines (nil_from_length c.args.source.now (eqb-true (length c.args.source.now) 0 (sym c.is_empty.ensures ∙ c.if-is_empty.true)))
    ∙ source_lines-empty

pub returns-then-end-source-clause-lines : goal.returns-then-end-source-clause-lines
returns-then-end-source-clause-lines c =
    let text = c.args.source.now in
    let nothing : take (length text - c.newline-end.result) (drop c.newline-end.result text) ≡ [] =
    take_rest text c.newline-end.result ∙ drop_all c.newline-end.result text (omega arith) in
    source_lines-last text (sym c.newline-end.ensures.place ∙ c.if-end-source.true) (there_from (length text) (sym c.is_empty.ensures ∙ c.if-is_empty.false))
    ∙ ap (λ rest. text ∷ rest) (sym source_lines-empty)
    ∙ ap (λ rest. text ∷ source_lines rest) (sym nothing)

pub returns-else-end-source-clause-lines : goal.returns-else-end-source-clause-lines
returns-else-end-source-clause-lines c =
    let text = c.args.source.now in
    let end = c.newline-end.result in
    source_lines-next text (omega arith)
    ∙ ap (λ n. strip_carriage_return (take n text) ∷ source_lines (drop (n + 1) text)) (sym c.newline-end.ensures.place)
    ∙ ap (λ line. line ∷ source_lines (drop (end + 1) text)) (sym c.without_carriage_return.ensures)
    ∙ ap (λ rest. c.without_carriage_return.result.now ∷ source_lines rest) (sym (take_rest text (end + 1)))
