use Rattle.std.proofs.Common.{arith, sym, Some, None}
use Rattle.std.specs.List.{list_any, after_first}
use Rattle.std.proofs.lemmas.Bool.{cond-true, cond-false}
use Rattle.asm_lex.specs.Cuts.{stops}
use Rattle.asm_lex.proofs.Splits.{slice_split_whole, slice_split_cut, list_any_whole, list_any_cut}
use Rattle.std.proofs.lemmas.List.{take_rest}
use Rattle.asm_lex.proofs.cuts.cut.Goals as goal

pub returns-then-end-text-clause-parts : goal.returns-then-end-text-clause-parts
returns-then-end-text-clause-parts c = slice_split_whole (stops c.args.stop) c.args.text.now (omega arith)

pub returns-else-end-text-clause-parts : goal.returns-else-end-text-clause-parts
returns-else-end-text-clause-parts c =
    let found = slice_split_cut (stops c.args.stop) c.args.text.now (omega arith) in
    rw (take_rest c.args.text.now, c.position-end.ensures.place) found

pub returns-then-end-text-clause-behind : goal.returns-then-end-text-clause-behind
returns-then-end-text-clause-behind c =
    let stop = stops c.args.stop in
    let text = c.args.text.now in
    sym (cond-false (list_any stop text) (Some (after_first stop text)) None (list_any_whole stop text (omega arith)))

pub returns-else-end-text-clause-behind : goal.returns-else-end-text-clause-behind
returns-else-end-text-clause-behind c =
    let stop = stops c.args.stop in
    let text = c.args.text.now in
    rw (take_rest text, c.position-end.ensures.place)
    (sym (cond-true (list_any stop text) (Some (after_first stop text)) None (list_any_cut stop text (omega arith))))
