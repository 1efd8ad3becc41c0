use Rattle.std.proofs.Common.{◌∙◌, ap, sym, arith, Some}
use Rattle.std.proofs.lemmas.Bool.{ltb-false}
use Rattle.cycle_check.proofs.Lookup.{line_at-found, line_at-passed}
use Rattle.cycle_check.proofs.closed.line_at.Goals as goal

pub returns-in-Some : goal.returns-in-Some
returns-in-Some c =
    let got = c.in-Some.ensures.lookup in
    let line = c.in-Some.line.now in
    ap Some (got.3.1 line)
    ∙ sym (line_at-found c.args.lines.now c.args.address c.count_below.result line got.3.0 c.count_below.ensures.below
    (sym (ap (λ l. l.address) (got.3.1 line)) ∙ sym c.from.ensures ∙ c.if-from-address.true))

pub returns-in_default : goal.returns-in_default
returns-in_default c =
    let got = c.in-Some.ensures.lookup in
    sym (line_at-passed c.args.lines.now c.args.address c.count_below.result c.requires c.count_below.ensures.below c.count_below.ensures.above
    (λ d within is. c.if-from-address.false (c.from.ensures ∙ ap (λ l. l.address) (got.3.1 d) ∙ is)))

pub returns-in_default-2 : goal.returns-in_default-2
returns-in_default-2 c =
    let got = rw c.in_default.is at c.get.ensures.lookup.0 in
    sym (line_at-passed c.args.lines.now c.args.address c.count_below.result c.requires c.count_below.ensures.below c.count_below.ensures.above
    (λ d within is. omega (arith, within, ltb-false _ _ (sym got))))
