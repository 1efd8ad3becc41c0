use Rattle.std.proofs.Common.{◌++◌, ◌∙◌, ap, append_assoc, append-nil, sym}
use Rattle.std.specs.Prelude.{codes, flat_map}
use Rattle.vip_tools.proofs.remarks.append_remarks.Goals as goal

pub loop-label-init : goal.loop-label-init
loop-label-init c =
    ap (λ lines. c.args.text.now.items ++ flat_map (λ label. codes "# " ++ label) lines)
    (c.into_iter-label-iterator.ensures.into_iter_gives ∙ c.labels_over-label-items.ensures)

pub loop-label-preserved : goal.loop-label-preserved
loop-label-preserved c =
    let mark = codes "# " in
    let rest = flat_map (λ label. mark ++ label) c.next.new.self in
    ap (λ text. text ++ rest) (c.in_ok-extend_from_slice-2.ensures.items ∙ ap (λ text. text ++ c.in-Some.label.now) c.in_ok-extend_from_slice.ensures.items)
    ∙ append_assoc (c.loop-label.text.items ++ mark) c.in-Some.label.now rest
    ∙ append_assoc c.loop-label.text.items mark (c.in-Some.label.now ++ rest)
    ∙ ap (λ more. c.loop-label.text.items ++ more) (sym (append_assoc mark c.in-Some.label.now rest))
    ∙ ap (λ lines. c.loop-label.text.items ++ flat_map (λ label. mark ++ label) lines) (sym c.in-Some.ensures.steps)
    ∙ c.loop-label.invariant

pub returns : goal.returns
returns c =
    sym (append-nil c.loop-label.text.items)
    ∙ ap (λ lines. c.loop-label.text.items ++ flat_map (λ label. codes "# " ++ label) lines) (sym c.in-None.ensures.steps.0)
    ∙ c.loop-label.invariant
