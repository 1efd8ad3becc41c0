use Rattle.std.proofs.Common.{◌≡◌, ◌≤◌, ◌∙◌, arith, ap, sym, subst, length, List, ℕ, None, Option, Some}
use Rattle.std.specs.Prelude.{IfOk, MatchOption}
use Rattle.asm_core.specs.declared.labels.Label.{Label}
use Rattle.asm_core.specs.Labels.{labels_by, labels_of, mark_of, shown_label, shown_labels}
use Rattle.asm_core.specs.Made.{value_at}
use Rattle.asm_core.specs.Sources.{source_lines}
use Rattle.asm_core.proofs.Marking.{all-marked, marked-here, none-marked, one-marked, short-line}
use Rattle.asm_core.proofs.PassOne.{line_here, no_line}
use Rattle.asm_core.proofs.labels.Labels.of.Goals as goal
use Rattle.asm_core.proofs.labels.Labels.of.Goals.{in-Some-2+in_ok-push, in_default-2}

pub mark-requires : goal.mark-requires
mark-requires c =
    let source = source_lines c.args.text.now in
    let here = line_here source c.loop-line.index c.in-Some.line.now (source_lines c.in-Some.more.now) (sym c.loop-line.invariant.rest ∙ c.in-Some.ensures.lines) in
    subst (λ (line : List ℕ). length line ≤ 255) here.1 (short-line c.requires.0 source c.loop-line.index (c.requires.1.no_fault_1 c.loop-line.index here.0))

pub loop-line-preserved : goal.loop-line-preserved
loop-line-preserved c =
    let source = source_lines c.args.text.now in
    let index = c.loop-line.index in
    let here = line_here source index c.in-Some.line.now (source_lines c.in-Some.more.now) (sym c.loop-line.invariant.rest ∙ c.in-Some.ensures.lines) in
    let found : Option Label → Type 0 = λ label. MatchOption label (mark_of c.in-Some.line.now c.line_place.result.value ≡ None)
    (λ label. mark_of c.in-Some.line.now c.line_place.result.value ≡ Some (shown_label label)) in
    let value : c.line_place.result.value ≡ value_at c.args.made.now index = ap (λ place. place.value) c.line_place.ensures in
    record {
      rest = sym here.2;
      inside = omega (arith, here.0);
      list =
          elim c.match-branch-2.branch [
            | in-Some-2+in_ok-push w ↦
                ap (λ list. shown_labels list.items) w.list-is ∙ ap shown_labels w.in_ok-push.ensures.items
                ∙ one-marked source (value_at c.args.made.now) index c.loop-line.list.items w.in-Some-2.label c.loop-line.invariant.list
                (marked-here source (value_at c.args.made.now) index _ _ _ here.1 value (subst found w.in-Some-2.is c.in_ok-label.ensures))
            | in_default-2 w ↦
                ap (λ list. shown_labels list.items) w.list-is
                ∙ none-marked source (value_at c.args.made.now) index c.loop-line.list.items c.loop-line.invariant.list
                (marked-here source (value_at c.args.made.now) index _ _ _ here.1 value (subst found w.in_default-2.is c.in_ok-label.ensures))
          ];
      few = omega (arith, c.in-Some.ensures.shorter, c.loop-line.invariant.few);
    }

pub returns : goal.returns
returns c = λ isa is.
    let source = source_lines c.args.text.now in
    let all = no_line source c.loop-line.index (sym c.loop-line.invariant.rest ∙ c.in_default.ensures.lines) c.loop-line.invariant.inside in
    let shown : shown_labels c.loop-line.list.items ≡ labels_of isa source =
    c.loop-line.invariant.list ∙ ap (labels_by source (value_at c.args.made.now)) all ∙ all-marked isa source c.args.made.now is in
    subst (λ list. IfOk c.new.result (λ labels. labels ≡ list)) shown c.new.ensures
