use Rattle.std.proofs.Common.{List, ℕ, ◌++◌, ◌∷◌, [], ◌∙◌, ap, append_assoc, append-nil, refl, sym}
use Rattle.std.specs.Prelude.{flat_map, zip}
use Rattle.vip_tools.specs.Remarks.{remarked_line, with_remarks}
use Rattle.vip_tools.proofs.remarks.with_remarks.Goals as goal

pub loop-line-init : goal.loop-line-init
unfolding with_remarks
loop-line-init c = rw (c.into_iter-line-iterator.ensures.into_iter_gives, c.new-line-items.ensures, c.new-all.ensures.items) refl

pub loop-line-preserved : goal.loop-line-preserved
loop-line-preserved c =
    let left : List ℕ → List (List ℕ) → List ℕ = λ before lines. flat_map (λ pair. remarked_line c.args.origins.now pair.0 pair.1) (zip (before ∷ lines) lines) in
    let line = c.in-Some.line.now in
    ap (λ all. all ++ left line c.next.new.self) c.in_ok-append_line.ensures
    ∙ append_assoc c.loop-line.all.items (remarked_line c.args.origins.now c.loop-line.before.now line) (left line c.next.new.self)
    ∙ ap (λ lines. c.loop-line.all.items ++ left c.loop-line.before.now lines) (sym c.in-Some.ensures.steps)
    ∙ c.loop-line.invariant

pub returns : goal.returns
returns c =
    sym (append-nil c.loop-line.all.items)
    ∙ ap (λ lines. c.loop-line.all.items ++ flat_map (λ pair. remarked_line c.args.origins.now pair.0 pair.1) (zip (c.loop-line.before.now ∷ lines) lines)) (sym c.in-None.ensures.steps.0)
    ∙ c.loop-line.invariant
