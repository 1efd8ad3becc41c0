use Rattle.std.proofs.Common.{arith, ap, ap₂, subst, sym, ◌≡◌, ◌∙◌, ◌≤◌, ◌+◌, ◌∷◌, ◌++◌, [], drop, get_or, length, length-append, true, List, ℕ, Err}
use Rattle.std.proofs.lemmas.List.Elements.{All-push}
use Rattle.std.specs.Prelude.{map, All}
use Rattle.asm_lex.specs.Spans.{text_at}
use Rattle.asm_lex.specs.declared.shape.Span.{Span}
use Rattle.asm_lex.specs.Names.{value_in}
use Rattle.asm_core.specs.Names.{operand_value}
use Rattle.asm_core.specs.Encoding.{values_of}
use Rattle.asm_core.proofs.Collected.{collect_from, collect_none, collect_range, collect_value, drop_next}
use Rattle.asm_core.proofs.values.values_of.Goals as goal
use Rattle.asm_core.proofs.values.values_of.Goals.{in-Ok, in-Err-Range}

pub loop-operand-init : goal.loop-operand-init
unfolding values_of
loop-operand-init c =
    let results = map (operand_value c.args.isa (value_in c.args.names.now) c.args.here c.args.most) (map (text_at c.args.line.now) c.args.operands.now) in
    let P : List ℕ → Type 0 = λ items. All (λ value. value ≤ c.args.most) items in
    record {
      completes = ap (λ items. collect_from true items results) c.new-values.ensures ∙ collect_none results;
      count = omega (arith, ap length c.new-values.ensures);
      bounds = subst P (sym c.new-values.ensures) (λ k d below. absurd (omega arith));
    }

pub push-requires : goal.push-requires
push-requires c = (omega arith, omega (arith, c.loop-operand.invariant.count, c.loop-operand-test.true, c.requires.few))

pub loop-operand-preserved : goal.loop-operand-preserved
loop-operand-preserved c =
    let so_far = c.loop-operand.invariant in
    let values = c.loop-operand.values.items in
    let text = text_at c.args.line.now in
    let value = operand_value c.args.isa (value_in c.args.names.now) c.args.here c.args.most in
    let operand : Span = get_or c.args.operands.now c.loop-operand.operand-index _ in
    let rest = map text (drop (c.loop-operand.operand-index + 1) c.args.operands.now) in
    let next : map text (drop c.loop-operand.operand-index c.args.operands.now) ≡ text operand ∷ rest =
    drop_next text c.args.operands.now c.loop-operand.operand-index _ c.loop-operand-test.true in
    let completes : collect_from c.loop-operand.in_range values (c.operand_value.result ∷ map value rest)
    ≡ values_of c.args.isa (value_in c.args.names.now) c.args.here c.args.most (map text c.args.operands.now) =
    ap (λ r. collect_from c.loop-operand.in_range values (r ∷ map value rest)) (c.operand_value.ensures.value ∙ ap value c.text_at.ensures)
    ∙ (ap (λ texts. collect_from c.loop-operand.in_range values (map value texts)) (sym next) ∙ so_far.completes) in
    elim c.match-operand_value.branch [
      | in-Ok w ↦
          let items : c.match-operand_value.values.items ≡ values ++ w.in-Ok.value ∷ [] = ap (λ v. v.items) w.values-is ∙ w.push.ensures.items in
          record {
            completes = ap₂ (λ in_range items. collect_from in_range items (map value rest)) w.in_range-is items
                ∙ (collect_value c.loop-operand.in_range values w.in-Ok.value (map value rest)
                ∙ (ap (λ r. collect_from c.loop-operand.in_range values (r ∷ map value rest)) (sym w.in-Ok.is) ∙ completes));
            count = omega (arith, ap length items, length-append values (w.in-Ok.value ∷ []), so_far.count);
            bounds = subst (λ items. All (λ value. value ≤ c.args.most) items) (sym items)
                (All-push (λ value. value ≤ c.args.most) values w.in-Ok.value so_far.bounds w.in-Ok.ensures.bound);
          }
      | in-Err-Range w ↦
          record {
            completes = ap₂ (λ in_range v. collect_from in_range v.items (map value rest)) w.in_range-is w.values-is
                ∙ (collect_range c.loop-operand.in_range values (map value rest)
                ∙ (ap (λ r. collect_from c.loop-operand.in_range values (r ∷ map value rest))
                (sym (w.in-Err-Range.is ∙ ap Err w.in-Err-Range.field-0-is)) ∙ completes));
            count = omega (arith, ap (λ v. length v.items) w.values-is, so_far.count);
            bounds = subst (λ items. All (λ value. value ≤ c.args.most) items) (sym (ap (λ v. v.items) w.values-is)) so_far.bounds;
          }
    ]
