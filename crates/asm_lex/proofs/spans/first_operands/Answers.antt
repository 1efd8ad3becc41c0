use Rattle.std.proofs.Common.{arith, Some, append_assoc, append-nil, take, refl, sym, ap, subst, ◌∙◌, ◌∷◌, ◌++◌, [], length, ◌≡◌, ◌<◌, ◌≤◌, List, Option}
use Rattle.std.specs.Prelude.{map, IfSome}
use Rattle.std.specs.Option.{option_map, option_map_or}
use Rattle.std.specs.List.{slice_split}
use Rattle.std.proofs.lemmas.List.{map-append, length-map, length-append, take_all}
use Rattle.std.proofs.lemmas.Bool.{eqb-true, eqb-false}
use Rattle.asm_lex.specs.declared.shape.Span.{Span}
use Rattle.asm_lex.specs.Bytes.{is_comma}
use Rattle.asm_lex.specs.Cuts.{parts_of}
use Rattle.asm_lex.specs.Parts.{trimmed, operands_in}
use Rattle.asm_lex.specs.Spans.{text_at, AreInOrder}
use Rattle.asm_lex.specs.Places.{spans_in}
use Rattle.asm_lex.proofs.Places.{rest_spans, spans_in-some, rest_spans-step, first_ones}
use Rattle.asm_lex.proofs.Texts.{length-text, operands-empty, operands-some, operands-step, operands-full, in_order-push, in_order-wider, moved, next_from}
use Rattle.asm_lex.proofs.spans.first_operands.Goals as goal

pub loop-rest-init : goal.loop-rest-init
loop-rest-init c = record {
  texts = ap (λ items. map (text_at c.args.line.now) items ++ map trimmed (slice_split is_comma (text_at c.args.line.now c.args.span))) c.new-operands.ensures
      ∙ operands-some (text_at c.args.line.now c.args.span) (omega (arith, length-text c.args.line.now c.args.span c.requires, c.if-span.false));
  within = (c.requires.in_order, refl);
  places = ap (λ items. items ++ rest_spans c.args.line.now (Some c.args.span)) c.new-operands.ensures
      ∙ spans_in-some c.args.span.from (text_at c.args.line.now c.args.span) (omega (arith, length-text c.args.line.now c.args.span c.requires, c.if-span.false));
  few = omega (arith, ap length c.new-operands.ensures);
  order = let P : List Span → Type 0 = λ items. AreInOrder c.args.span.from items c.args.span.from in subst P (sym c.new-operands.ensures) (omega arith);
}

pub returns-then-span-clause-texts : goal.returns-then-span-clause-texts
returns-then-span-clause-texts c =
    ap (map (text_at c.args.line.now)) c.new-operands.ensures
    ∙ sym (operands-empty (text_at c.args.line.now c.args.span) (omega (arith, length-text c.args.line.now c.args.span c.requires)))

pub returns-then-is_full-clause-texts : goal.returns-then-is_full-clause-texts
returns-then-is_full-clause-texts c =
    let P : Option Span → Type 0 =
    λ rest. map (text_at c.args.line.now) c.loop-rest.operands.items
    ++ map trimmed (parts_of is_comma (option_map (text_at c.args.line.now) rest)) ≡ operands_in (text_at c.args.line.now c.args.span) in
    operands-full (map (text_at c.args.line.now) c.loop-rest.operands.items) (text_at c.args.line.now c.in-Some.left)
    (operands_in (text_at c.args.line.now c.args.span))
    (subst P c.in-Some.is c.loop-rest.invariant.texts)
    (length-map c.loop-rest.operands.items (text_at c.args.line.now)
    ∙ eqb-true (length c.loop-rest.operands.items) 128 (sym c.is_full.ensures.value ∙ c.if-is_full.true))

pub loop-rest-preserved : goal.loop-rest-preserved
loop-rest-preserved c =
    let line = c.args.line.now in
    let P : Option Span → Type 0 =
    λ rest. map (text_at line) c.loop-rest.operands.items ++ map trimmed (parts_of is_comma (option_map (text_at line) rest))
    ≡ operands_in (text_at line c.args.span) in
    let Q : Option Span → Type 0 = λ rest. IfSome rest (λ rest. (rest.from ≤ rest.to) × (rest.to ≡ c.args.span.to)) in
    let R : Option Span → Type 0 =
    λ rest. AreInOrder c.args.span.from c.loop-rest.operands.items (option_map_or (λ (rest : Span). rest.from) rest c.args.span.to) in
    let texts = subst P c.in-Some.is c.loop-rest.invariant.texts in
    let within = subst Q c.in-Some.is c.loop-rest.invariant.within in
    let S : Option Span → Type 0 = λ rest. c.loop-rest.operands.items ++ rest_spans line rest ≡ spans_in c.args.span.from (text_at line c.args.span) in
    let places = subst S c.in-Some.is c.loop-rest.invariant.places in
    let order = subst R c.in-Some.is c.loop-rest.invariant.order in
    let rest_in : IfSome c.cut-more.result.1 (λ rest. (c.cut-more.result.0.to < rest.from) × (rest.from ≤ rest.to) × (rest.to ≡ c.args.span.to)) =
    moved c.cut-more.result.1 c.cut-more.result.0.to c.in-Some.left.to c.args.span.to c.cut-more.ensures.order within.1 in
    let next = next_from c.cut-more.result.1 c.cut-more.result.0.to c.args.span.to rest_in (omega (arith, c.cut-more.ensures.within, within)) in
    record {
      texts = ap (λ items. map (text_at line) items ++ map trimmed (parts_of is_comma (option_map (text_at line) c.cut-more.result.1))) c.push.ensures.items
          ∙ ap (λ done. done ++ map trimmed (parts_of is_comma (option_map (text_at line) c.cut-more.result.1)))
          (map-append (text_at line) c.loop-rest.operands.items (c.trim.result ∷ []))
          ∙ operands-step (map (text_at line) c.loop-rest.operands.items) (text_at line c.cut-more.result.0) (text_at line c.trim.result)
          (slice_split is_comma (text_at line c.in-Some.left))
          (parts_of is_comma (option_map (text_at line) c.cut-more.result.1))
          (operands_in (text_at line c.args.span)) texts c.cut-more.ensures.parts c.trim.ensures.text;
      places = ap (λ items. items ++ rest_spans line c.cut-more.result.1) c.push.ensures.items
          ∙ append_assoc c.loop-rest.operands.items (c.trim.result ∷ []) (rest_spans line c.cut-more.result.1)
          ∙ ap (λ spans. c.loop-rest.operands.items ++ spans)
          (rest_spans-step line c.in-Some.left c.cut-more.result.0 c.trim.result c.cut-more.result.1 c.cut-more.ensures.parts
          (c.trim.ensures.place) (length-text line c.cut-more.result.0
          (record { in_order = c.cut-more.ensures.within.1; inside = omega (arith, c.cut-more.ensures.within, within.1, c.requires.inside) }))
          c.cut-more.ensures.within.0 c.cut-more.ensures.within.1 c.cut-more.ensures.next)
          ∙ places;
      few = omega (
        arith,
        ap length c.push.ensures.items,
        length-append c.loop-rest.operands.items (c.trim.result ∷ []),
        eqb-false (length c.loop-rest.operands.items) 128 (sym c.is_full.ensures.value ∙ c.if-is_full.false),
        c.loop-rest.invariant.few,
      );
      within = next.1;
      order =
          let T : List Span → Type 0 = λ items. AreInOrder c.args.span.from items
          (option_map_or (λ (rest : Span). rest.from) c.cut-more.result.1 c.args.span.to) in
          subst T (sym c.push.ensures.items)
          (in_order-push c.args.span.from c.loop-rest.operands.items c.in-Some.left.from c.trim.result _ order
          (omega (arith, c.cut-more.ensures.within, c.trim.ensures.within)) (c.trim.ensures.within.1) (omega (arith, next.0, c.trim.ensures.within)));
    }

pub returns-then-is_full-clause-order : goal.returns-then-is_full-clause-order
returns-then-is_full-clause-order c =
    let Q : Option Span → Type 0 = λ rest. IfSome rest (λ rest. (rest.from ≤ rest.to) × (rest.to ≡ c.args.span.to)) in
    let R : Option Span → Type 0 =
    λ rest. AreInOrder c.args.span.from c.loop-rest.operands.items (option_map_or (λ (rest : Span). rest.from) rest c.args.span.to) in
    let within = subst Q c.in-Some.is c.loop-rest.invariant.within in
    in_order-wider c.loop-rest.operands.items c.args.span.from c.args.span.from c.in-Some.left.from c.args.span.to (omega arith) (omega (arith, within))
    (subst R c.in-Some.is c.loop-rest.invariant.order)

pub returns-then-is_full-clause-places : goal.returns-then-is_full-clause-places
returns-then-is_full-clause-places c =
    first_ones 128 c.loop-rest.operands.items (rest_spans c.args.line.now c.loop-rest.rest) _
    (eqb-true (length c.loop-rest.operands.items) 128 (sym c.is_full.ensures.value ∙ c.if-is_full.true)) c.loop-rest.invariant.places

pub returns-clause-places : goal.returns-clause-places
returns-clause-places c =
    let S : Option Span → Type 0 =
    λ rest. c.loop-rest.operands.items ++ rest_spans c.args.line.now rest ≡ spans_in c.args.span.from (text_at c.args.line.now c.args.span) in
    let all = subst S c.in_default.is c.loop-rest.invariant.places in
    sym (ap (take 128) (sym all ∙ append-nil c.loop-rest.operands.items) ∙ take_all 128 c.loop-rest.operands.items c.loop-rest.invariant.few)
