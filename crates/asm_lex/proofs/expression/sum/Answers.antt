use Rattle.std.proofs.Common.{arith, subst, ◌∙◌, ◌≡◌, ℕ, List, Option, Bor, ◌≤◌, ◌*◌, ◌-◌, ◌≤ℤ◌, w64, to_z, of_z, ◌+ℤ◌, pos}
use Rattle.std.proofs.lemmas.Int.{to_z-of_z, ints}
use Rattle.asm_lex.specs.Names.{number_named, value_in}
use Rattle.asm_lex.specs.Left.{left, left_length}
use Rattle.asm_lex.proofs.Sums.{completes_first, completes_next, Completes, completes_undefined, bound_next, low_next, high_next}
use Rattle.asm_lex.proofs.expression.sum.Goals as goal

pub loop-rest-init : goal.loop-rest-init
loop-rest-init c = record {
  completes = completes_first c.args.isa (number_named (value_in c.args.names.now)) c.args.here c.args.text.now c.without_prefix.result.now
      c.without_prefix.ensures.value;
  shorter = omega arith;
  low = search (arith, ints);
  high = search (arith, ints);
}

pub loop-rest-preserved : goal.loop-rest-preserved
loop-rest-preserved c =
    let values : List ℕ → Option ℕ = number_named (value_in c.args.names.now) in
    let sum = to_z w64 c.loop-rest.sum-bits in
    let so_far = c.loop-rest.invariant in
    let completes = subst (λ (r : Option (ℕ × Bor (List ℕ))). Completes c.args.isa values c.args.here c.args.text.now sum (left r)) c.in-Some.is so_far.completes in
    let short = subst (λ (r : Option (ℕ × Bor (List ℕ))). left_length (left r) ≤ 256) c.in-Some.is so_far.shorter in
    let low = subst (λ (r : Option (ℕ × Bor (List ℕ))). pos 0 ≤ℤ (sum +ℤ pos (65536 * (256 - left_length (left r))))) c.in-Some.is so_far.low in
    let high = subst (λ (r : Option (ℕ × Bor (List ℕ))). sum ≤ℤ pos (65536 * (256 - left_length (left r)))) c.in-Some.is so_far.high in
    let same : to_z w64 (of_z w64 c.with_term-sum.result) ≡ c.with_term-sum.result = to_z-of_z w64 c.with_term-sum.result (search (arith, ints)) in
    record {
      completes = completes_next c.args.isa values c.args.here c.args.text.now sum c.in-Some.sign c.in-Some.terms.now
          c.first_term.result.0.now (left c.first_term.result.1) c.in-Some-term_value.value _ completes c.first_term.ensures.terms
          (c.first_term.ensures.signed c.in-Some.sign) c.in-Some-term_value.ensures.variant c.in-Some-term_value.ensures.value
          (same ∙ c.with_term-sum.ensures.value);
      shorter = bound_next _ _ c.first_term.ensures.shorter short;
      low = rw same (low_next _ _ _ _ c.first_term.ensures.shorter short low c.with_term-sum.ensures.low);
      high = rw same (high_next _ _ _ _ c.first_term.ensures.shorter short high c.with_term-sum.ensures.high);
    }

pub returns-in_default-term_value-clause-undefined : goal.returns-in_default-term_value-clause-undefined
returns-in_default-term_value-clause-undefined c =
    let values : List ℕ → Option ℕ = number_named (value_in c.args.names.now) in
    let sum = to_z w64 c.loop-rest.sum-bits in
    let completes = subst (λ (r : Option (ℕ × Bor (List ℕ))). Completes c.args.isa values c.args.here c.args.text.now sum (left r))
    c.in-Some.is c.loop-rest.invariant.completes in
    completes_undefined c.args.isa values c.args.here c.args.text.now sum c.in-Some.sign c.in-Some.terms.now c.first_term.result.0.now
    (left c.first_term.result.1) completes c.first_term.ensures.terms c.in_default-term_value.ensures.variant
