use Rattle.std.proofs.Common.{◌≡◌, ℕ, ◌∙◌, ◌<◌, ◌≤◌, ◌+◌, ◌*◌, ◌^◌, refl, arith, sym, length}
use Rattle.std.proofs.lemmas.Bool.{eqb-false}
use Rattle.std.proofs.Math.Nat.{mul-le-mul_left, mul-le-mul_right}
use Rattle.vip_byte.specs.Number.{number}
use Rattle.vip_byte.proofs.NumberLemmas.{number-bad, number-large, number-small, read_digit}
use Rattle.vip_byte.proofs.number.read_number.Goals as goal

pub returns-then-is_empty-clause-value : goal.returns-then-is_empty-clause-value
unfolding number
returns-then-is_empty-clause-value c = rw (← c.is_empty.ensures, c.if-is_empty.true) refl

pub returns-in_default-clause-value : goal.returns-in_default-clause-value
returns-in_default-clause-value c =
    let bad = rw c.from.ensures at c.in_default.ensures.value in
    sym (number-bad c.args.base c.args.text.now c.args.most c.loop-byte.byte-index c.loop-byte-test.true (omega (arith, bad)))

-- what is read so far is at most the number behind the greatest, and the base is small
fits : (value most base : ℕ) → value ≤ most + 1 → most < 2 ^ 64 → base ≤ 36 → value * base ≤ (2 ^ 64) * 36
fits value most base small most_fits base_small =
    let one = mul-le-mul_right {m = value} {n = 2 ^ 64} base (omega (arith, small, most_fits)) in
    let two = mul-le-mul_left (2 ^ 64) base_small in
    omega (arith, one, two)

pub overflow_mul-value : goal.overflow_mul-value
overflow_mul-value c =
    let small = fits c.loop-byte.value c.args.most c.args.base (omega (arith, c.loop-byte.invariant.worth)) (omega arith) c.requires.most_base in
    rw c.from-in-loop-byte.ensures (omega (arith, small))

pub overflow_add-value : goal.overflow_add-value
overflow_add-value c =
    let small = fits c.loop-byte.value c.args.most c.args.base (omega (arith, c.loop-byte.invariant.worth)) (omega arith) c.requires.most_base in
    let digit = rw c.from.ensures at c.in-Some.ensures.value in
    rw c.from-in-loop-byte.ensures (omega (arith, small, digit, c.from-in-loop-byte-2.ensures, c.requires.most_base))

pub loop-byte-preserved : goal.loop-byte-preserved
loop-byte-preserved c =
    let digit = rw c.from.ensures at c.in-Some.ensures.value in
    let read = read_digit c.args.base c.args.text.now c.args.most c.loop-byte.byte-index c.loop-byte.value c.requires.least_base
    c.loop-byte-test.true digit.0 c.loop-byte.invariant in
    rw (c.min-value.ensures, c.from-in-loop-byte.ensures, c.from-in-loop-byte-2.ensures, c.from-too_large.ensures, digit.1) read

pub returns-then-value-too_large-clause-value : goal.returns-then-value-too_large-clause-value
returns-then-value-too_large-clause-value c =
    let some = eqb-false _ _ (sym c.is_empty.ensures ∙ c.if-is_empty.false) in
    let whole : c.loop-byte.byte-index ≡ length c.args.text.now = omega arith in
    sym (number-large c.args.base c.args.text.now c.args.most c.loop-byte.value (omega (arith, some)) (rw whole at c.loop-byte.invariant)
    (omega (arith, c.if-value-too_large.true, c.from-too_large.ensures)))

pub returns-else-value-too_large-clause-value : goal.returns-else-value-too_large-clause-value
returns-else-value-too_large-clause-value c =
    let some = eqb-false _ _ (sym c.is_empty.ensures ∙ c.if-is_empty.false) in
    let whole : c.loop-byte.byte-index ≡ length c.args.text.now = omega arith in
    sym (number-small c.args.base c.args.text.now c.args.most c.loop-byte.value (omega (arith, some)) (rw whole at c.loop-byte.invariant)
    (λ same. c.if-value-too_large.false (omega (arith, same, c.from-too_large.ensures))))
