use Rattle.std.proofs.Common.{◌≡◌, ◌∙◌, arith, sym, ap, length, Some}
use Rattle.std.specs.Prelude.{min}
use Rattle.std.specs.Option.{option_map}
use Rattle.std.proofs.Math.Seq.{take-length}
use Rattle.std.proofs.lemmas.Bool.{eqb-true, eqb-false}
use Rattle.asm_lex.proofs.Binary.{digits-more, worth-more, number-bad, number-empty, number-whole}
use Rattle.asm_lex.proofs.expression.binary_digits.Goals as goal

pub returns-in_default : goal.returns-in_default
returns-in_default c =
    let bad = rw c.from.ensures at c.in_default.ensures.value in
    ap (option_map (λ number. min number 65536)) (sym (number-bad c.args.digits.now c.loop-byte.byte-index c.loop-byte-test.true (omega (arith, bad))))

pub loop-byte-preserved : goal.loop-byte-preserved
loop-byte-preserved c =
    let digit = rw c.from.ensures at c.in-Some.ensures.value in
    record {
      digits = digits-more c.args.digits.now c.loop-byte.byte-index c.loop-byte-test.true c.loop-byte.invariant.digits digit.0;
      worth =
          c.with_bit-number.ensures
          ∙ rw digit.1 (worth-more c.args.digits.now c.loop-byte.byte-index c.loop-byte.number c.loop-byte-test.true c.loop-byte.invariant.worth);
    }

pub returns-then-is_empty : goal.returns-then-is_empty
returns-then-is_empty c =
    ap (option_map (λ number. min number 65536))
    (sym (number-empty c.args.digits.now (eqb-true (length c.args.digits.now) 0 (sym c.is_empty.ensures ∙ c.if-is_empty.true))))

pub returns-else-is_empty : goal.returns-else-is_empty
returns-else-is_empty c =
    let some = eqb-false _ _ (sym c.is_empty.ensures ∙ c.if-is_empty.false) in
    let whole : c.loop-byte.byte-index ≡ length c.args.digits.now = omega arith in
    let digits = rw (whole, take-length c.args.digits.now) at c.loop-byte.invariant.digits in
    let worth = rw (whole, take-length c.args.digits.now) at c.loop-byte.invariant.worth in
    rw (number-whole c.args.digits.now (omega (arith, some)) digits) (ap Some worth)
