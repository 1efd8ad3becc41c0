use Rattle.std.proofs.Common.{◌∙◌, ap, sym, subst, length}
use Rattle.std.specs.Prelude.{IsUtf8}
use Rattle.std.proofs.lemmas.Bool.{eqb-false}
use Rattle.vip_c.proofs.WordLemmas.{not_ended, not_text}
use Rattle.vip_c.proofs.given.words_of.Goals as goal

pub returns-in_default : goal.returns-in_default
returns-in_default c =
    not_text c.args.bytes.now c.loop-byte.byte-index _ c.loop-byte.word.items c.loop-byte.invariant c.loop-byte-test.true c.if-byte-ne0.false
    (λ text. c.in_default.ensures.cases.0 (subst IsUtf8 (sym c.as_slice.ensures.value) text))

pub returns-else-is_empty : goal.returns-else-is_empty
returns-else-is_empty c =
    not_ended c.args.bytes.now c.loop-byte.byte-index _ c.loop-byte.word.items c.loop-byte.invariant c.loop-byte-test.false
    (λ empty. eqb-false _ 0 (sym c.is_empty.ensures ∙ c.if-is_empty.false) (c.loop-byte.word.ok.0 ∙ ap length empty))
