use Rattle.std.proofs.Common.{Bor, ◌≡◌, ◌∙◌, ap, sym, refl, Some, None, Err, map, string_bytes}
use Rattle.std.specs.Prelude.{IsErrOf}
use Rattle.vip_words.specs.Asked.{asked_by, why_of}
use Rattle.vip_words.specs.Given.{seen_given}
use Rattle.vip_words.specs.Rules.{Word}
use Rattle.vip_words.specs.declared.given.WordsFail.TheVariants.{Refused}
use Rattle.vip_words.specs.declared.request.Request.{Request}
use Rattle.vip_words.proofs.Asked.{asked_after, read_is_asked, refused_is_not_asked, why_after, why_is_asked, why_is_not_refused}
use Rattle.vip_words.proofs.Answered.{after_first}
use Rattle.vip_words.proofs.words.read_words.Goals as goal

pub returns-in-Err-clause-refused : goal.returns-in-Err-clause-refused
returns-in-Err-clause-refused c = λ (refused : IsErrOf {T = Request (Bor Word)} (Err c.in-Err.fail) Refused).
    let same : c.in-Err.fail ≡ Refused = cc in
    asked_after c.args.words.now c.in-Some.word.now c.as_str.result.now c.in-Some-of.verb c.row.result c.usage-usage.result None
    c.in-Some.ensures.value c.as_str.ensures.value c.in-Some-of.ensures (sym c.is_why.ensures ∙ c.if-is_why.false) c.row.ensures c.usage-usage.ensures.places c.usage-usage.ensures.options
    (c.in-Err.ensures.refused (rw same refl))

pub returns-in-Ok-request_of-clause-ok : goal.returns-in-Ok-request_of-clause-ok
returns-in-Ok-request_of-clause-ok c =
    rw c.ok_or.ensures.value (read_is_asked c.in-Ok-request_of.request (asked_by (map string_bytes c.args.words.now))
    (asked_after c.args.words.now c.in-Some.word.now c.as_str.result.now c.in-Some-of.verb c.row.result c.usage-usage.result (Some (seen_given c.in-Ok.given))
    c.in-Some.ensures.value c.as_str.ensures.value c.in-Some-of.ensures (sym c.is_why.ensures ∙ c.if-is_why.false) c.row.ensures c.usage-usage.ensures.places c.usage-usage.ensures.options
    c.in-Ok.ensures.ok
    ∙ sym c.in-Ok-request_of.ensures))

pub returns-in-Ok-request_of-clause-refused : goal.returns-in-Ok-request_of-clause-refused
returns-in-Ok-request_of-clause-refused c =
    rw c.ok_or.ensures.value (refused_is_not_asked c.in-Ok-request_of.request (asked_by (map string_bytes c.args.words.now))
    (asked_after c.args.words.now c.in-Some.word.now c.as_str.result.now c.in-Some-of.verb c.row.result c.usage-usage.result (Some (seen_given c.in-Ok.given))
    c.in-Some.ensures.value c.as_str.ensures.value c.in-Some-of.ensures (sym c.is_why.ensures ∙ c.if-is_why.false) c.row.ensures c.usage-usage.ensures.places c.usage-usage.ensures.options
    c.in-Ok.ensures.ok
    ∙ sym c.in-Ok-request_of.ensures))

pub returns-then-is_why-clause-ok : goal.returns-then-is_why-clause-ok
returns-then-is_why-clause-ok c =
    why_is_asked c.why_request.result _ _ c.why_request.ensures.ok
    (why_after c.args.words.now c.in-Some.word.now c.as_str.result.now c.in-Some-of.verb c.in-Some.ensures.value c.as_str.ensures.value c.in-Some-of.ensures
    (sym c.is_why.ensures ∙ c.if-is_why.true)
    ∙ ap (λ words. Some (why_of (map string_bytes words))) (sym (after_first c.args.words.now)))

pub returns-then-is_why-clause-refused : goal.returns-then-is_why-clause-refused
returns-then-is_why-clause-refused c = λ refused. why_is_not_refused c.why_request.result _ c.why_request.ensures.memory refused
