use Rattle.std.proofs.Common.{◌∙◌, ap, sym, Err, Some}
use Rattle.vip_words.specs.Given.{seen_given}
use Rattle.vip_words.proofs.Answered.{after_first}
use Rattle.vip_words.proofs.Asked.{form_broken, given_broken}
use Rattle.vip_words.proofs.broken.broken_words.Goals as goal

pub returns-in-Ok : goal.returns-in-Ok
returns-in-Ok c =
    c.broken_given.ensures
    ∙ sym (given_broken c.args.words.now c.args.verb c.row-row.result c.usage.result (Some (seen_given c.in-Ok.given)) c.requires c.row-row.ensures
    c.usage.ensures.places c.usage.ensures.options c.in-Ok.ensures.ok)

pub returns-in-Err-Refused : goal.returns-in-Err-Refused
returns-in-Err-Refused c =
    c.broken_form.ensures
    ∙ form_broken c.args.words.now _ c.args.verb c.row-row.result c.usage.result _ c.requires c.row-row.ensures c.usage.ensures.places c.usage.ensures.options
    (c.in-Err-Refused.ensures.refused (ap (λ fail. Err fail) c.in-Err-Refused.field-0-is)) c.names_of-names.ensures (after_first c.args.words.now)
