use Rattle.std.proofs.Common.{◌∙◌, ap, refl, sym, option_map}
use Rattle.vip_words.specs.declared.broken.Broken.TheVariants as broken
use Rattle.vip_words.proofs.broken.broken_of_verb.Goals as goal

pub returns-then-is_why : goal.returns-then-is_why
returns-then-is_why c = rw (sym c.is_why.ensures ∙ c.if-is_why.true) refl

pub returns-in-Ok : goal.returns-in-Ok
returns-in-Ok c =
    rw (sym c.is_why.ensures ∙ c.if-is_why.false) (c.of_verb.ensures ∙ ap (option_map (broken.Of c.args.verb)) c.in-Ok.ensures)
