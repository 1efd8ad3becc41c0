use Rattle.std.proofs.Common.{◌∙◌, refl}
use Rattle.vip_words.proofs.Known.{options_known}
use Rattle.vip_words.proofs.given.is_known.Goals as goal

pub returns-else-is_plain : goal.returns-else-is_plain
returns-else-is_plain c = c.is_among.ensures ∙ (options_known c.args.word.now c.args.options.now ∙ rw (← c.if-is_plain.ensures) refl)
