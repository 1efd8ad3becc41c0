use Rattle.vip_words.proofs.RuleLemmas.{each_refused_by_rule}
use Rattle.vip_words.proofs.broken.refused_by_rule.Goals as goal

pub returns : goal.returns
returns c = each_refused_by_rule
