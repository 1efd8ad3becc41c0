use Rattle.vip_link.proofs.Law.{always_delivers, numbers_deliver, pairs_deliver, turns_deliver}
use Rattle.vip_link.proofs.laws.every_schedule.Goals as goal

pub returns-clause-always : goal.returns-clause-always
returns-clause-always c = always_delivers

pub returns-clause-turns : goal.returns-clause-turns
returns-clause-turns c = turns_deliver

pub returns-clause-pairs : goal.returns-clause-pairs
returns-clause-pairs c = pairs_deliver

pub returns-clause-numbers : goal.returns-clause-numbers
returns-clause-numbers c = numbers_deliver
