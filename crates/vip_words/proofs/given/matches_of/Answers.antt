use Rattle.vip_words.proofs.Parses.{faultless, faulty, rows_found}
use Rattle.vip_words.proofs.given.matches_of.Goals as goal

pub returns-in-Ok-try_get_matches_from-clause-taken :
    goal.returns-in-Ok-try_get_matches_from-clause-taken
returns-in-Ok-try_get_matches_from-clause-taken c =
    faultless c.in-Ok-try_get_matches_from.matches _ c.args.verb.now c.args.places _ c.in-Ok.ensures
    c.in-Ok-try_get_matches_from.ensures.kinds

pub returns-in-Ok-try_get_matches_from-clause-rows :
    goal.returns-in-Ok-try_get_matches_from-clause-rows
returns-in-Ok-try_get_matches_from-clause-rows c =
    rows_found c.in-Ok-try_get_matches_from.matches _ c.args.verb.now c.args.places _ c.in-Ok.ensures
    c.in-Ok-try_get_matches_from.ensures.matches

pub returns-clause-refused : goal.returns-clause-refused
returns-clause-refused c = λ _.
    faulty c.in-Err.error _ c.args.verb.now c.args.places _ c.in-Ok.ensures c.in-Err.ensures.kinds
    (λ memory. let same = rw (c.kind.ensures, memory) at c.eq.ensures in let differs = c.if-eq.false in cc)
