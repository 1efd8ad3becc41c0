use Rattle.std.proofs.Common.{◌≡◌, IfOk, None, Some, option_map, subst, sym}
use Rattle.vip_words.specs.Spelled.{broken_of}
use Rattle.vip_words.proofs.Asked.{broken_of_first}
use Rattle.vip_words.proofs.broken.first_broken.Goals as goal

pub returns-in-None : goal.returns-in-None
returns-in-None c =
    sym (broken_of_first c.args.words.now c.in-Some.first.now c.as_str-word.result.now None c.in-Some.ensures.value c.as_str-word.ensures.value
    c.in-None.ensures)

pub returns-in-Some-of : goal.returns-in-Some-of
returns-in-Some-of c =
    subst (λ due. IfOk c.broken_of_verb.result (λ broken. option_map broken_of broken ≡ due))
    (sym (broken_of_first c.args.words.now c.in-Some.first.now c.as_str-word.result.now (Some c.in-Some-of.verb) c.in-Some.ensures.value
    c.as_str-word.ensures.value c.in-Some-of.ensures))
    c.broken_of_verb.ensures
