use Rattle.std.proofs.Common.{◌≡◌, ◌∙◌, sym, true, string_bytes}
use Rattle.std.specs.Prelude.{bytes_eq}
use Rattle.vip_words.proofs.LoopLemmas.{once_found}
use Rattle.vip_words.proofs.broken.is_once.Goals as goal

pub returns-then-eq : goal.returns-then-eq
returns-then-eq c =
    let text = c.as_str.ensures.value in
    let equal = c.eq.ensures in
    let holds = c.if-eq.true in
    let same : bytes_eq (string_bytes c.index-words-i.result) c.args.option.now ≡ true = cc in
    sym (once_found c.args.words.now c.loop-i.i c.index-words-i.result c.args.option.now c.is_given.result c.loop-i-test.true c.index-words-i.is same c.is_given.ensures)
    ∙ c.loop-i.invariant
