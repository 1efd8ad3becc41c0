use Rattle.std.proofs.Common.{◌≡◌, ◌∙◌, arith, sym, drop, ap}
use Rattle.std.proofs.lemmas.Bool.{eqb-true, eqb-false}
use Rattle.std.specs.List.{prefix_len}
use Rattle.vip_byte.specs.Text.{is_blank}
use Rattle.vip_byte.proofs.TextLemmas.{words_none, words_split}
use Rattle.vip_byte.proofs.line.first_word.Goals as goal

pub returns-then-is_empty : goal.returns-then-is_empty
returns-then-is_empty c =
    let line = c.args.line.now in
    let empty = eqb-true _ _ (sym c.is_empty.ensures ∙ c.if-is_empty.true) in
    let trimmed : c.split_at.result.1.now ≡ drop (prefix_len is_blank line) line =
    c.split_at.ensures.back ∙ ap (λ n. drop n line) c.blanks_len.ensures.end in
    words_none line (rw (← trimmed, ← c.word_len.ensures.end) (omega (arith, empty, c.split_at-2.ensures.front_len)))

pub returns-else-is_empty : goal.returns-else-is_empty
returns-else-is_empty c =
    let some = eqb-false _ _ (sym c.is_empty.ensures ∙ c.if-is_empty.false) in
    let cut = c.split_at-2.ensures in
    words_split c.args.line.now c.split_at.result.1.now c.split_at-2.result.0.now c.split_at-2.result.1.now c.word_len.result
    (c.split_at.ensures.back ∙ ap (λ n. drop n c.args.line.now) c.blanks_len.ensures.end) c.word_len.ensures.end c.word_len.ensures.within cut.front
    cut.back (omega (arith, some, cut.front_len))
