use Rattle.std.proofs.Common.{refl, sym, [], ◌∷◌, ◌∙◌}
use Rattle.std.proofs.lemmas.Bool.{eqb-true}
use Rattle.game_check.proofs.Lines.{claim-full, claim-none, claim-whole}
use Rattle.game_check.proofs.checker.line.read_numbers.Goals as goal

pub returns-in_err-read_word : goal.returns-in_err-read_word
returns-in_err-read_word c =
    rw c.from_residual.ensures
    (claim-none (c.args.first.now ∷ c.args.words) [] c.args.first.now c.args.words [] (record { whole = refl; words = refl; worth = refl })
    (sym c.in_err-read_word.ensures))

pub returns-in_err-number : goal.returns-in_err-number
returns-in_err-number c =
    let so_far = rw (c.into_iter-word-iterator.ensures.into_iter_gives, c.in-Some.ensures.steps) at c.loop-word.invariant in
    rw c.from_residual-in_err-number.ensures (claim-none _ _ c.in-Some.word.now c.next.new.self c.loop-word.numbers.items so_far (sym c.in_err-number.ensures))

pub returns-then-is_full : goal.returns-then-is_full
returns-then-is_full c =
    let so_far = rw (c.into_iter-word-iterator.ensures.into_iter_gives, c.in-Some.ensures.steps) at c.loop-word.invariant in
    claim-full _ _ c.in-Some.word.now c.next.new.self c.loop-word.numbers.items so_far (eqb-true _ 15 (sym c.is_full.ensures.value ∙ c.if-is_full.true))

pub returns : goal.returns
returns c =
    let so_far = rw (c.into_iter-word-iterator.ensures.into_iter_gives, c.in-None.ensures.steps.0) at c.loop-word.invariant in
    claim-whole _ _ c.loop-word.numbers.items so_far
