use Rattle.std.proofs.Common.{◌∷◌, map}
use Rattle.game_check.proofs.Lines.{AreReadUpTo}
use Rattle.game_check.proofs.checker.line.read_numbers.Given as goal

abbrev pub invariant-loop-word : goal.invariant-loop-word
invariant-loop-word l = AreReadUpTo (l.first ∷ l.initial.word-iterator) (l.first ∷ map (λ word. word.now) l.yielded) l.word-iterator l.numbers.items
