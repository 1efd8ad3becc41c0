use Rattle.std.proofs.Common.{◌≤◌, ◌*◌, ◌-◌, ◌≤ℤ◌, ◌+ℤ◌, pos}
use Rattle.asm_lex.specs.Names.{number_named, value_in}
use Rattle.asm_lex.specs.Left.{left, left_length}
use Rattle.asm_lex.proofs.Sums.{Completes}
use Rattle.asm_lex.proofs.expression.sum.Given as goal

-- what is left are terms of the text that complete the sum
abbrev pub invariant-loop-rest : goal.invariant-loop-rest
invariant-loop-rest l = record {
  completes : Completes l.isa (number_named (value_in l.names)) l.here l.text l.sum (left l.rest);
  shorter : left_length (left l.rest) ≤ 256;
  low : pos 0 ≤ℤ (l.sum +ℤ pos (65536 * (256 - left_length (left l.rest))));
  high : l.sum ≤ℤ pos (65536 * (256 - left_length (left l.rest)));
}

abbrev pub decreases-loop-rest : goal.decreases-loop-rest
decreases-loop-rest l = left_length (left l.rest)
