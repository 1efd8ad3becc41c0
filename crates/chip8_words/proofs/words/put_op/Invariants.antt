use Rattle.std.proofs.Common.{◌≡◌, ◌++◌, drop}
use Rattle.chip8_words.specs.Words.{op_text, operands_text}
use Rattle.chip8_words.proofs.words.put_op.Given as goal

-- with the operands that are left the text is whole
abbrev pub invariant-loop-operand : goal.invariant-loop-operand
invariant-loop-operand l = l.into.items ++ operands_text l.op l.lead (drop l.operand-index l.operand-items) ≡ op_text l.op
