use Rattle.std.proofs.Common.{◌≡◌, ◌<◌, ℕ, false}
use Rattle.asm_lex.specs.Words.{mnemonic_at}
use Rattle.asm_lex.specs.Bytes.{spells}
use Rattle.asm_lex.proofs.words.opcode.Given as goal

-- the word is the mnemonic of no opcode so far
abbrev pub invariant-loop-opcode : goal.invariant-loop-opcode
invariant-loop-opcode l = (k : ℕ) → k < l.opcode → spells l.word (mnemonic_at k) ≡ false
