use Rattle.std.proofs.Common.{arith, sym, ap, ◌∙◌, ◌≡◌, false, below_more}
use Rattle.asm_lex.specs.Words.{mnemonic_at}
use Rattle.asm_lex.specs.Bytes.{spells}
use Rattle.asm_lex.proofs.Opcodes.{named_first, named_none, none_spelled}
use Rattle.asm_lex.proofs.words.opcode.Goals as goal

pub returns-then-spells : goal.returns-then-spells
unfolding mnemonic_at
returns-then-spells c = sym (named_first c.args.word.now c.loop-opcode.opcode (omega arith) c.loop-opcode.invariant
    (ap (spells c.args.word.now) (sym c.mnemonic.ensures) ∙ sym c.spells.ensures ∙ c.if-spells.true))

pub returns-else-spells : goal.returns-else-spells
unfolding mnemonic_at
returns-else-spells c =
    let here : spells c.args.word.now (mnemonic_at c.loop-opcode.opcode) ≡ false =
    ap (spells c.args.word.now) (sym c.mnemonic.ensures) ∙ sym c.spells.ensures ∙ c.if-spells.false in
    let all = below_more (λ k. spells c.args.word.now (mnemonic_at k) ≡ false) c.loop-opcode.opcode c.loop-opcode.invariant here in
    sym (named_none c.args.word.now (λ k below. all k (omega arith)))

pub loop-opcode-preserved : goal.loop-opcode-preserved
unfolding mnemonic_at
loop-opcode-preserved c =
    let here : spells c.args.word.now (mnemonic_at c.loop-opcode.opcode) ≡ false =
    ap (spells c.args.word.now) (sym c.mnemonic.ensures) ∙ sym c.spells.ensures ∙ c.if-spells.false in
    below_more (λ k. spells c.args.word.now (mnemonic_at k) ≡ false) c.loop-opcode.opcode c.loop-opcode.invariant here

pub returns-then-not-is_short : goal.returns-then-not-is_short
returns-then-not-is_short c = sym (none_spelled c.args.word.now (sym c.is_short.ensures ∙ c.if-not-is_short.true))
