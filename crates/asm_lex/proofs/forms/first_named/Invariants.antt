use Rattle.std.proofs.Common.{◌≡◌, drop}
use Rattle.std.specs.Prelude.{find}
use Rattle.chip8_words.specs.Table.{mnemonic_of}
use Rattle.asm_lex.specs.Bytes.{spells}
use Rattle.asm_lex.proofs.forms.first_named.Given as goal

-- the first form that the word names is the first of those that are left
abbrev pub invariant-loop-form : goal.invariant-loop-form
invariant-loop-form l = find (λ form. spells l.word (mnemonic_of form)) (drop l.form-index l.forms) ≡ find (λ form. spells l.word (mnemonic_of form)) l.forms
