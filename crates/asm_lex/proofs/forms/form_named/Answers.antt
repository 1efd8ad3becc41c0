use Rattle.std.proofs.Common.{ap, ◌∙◌}
use Rattle.std.specs.Prelude.{find}
use Rattle.chip8_words.specs.Table.{mnemonic_of}
use Rattle.asm_lex.specs.Bytes.{spells}
use Rattle.asm_lex.specs.Forms.{form_named}
use Rattle.asm_lex.proofs.forms.form_named.Goals as goal

pub returns : goal.returns
unfolding form_named
returns c = c.first_named.ensures ∙ ap (find (λ form. spells c.args.word.now (mnemonic_of form))) c.forms.ensures
