use Rattle.std.proofs.Common.{sym, ap, subst, ◌∙◌, Option}
use Rattle.std.specs.Prelude.{IfSome}
use Rattle.asm_lex.specs.declared.shape.SymbolValue.{SymbolValue}
use Rattle.asm_lex.specs.Names.{value_in, IsValue}
use Rattle.asm_lex.proofs.NameTree.{value_in-shown}
use Rattle.asm_lex.proofs.names.Symbols.get.Goals as goal

pub returns-clause-value : goal.returns-clause-value
returns-clause-value c =
    c.copied.ensures ∙ c.get.ensures.value ∙ sym (value_in-shown c.self.inside.tree.entries c.args.name.now)
    ∙ ap (λ names. value_in names c.args.name.now) c.self.view_is

pub returns-clause-within : goal.returns-clause-within
returns-clause-within c =
    let P : Option SymbolValue → Type 0 = λ value. IfSome value IsValue in
    subst P (sym (c.copied.ensures ∙ c.get.ensures.value ∙ sym (value_in-shown c.self.inside.tree.entries c.args.name.now)))
    (c.self.invariant.0 c.args.name.now)
