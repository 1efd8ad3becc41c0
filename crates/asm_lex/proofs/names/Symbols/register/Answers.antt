use Rattle.std.proofs.Common.{◌≡◌, ◌∙◌, ℕ, List, None, subst, sym}
use Rattle.asm_lex.specs.declared.shape.SymbolValue.{SymbolValue}
use Rattle.asm_lex.specs.Names.{value_in, register_named}
use Rattle.asm_lex.proofs.NameTree.{value_in-shown, none_of}
use Rattle.asm_lex.proofs.names.Symbols.register.Goals as goal

pub returns-then-not-contains_key-clause-number : goal.returns-then-not-contains_key-clause-number
returns-then-not-contains_key-clause-number c =
    let P : List (List ℕ × SymbolValue) → Type 0 = λ names. None ≡ register_named (value_in names) c.args.name.now in
    let none = none_of _ (sym c.contains_key.ensures ∙ c.if-not-contains_key.true) in
    subst P c.self.view_is
    (sym (c.self.invariant.1 c.args.name.now (value_in-shown c.self.inside.registers.entries c.args.name.now ∙ none)))
