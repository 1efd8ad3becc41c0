use Rattle.std.proofs.Common.{ℕ, List, subst}
use Rattle.asm_lex.specs.declared.shape.SymbolValue.{SymbolValue}
use Rattle.asm_lex.specs.Names.{value_in, HasValues}
use Rattle.asm_lex.proofs.names.Symbols.have_values.Goals as goal

pub returns : goal.returns
returns c =
    let P : List (List ℕ × SymbolValue) → Type 0 = λ names. HasValues (value_in names) in
    subst P c.self.view_is c.self.invariant.0
