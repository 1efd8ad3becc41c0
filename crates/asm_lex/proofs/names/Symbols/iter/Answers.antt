use Rattle.std.proofs.Common.{subst}
use Rattle.std.specs.List.Sorted.{IsStrictlySortedBy}
use Rattle.std.specs.Map.{keys_of}
use Rattle.std.specs.Ordering.{nat_cmp}
use Rattle.std.specs.Cmp.Lexicographic.{slice_cmp}
use Rattle.asm_lex.proofs.NameTree.{shown_in_order}
use Rattle.asm_lex.proofs.names.Symbols.iter.Goals as goal

pub returns-clause-ordered : goal.returns-clause-ordered
returns-clause-ordered c =
    subst (λ names. IsStrictlySortedBy (slice_cmp nat_cmp) (keys_of names)) c.self.view_is
    (shown_in_order c.self.inside.tree.entries c.iter.ensures.ordered)
