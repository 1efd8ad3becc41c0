use Rattle.std.proofs.Common.{◌≡◌, ◌∙◌, ℕ, List, Option, None, Global, Result, Ok, Err, get_or, replicate, length, arith, ap, inl, inr, rules}
use Rattle.std.specs.Prelude.{Vec, IfOk}
use Rattle.std.proofs.lemmas.Bool.{cases_lt}
use Rattle.std.proofs.lemmas.List.{get_or-replicate, get_or_past, length-replicate}
use Rattle.asm_core.specs.declared.table.Cell.{Cell}
use Rattle.asm_core.proofs.table.empty_table.Goals as goal

none_in : (n : ℕ) (cells : List (Option Cell)) → cells ≡ replicate n None → (address : ℕ) → get_or cells address None ≡ None
none_in n cells is address =
    elim (cases_lt address n) [
      | inl below ↦ ap (λ cells. get_or cells address None) is ∙ get_or-replicate n address None None below
      | inr past ↦ get_or_past cells address None (omega (arith, ap length is ∙ length-replicate n None, past))
    ]

none : {E : Type 0} (n : ℕ) (r : Result (Vec (Option Cell) Global) E) (P : Type 0) → IfOk r (λ cells. P → cells.items ≡ replicate n None) → P
    → IfOk r (λ cells. (address : ℕ) → get_or cells.items address None ≡ None)
none n (Ok cells) P made p = none_in n cells.items (made p)
none n (Err e) P made p = tt

pub returns-clause-empty : goal.returns-clause-empty
returns-clause-empty c = none 65536 c.vec.result _ c.vec.ensures.items_if_clones_equal (λ cell same. search rules)
