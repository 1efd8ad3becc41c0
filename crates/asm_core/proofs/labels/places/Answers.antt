use Rattle.std.proofs.Common.{◌≡◌, ◌<◌, ℕ, Global, Result, Ok, Err, get_or, replicate}
use Rattle.std.specs.Prelude.{Vec, IfOk}
use Rattle.std.proofs.lemmas.List.{get_or-replicate}
use Rattle.asm_core.proofs.labels.places.Goals as goal

each : {E : Type 0} (count place : ℕ) (r : Result (Vec ℕ Global) E) (P : Type 0) → IfOk r (λ places. P → places.items ≡ replicate count place) → P
    → IfOk r (λ places. (i : ℕ) → i < count → get_or places.items i 0 ≡ place)
each count place (Ok places) P made p = λ i below. rw (made p) (get_or-replicate count i place 0 below)
each count place (Err e) P made p = tt

pub returns-clause-all : goal.returns-clause-all
returns-clause-all c = each c.args.count c.args.place c.vec.result _ c.vec.ensures.items_if_clones_equal (λ y same. same)
