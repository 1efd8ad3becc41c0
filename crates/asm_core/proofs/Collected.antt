-- The values of operands while they are collected.
use Rattle.std.proofs.Common.{◌≡◌, ◌∙◌, ◌<◌, ◌+◌, ℕ, ap, sym, append_assoc, add-one, drop, drop-cons, get_or, length, refl, Bool, List, [], ◌∷◌, ◌++◌, true, false, cond, Ok, Err, Result}
use Rattle.std.specs.Prelude.{map, not, ◌||◌, is_err}
use Rattle.std.specs.List.{list_any}
use Rattle.std.specs.Result.{result_unwrap_or}
use Rattle.asm_lex.specs.declared.shape.ValueFault.{ValueFault}
use Rattle.asm_lex.specs.declared.shape.ValueFault.TheVariants.{Undefined, Range}
use Rattle.asm_core.specs.Encoding.{is_undefined, collected}

abbrev pub values_in : List (Result ℕ ValueFault) → List ℕ
values_in results = map (λ result. result_unwrap_or result 0) results

-- all values, where those so far and whether each of them was in its range are known
abbrev pub collect_from : Bool → List ℕ → List (Result ℕ ValueFault) → Result (List ℕ) ValueFault
collect_from in_range values results =
    cond (list_any is_undefined results) (Err Undefined)
    (cond (not in_range || list_any is_err results) (Err Range) (Ok (values ++ values_in results)))

pub collect_none : (results : List (Result ℕ ValueFault)) → collect_from true [] results ≡ collected results
unfolding collected
collect_none results = refl

-- an operand that has a value, and one whose value is out of its range
pub collect_value : (in_range : Bool) (values : List ℕ) (value : ℕ) (results : List (Result ℕ ValueFault))
    → collect_from in_range (values ++ value ∷ []) results ≡ collect_from in_range values (Ok value ∷ results)
collect_value in_range values value results =
    ap (λ values. cond (list_any is_undefined results) (Err Undefined) (cond (not in_range || list_any is_err results) (Err Range) (Ok values)))
    (append_assoc values (value ∷ []) (values_in results))

pub collect_range : (in_range : Bool) (values : List ℕ) (results : List (Result ℕ ValueFault))
    → collect_from false values results ≡ collect_from in_range values (Err Range ∷ results)
collect_range true values results = refl
collect_range false values results = refl

-- the element where a walk stands, and those after it
pub drop_next : {A B : Type 0} (f : A → B) (xs : List A) (i : ℕ) (d : A) → i < length xs
    → map f (drop i xs) ≡ f (get_or xs i d) ∷ map f (drop (i + 1) xs)
drop_next f xs i d below =
    ap (map f) (drop-cons xs i d below) ∙ ap (λ next. f (get_or xs i d) ∷ map f (drop next xs)) (sym (add-one i))
