-- A tree of names, seen as the list of its entries.
use Rattle.std.proofs.Common.{◌≡◌, ℕ, refl, Bool, List, [], ◌∷◌, sym, ◌∙◌, ap, true, false, cond, Some, None, Option, subst, Global}
use Rattle.std.specs.Prelude.{map, Vec, IfSome, is_some}
use Rattle.std.specs.List.{AllByRecursion}
use Rattle.std.specs.List.Sorted.{IsStrictlySortedBy}
use Rattle.std.specs.Map.{lookup, keys_of, KeepsOthers}
use Rattle.std.specs.Ordering.{is_eq, nat_cmp, eq_by_cmp}
use Rattle.std.specs.Cmp.Lexicographic.{slice_cmp}
use Rattle.std.specs.declared.cmp.Ordering.{Ordering}
use Rattle.std.specs.declared.cmp.Ordering.TheVariants.{Less}
use Rattle.std.specs.Str.{bytes_eq}
use Rattle.std.proofs.lemmas.Map.Text.{is_eq-slice_cmp}
use Rattle.std.proofs.lemmas.Bool.{and_parts, and_from, eqb-true, eq-eqb, false_from_ne_true, both_ways}
use Rattle.asm_lex.specs.declared.shape.SymbolValue.{SymbolValue}
use Rattle.asm_lex.specs.Names.{Names, value_in, with_name, register_from, IsValue, HasValues, HasRegisters}

pub bytes_same : (xs ys : List ℕ) → bytes_eq xs ys ≡ true → xs ≡ ys
bytes_same [] [] e = refl
bytes_same [] (y ∷ ys) e = absurd (cc)
bytes_same (x ∷ xs) [] e = absurd (cc)
bytes_same (x ∷ xs) (y ∷ ys) e = ap (λ z. z ∷ xs) (eqb-true x y (and_parts _ _ e).0) ∙ ap (λ zs. y ∷ zs) (bytes_same xs ys (and_parts _ _ e).1)

pub bytes_self : (xs : List ℕ) → bytes_eq xs xs ≡ true
bytes_self [] = refl
bytes_self (x ∷ xs) = and_from _ _ (eq-eqb x x refl) (bytes_self xs)

pub bytes_apart : (xs ys : List ℕ) → bytes_eq xs ys ≡ false → bytes_eq ys xs ≡ false
bytes_apart xs ys e = false_from_ne_true (bytes_eq ys xs) (λ same.
    both_ways (bytes_eq xs ys) e (ap (bytes_eq xs) (bytes_same ys xs same) ∙ bytes_self xs))

-- a name as it is kept
abbrev pub Key : Type 0
Key = Vec ℕ Global

abbrev pub key_cmp : Key → Key → Ordering
key_cmp x y = slice_cmp nat_cmp x.items y.items

-- whether a key has these bytes
abbrev pub has_bytes : List ℕ → Key → Bool
has_bytes bytes key = is_eq (slice_cmp nat_cmp bytes key.items)

abbrev pub shown : List (Key × SymbolValue) → List (List ℕ × SymbolValue)
shown entries = map {B = List ℕ × SymbolValue} (λ (entry : Key × SymbolValue). (entry.0.items, entry.1)) entries

pub value_in-shown : (entries : List (Key × SymbolValue)) (name : List ℕ) → value_in (shown entries) name ≡ lookup (has_bytes name) entries
value_in-shown [] name = refl
value_in-shown (e ∷ entries) name =
    ap (λ rest. cond (bytes_eq name e.0.items) (Some e.1) rest) (value_in-shown entries name)
    ∙ ap (λ b. cond b (Some e.1) (lookup (has_bytes name) entries)) (sym (is_eq-slice_cmp name e.0.items))

pub value_in-defined : (old new : List (Key × SymbolValue)) (key : Key) (value : SymbolValue) (other : List ℕ)
    → lookup (has_bytes key.items) new ≡ Some value
    → KeepsOthers (eq_by_cmp key_cmp) (has_bytes key.items) old new
    → value_in (shown new) other ≡ with_name (value_in (shown old)) key.items value other
unfolding KeepsOthers
value_in-defined old new key value other here others =
    value_in-shown new other ∙
    elim (bytes_eq key.items other) as (λ b. bytes_eq key.items other ≡ b → lookup (has_bytes other) new ≡ cond b (Some value) (value_in (shown old) other)) [
      | true ↦ λ e. ap (λ bytes. lookup (has_bytes bytes) new) (sym (bytes_same key.items other e)) ∙ here
      | false ↦ λ e.
          others (has_bytes other)
          (λ x y is. ap (λ bytes. is_eq (slice_cmp nat_cmp bytes y.items)) (bytes_same other x.items (sym (is_eq-slice_cmp other x.items) ∙ is)))
          (λ k is. is_eq-slice_cmp other k.items
          ∙ ap (bytes_eq other) (sym (bytes_same key.items k.items (sym (is_eq-slice_cmp key.items k.items) ∙ is)))
          ∙ bytes_apart key.items other e)
          ∙ sym (value_in-shown old other)
    ] refl

below_all : (key : Key) (entries : List (Key × SymbolValue)) → AllByRecursion (λ other. key_cmp key other ≡ Less) (keys_of entries)
    → AllByRecursion (λ other. slice_cmp nat_cmp key.items other ≡ Less) (keys_of (shown entries))
below_all key [] below = tt
below_all key (e ∷ entries) below = (below.0, below_all key entries below.1)

pub shown_in_order : (entries : List (Key × SymbolValue)) → IsStrictlySortedBy key_cmp (keys_of entries)
    → IsStrictlySortedBy (slice_cmp nat_cmp) (keys_of (shown entries))
unfolding IsStrictlySortedBy
shown_in_order [] order = tt
shown_in_order (e ∷ entries) order = (below_all e.0 entries order.0, shown_in_order entries order.1)

-- a name more whose value is one
pub values_with : (names new : Names) (name : List ℕ) (value : SymbolValue) → HasValues names → IsValue value
    → ((other : List ℕ) → new other ≡ with_name names name value other) → HasValues new
values_with names new name value before is more other =
    let P : Option SymbolValue → Type 0 = λ o. IfSome o IsValue in
    subst P (sym (more other)) (elim (bytes_eq name other) as (λ b. IfSome (cond b (Some value) (names other)) IsValue) [
      | true ↦ is
      | false ↦ before other
    ])

-- nothing is found where it isn't said that something is
pub none_of : {X : Type 0} (found : Option X) → is_some found ≡ false → found ≡ None
none_of None e = refl
none_of (Some x) e = absurd (cc)

-- a name more that was given a register
pub given_more : (given new names : Names) (name : List ℕ) (value : SymbolValue) → ((other : List ℕ) → new other ≡ with_name given name value other)
    → HasRegisters given names → HasRegisters new names
given_more given new names name value more before other none =
    before other (elim (bytes_eq name other) as (λ b. cond b (Some value) (given other) ≡ None → given other ≡ None) [
      | true ↦ λ e. absurd (cc)
      | false ↦ λ e. e
    ] (sym (more other) ∙ none))

pub none_given : (given new : Names) (name : List ℕ) (value : SymbolValue) → ((other : List ℕ) → new other ≡ with_name given name value other)
    → new name ≡ None → register_from (Some value) ≡ None
none_given given new name value more none =
    let some : Some value ≡ None = ap (λ b. cond b (Some value) (given name)) (sym (bytes_self name)) ∙ sym (more name) ∙ none in
    absurd (cc)

-- a name more, which stands for a register only where it was given one
pub registers_with : (given names new : Names) (name : List ℕ) (value : SymbolValue) → HasRegisters given names
    → (given name ≡ None → register_from (Some value) ≡ None)
    → ((other : List ℕ) → new other ≡ with_name names name value other) → HasRegisters given new
registers_with given names new name value before is more other none =
    ap register_from (more other) ∙
    elim (bytes_eq name other) as (λ b. bytes_eq name other ≡ b → register_from (cond b (Some value) (names other)) ≡ None) [
      | true ↦ λ e. is (ap given (bytes_same name other e) ∙ none)
      | false ↦ λ e. before other none
    ] refl
