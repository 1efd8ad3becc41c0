-- A text that is joined item by item.
use Rattle.std.proofs.Common.{◌≡◌, ◌∙◌, ◌<◌, ◌≤◌, ◌+◌, ◌++◌, ℕ, List, ap, sym, length, take, get_or}
use Rattle.std.proofs.lemmas.List.{flat_map_more, take_all, take_more}
use Rattle.std.specs.List.{flat_map}

module _ {X : Type 0} (f : X → List ℕ) (front : List ℕ) (items : List X) (i : ℕ) (text : List ℕ) where
  -- the next item behind those that were gone through
  pub one_more : (d : X) → text ≡ front ++ flat_map f (take i items) → i < length items
      → text ++ f (get_or items i d) ≡ front ++ flat_map f (take (i + 1) items)
  one_more d is within =
      ap (λ text. text ++ f (get_or items i d)) is
      ∙ (flat_map_more f front (take i items) (get_or items i d) ∙ ap (λ items. front ++ flat_map f items) (sym (take_more items i d within)))

  -- all of them
  pub all_joined : text ≡ front ++ flat_map f (take i items) → length items ≤ i → text ≡ front ++ flat_map f items
  all_joined is past = is ∙ ap (λ items. front ++ flat_map f items) (take_all i items past)
