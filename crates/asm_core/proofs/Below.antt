-- The greatest address of a label at or below an address.
use Rattle.std.proofs.Common.{◌≡◌, ◌≢◌, ◌==◌, ◌<◌, ◌≤◌, ◌+◌, ℕ, zero, suc, refl, List, [], ◌∷◌, ◌++◌, length, drop, get_or, sym, ◌∙◌, ap, arith, None, Some, Option, true, false, append-nil}
use Rattle.std.specs.Prelude.{filter, nat_lt}
use Rattle.std.specs.List.{last_or, range_with_len}
use Rattle.std.proofs.lemmas.Bool.{cond-true, cond-false, eq-eqb, lt-ltb}
use Rattle.std.proofs.lemmas.List.{drop_all, drop_more}
use Rattle.std.proofs.lemmas.List.Elements.{filter-append}
use Rattle.vip_byte.proofs.RangeLemmas.{range_with_len-more}
use Rattle.asm_core.specs.Labels.{Leads, has_label, labels_at, label_below}
use Rattle.asm_core.proofs.Marking.{Marks, mark_at}

last-snoc : (o : Option ℕ) (xs : List ℕ) (x : ℕ) → last_or o (xs ++ x ∷ []) ≡ Some x
last-snoc o [] x = refl
last-snoc o (y ∷ ys) x = last-snoc (Some y) ys x

module _ (labels : Marks) where
  -- the last of so many addresses that has a label
  abbrev pub last_below : ℕ → Option ℕ
  last_below count = last_or None (filter (has_label labels) (range_with_len 0 count))

  split : (n : ℕ) → last_below (n + 1) ≡ last_or None (filter (has_label labels) (range_with_len 0 n) ++ filter (has_label labels) (n ∷ []))
  split n =
      ap (λ range. last_or None (filter (has_label labels) range)) (range_with_len-more n)
      ∙ ap (last_or None) (filter-append (has_label labels) (range_with_len 0 n) (n ∷ []))

  pub below-here : (n : ℕ) → has_label labels n ≡ true → last_below (n + 1) ≡ Some n
  below-here n has =
      split n
      ∙ ap (λ one. last_or None (filter (has_label labels) (range_with_len 0 n) ++ one)) (cond-true (has_label labels n) (n ∷ []) [] has)
      ∙ last-snoc None (filter (has_label labels) (range_with_len 0 n)) n

  pub below-more : (n : ℕ) → has_label labels n ≡ false → last_below (n + 1) ≡ last_below n
  below-more n none =
      split n
      ∙ ap (λ one. last_or None (filter (has_label labels) (range_with_len 0 n) ++ one)) (cond-false (has_label labels n) (n ∷ []) [] none)
      ∙ ap (last_or None) (append-nil (filter (has_label labels) (range_with_len 0 n)))

  pub below-first : (address : ℕ) → label_below labels address ≡ last_below (address + 1)
  unfolding label_below
  below-first address = refl

  -- where the labels of an address begin, if there are some
  pub leads-inside : (to address : ℕ) → Leads labels 0 to address → to < length labels → has_label labels address ≡ true
  leads-inside to address leads inside =
      let found : labels_at labels address ≡ mark_at labels to ∷ labels_at (drop (to + 1) labels) address =
      leads.same
      ∙ ap (λ rest. labels_at rest address) (drop_more labels to (0, []) inside)
      ∙ cond-true ((mark_at labels to).0 == address) (mark_at labels to ∷ labels_at (drop (to + 1) labels) address) (labels_at (drop (to + 1) labels) address)
      (eq-eqb (mark_at labels to).0 address (leads.here inside)) in
      lt-ltb 0 (length (labels_at labels address)) (omega (arith, ap length found))

  pub leads-outside : (to address : ℕ) → Leads labels 0 to address → length labels ≤ to → has_label labels address ≡ false
  leads-outside to address leads past =
      ap (λ found. nat_lt 0 (length found)) (leads.same ∙ ap (λ rest. labels_at rest address) (drop_all to labels past))

-- without labels there is none
none-of : (n : ℕ) → last_below [] n ≡ None
none-of zero = refl
none-of (suc n) = let more : suc n ≡ n + 1 = omega arith in ap (last_below []) more ∙ below-more [] n refl ∙ none-of n

pub none-below : (labels : Marks) (address : ℕ) → length labels ≡ 0 → label_below labels address ≡ None
none-below [] address none = below-first [] address ∙ none-of (address + 1)
none-below (label ∷ labels) address none = absurd (omega (arith, none))
