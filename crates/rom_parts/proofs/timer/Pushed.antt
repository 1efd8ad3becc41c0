-- RAM with the two bytes that the interrupt routine pushes.
use Rattle.std.proofs.Common.{◌≡◌, ℕ, ◌+◌, ◌<◌, ◌≤◌, ◌⊎◌, inl, inr, refl, sym, ◌∙◌, ap, subst, arith, false, List, slice_index, slice_set, length, length-set, get_or-set_same, get_or-set_other}
use Rattle.std.proofs.lemmas.Bool.{cases_eq}
use Rattle.machine.specs.Memory.{read, written}
use Rattle.rom_law.proofs.Moves.{read_ram, written_is}

-- u at a + 1, and then v at a
abbrev pub pushed : List ℕ → ℕ → ℕ → ℕ → List ℕ
pushed ram a u v = written false (written false ram (a + 1) u) a v

module _ (ram : List ℕ) (a u v : ℕ) (size : length ram ≡ 0x1000) (fits : a + 1 < 0x1000) where
  is_set : pushed ram a u v ≡ slice_set (slice_set ram (a + 1) u) a v
  is_set = rw (written_is ram (a + 1) u fits, written_is (slice_set ram (a + 1) u) a v (omega arith)) refl

  pub as_long : length (pushed ram a u v) ≡ length ram
  as_long = ap length is_set ∙ length-set (slice_set ram (a + 1) u) a v ∙ length-set ram (a + 1) u

  at_low : slice_index (pushed ram a u v) a ≡ v
  at_low = ap (λ l. slice_index l a) is_set ∙ get_or-set_same (slice_set ram (a + 1) u) a v 0 (omega (arith, length-set ram (a + 1) u, size))

  at_high : slice_index (pushed ram a u v) (a + 1) ≡ u
  at_high =
      ap (λ l. slice_index l (a + 1)) is_set ∙ get_or-set_other (slice_set ram (a + 1) u) a (a + 1) v 0 (λ e. omega arith)
      ∙ get_or-set_same ram (a + 1) u 0 (omega (arith, size))

  pub read_low : (rom : List ℕ) → read rom false (pushed ram a u v) a ≡ v
  read_low rom = read_ram rom (pushed ram a u v) a (omega arith) ∙ at_low

  pub read_high : (rom : List ℕ) → read rom false (pushed ram a u v) (a + 1) ≡ u
  read_high rom = read_ram rom (pushed ram a u v) (a + 1) fits ∙ at_high

  pub others : (j : ℕ) → (a ≤ j → a + 1 < j) → slice_index (pushed ram a u v) j ≡ slice_index ram j
  others j h =
      ap (λ l. slice_index l j) is_set ∙ get_or-set_other (slice_set ram (a + 1) u) a j v 0 (λ e. omega (arith, h))
      ∙ get_or-set_other ram (a + 1) j u 0 (λ e. omega (arith, h))

  pub bytes_fit : u < 256 → v < 256 → ((j : ℕ) → slice_index ram j < 256) → (j : ℕ) → slice_index (pushed ram a u v) j < 256
  bytes_fit hu hv h j = go (cases_eq j a) (cases_eq j (a + 1))
    where
      go : (j ≡ a) ⊎ (j ≡ a → ⊥) → (j ≡ a + 1) ⊎ (j ≡ a + 1 → ⊥) → slice_index (pushed ram a u v) j < 256
      go (inl e) f = subst (λ i. slice_index (pushed ram a u v) i < 256) (sym e) (subst (λ z. z < 256) (sym at_low) hv)
      go (inr d) (inl e) = subst (λ i. slice_index (pushed ram a u v) i < 256) (sym e) (subst (λ z. z < 256) (sym at_high) hu)
      go (inr d) (inr f) =
          subst (λ z. z < 256) (sym (ap (λ l. slice_index l j) is_set ∙ get_or-set_other (slice_set ram (a + 1) u) a j v 0 (λ e. d e)
          ∙ get_or-set_other ram (a + 1) j u 0 (λ e. f e))) (h j)
