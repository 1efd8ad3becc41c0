-- Bytes that are stored and fetched one at a time, and which addresses they have.
use Rattle.std.proofs.Common.{◌≡◌, ℕ, zero, suc, ◌+◌, ◌-◌, ◌<◌, ◌≤◌, ◌⊎◌, inl, inr, refl, sym, ◌∙◌, ap, ap₂, arith, true, List, [], ◌∷◌, ◌++◌, length, take, drop, slice_index, slice_set, length-take-le, length-drop, length-append}
use Rattle.std.proofs.lemmas.Bool.{and_parts, or_cases, leb-true}
use Rattle.std.proofs.lemmas.List.{take_more}
use Rattle.chip8_lang.specs.declared.view.Edition.{Edition}
use Rattle.chip8_lang.specs.Editions.{memory_start, memory_end, font_start, font_end, variables}
use Rattle.chip8_lang.specs.State.{Lang, readable_byte, is_in_memory, is_in_font}
use Rattle.chip8_lang.specs.Step.{is_readable, stored, bytes_from}
use Rattle.rom_law.specs.Program.{Program}
use Rattle.rom_law.specs.Holding.{Places, Holding}
use Rattle.rom_law.proofs.Places.{range_length, variables_below, screen_below}
use Rattle.rom_rows.proofs.Font.{Readable}

-- one byte more is stored
stored_more : (m : List ℕ) (p : ℕ) (l : List ℕ) (y : ℕ) → stored m p (l ++ y ∷ []) ≡ slice_set (stored m p l) (p + length l) y
stored_more m p [] y = let e : p ≡ p + 0 = omega arith in ap (λ k. slice_set m k y) e
stored_more m p (z ∷ l) y =
    let e : p + 1 + length l ≡ p + suc (length l) = omega arith in stored_more (slice_set m p z) (p + 1) l y
    ∙ ap (λ k. slice_set (stored (slice_set m p z) (p + 1) l) k y) e

pub stored_next : (m : List ℕ) (p : ℕ) (v : List ℕ) (k : ℕ) → k < length v
    → slice_set (stored m p (take k v)) (p + k) (slice_index v k) ≡ stored m p (take (suc k) v)
stored_next m p v k l =
    sym (ap (stored m p) taken ∙ stored_more m p (take k v) (slice_index v k)
    ∙ ap (λ j. slice_set (stored m p (take k v)) (p + j) (slice_index v k)) (length-take-le k v (omega (arith, l))))
  where
    taken : take (suc k) v ≡ take k v ++ slice_index v k ∷ []
    taken = let e : suc k ≡ k + 1 = omega arith in ap (λ n. take n v) e ∙ take_more v k 0 l

-- one byte more is fetched
pub fetched_next : (s : Lang) (a : ℕ) (v : List ℕ) (k : ℕ) → k < length v
    → slice_set (bytes_from s a k ++ drop k v) k (readable_byte s (a + k)) ≡ bytes_from s a (suc k) ++ drop (suc k) v
fetched_next s a [] k l = absurd (omega (arith, l))
fetched_next s a (y ∷ v) zero l = let e : a + 0 ≡ a = omega arith in ap (λ z. readable_byte s z ∷ v) e
fetched_next s a (y ∷ v) (suc k) l =
    let e : a + suc k ≡ a + 1 + k = omega arith in
    ap (λ z. readable_byte s a ∷ slice_set (bytes_from s (a + 1) k ++ drop k v) k (readable_byte s z)) e
    ∙ ap (λ z. readable_byte s a ∷ z) (fetched_next s (a + 1) v k (omega (arith, l)))

pub fetched_length : (s : Lang) (a k : ℕ) (v : List ℕ) → length (bytes_from s a k ++ drop k v) ≡ k + (length v - k)
fetched_length s a k v = length-append (bytes_from s a k) (drop k v) ∙ ap₂ (λ n m. n + m) (go a k) (length-drop k v)
  where
    go : (a k : ℕ) → length (bytes_from s a k) ≡ k
    go a zero = refl
    go a (suc k) = ap suc (go (a + 1) k)

-- V0 to VF are sixteen
pub v_length : {x : Program} {p : Places} {s : Lang} → Holding x p s → length s.v ≡ 16
v_length {x = x} {p = p} h =
    ap (λ (z : Lang). length z.v) (sym h.is)
    ∙ range_length (variables x.edition) (variables x.edition + 16) p.ram (omega (arith, h.size, variables_below x.edition, screen_below x.edition))
    ∙ omega arith

-- ---- addresses

pub memory_bounds : (e : Edition) (a n : ℕ) → is_in_memory e a n ≡ true → (memory_start ≤ a) × (a + n ≤ memory_end e)
memory_bounds e a n h = let p = and_parts _ _ h in (leb-true _ _ p.0, leb-true _ _ p.1)

font_bounds : (a n : ℕ) → is_in_font a n ≡ true → (font_start ≤ a) × (a + n ≤ font_end)
font_bounds a n h = let p = and_parts _ _ h in (leb-true _ _ p.0, leb-true _ _ p.1)

pub readable_at : (e : Edition) (a n k : ℕ) → k < n → is_readable e a n ≡ true → Readable e (a + k)
readable_at e a n k l h = go (or_cases (is_in_memory e a n) (is_in_font a n) h)
  where
    go : (is_in_memory e a n ≡ true) ⊎ (is_in_font a n ≡ true) → Readable e (a + k)
    go (inl y) = let p = memory_bounds e a n y in inl (omega (arith, p.0), omega (arith, p.1, l))
    go (inr y) = let p = font_bounds a n y in inr (omega (arith, p.0), omega (arith, p.1, l))
