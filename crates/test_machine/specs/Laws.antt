-- What calls make of the plain memory, and the laws of a bus for it.
use Rattle.std.proofs.Common.{◌≡◌, ◌≢◌, ◌⊎◌, inl, inr, ℕ, zero, suc, List, [], ◌∷◌, slice_index, slice_set, refl, get_or-set_other}
use Rattle.test_machine.specs.declared.processor.test_bus.TestBus.{TestBus}

-- a byte is written, or nothing happens
abbrev pub Stores : TestBus → ℕ → ℕ → TestBus → Type 0
Stores b a v c = (c.bytes.items ≡ b.bytes.items) ⊎ (c.bytes.items ≡ slice_set b.bytes.items a v)

abbrev pub Keeps : TestBus → TestBus → Type 0
Keeps b c = c.bytes.items ≡ b.bytes.items

same_or_put : (l : List ℕ) (a v : ℕ) → (slice_index (slice_set l a v) a ≡ v) ⊎ (slice_index (slice_set l a v) a ≡ slice_index l a)
same_or_put [] a v = inr refl
same_or_put (x ∷ xs) zero v = inl refl
same_or_put (x ∷ xs) (suc a) v = same_or_put xs a v

pub stores-keeps : (b : TestBus) (a v : ℕ) (c : TestBus) → Stores b a v c → (k : ℕ) → k ≢ a → slice_index c.bytes.items k ≡ slice_index b.bytes.items k
stores-keeps b a v c (inl e) k h = rw e refl
stores-keeps b a v c (inr e) k h = rw e (get_or-set_other b.bytes.items a k v 0 h)

pub stores-puts : (b : TestBus) (a v : ℕ) (c : TestBus) → Stores b a v c
    → (slice_index c.bytes.items a ≡ v) ⊎ (slice_index c.bytes.items a ≡ slice_index b.bytes.items a)
stores-puts b a v c (inl e) = rw e (inr refl)
stores-puts b a v c (inr e) = rw e (same_or_put b.bytes.items a v)

pub keeps-keeps : (b : TestBus) (p v : ℕ) (c : TestBus) → Keeps b c → (k : ℕ) → slice_index c.bytes.items k ≡ slice_index b.bytes.items k
keeps-keeps b p v c e k = rw e refl
