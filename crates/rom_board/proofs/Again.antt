-- The file of the state that an accepted file shows is that file.
use Rattle.std.proofs.Common.{◌≡◌, ℕ, zero, suc, ◌+◌, ◌*◌, ◌/◌, ◌%◌, ◌<◌, ◌≤◌, List, [], ◌∷◌, ◌++◌, length, take, drop, slice_index, refl, sym, ap, ◌∙◌, arith}
use Rattle.std.specs.Prelude.{◌==◌, get_or}
use Rattle.std.specs.Int.{w64, to_be_bytes}
use Rattle.std.proofs.lemmas.List.{take-append-drop}
use Rattle.std.proofs.lemmas.Nat.{be_bytes_8}
use Rattle.chip8_lang.specs.declared.view.Edition.{Edition}
use Rattle.machine.specs.Bit.{bit}
use Rattle.vip_text.specs.StateFile.{shown, bank_in, bytes_at, cycle_in, file_size, head, edition_byte, IsAccepted}
use Rattle.rom_board.specs.Saved.{WritesTheSame}
use Rattle.vip_show.specs.Written.{file_of, head_of, register_bytes}

-- ---- bytes by their places

-- the first bytes, one by one
take_bytes : (k n : ℕ) (f : List ℕ) → k + n ≤ length f → take n (drop k f) ≡ bytes_at f k n
take_bytes k zero f fits = refl
take_bytes zero (suc n) [] fits = absurd (omega (arith, fits))
take_bytes zero (suc n) (b ∷ f) fits = ap (λ bs. b ∷ bs) (take_bytes zero n f (omega (arith, fits)) ∙ shifted zero n)
  where
    shifted : (k n : ℕ) → bytes_at f k n ≡ bytes_at (b ∷ f) (k + 1) n
    shifted k zero = refl
    shifted k (suc n) = grind (arith, shifted (k + 1) n)
take_bytes (suc k) n [] fits = absurd (omega (arith, fits))
take_bytes (suc k) n (b ∷ f) fits = take_bytes k n f (omega (arith, fits)) ∙ shifted k n
  where
    shifted : (k n : ℕ) → bytes_at f k n ≡ bytes_at (b ∷ f) (suc k) n
    shifted k zero = refl
    shifted k (suc n) = grind (arith, shifted (k + 1) n)

small_bytes : (f : List ℕ) → ((k : ℕ) → slice_index f k < 256) → (k n i : ℕ) → get_or (bytes_at f k n) i 0 < 256
small_bytes f small k zero i = omega arith
small_bytes f small k (suc n) zero = small k
small_bytes f small k (suc n) (suc i) = small_bytes f small (k + 1) n i

-- ---- the flags

flags_of : (n : ℕ) → n ≤ 3 → n % 2 + 2 * bit (n / 2 == 1) ≡ n
flags_of zero h = refl
flags_of (suc zero) h = refl
flags_of (suc (suc zero)) h = refl
flags_of (suc (suc (suc zero))) h = refl
flags_of (suc (suc (suc (suc n)))) h = absurd (omega (arith, h))

-- ---- the file

module _ (e : Edition) (f : List ℕ) (small : (k : ℕ) → slice_index f k < 256) (a : IsAccepted e f) where
  enough : (k n : ℕ) → k + n ≤ file_size → k + n ≤ length f
  enough k n h = omega (arith, h, a.size)

  cycle_bytes : to_be_bytes w64 (cycle_in f) ≡ bytes_at f 6 8
  cycle_bytes = be_bytes_8 (bytes_at f 6 8) (cycle_in f) refl (small_bytes f small 6 8) refl

  registers_are : register_bytes (bank_in f) 16 ≡ bytes_at f 14 32
  unfolding bank_in
  registers_are = refl

  pair_of : (n : ℕ) → 16 * (n / 16) + n % 16 ≡ n
  pair_of n = omega arith

  flags_are : slice_index f 49 % 2 + 2 * bit (slice_index f 49 / 2 == 1) ≡ slice_index f 49
  flags_are = flags_of (slice_index f 49) a.machine.flags

  begins : head ≡ bytes_at f 0 5
  begins = sym a.begins ∙ take_bytes 0 5 f (enough 0 5 (omega arith))

  abbrev rest_of : ℕ → ℕ → List ℕ
  rest_of pair flags = slice_index f 46 ∷ slice_index f 47 ∷ pair ∷ flags ∷ slice_index f 50 ∷ []

  abbrev flags : ℕ
  flags = slice_index f 49 % 2 + 2 * bit (slice_index f 49 / 2 == 1)

  abbrev last : List ℕ
  last = rest_of (16 * (slice_index f 48 / 16) + slice_index f 48 % 16) flags

  head_is : head_of e (shown f) ≡ bytes_at f 0 51
  unfolding head_of
  head_is =
      ap (λ h. h ++ edition_byte e ∷ [] ++ to_be_bytes w64 (cycle_in f) ++ register_bytes (bank_in f) 16 ++ last) begins
      ∙ ap (λ b. bytes_at f 0 5 ++ b ∷ [] ++ to_be_bytes w64 (cycle_in f) ++ register_bytes (bank_in f) 16 ++ last) (sym a.edition)
      ∙ ap (λ c. bytes_at f 0 5 ++ slice_index f 5 ∷ [] ++ c ++ register_bytes (bank_in f) 16 ++ last) cycle_bytes
      ∙ ap (λ r. bytes_at f 0 5 ++ slice_index f 5 ∷ [] ++ bytes_at f 6 8 ++ r ++ last) registers_are
      ∙ ap (λ p. bytes_at f 0 5 ++ slice_index f 5 ∷ [] ++ bytes_at f 6 8 ++ bytes_at f 14 32 ++ rest_of p flags) (pair_of (slice_index f 48))
      ∙ ap (λ q. bytes_at f 0 5 ++ slice_index f 5 ∷ [] ++ bytes_at f 6 8 ++ bytes_at f 14 32 ++ rest_of (slice_index f 48) q) flags_are

  same : file_of e (shown f) ≡ f
  unfolding file_of
  same =
      ap (λ h. h ++ drop 51 f) (head_is ∙ sym (take_bytes 0 51 f (enough 0 51 (omega arith))))
      ∙ take-append-drop 51 f

pub writes_the_same : WritesTheSame
writes_the_same e f small a = same e f small a
