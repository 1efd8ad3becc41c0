-- What is a byte stays one, and what isn't written stays what it was.
use Rattle.std.proofs.Common.{◌≡◌, ℕ, zero, suc, ◌+◌, ◌-◌, ◌*◌, ◌/◌, ◌%◌, ◌<◌, ◌≤◌, ◌⊎◌, inl, inr, Bool, true, false, cond, eqb, List, [], ◌∷◌, ◌++◌, length, take, replicate, slice_index, slice_set, refl, ◌∙◌, arith}
use Rattle.std.specs.List.{All, list_all}
use Rattle.std.specs.Prelude.{nat_lt}
use Rattle.std.proofs.lemmas.Bool.{and_parts, cases_Bool, cases_lt, eqb-true, ltb-true}
use Rattle.std.proofs.lemmas.List.{get_or-set_other, get_or_past}
use Rattle.std.proofs.lemmas.List.Elements.{All-cons, All-nil, All-get_or, All-head, All-set, All-tail}
use Rattle.machine.specs.Bit.{bit}
use Rattle.chip8_lang.specs.declared.instr.Instr.{Instr}
use Rattle.chip8_lang.specs.declared.instr.Instr.TheVariants.{Clear, Load, Machine, Return, SkipDiffer, SkipSame, Unknown}
use Rattle.chip8_lang.specs.Decode.{arithmetic, instr_of_bytes, key_test, transfer}
use Rattle.chip8_lang.specs.State.{Lang, font, readable_byte}
use Rattle.chip8_lang.specs.Step.{bytes_from, digits, stored}
use Rattle.game_check.specs.States.{IsByte}

pub byte_at : (xs : List ℕ) (i : ℕ) → All IsByte xs → IsByte (slice_index xs i)
byte_at xs i all = elim (cases_lt i (length xs)) [
  | inl within ↦ All-get_or IsByte xs i 0 within all
  | inr past ↦ rw (get_or_past xs i 0 past) (omega arith)
]

-- zeros behind bytes read as the bytes do past their end
pub zeros_behind : (xs : List ℕ) (n i : ℕ) → slice_index (xs ++ replicate n 0) i ≡ slice_index xs i
zeros_behind [] zero i = refl
zeros_behind [] (suc n) zero = refl
zeros_behind [] (suc n) (suc i) = zeros_behind [] n i
zeros_behind (x ∷ xs) n zero = refl
zeros_behind (x ∷ xs) n (suc i) = zeros_behind xs n i

-- ---- what is read

all_tested : (xs : List ℕ) → list_all (λ x. nat_lt x 256) xs ≡ true → All IsByte xs
all_tested [] test = All-nil IsByte
all_tested (x ∷ xs) test =
    let parts = and_parts (nat_lt x 256) (list_all (λ y. nat_lt y 256) xs) test in
    All-cons IsByte x xs (ltb-true x 256 parts.0) (all_tested xs parts.1)

font_bytes : All IsByte font
font_bytes = all_tested font refl

readable : (s : Lang) (a : ℕ) → All IsByte s.memory → IsByte (readable_byte s a)
readable s a memory = elim (cases_Bool (nat_lt a 0x8700)) [
  | inl low ↦ rw low (byte_at s.memory (a - 0x200) memory)
  | inr high ↦ rw high (byte_at font (a - 0x8700) font_bytes)
]

pub read_bytes : (s : Lang) (n a : ℕ) → All IsByte s.memory → All IsByte (bytes_from s a n)
read_bytes s zero a memory = All-nil IsByte
read_bytes s (suc n) a memory = All-cons IsByte (readable_byte s a) (bytes_from s (a + 1) n) (readable s a memory) (read_bytes s n (a + 1) memory)

-- ---- what is written

pub stored_bytes : (bytes memory : List ℕ) (place : ℕ) → All IsByte bytes → All IsByte memory → All IsByte (stored memory place bytes)
stored_bytes [] memory place new old = old
stored_bytes (byte ∷ bytes) memory place new old =
    stored_bytes bytes (slice_set memory place byte) (place + 1) (All-tail IsByte byte bytes new)
    (All-set IsByte memory place byte (All-head IsByte byte bytes new) old)

pub stored_elsewhere : (bytes memory : List ℕ) (place i : ℕ) → (i < place) ⊎ (place + length bytes ≤ i)
    → slice_index (stored memory place bytes) i ≡ slice_index memory i
stored_elsewhere [] memory place i apart = refl
stored_elsewhere (byte ∷ bytes) memory place i apart =
    stored_elsewhere bytes (slice_set memory place byte) (place + 1) i (elim apart [ inl below ↦ inl (omega arith) | inr behind ↦ inr (omega arith) ])
    ∙ get_or-set_other memory place i byte 0 (λ same. elim apart [ inl below ↦ omega arith | inr behind ↦ omega arith ])

pub digit_bytes : (n : ℕ) → IsByte n → All IsByte (digits n)
digit_bytes n byte =
    All-cons IsByte (n / 100) (n / 10 % 10 ∷ n % 10 ∷ []) (omega (arith, byte))
    (All-cons IsByte (n / 10 % 10) (n % 10 ∷ []) (omega arith) (All-cons IsByte (n % 10) [] (omega arith) (All-nil IsByte)))

pub take_most : (n : ℕ) (xs : List ℕ) → length (take n xs) ≤ n
take_most zero xs = omega arith
take_most (suc n) [] = omega arith
take_most (suc n) (x ∷ xs) = let rest = take_most n xs in omega (arith, rest)

pub flag_byte : (b : Bool) → IsByte (bit b)
flag_byte true = omega arith
flag_byte false = omega arith

-- ---- the one instruction that puts its operand into a variable

abbrev pub loaded : Instr → ℕ
loaded (Load x k) = k
loaded _ = 0

-- that operand is the low byte of the opcode
operation_loads : (n x y opcode : ℕ) → loaded (arithmetic n x y opcode) ≡ 0
operation_loads n x y opcode = grind arith

key_test_loads : (kk x opcode : ℕ) → loaded (key_test kk x opcode) ≡ 0
key_test_loads kk x opcode = grind arith

transfer_loads : (kk x opcode : ℕ) → loaded (transfer kk x opcode) ≡ 0
transfer_loads kk x opcode = grind arith

machine_loads : (mmm : ℕ) → loaded (cond (eqb mmm 0x0e0) Clear (cond (eqb mmm 0x0ee) Return (Machine mmm))) ≡ 0
machine_loads mmm = grind arith

same_loads : (n x y opcode : ℕ) → loaded (cond (eqb n 0) (SkipSame x y) (Unknown opcode)) ≡ 0
same_loads n x y opcode = grind arith

differ_loads : (n x y opcode : ℕ) → loaded (cond (eqb n 0) (SkipDiffer x y) (Unknown opcode)) ≡ 0
differ_loads n x y opcode = grind arith

module _ (high low : ℕ) where
  abbrev Low : Type 0
  Low = loaded (instr_of_bytes high low) ≤ low

  least : 0 ≤ low
  least = omega arith

  no_more : {n : ℕ} → n ≡ 0 → n ≤ low
  no_more is = omega (arith, is)

  -- by the first digit
  or_else : (k : ℕ) → (high / 16 ≡ k → Low) → (eqb (high / 16) k ≡ false → Low) → Low
  or_else k here others = elim (cases_Bool (eqb (high / 16) k)) [ inl same ↦ here (eqb-true (high / 16) k same) | inr other ↦ others other ]

  pub loaded_low : Low
  loaded_low =
      or_else 0 (λ is. rw is (no_more (machine_loads (high % 16 * 256 + low)))) (λ f0.
      or_else 1 (λ is. rw is least) (λ f1.
      or_else 2 (λ is. rw is least) (λ f2.
      or_else 3 (λ is. rw is least) (λ f3.
      or_else 4 (λ is. rw is least) (λ f4.
      or_else 5 (λ is. rw is (no_more (same_loads (low % 16) (high % 16) (low / 16) (high * 256 + low)))) (λ f5.
      or_else 6 (λ is. rw is (omega arith)) (λ f6.
      or_else 7 (λ is. rw is least) (λ f7.
      or_else 8 (λ is. rw is (no_more (operation_loads (low % 16) (high % 16) (low / 16) (high * 256 + low)))) (λ f8.
      or_else 9 (λ is. rw is (no_more (differ_loads (low % 16) (high % 16) (low / 16) (high * 256 + low)))) (λ f9.
      or_else 10 (λ is. rw is least) (λ f10.
      or_else 11 (λ is. rw is least) (λ f11.
      or_else 12 (λ is. rw is least) (λ f12.
      or_else 13 (λ is. rw is least) (λ f13.
      or_else 14 (λ is. rw is (no_more (key_test_loads low (high % 16) (high * 256 + low)))) (λ f14.
      rw (f0, f1, f2, f3, f4, f5, f6, f7, f8, f9, f10, f11, f12, f13, f14) (no_more (transfer_loads low (high % 16) (high * 256 + low))))))))))))))))))
