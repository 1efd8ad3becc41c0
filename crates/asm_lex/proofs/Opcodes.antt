-- The first number below a limit that passes, and the first opcode that a word names.
use Rattle.std.proofs.Common.{◌≡◌, ◌+◌, ◌<◌, ℕ, zero, suc, refl, Bool, List, length, ◌∙◌, ap, sym, arith, true, false, get_or, Some, None}
use Rattle.std.specs.Prelude.{◌&&◌, nat_le, map}
use Rattle.std.specs.Char.{to_ascii_uppercase}
use Rattle.std.specs.List.{list_all, range_with_len, find}
use Rattle.std.specs.Str.{bytes_eq}
use Rattle.std.proofs.lemmas.List.{length-map}
use Rattle.std.proofs.lemmas.List.Folds.{list_all_at}
use Rattle.std.proofs.lemmas.Slice.Eq.{bytes_eq-Decides}
use Rattle.asm_lex.specs.Words.{opcodes, opcode_named, mnemonic_at}
use Rattle.asm_lex.specs.Bytes.{spells}
use Rattle.asm_lex.proofs.Splits.{find_none, find_first}

length-range : (n a : ℕ) → length (range_with_len a n) ≡ n
length-range zero a = refl
length-range (suc n) a = ap suc (length-range n (a + 1))

get_or-range : (n a k : ℕ) → k < n → get_or (range_with_len a n) k 0 ≡ a + k
get_or-range zero a k below = absurd (omega arith)
get_or-range (suc n) a zero below = omega arith
get_or-range (suc n) a (suc k) below = get_or-range n (a + 1) k (omega arith) ∙ omega arith

range_at : (n k : ℕ) → k < n → get_or (range_with_len 0 n) k 0 ≡ k
range_at n k below = get_or-range n 0 k below ∙ omega arith

-- the first number below n that passes
pub range_first : (p : ℕ → Bool) (n i : ℕ) → i < n → ((k : ℕ) → k < i → p k ≡ false) → p i ≡ true → find p (range_with_len 0 n) ≡ Some i
range_first p n i below before here =
    find_first p (range_with_len 0 n) i (omega (arith, length-range n 0))
    (λ k under. ap p (range_at n k (omega arith)) ∙ before k under) (ap p (range_at n i below) ∙ here)
    ∙ ap Some (range_at n i below)

pub range_none : (p : ℕ → Bool) (n : ℕ) → ((k : ℕ) → k < n → p k ≡ false) → find p (range_with_len 0 n) ≡ None
range_none p n before =
    find_none p (range_with_len 0 n)
    (λ k under. ap p (range_at n k (omega (arith, length-range n 0))) ∙ before k (omega (arith, length-range n 0)))

pub named_first : (word : List ℕ) (i : ℕ) → i < 256 → ((k : ℕ) → k < i → spells word (mnemonic_at k) ≡ false) → spells word (mnemonic_at i) ≡ true
    → opcode_named word ≡ Some i
unfolding opcode_named opcodes
named_first word i below before here = range_first (λ opcode. spells word (mnemonic_at opcode)) 256 i below before here

pub named_none : (word : List ℕ) → ((k : ℕ) → k < 256 → spells word (mnemonic_at k) ≡ false) → opcode_named word ≡ None
unfolding opcode_named opcodes
named_none word before = range_none (λ opcode. spells word (mnemonic_at opcode)) 256 before

-- a mnemonic has two to four letters
abbrev pub is_short : ℕ → Bool
is_short n = nat_le 2 n && nat_le n 4

all_short : list_all (λ k. is_short (length (mnemonic_at k))) (range_with_len 0 256) ≡ true
unfolding mnemonic_at
all_short = refl

if_not_false : (b : Bool) → (b ≡ false → ⊥) → b ≡ true
if_not_false true never = refl
if_not_false false never = absurd (never refl)

if_not_true : (b : Bool) → (b ≡ true → ⊥) → b ≡ false
if_not_true true never = absurd (never refl)
if_not_true false never = refl

differ : true ≡ false → ⊥
differ e = cc

short : (k : ℕ) → k < 256 → is_short (length (mnemonic_at k)) ≡ true
short k below =
    let p : ℕ → Bool = λ k. is_short (length (mnemonic_at k)) in
    if_not_false (p k)
    (λ bad. differ (sym all_short ∙ list_all_at p (range_with_len 0 256) k 0 (omega (arith, below, length-range 256 0)) (ap p (range_at 256 k below) ∙ bad)))

-- so a word of another length is none
pub none_spelled : (word : List ℕ) → is_short (length word) ≡ false → opcode_named word ≡ None
unfolding spells
none_spelled word other = named_none word (λ k below.
    if_not_true (bytes_eq (map to_ascii_uppercase word) (mnemonic_at k)) (λ same.
    let equal : map to_ascii_uppercase word ≡ mnemonic_at k = (bytes_eq-Decides (map to_ascii_uppercase word) (mnemonic_at k)).0 same in
    let count : length (mnemonic_at k) ≡ length word = ap length (sym equal) ∙ length-map word to_ascii_uppercase in
    differ (sym (short k below) ∙ ap is_short count ∙ other)))
