-- Schedules of numbers: B moves right behind A within any 33 moves.
use Rattle.std.proofs.Common.{◌≡◌, ℕ, zero, suc, ◌+◌, ◌-◌, ◌*◌, ◌/◌, ◌%◌, ◌<◌, ◌≤◌, ◌⊎◌, inl, inr, Bool, true, false, refl, sym, ◌∙◌, ap, subst, arith, List, [], ◌∷◌, ◌++◌}
use Rattle.std.specs.Prelude.{◌&&◌, ◌||◌, ◌==◌, if◌then◌else◌, nat_lt}
use Rattle.std.proofs.lemmas.Bool.{cases_eq, eqb-true}
use Rattle.vip_link.specs.declared.side.Side.{Side}
use Rattle.vip_link.specs.declared.side.Side.TheVariants.{A, B}
use Rattle.vip_link.specs.Schedules.{next_random, side_by, schedule_by, turns}

-- ---- longer schedules

turns-more : (side : Side) (s : List Side) → turns s ≤ turns (side ∷ s)
turns-more A [] = omega arith
turns-more A (A ∷ s) = omega arith
turns-more A (B ∷ s) = omega arith
turns-more B s = omega arith

turns-append : (s t : List Side) → turns s + turns t ≤ turns (s ++ t)
turns-append [] t = omega arith
turns-append (B ∷ s) t = turns-append s t
turns-append (A ∷ []) t = omega (arith, turns-more A t)
turns-append (A ∷ A ∷ s) t = turns-append (A ∷ s) t
turns-append (A ∷ B ∷ s) t = omega (arith, turns-append s t)

-- the number behind so many
abbrev number_behind : ℕ → ℕ → ℕ
number_behind zero x = x
number_behind (suc n) x = number_behind n (next_random x)

schedule-append : (n m x : ℕ) → schedule_by x (n + m) ≡ schedule_by x n ++ schedule_by (number_behind n x) m
schedule-append zero m x = let e : 0 + m ≡ m = omega arith in ap (schedule_by x) e
schedule-append (suc n) m x =
    let e : suc n + m ≡ suc (n + m) = omega arith in
    ap (schedule_by x) e ∙ ap (λ s. side_by (next_random x) ∷ s) (schedule-append n m (next_random x))

turns-both : (n m x : ℕ) → turns (schedule_by x n) + turns (schedule_by (number_behind n x) m) ≤ turns (schedule_by x (n + m))
turns-both n m x = omega (arith, ap turns (schedule-append n m x), turns-append (schedule_by x n) (schedule_by (number_behind n x) m))

-- ---- the low 17 bits of a number, which give its side and those of the next one

abbrev next_low : ℕ → ℕ
next_low y = (91661 * y + 62303) % 131072

low_next : (x : ℕ) → next_random x % 131072 ≡ next_low (x % 131072)
low_next x = omega arith

side_low : (x : ℕ) → side_by x ≡ (if nat_lt (x % 131072) 65536 then A else B)
side_low x = grind arith

-- B moves right behind A within n moves, where the move before them was A's, or not
abbrev has_turn : ℕ → Bool → ℕ → Bool
has_turn zero last y = false
has_turn (suc n) last y =
    if nat_lt (next_low y) 65536 then has_turn n true (next_low y) else if last then true else has_turn n false (next_low y)

-- ---- tests over tables

abbrev all_below : (ℕ → Bool) → ℕ → Bool
all_below test zero = true
all_below test (suc n) = test n && all_below test n

both : (a b : Bool) → (a && b) ≡ true → (a ≡ true) × (b ≡ true)
both true b h = (refl, h)
both false b h = absurd (cc)

each : (test : ℕ → Bool) (n k : ℕ) → all_below test n ≡ true → k < n → test k ≡ true
each test zero k h l = absurd (omega (arith, l))
each test (suc n) k h l = go (cases_eq k n) (λ less. each test n k (both (test n) (all_below test n) h).1 less)
  where
    go : (k ≡ n) ⊎ (k ≡ n → ⊥) → (k < n → test k ≡ true) → test k ≡ true
    go (inl e) below = ap test e ∙ (both (test n) (all_below test n) h).0
    go (inr f) below = below (omega (arith, l, f))

-- ---- from a test to a schedule

with_last : Bool → List Side → List Side
with_last last s = if last then A ∷ s else s

behind_a : (last : Bool) (s : List Side) → 1 ≤ turns (A ∷ s) → 1 ≤ turns (with_last last (A ∷ s))
unfolding with_last
behind_a true s l = l
behind_a false s l = l

behind_b : (last : Bool) (s : List Side) → (last ≡ false → 1 ≤ turns s) → 1 ≤ turns (with_last last (B ∷ s))
unfolding with_last
behind_b true s l = omega arith
behind_b false s l = l refl

module _ (n x : ℕ) (last : Bool) where
  -- what a move more brings: the side of the next number, and what follows
  after_side : (t : Bool) → nat_lt (next_low (x % 131072)) 65536 ≡ t → (if t then A else B) ≡ side_by (next_random x)
  after_side t e = sym (side_low (next_random x) ∙ ap (λ z. if nat_lt z 65536 then A else B) (low_next x) ∙ ap (λ t. if t then A else B) e)

  stays : (t : Bool) → (if t then true else has_turn n false (next_low (x % 131072))) ≡ true → t ≡ false → has_turn n false (next_low (x % 131072)) ≡ true
  stays t h e = rw e at h

  one_more :
      ((t : Bool) → has_turn n t (next_low (x % 131072)) ≡ true → 1 ≤ turns (with_last t (schedule_by (next_random x) n)))
      → (t : Bool) → nat_lt (next_low (x % 131072)) 65536 ≡ t
      → (if t then has_turn n true (next_low (x % 131072)) else if last then true else has_turn n false (next_low (x % 131072))) ≡ true
      → 1 ≤ turns (with_last last (side_by (next_random x) ∷ schedule_by (next_random x) n))
  unfolding with_last
  one_more rest true e h =
      subst (λ s. 1 ≤ turns (with_last last (s ∷ schedule_by (next_random x) n))) (after_side true e)
      (behind_a last (schedule_by (next_random x) n) (rest true h))
  one_more rest false e h =
      subst (λ s. 1 ≤ turns (with_last last (s ∷ schedule_by (next_random x) n))) (after_side false e)
      (behind_b last (schedule_by (next_random x) n) (λ none. rest false (stays last h none)))

turn_of : (n x : ℕ) (last : Bool) → has_turn n last (x % 131072) ≡ true → 1 ≤ turns (with_last last (schedule_by x n))
turn_of zero x last h = absurd (cc)
turn_of (suc n) x last h =
    one_more n x last (λ t h. turn_of n (next_random x) t (subst (λ z. has_turn n t z ≡ true) (sym (low_next x)) h))
    (nat_lt (next_low (x % 131072)) 65536) refl h

-- ---- from numbers whose low four bits are 0, of which one comes within 15

low_test : ℕ → Bool
low_test k = has_turn 18 false (16 * k)

low_table : all_below low_test 8192 ≡ true
unfolding low_test
low_table = refl

abbrev next_bits : ℕ → ℕ
next_bits r = (13 * r + 15) % 16

bits_next : (x : ℕ) → next_random x % 16 ≡ next_bits (x % 16)
bits_next x = omega arith

abbrev reaches : ℕ → ℕ → Bool
reaches zero r = r == 0
reaches (suc d) r = r == 0 || reaches d (next_bits r)

bits_table : all_below (reaches 15) 16 ≡ true
bits_table = refl

module _ (n : ℕ) (here : (x : ℕ) → x % 16 ≡ 0 → 1 ≤ turns (schedule_by x n)) where
  longer : (d x : ℕ) → x % 16 ≡ 0 → 1 ≤ turns (schedule_by x (n + d))
  longer d x e = omega (arith, turns-both n d x, here x e)

  sooner : (d x : ℕ) → 1 ≤ turns (schedule_by (next_random x) (n + d)) → 1 ≤ turns (schedule_by x (n + suc d))
  sooner d x l =
      let e : n + suc d ≡ suc (n + d) = omega arith in
      omega (arith, ap (λ m. turns (schedule_by x m)) e, turns-more (side_by (next_random x)) (schedule_by (next_random x) (n + d)), l)

  either :
      (d x : ℕ) → (reaches d (next_bits (x % 16)) ≡ true → 1 ≤ turns (schedule_by (next_random x) (n + d)))
      → (t : Bool) → (x % 16 == 0) ≡ t → (t || reaches d (next_bits (x % 16))) ≡ true → 1 ≤ turns (schedule_by x (n + suc d))
  either d x rest true e h = longer (suc d) x (eqb-true (x % 16) 0 e)
  either d x rest false e h = sooner d x (rest h)

  reached : (d x : ℕ) → reaches d (x % 16) ≡ true → 1 ≤ turns (schedule_by x (n + d))
  reached zero x h = longer 0 x (eqb-true (x % 16) 0 h)
  reached (suc d) x h =
      either d x (λ h. reached d (next_random x) (subst (λ r. reaches d r ≡ true) (sym (bits_next x)) h)) (x % 16 == 0) refl h

module _ (n : ℕ) (test : (k : ℕ) → k < 8192 → has_turn n false (16 * k) ≡ true) where
  from_zeros : (x : ℕ) → x % 16 ≡ 0 → 1 ≤ turns (schedule_by x n)
  unfolding with_last
  from_zeros x e =
      let k : 16 * (x % 131072 / 16) ≡ x % 131072 = omega (arith, e) in
      turn_of n x false (subst (λ y. has_turn n false y ≡ true) k (test (x % 131072 / 16) (omega arith)))

low_each : (k : ℕ) → k < 8192 → has_turn 18 false (16 * k) ≡ true
unfolding low_test
low_each k l = each low_test 8192 k low_table l

window : (x : ℕ) → 1 ≤ turns (schedule_by x 33)
window x = reached 18 (from_zeros 18 low_each) 15 x (each (reaches 15) 16 (x % 16) bits_table (omega arith))

windows : (k x : ℕ) → k ≤ turns (schedule_by x (33 * k))
windows zero x = omega arith
windows (suc k) x =
    let e : 33 * suc k ≡ 33 + 33 * k = omega arith in
    omega (arith, ap (λ n. turns (schedule_by x n)) e, turns-both 33 (33 * k) x, window x, windows k (number_behind 33 x))

pub turns-of-number : (x k moves : ℕ) → 33 * k ≤ moves → k ≤ turns (schedule_by x moves)
turns-of-number x k moves l =
    let e : moves ≡ 33 * k + (moves - 33 * k) = omega (arith, l) in
    omega (arith, ap (λ n. turns (schedule_by x n)) e, turns-both (33 * k) (moves - 33 * k) x, windows k x)
