-- The sixteen registers, of which one is put: that one is the word, and the others stay.
use Rattle.std.proofs.Common.{◌≡◌, ◌≢◌, ℕ, zero, ◌<◌, List, [], ◌∷◌, get_or, set, get_or-set_same, get_or-set_other, refl, sym, ap, ◌∙◌, arith}
use Rattle.machine.specs.Bank.{Word, Bank, get, put}
use Rattle.machine.specs.Numerals.{1+, 2+, 3+, 4+, 5+, 6+, 7+, 8+, 9+, 10+, 11+, 12+, 13+, 14+, 15+, 16+}

-- what holds of 0 to 15 holds of each number below 16
by_register : (P : ℕ → Type 0) → P 0 → P 1 → P 2 → P 3 → P 4 → P 5 → P 6 → P 7 → P 8 → P 9 → P 10 → P 11 → P 12 → P 13 → P 14 → P 15 → (n : ℕ) → n < 16 → P n
by_register P p0 p1 p2 p3 p4 p5 p6 p7 p8 p9 pa pb pc pd pe pf zero lt = p0
by_register P p0 p1 p2 p3 p4 p5 p6 p7 p8 p9 pa pb pc pd pe pf (1+ zero) lt = p1
by_register P p0 p1 p2 p3 p4 p5 p6 p7 p8 p9 pa pb pc pd pe pf (2+ zero) lt = p2
by_register P p0 p1 p2 p3 p4 p5 p6 p7 p8 p9 pa pb pc pd pe pf (3+ zero) lt = p3
by_register P p0 p1 p2 p3 p4 p5 p6 p7 p8 p9 pa pb pc pd pe pf (4+ zero) lt = p4
by_register P p0 p1 p2 p3 p4 p5 p6 p7 p8 p9 pa pb pc pd pe pf (5+ zero) lt = p5
by_register P p0 p1 p2 p3 p4 p5 p6 p7 p8 p9 pa pb pc pd pe pf (6+ zero) lt = p6
by_register P p0 p1 p2 p3 p4 p5 p6 p7 p8 p9 pa pb pc pd pe pf (7+ zero) lt = p7
by_register P p0 p1 p2 p3 p4 p5 p6 p7 p8 p9 pa pb pc pd pe pf (8+ zero) lt = p8
by_register P p0 p1 p2 p3 p4 p5 p6 p7 p8 p9 pa pb pc pd pe pf (9+ zero) lt = p9
by_register P p0 p1 p2 p3 p4 p5 p6 p7 p8 p9 pa pb pc pd pe pf (10+ zero) lt = pa
by_register P p0 p1 p2 p3 p4 p5 p6 p7 p8 p9 pa pb pc pd pe pf (11+ zero) lt = pb
by_register P p0 p1 p2 p3 p4 p5 p6 p7 p8 p9 pa pb pc pd pe pf (12+ zero) lt = pc
by_register P p0 p1 p2 p3 p4 p5 p6 p7 p8 p9 pa pb pc pd pe pf (13+ zero) lt = pd
by_register P p0 p1 p2 p3 p4 p5 p6 p7 p8 p9 pa pb pc pd pe pf (14+ zero) lt = pe
by_register P p0 p1 p2 p3 p4 p5 p6 p7 p8 p9 pa pb pc pd pe pf (15+ zero) lt = pf
by_register P p0 p1 p2 p3 p4 p5 p6 p7 p8 p9 pa pb pc pd pe pf (16+ n) lt = absurd (omega arith)

-- R(0) to R(F) as a list
abbrev list_of : Bank → List Word
list_of r = r.r0 ∷ r.r1 ∷ r.r2 ∷ r.r3 ∷ r.r4 ∷ r.r5 ∷ r.r6 ∷ r.r7 ∷ r.r8 ∷ r.r9 ∷ r.ra ∷ r.rb ∷ r.rc ∷ r.rd ∷ r.re ∷ r.rf ∷ []

get-list : (r : Bank) (d : Word) (n : ℕ) → n < 16 → get r n ≡ get_or (list_of r) n d
get-list r d = by_register (λ n. get r n ≡ get_or (list_of r) n d) refl refl refl refl refl refl refl refl refl refl refl refl refl refl refl refl

list-put : (r : Bank) (w : Word) (n : ℕ) → n < 16 → list_of (put r n w) ≡ set (list_of r) n w
list-put r w = by_register (λ n. list_of (put r n w) ≡ set (list_of r) n w) refl refl refl refl refl refl refl refl refl refl refl refl refl refl refl refl

pub get_put : (r : Bank) (n : ℕ) (w : Word) → n < 16 → get (put r n w) n ≡ w
get_put r n w lt = get-list (put r n w) w n lt ∙ ap (λ l. get_or l n w) (list-put r w n lt) ∙ get_or-set_same (list_of r) n w w lt

pub get_put_other : (r : Bank) (n m : ℕ) (w : Word) → n < 16 → m < 16 → m ≢ n → get (put r n w) m ≡ get r m
get_put_other r n m w lt lt' other =
    get-list (put r n w) w m lt' ∙ ap (λ l. get_or l m w) (list-put r w n lt) ∙ get_or-set_other (list_of r) n m w w other
    ∙ sym (get-list r w m lt')
