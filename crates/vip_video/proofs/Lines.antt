-- The lines of a buffer: what is read off them, and what more bytes make of them.
use Rattle.std.proofs.Common.{◌≡◌, ◌+◌, ◌-◌, ◌<◌, ◌≤◌, ℕ, zero, suc, List, [], ◌∷◌, ◌++◌, length, get_or, set, take, map, replicate, ap, sym, ◌∙◌, refl, arith, append_assoc, length-append, lit≤}
use Rattle.std.proofs.lemmas.List.{length-replicate, length-take, length-take-le, set-append_right, take_at, take_more}
use Rattle.machine.specs.Pictures.{filled}
use Rattle.vip_video.specs.Chip.{blank}
use Rattle.vip_video.specs.Lines.{so_far, AreFilled}

pub filled-so_far : (ls : List (List ℕ)) (ns : List ℕ) → AreFilled ls ns → length ls ≡ length ns → map filled (so_far ls ns) ≡ ls
filled-so_far [] ns f e = refl
filled-so_far (l ∷ ls) [] f e = cc
filled-so_far (l ∷ ls) (n ∷ ns) f e =
    ap (λ x. x ∷ map filled (so_far ls ns)) (sym f.1) ∙ ap (λ x. l ∷ x) (filled-so_far ls ns f.2 (omega arith))

pub so_far-at : (ls : List (List ℕ)) (ns : List ℕ) → length ls ≡ length ns → (k : ℕ) → k < length ls
    → get_or (so_far ls ns) k [] ≡ take (get_or ns k 0) (get_or ls k [])
so_far-at [] ns e k h = absurd (omega arith)
so_far-at (l ∷ ls) [] e k h = cc
so_far-at (l ∷ ls) (n ∷ ns) e zero h = refl
so_far-at (l ∷ ls) (n ∷ ns) e (suc k) h = so_far-at ls ns (omega arith) k (omega arith)

pub so_far-set : (ls : List (List ℕ)) (ns : List ℕ) → length ls ≡ length ns → (k : ℕ) (l : List ℕ) (n : ℕ)
    → so_far (set ls k l) (set ns k n) ≡ set (so_far ls ns) k (take n l)
so_far-set [] ns e k l n = refl
so_far-set (m ∷ ls) [] e k l n = cc
so_far-set (m ∷ ls) (i ∷ ns) e zero l n = refl
so_far-set (m ∷ ls) (i ∷ ns) e (suc k) l n = ap (λ x. take i m ∷ x) (so_far-set ls ns (omega arith) k l n)

pub AreFilled-set : (ls : List (List ℕ)) (ns : List ℕ) → AreFilled ls ns → (k : ℕ) (l : List ℕ) (n : ℕ) → n ≤ 8 → l ≡ filled (take n l)
    → AreFilled (set ls k l) (set ns k n)
AreFilled-set [] ns f k l n h e = tt
AreFilled-set (m ∷ ls) [] f zero l n h e = tt
AreFilled-set (m ∷ ls) [] f (suc k) l n h e = tt
AreFilled-set (m ∷ ls) (i ∷ ns) f zero l n h e = (h, e, f.2)
AreFilled-set (m ∷ ls) (i ∷ ns) f (suc k) l n h e = (f.0, f.1, AreFilled-set ls ns f.2 k l n h e)

pub record FilledAt (l : List ℕ) (n : ℕ) : Type 0 where
  pub most : n ≤ 8
  pub is : l ≡ filled (take n l)

pub filled-at : (ls : List (List ℕ)) (ns : List ℕ) → AreFilled ls ns → length ls ≡ length ns → (k : ℕ) → k < length ls
    → FilledAt (get_or ls k []) (get_or ns k 0)
filled-at [] ns f e k h = absurd (omega arith)
filled-at (l ∷ ls) [] f e k h = cc
filled-at (l ∷ ls) (n ∷ ns) f e zero h = record { most = f.0; is = f.1 }
filled-at (l ∷ ls) (n ∷ ns) f e (suc k) h = filled-at ls ns f.2 (omega arith) k (omega arith)

length-filled : (bs : List ℕ) → length bs ≤ 8 → length (filled bs) ≡ 8
length-filled bs h = omega (arith, length-append bs (replicate (8 - length bs) 0), length-replicate {A = ℕ} (8 - length bs) 0)

-- a line has eight bytes
pub eight : (l : List ℕ) (n : ℕ) → FilledAt l n → length l ≡ 8
eight l n f = ap length f.is ∙ length-filled (take n l) (omega (arith, f.most, length-take n l))

-- one more byte
rest-push : (bs : List ℕ) (b m : ℕ) → set (bs ++ replicate (suc m) 0) (length bs) b ≡ bs ++ b ∷ [] ++ replicate m 0
rest-push bs b m =
    let none : length bs - length bs ≡ 0 = omega arith in
    set-append_right bs (0 ∷ replicate m 0) (length bs) (length bs) b refl (omega arith)
    ∙ ap (λ k. bs ++ set (0 ∷ replicate m 0) k b) none
    ∙ sym (append_assoc bs (b ∷ []) (replicate m 0))

pub filled-push : (bs : List ℕ) (b : ℕ) → length bs < 8 → set (filled bs) (length bs) b ≡ filled (bs ++ b ∷ [])
filled-push bs b h =
    let left : 8 - length bs ≡ suc (8 - length (bs ++ b ∷ [])) = omega (arith, length-append bs (b ∷ [])) in
    ap (λ m. set (bs ++ replicate m 0) (length bs) b) left ∙ rest-push bs b (8 - length (bs ++ b ∷ []))

-- more bytes, so many of which are written
pub fill-more : (first bytes : List ℕ) (k : ℕ) → k < length bytes → length first + length bytes ≤ 8
    → set (filled (first ++ take k bytes)) (length first + k) (get_or bytes k 0) ≡ filled (first ++ take (k + 1) bytes)
fill-more first bytes k h room =
    let b = get_or bytes k 0 in
    let size : length (first ++ take k bytes) ≡ length first + k =
    omega (arith, length-append first (take k bytes), length-take-le k bytes (omega (arith, h))) in
    ap (λ m. set (filled (first ++ take k bytes)) m b) (sym size)
    ∙ filled-push (first ++ take k bytes) b (omega arith)
    ∙ ap filled (append_assoc first (take k bytes) (b ∷ []) ∙ ap (λ x. first ++ x) (sym (take_more bytes k 0 h)))

pub taken-filled : (bs : List ℕ) (n : ℕ) → length bs ≡ n → take n (filled bs) ≡ bs
taken-filled bs n e = take_at bs (replicate (8 - length bs) 0) n e

-- what is made of an element that was just set
pub set-again : {A : Type 0} (xs : List A) (i : ℕ) (x d : A) (f : A → A) → set (set xs i x) i (f (get_or (set xs i x) i d)) ≡ set xs i (f x)
set-again [] i x d f = refl
set-again (y ∷ xs) zero x d f = refl
set-again (y ∷ xs) (suc i) x d f = ap (λ l. y ∷ l) (set-again xs i x d f)

pub blank-filled : (n : ℕ) → AreFilled (replicate n (replicate 8 0)) (replicate n 0)
blank-filled zero = tt
blank-filled (suc n) = (lit≤ tt, refl, blank-filled n)

pub blank-so_far : (n : ℕ) → so_far (replicate n (replicate 8 0)) (replicate n 0) ≡ replicate n []
blank-so_far zero = refl
blank-so_far (suc n) = ap (λ x. [] ∷ x) (blank-so_far n)

get_or-replicate_any : (n k : ℕ) → get_or (replicate {A = List ℕ} n []) k [] ≡ []
get_or-replicate_any zero k = refl
get_or-replicate_any (suc n) zero = refl
get_or-replicate_any (suc n) (suc k) = get_or-replicate_any n k

pub blank-at : (k : ℕ) → get_or blank k [] ≡ []
blank-at k = get_or-replicate_any 128 k
