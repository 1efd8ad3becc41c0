-- Writing the parts of a file.
use Rattle.std.proofs.Common.{◌≡◌, ℕ, suc, ◌+◌, ◌/◌, ◌%◌, List, [], ◌∷◌, ◌++◌, sym, ap, ◌∙◌, arith, append_assoc}
use Rattle.machine.specs.Bank.{Word, word_of, Bank, get}
use Rattle.vip_show.specs.Written.{register_bytes}

regroup : (a b c : List ℕ) → a ++ b ++ c ≡ a ++ (b ++ c)
regroup a b c = simp append_assoc

pub four : (a b c d : List ℕ) → a ++ b ++ c ++ d ≡ a ++ (b ++ c ++ d)
four a b c d = simp append_assoc

-- some bytes more
pub more : (l l1 l2 xs x ys : List ℕ) → l1 ≡ l ++ xs → l2 ≡ l1 ++ x → xs ++ x ≡ ys → l2 ≡ l ++ ys
more l l1 l2 xs x ys one two is = two ∙ ap (λ m. m ++ x) one ∙ regroup l xs x ∙ ap (λ m. l ++ m) is

pub registers-more : (r : Bank) (n w : ℕ) → get r n ≡ word_of w → register_bytes r n ++ (w / 256 ∷ w % 256 ∷ []) ≡ register_bytes r (n + 1)
registers-more r n w is =
    let next : suc n ≡ n + 1 = omega arith in
    ap (λ (x : Word). register_bytes r n ++ (x.hi ∷ x.lo ∷ [])) (sym is) ∙ ap (register_bytes r) next
