-- Four texts, each appended to what came before, and texts that are appended in turn.
use Rattle.std.proofs.Common.{◌≡◌, ℕ, ◌+◌, ◌<◌, ◌≤◌, List, ◌++◌, length, get_or, take, sym, ap, ◌∙◌, append_assoc}
use Rattle.std.specs.List.{flat_map}
use Rattle.std.proofs.lemmas.List.{flat_map_more, take_all, take_more}

pub four_more :
    (old a b c d one two three four : List ℕ) → one ≡ old ++ a → two ≡ one ++ b → three ≡ two ++ c → four ≡ three ++ d
    → four ≡ old ++ ((a ++ b) ++ (c ++ d))
four_more old a b c d one two three four first second third fourth =
    rw (fourth, third, second, first)
    (ap (λ text. (text ++ c) ++ d) (append_assoc old a b) ∙ append_assoc (old ++ (a ++ b)) c d ∙ append_assoc old (a ++ b) (c ++ d))

-- what an element gives is appended behind what those before it gave
pub one_more :
    {X Y : Type 0} (f : X → List Y) (before old new : List Y) (xs : List X) (i : ℕ) (d : X) → i < length xs → old ≡ before ++ flat_map f (take i xs)
    → new ≡ old ++ f (get_or xs i d) → new ≡ before ++ flat_map f (take (i + 1) xs)
one_more f before old new xs i d within is more =
    more ∙ ap (λ ys. ys ++ f (get_or xs i d)) is ∙ flat_map_more f before (take i xs) (get_or xs i d)
    ∙ ap (λ items. before ++ flat_map f items) (sym (take_more xs i d within))

pub all_of :
    {X Y : Type 0} (f : X → List Y) (before ys : List Y) (xs : List X) (i : ℕ) → length xs ≤ i → ys ≡ before ++ flat_map f (take i xs)
    → ys ≡ before ++ flat_map f xs
all_of f before ys xs i past is = is ∙ ap (λ items. before ++ flat_map f items) (take_all i xs past)

-- two texts, and five times two
pub two_more : (old a b one two : List ℕ) → one ≡ old ++ a → two ≡ one ++ b → two ≡ old ++ (a ++ b)
two_more old a b one two first second = second ∙ ap (λ text. text ++ b) first ∙ append_assoc old a b

pub five_more :
    (old a b c d e one two three four five : List ℕ) → one ≡ old ++ a → two ≡ one ++ b → three ≡ two ++ c → four ≡ three ++ d → five ≡ four ++ e
    → five ≡ old ++ ((a ++ b) ++ (c ++ (d ++ e)))
five_more old a b c d e one two three four five first second third fourth fifth =
    four_more old a b c (d ++ e) one two three five first second third (two_more three d e four five fourth fifth)
