-- The lines of a buffer of eight bytes each, of which so many have come and the others are 00.
use Rattle.std.specs.Prelude.{◌≡◌, ◌≤◌, ℕ, List, [], ◌∷◌, take}
use Rattle.machine.specs.Pictures.{filled}

-- the bytes that have come, by how many there are in each line
abbrev pub so_far : List (List ℕ) → List ℕ → List (List ℕ)
so_far [] ns = []
so_far (l ∷ ls) [] = []
so_far (l ∷ ls) (n ∷ ns) = take n l ∷ so_far ls ns

abbrev pub AreFilled : List (List ℕ) → List ℕ → Type 0
AreFilled [] ns = Unit {0}
AreFilled (l ∷ ls) [] = Unit {0}
AreFilled (l ∷ ls) (n ∷ ns) = (n ≤ 8) × (l ≡ filled (take n l)) × AreFilled ls ns
