-- Rows and pixels one by one.
use Rattle.std.proofs.Common.{◌≡◌, ℕ, ◌+◌, List, [], ◌∷◌, ◌++◌, map, sym, ap, ◌∙◌, append-nil, append_assoc, zero-add}
use Rattle.std.specs.List.{flat_map, range_with_len}
use Rattle.std.proofs.lemmas.Grind.{flat_map-append}
use Rattle.std.proofs.lemmas.List.FromFn.{map-range_with_len_more}
use Rattle.vip_byte.proofs.RangeLemmas.{range_with_len-more}
use Rattle.chip8_lang.specs.Screen.{Pixels}
use Rattle.vip_text.specs.Screens.{row_text, screen_lines}

-- one pixel more in a row that comes after other text
pub row-more : (f : ℕ → ℕ) (n : ℕ) (before items : List ℕ) → items ≡ before ++ map f (range_with_len 0 n)
    → items ++ f n ∷ [] ≡ before ++ map f (range_with_len 0 (n + 1))
row-more f n before items so_far =
    ap (λ xs. xs ++ f n ∷ []) so_far ∙ append_assoc before (map f (range_with_len 0 n)) (f n ∷ [])
    ∙ ap (λ xs. before ++ xs) (sym (map-range_with_len_more f 0 n n (zero-add n)))

-- one row more
pub screen-more : (pixels : Pixels) (n : ℕ) (items : List ℕ) → items ≡ screen_lines pixels n
    → items ++ row_text pixels n ≡ screen_lines pixels (n + 1)
screen-more pixels n items so_far =
    ap (λ xs. xs ++ row_text pixels n) so_far
    ∙ ap (λ xs. flat_map (row_text pixels) (range_with_len 0 n) ++ xs) (sym (append-nil (row_text pixels n)))
    ∙ sym (ap (flat_map (row_text pixels)) (range_with_len-more n) ∙ flat_map-append (row_text pixels) (range_with_len 0 n) (n ∷ []))
