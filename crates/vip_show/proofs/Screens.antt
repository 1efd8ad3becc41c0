-- The lit pixels of the screen that is told of.
use Rattle.std.proofs.Common.{◌≡◌, ℕ, ◌+◌, ◌/◌, List, [], ◌∷◌, ◌++◌, length, refl, sym, ap, ap₂, ◌∙◌, arith, Bool, true, false, length-append}
use Rattle.std.specs.Prelude.{if◌then◌else◌, filter, Option, Some, None}
use Rattle.std.specs.Option.{option_map, option_map_or}
use Rattle.std.specs.List.{range_with_len}
use Rattle.std.proofs.lemmas.List.Elements.{filter-append}
use Rattle.vip_byte.proofs.RangeLemmas.{range_with_len-more}
use Rattle.chip8_lang.specs.Editions.{rows_of}
use Rattle.chip8_lang.specs.Places.{pixels}
use Rattle.chip8_lang.specs.Screen.{Pixels}
use Rattle.chip8_lang.specs.View.{View}
use Rattle.vip_text.specs.Screens.{pixels_of}
use Rattle.vip_relation.specs.State.{VipState, screen_size}
use Rattle.vip_relation.proofs.Sizes.{rows_by}
use Rattle.vip_show.specs.Output.{lit_in_row, lit_in_rows}
use Rattle.vip_show.specs.Run.{pixels_told, lit_told}

-- ---- its lit pixels, one by one and row by row

pub lit-more : (lit : ℕ → Bool) (n count add : ℕ) (is : Bool) → count ≡ length (filter lit (range_with_len 0 n)) → add ≡ (if is then 1 else 0)
    → is ≡ lit n → count + add ≡ length (filter lit (range_with_len 0 (n + 1)))
lit-more lit n count add is so_far adds same =
    ap₂ (λ a b. a + b) so_far (adds ∙ ap (λ is. if is then 1 else 0) same ∙ one (lit n))
    ∙ sym (length-append (filter lit (range_with_len 0 n)) (filter lit (n ∷ [])))
    ∙ ap length (sym (ap (filter lit) (range_with_len-more n) ∙ filter-append lit (range_with_len 0 n) (n ∷ [])))
  where
    one : (is : Bool) → (if is then 1 else 0) ≡ length (if is then n ∷ [] else [])
    one true = refl
    one false = refl

pub row-whole : (pixels : Pixels) (y n count : ℕ) → count ≡ length (filter (λ x. pixels x y) (range_with_len 0 n)) → n ≡ 64 → count ≡ lit_in_row pixels y
row-whole pixels y n count so_far end = so_far ∙ ap (λ n. length (filter (λ x. pixels x y) (range_with_len 0 n))) end

lit_in_rows-append : (pixels : Pixels) (ys : List ℕ) (y : ℕ) → lit_in_rows pixels (ys ++ y ∷ []) ≡ lit_in_rows pixels ys + lit_in_row pixels y
unfolding lit_in_rows
lit_in_rows-append pixels [] y = alone (lit_in_row pixels y)
  where
    alone : (n : ℕ) → n + 0 ≡ 0 + n
    alone n = omega arith
lit_in_rows-append pixels (first ∷ ys) y =
    ap (λ n. lit_in_row pixels first + n) (lit_in_rows-append pixels ys y)
    ∙ sums (lit_in_row pixels first) (lit_in_rows pixels ys) (lit_in_row pixels y)
  where
    sums : (a b c : ℕ) → a + (b + c) ≡ a + b + c
    sums a b c = omega arith

pub rows-none : (pixels : Pixels) → 0 ≡ lit_in_rows pixels []
unfolding lit_in_rows
rows-none pixels = refl

pub rows-more : (pixels : Pixels) (n count row : ℕ) → count ≡ lit_in_rows pixels (range_with_len 0 n) → row ≡ lit_in_row pixels n
    → count + row ≡ lit_in_rows pixels (range_with_len 0 (n + 1))
rows-more pixels n count row so_far is =
    ap₂ (λ a b. a + b) so_far is ∙ sym (ap (lit_in_rows pixels) (range_with_len-more n) ∙ lit_in_rows-append pixels (range_with_len 0 n) n)

-- ---- the lit pixels that are told

-- a dispatch point was met where there is a pc of the last one, and none where there is none
pub record Viewed (last : Option View) : Type 0 where
  pub view : View
  pub is : last ≡ Some view

pub some-viewed : (last : Option View) (pc : ℕ) → Some pc ≡ option_map (λ view. view.pc) last → Viewed last
some-viewed None pc is = cc
some-viewed (Some view) pc is = record { view = view; is = refl }

pub none-viewed : (last : Option View) → None ≡ option_map (λ view. view.pc) last → last ≡ None
none-viewed None is = refl
none-viewed (Some view) is = cc

pub lit-told : (v : VipState) (view : View) (rows : List ℕ) (lit : ℕ) → v.last ≡ Some view → rows ≡ v.shown → length rows ≡ screen_size v.edition
    → lit ≡ lit_in_rows (pixels_of rows) (range_with_len 0 (length rows / 8)) → lit ≡ lit_told v
lit-told v view rows lit told same size is =
    is ∙ ap₂ (λ n bytes. lit_in_rows (pixels n bytes) (range_with_len 0 n)) (rows_by v.edition (length rows) size) same
    ∙ ap (λ last. option_map_or (λ view. lit_in_rows (pixels_told v) (range_with_len 0 (rows_of v.edition))) last 0) (sym told)
