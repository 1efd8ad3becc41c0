-- A byte of the screen in RAM is tested and drawn.
use Rattle.std.proofs.Common.{◌≡◌, ℕ, ◌+◌, ◌*◌, ◌/◌, ◌%◌, ◌<◌, ◌≤◌, List, refl, sym, ◌∙◌, ap, subst, arith, ◌⊎◌, inl, inr, Bool, true, false, ◌||◌, not, slice_index, slice_set, slice_range, bit_and, bit_xor, get_or-set_other}
use Rattle.std.specs.Prelude.{◌==◌}
use Rattle.std.proofs.lemmas.Bool.{cases_lt, cases_eq, le-ltb, lt-ltb, ne_eqb, eq-eqb, false_from_ne_true, false≢true}
use Rattle.std.proofs.lemmas.List.{set_past}
use Rattle.std.proofs.lemmas.Nat.{and_le_l}
use Rattle.machine.specs.Memory.{read, written}
use Rattle.chip8_lang.specs.declared.view.Edition.{Edition}
use Rattle.chip8_lang.specs.Editions.{screen_start, rows_of}
use Rattle.chip8_lang.specs.Places.{pixels}
use Rattle.chip8_lang.specs.Screen.{Pixels, difference, meets, dots, some_below}
use Rattle.chip8_lang.specs.State.{Lang}
use Rattle.rom_law.specs.Holding.{Places, Holding}
use Rattle.rom_law.proofs.Places.{read_is, range_get, screen_set, screen_ends}
use Rattle.rom_rows.specs.Dots.{dots_of_byte}
use Rattle.rom_parts.specs.sprite.Code.{sprite_code}
use Rattle.rom_parts.proofs.Rom.{both, quick}
use Rattle.rom_parts.proofs.sprite.Bytes.{drawn_pixels, and_meets, meets_tells, one_of_false}
use Rattle.rom_parts.proofs.sprite.Screen.{shown, screen_size}

unwritten : (latch : Bool) (ram : List ℕ) (a y : ℕ) → latch ≡ false → 0x1000 ≤ a → written latch ram a y ≡ ram
unfolding written
unwritten latch ram a y e l = rw (e, le-ltb a 0x1000 l) refl

-- a write elsewhere, or past the end of RAM
pub kept_below : (latch : Bool) (ram : List ℕ) (a y i : ℕ) → latch ≡ false → i < a → slice_index (written latch ram a y) i ≡ slice_index ram i
unfolding written
kept_below latch ram a y i e l = go (cases_lt a 0x1000)
  where
    go : (a < 0x1000) ⊎ (0x1000 ≤ a) → slice_index (written latch ram a y) i ≡ slice_index ram i
    go (inl k) = rw (e, lt-ltb a 0x1000 k) (get_or-set_other ram a i y 0 (λ z. omega (arith, l, z)))
    go (inr k) = rw (e, le-ltb a 0x1000 k) refl

-- byte m of the screen and q, which is 0 where m is past the screen
module _ {e : Edition} {p : Places} {z : Lang} (o : Holding (quick sprite_code e) p z) (m q : ℕ) (near : m ≤ 8 * rows_of e) (small : q < 256)
    (last : m ≡ 8 * rows_of e → q ≡ 0) where
  abbrev shot : List ℕ
  shot = slice_range p.ram (screen_start e) 0x1000

  abbrev byte : ℕ
  byte = read (both sprite_code e) p.latch p.ram (screen_start e + m)

  get : m < 8 * rows_of e → byte ≡ slice_index shot m
  get l = read_is o (screen_start e + m) (omega (arith, l, screen_ends e)) ∙ sym (range_get (screen_start e) 0x1000 p.ram m (omega (arith, l, screen_ends e)))

  nothing : (y : ℕ) → q ≡ 0 → bit_and q y ≡ 0
  nothing y k = omega (arith, k, and_le_l q y)

  -- the test
  pub screen_hit : not (bit_and q byte == 0) ≡ meets (rows_of e) z.screen (dots_of_byte (rows_of e) m q)
  screen_hit =
      ap (λ y. not (y == 0)) (go (cases_lt m (8 * rows_of e))) ∙ and_meets (rows_of e) m q small shot (screen_size o)
      ∙ ap (λ d. meets (rows_of e) d (dots_of_byte (rows_of e) m q)) (shown o)
    where
      go : (m < 8 * rows_of e) ⊎ (8 * rows_of e ≤ m) → bit_and q byte ≡ bit_and q (slice_index shot m)
      go (inl l) = ap (bit_and q) (get l)
      go (inr l) = nothing _ (last (omega (arith, near, l))) ∙ sym (nothing _ (last (omega (arith, near, l))))

  turned : pixels (rows_of e) (slice_set shot m (bit_xor q (slice_index shot m))) ≡ difference z.screen (dots_of_byte (rows_of e) m q)
  turned = drawn_pixels (rows_of e) m q shot (screen_size o) ∙ ap (λ d. difference d (dots_of_byte (rows_of e) m q)) (shown o)

  -- the write
  pub screen_put : Holding (quick sprite_code e) (record p { ram = written p.latch p.ram (screen_start e + m) (bit_xor q byte) })
      (record z { screen = difference z.screen (dots_of_byte (rows_of e) m q) })
  screen_put = go (cases_lt m (8 * rows_of e))
    where
      go : (m < 8 * rows_of e) ⊎ (8 * rows_of e ≤ m)
          → Holding (quick sprite_code e) (record p { ram = written p.latch p.ram (screen_start e + m) (bit_xor q byte) })
          (record z { screen = difference z.screen (dots_of_byte (rows_of e) m q) })
      go (inl l) =
          subst (λ d. Holding (quick sprite_code e) (record p { ram = written p.latch p.ram (screen_start e + m) (bit_xor q byte) }) (record z { screen = d }))
          (ap (λ y. pixels (rows_of e) (slice_set shot m (bit_xor q y))) (get l) ∙ turned)
          (screen_set o (screen_start e + m) m (bit_xor q byte) refl (omega (arith, l, screen_ends e)))
      go (inr l) =
          subst (λ r. Holding (quick sprite_code e) (record p { ram = r }) (record z { screen = difference z.screen (dots_of_byte (rows_of e) m q) }))
          (sym (unwritten p.latch p.ram (screen_start e + m) (bit_xor q byte) o.latch (omega (arith, l, screen_ends e))))
          (subst (λ d. Holding (quick sprite_code e) p (record z { screen = d })) same o)
        where
          same : z.screen ≡ difference z.screen (dots_of_byte (rows_of e) m q)
          same = sym (shown o) ∙ ap (pixels (rows_of e)) (sym (set_past shot m (bit_xor q (slice_index shot m)) (omega (arith, l, screen_size o)))) ∙ turned

-- ---- no dots

pub none_drawn : (rows : ℕ) (bytes : ℕ → ℕ) (x0 y0 : ℕ) (s : Pixels) → s ≡ difference s (dots rows bytes x0 y0 0)
unfolding some_below
none_drawn rows bytes x0 y0 s = λ i x y. one_of_false (s x y) i

pub none_met : (rows : ℕ) (bytes : ℕ → ℕ) (x0 y0 : ℕ) (s : Pixels) → false ≡ meets rows s (dots rows bytes x0 y0 0)
unfolding some_below
none_met rows bytes x0 y0 s = sym (false_from_ne_true _ (λ e. let (y, h, x, k, f, g) = (meets_tells rows s (dots rows bytes x0 y0 0)).0 e in none x y g))
  where
    none : (x y : ℕ) → dots rows bytes x0 y0 0 x y ≡ true → ⊥
    none x y g = false≢true g

-- ---- the count of bytes in which a dot was put out

pub counted : (n bits : ℕ) → n ≤ 30 → bits < 256 → not ((0 + n + (bits + 255) / 256) % 256 == 0) ≡ (not (n == 0) || not (bits == 0))
counted n bits few small = go (cases_eq n 0) (cases_eq bits 0)
  where
    go : (n ≡ 0) ⊎ (n ≡ 0 → ⊥) → (bits ≡ 0) ⊎ (bits ≡ 0 → ⊥) → not ((0 + n + (bits + 255) / 256) % 256 == 0) ≡ (not (n == 0) || not (bits == 0))
    go (inl a) (inl b) = rw (a, b) refl
    go (inl a) (inr b) = rw (eq-eqb n 0 a, ne_eqb bits 0 b, ne_eqb ((0 + n + (bits + 255) / 256) % 256) 0 (λ z. omega (arith, z, a, b, small))) refl
    go (inr a) c = rw (ne_eqb n 0 a, ne_eqb ((0 + n + (bits + 255) / 256) % 256) 0 (λ z. omega (arith, z, a, few, small))) refl
