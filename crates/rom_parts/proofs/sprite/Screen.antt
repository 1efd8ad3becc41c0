-- The screen in RAM: a byte of it is cleared.
use Rattle.std.proofs.Common.{◌≡◌, ℕ, suc, ◌+◌, ◌-◌, ◌*◌, ◌/◌, ◌%◌, ◌<◌, ◌⊎◌, inl, inr, refl, sym, ◌∙◌, ap, subst, arith, List, length, ◌&&◌, Bool, true, false, nat_lt, slice_set, slice_range, get_or-set_same, get_or-set_other}
use Rattle.std.proofs.lemmas.Bool.{cases_order, lt-ltb, le-ltb, ltb-true, and_parts, and_right, cases_Bool}
use Rattle.std.proofs.lemmas.Nat.Bits.{bit_at-zero}
use Rattle.machine.specs.Memory.{written}
use Rattle.chip8_lang.specs.declared.view.Edition.{Edition}
use Rattle.chip8_lang.specs.Editions.{screen_start, rows_of}
use Rattle.chip8_lang.specs.Places.{pixels}
use Rattle.chip8_lang.specs.Screen.{Pixels}
use Rattle.chip8_lang.specs.State.{Lang}
use Rattle.rom_law.specs.Holding.{Places, Holding}
use Rattle.rom_law.proofs.Places.{range_length, screen_set, screen_ends}
use Rattle.rom_rows.specs.SpriteBlocks.{first_bytes, cleared_to}
use Rattle.rom_parts.specs.sprite.Code.{sprite_code}
use Rattle.rom_parts.proofs.Rom.{quick}

-- ---- a byte is cleared

zero_put : (rows m : ℕ) (l : List ℕ) (s : Pixels) → m < length l → pixels rows l ≡ first_bytes (suc m) s → pixels rows (slice_set l m 0) ≡ first_bytes m s
zero_put rows m l s inside e = λ i x y. go x y (cases_order (8 * y + x / 8) m) i
  where
    other : (x y : ℕ) → (8 * y + x / 8 ≡ m → ⊥) → pixels rows (slice_set l m 0) x y ≡ first_bytes (suc m) s x y
    other x y f = rw (get_or-set_other l m (8 * y + x / 8) 0 0 f) (ap (λ (p : Pixels). p x y) e)

    go : (x y : ℕ) → (8 * y + x / 8 ≡ m) ⊎ ((8 * y + x / 8 < m) ⊎ (m < 8 * y + x / 8)) → pixels rows (slice_set l m 0) x y ≡ first_bytes m s x y
    go x y (inl f) = rw (f, get_or-set_same l m 0 0 inside, bit_at-zero (7 - x % 8), le-ltb m m (omega arith)) (and_right _ _ refl)
    go x y (inr (inl f)) = other x y (λ z. omega (arith, f, z)) ∙ rw (lt-ltb _ _ f, lt-ltb (8 * y + x / 8) (suc m) (omega (arith, f))) refl
    go x y (inr (inr f)) =
        other x y (λ z. omega (arith, f, z))
        ∙ rw (le-ltb (8 * y + x / 8) m (omega (arith, f)), le-ltb (8 * y + x / 8) (suc m) (omega (arith, f))) refl

-- none are left
pub none_left : (s : Pixels) → first_bytes 0 s ≡ (λ x y. false)
none_left s = λ i x y. none (8 * y + x / 8) (s x y) i
  where
    none : (k : ℕ) (t : Bool) → (nat_lt k 0 && t) ≡ false
    none k t = rw (le-ltb k 0 (omega arith)) refl

module _ {e : Edition} {p : Places} {s : Lang} where
  -- the screen is what its bytes say
  pub shown : Holding (quick sprite_code e) p s → pixels (rows_of e) (slice_range p.ram (screen_start e) 0x1000) ≡ s.screen
  shown o = ap (λ (z : Lang). z.screen) o.is

  pub screen_size : Holding (quick sprite_code e) p s → length (slice_range p.ram (screen_start e) 0x1000) ≡ 8 * rows_of e
  screen_size o = range_length (screen_start e) 0x1000 p.ram (omega (arith, o.size)) ∙ omega (arith, screen_ends e)

  -- all bytes are left
  pub all_left : Holding (quick sprite_code e) p s → s.screen ≡ first_bytes (8 * rows_of e) s.screen
  all_left o = sym (shown o) ∙ (λ i x y. go x y (cases_Bool (nat_lt x 64 && nat_lt y (rows_of e))) i) ∙ ap (first_bytes (8 * rows_of e)) (shown o)
    where
      go : (x y : ℕ) → ((nat_lt x 64 && nat_lt y (rows_of e)) ≡ true) ⊎ ((nat_lt x 64 && nat_lt y (rows_of e)) ≡ false)
          → pixels (rows_of e) (slice_range p.ram (screen_start e) 0x1000) x y
          ≡ first_bytes (8 * rows_of e) (pixels (rows_of e) (slice_range p.ram (screen_start e) 0x1000)) x y
      go x y (inl k) =
          let q = and_parts (nat_lt x 64) (nat_lt y (rows_of e)) k in
          rw (lt-ltb (8 * y + x / 8) (8 * rows_of e) (omega (arith, ltb-true x 64 q.0, ltb-true y (rows_of e) q.1))) refl
      go x y (inr k) = rw k (sym (and_right (nat_lt (8 * y + x / 8) (8 * rows_of e)) false refl))

-- the last byte that was left is cleared
pub cleared_one : {e : Edition} {p : Places} (s : Lang) (n m a : ℕ) → n ≡ suc m → Holding (quick sprite_code e) p (cleared_to n s) → a ≡ screen_start e + m
    → m < 8 * rows_of e → Holding (quick sprite_code e) (record p { ram = written p.latch p.ram a 0 }) (cleared_to m s)
cleared_one {e = e} {p = p} s n m a step o at inside =
    subst (λ z. Holding (quick sprite_code e) (record p { ram = written p.latch p.ram a 0 }) (record (cleared_to m s) { screen = z }))
    (zero_put (rows_of e) m _ s.screen (omega (arith, screen_size o, inside)) (shown o ∙ ap (λ z. first_bytes z s.screen) step))
    (screen_set o a m 0 at (omega (arith, screen_ends e, inside)))
