-- The sets of keys of a run of main moves grow at their end.
use Rattle.std.proofs.Common.{◌≡◌, ℕ, suc, ◌+◌, ◌<◌, refl, sym, ap, subst, arith, Bool, List, [], ◌∷◌, ◌++◌, length}
use Rattle.std.specs.Prelude.{slice_get, Some}
use Rattle.machine.specs.Keys.{Keys}
use Rattle.chip8_lang.specs.Between.{IsAt, SomeTime, LetGo}
use Rattle.rom_law.specs.Rows.{Since, Grows}
use Rattle.rom_law.proofs.Language.{get_append}
use Rattle.rom_rows.specs.KeyBlocks.{Last, JustUp, Turned}

-- ---- one set more

pub length_more : (l : List Keys) (m : List Keys) → length (l ++ m) ≡ length l + length m
length_more [] m = omega arith
length_more (k ∷ l) m = omega (arith, length_more l m)

pub get_last : (l : List Keys) (k : Keys) → slice_get (l ++ k ∷ []) (length l) ≡ Some k
get_last [] k = refl
get_last (j ∷ l) k = get_last l k

pub last_set : (l : List Keys) (held : Keys) (k : ℕ) (down : Bool) → held k ≡ down → Last (l ++ held ∷ []) k down
last_set l held k down is =
    record { time = length l; last = omega (arith, length_more l (held ∷ [])); at = record { held = held; there = get_last l held; is = is } }

pub some_last : {l : List Keys} {k : ℕ} {down : Bool} → Last l k down → SomeTime l k down
some_last t = record { time = t.time; at = t.at }

pub let_go : {l : List Keys} {k : ℕ} → JustUp l k → k < 16 → LetGo l k
let_go t fits = record { fits = fits; pressed = t.time; released = suc t.time; order = omega arith; down = t.down; up = t.up }

-- ---- the sets at the end of a block

pub is_at_more : {l : List Keys} (m : List Keys) {u k : ℕ} {down : Bool} → IsAt l u k down → IsAt (l ++ m) u k down
is_at_more {l = l} m {u = u} t = record { held = t.held; there = get_append l m u t.held t.there; is = t.is }

module _ {h h' : Since} {k n : ℕ} (g : Grows h k n h') where
  pub at_grown : {u key : ℕ} {down : Bool} → IsAt h.keys u key down → IsAt h'.keys u key down
  at_grown {u = u} {key = key} {down = down} t = subst (λ l. IsAt l u key down) (sym g.keys) (is_at_more g.more t)

  pub some_grown : {key : ℕ} {down : Bool} → SomeTime h.keys key down → SomeTime h'.keys key down
  some_grown t = record { time = t.time; at = at_grown t.at }

  pub let_go_grown : {key : ℕ} → LetGo h.keys key → LetGo h'.keys key
  let_go_grown t = record { fits = t.fits; pressed = t.pressed; released = t.released; order = t.order; down = at_grown t.down; up = at_grown t.up }

  pub length_grown : length h'.keys ≡ length h.keys + k
  length_grown = omega (arith, ap length g.keys, length_more h.keys g.more, g.count)

  pub turned_grown : {turn more : ℕ} → Turned turn more h.keys → Turned turn (more + k) h'.keys
  turned_grown t = record { before = t.before; count = omega (arith, t.count, length_grown); up = λ i l. at_grown (t.up i l) }
