-- What lies between two dispatch points grows with each tick and with each set of keys.
use Rattle.std.proofs.Common.{◌≡◌, ℕ, zero, suc, ◌+◌, ◌<◌, refl, sym, ◌∙◌, ap, subst, arith, Bool, List, [], ◌∷◌, ◌++◌, ◌⊎◌, inl, inr, length}
use Rattle.std.specs.Prelude.{slice_get, Some}
use Rattle.machine.specs.Keys.{Event, Keys, held_at}
use Rattle.chip8_lang.specs.declared.instr.Instr.{Instr}
use Rattle.chip8_lang.specs.declared.instr.Instr.TheVariants.{Clear, Draw, SkipDown, SkipUp, WaitKey}
use Rattle.chip8_lang.specs.declared.view.Edition.{Edition}
use Rattle.chip8_lang.specs.State.{Lang, instr_at}
use Rattle.chip8_lang.specs.Step.{KeyInput, step, done_by}
use Rattle.chip8_lang.specs.Step.KeyInput.{Nothing, Held, Chosen}
use Rattle.chip8_lang.specs.Ticks.{tick, ticks}
use Rattle.chip8_lang.specs.Between.{Between, Allows, WaitsWell, IsAt, SomeTime, LetGo, keys_from}
use Rattle.rom_law.specs.Moments.{Moment, MovesTell}
use Rattle.rom_law.specs.Rows.{Embeds}

-- ---- ticks

pub ticks_add : (n j : ℕ) (s : Lang) → ticks n (ticks j s) ≡ ticks (j + n) s
ticks_add zero j s = ap (λ z. ticks z s) same
  where
    same : j ≡ j + 0
    same = omega arith
ticks_add (suc n) j s = ap tick (ticks_add n j s) ∙ ap (λ z. ticks z s) more
  where
    more : suc (j + n) ≡ j + suc n
    more = omega arith

-- ticks leave the instruction
pub ticks_instr : (n : ℕ) (s : Lang) → instr_at (ticks n s) ≡ instr_at s
ticks_instr zero s = refl
ticks_instr (suc n) s = ticks_instr n s

-- 00E0 and DXYN change places with a tick; with the other instructions it comes after the step
module _ (e : Edition) (s : Lang) (n : ℕ) (sets : List Keys) (z : Lang) (h : Between e s n sets z) where
  -- a tick after the step
  after_step : WaitsWell (instr_at s) h.before (suc h.after) → Between e s (suc n) sets (tick z)
  after_step w =
      record {
        runs = h.runs;
        before = h.before;
        after = suc h.after;
        all = omega (arith, h.all);
        key = h.key;
        allowed = h.allowed;
        waits = w;
        is = ap tick h.is;
      }

  -- a tick before the step
  before_step : h.after ≡ 0 → WaitsWell (instr_at s) (suc h.before) 0
      → done_by e (instr_at s) h.key (tick (ticks h.before s)) ≡ tick (done_by e (instr_at s) h.key (ticks h.before s))
      → Between e s (suc n) sets (tick z)
  before_step none w swap =
      record {
        runs = h.runs;
        before = suc h.before;
        after = 0;
        all = omega (arith, h.all, none);
        key = h.key;
        allowed = h.allowed;
        waits = w;
        is =
            ap tick (h.is ∙ ap (λ m. ticks m (step e h.key (ticks h.before s))) none)
            ∙ ap (λ i. tick (done_by e i h.key (ticks h.before s))) (ticks_instr h.before s)
            ∙ sym swap
            ∙ sym (ap (λ i. done_by e i h.key (ticks (suc h.before) s)) (ticks_instr (suc h.before) s));
      }

  go : (i : Instr) → i ≡ instr_at s → WaitsWell i h.before h.after → Between e s (suc n) sets (tick z)
  go Clear eq w =
      before_step w.1 (subst (λ i. WaitsWell i (suc h.before) 0) eq (omega arith, refl))
      (subst (λ i. done_by e i h.key (tick (ticks h.before s)) ≡ tick (done_by e i h.key (ticks h.before s))) eq refl)
  go (Draw x y m) eq w =
      before_step w.1 (subst (λ i. WaitsWell i (suc h.before) 0) eq (omega arith, refl))
      (subst (λ i. done_by e i h.key (tick (ticks h.before s)) ≡ tick (done_by e i h.key (ticks h.before s))) eq refl)
  go i eq w = after_step (subst (λ i. WaitsWell i h.before (suc h.after)) eq tt)

  between_tick : Between e s (suc n) sets (tick z)
  between_tick = go (instr_at s) refl h.waits

  -- what the step took from the keypad is the same
  go_key : (i : Instr) (eq : i ≡ instr_at s) (w : WaitsWell i h.before h.after) → (go i eq w).key ≡ h.key
  unfolding go after_step before_step
  go_key Clear eq w = refl
  go_key (Draw x y m) eq w = refl
  go_key i eq w = refl

  between_tick_key : between_tick.key ≡ h.key
  unfolding between_tick
  between_tick_key = go_key (instr_at s) refl h.waits

  -- and so is what the main moves say of it
  told_go : (moments : List Moment) (spent : ℕ) (i : Instr) (eq : i ≡ instr_at s) (w : WaitsWell i h.before h.after) → MovesTell i s moments spent h.before h.key
      → MovesTell i s moments spent (go i eq w).before (go i eq w).key
  unfolding go after_step before_step
  told_go moments spent Clear eq w t = t
  told_go moments spent (Draw x y m) eq w t = t
  told_go moments spent i eq w t = t

  told_tick : (moments : List Moment) (spent : ℕ) → MovesTell (instr_at s) s moments spent h.before h.key → MovesTell (instr_at s) s moments spent between_tick.before between_tick.key
  unfolding between_tick
  told_tick moments spent = told_go moments spent (instr_at s) refl h.waits

-- so many ticks, written otherwise
abbrev pub counted_as : {e : Edition} {s : Lang} {n m : ℕ} {sets : List Keys} {z : Lang} → m ≡ n → Between e s n sets z → Between e s m sets z
counted_as same h =
    record {
      runs = h.runs;
      before = h.before;
      after = h.after;
      all = h.all ∙ sym same;
      key = h.key;
      allowed = h.allowed;
      waits = h.waits;
      is = h.is;
    }

pub between_ticks : (m : ℕ) (e : Edition) (s : Lang) (n : ℕ) (sets : List Keys) (z : Lang) → Between e s n sets z → Between e s (n + m) sets (ticks m z)
between_ticks zero e s n sets z h = counted_as (omega arith) h
between_ticks (suc m) e s n sets z h =
    counted_as (omega arith) (between_tick e s (n + m) sets (ticks m z) (between_ticks m e s n sets z h))

pub between_ticks_key : (m : ℕ) (e : Edition) (s : Lang) (n : ℕ) (sets : List Keys) (z : Lang) (h : Between e s n sets z)
    → (between_ticks m e s n sets z h).key ≡ h.key
unfolding between_ticks
between_ticks_key zero e s n sets z h = refl
between_ticks_key (suc m) e s n sets z h =
    between_tick_key e s (n + m) sets (ticks m z) (between_ticks m e s n sets z h) ∙ between_ticks_key m e s n sets z h

pub told_ticks : (m : ℕ) (e : Edition) (s : Lang) (n : ℕ) (sets : List Keys) (z : Lang) (h : Between e s n sets z) (moments : List Moment)
    (spent : ℕ) → MovesTell (instr_at s) s moments spent h.before h.key
    → MovesTell (instr_at s) s moments spent (between_ticks m e s n sets z h).before (between_ticks m e s n sets z h).key
unfolding between_ticks
told_ticks zero e s n sets z h moments spent t = t
told_ticks (suc m) e s n sets z h moments spent t =
    told_tick e s (n + m) sets (ticks m z) (between_ticks m e s n sets z h) moments spent (told_ticks m e s n sets z h moments spent t)

-- ---- keys

module _ {few many : List Keys} (f : Embeds few many) where
  is_at : (u k : ℕ) (down : Bool) → IsAt few u k down → IsAt many (f.place u) k down
  is_at u k down h = record { held = h.held; there = f.there u h.held h.there; is = h.is }

  some_time : (k : ℕ) (down : Bool) → SomeTime few k down → SomeTime many k down
  some_time k down h = record { time = f.place h.time; at = is_at h.time k down h.at }

  let_go : (k : ℕ) → LetGo few k → LetGo many k
  let_go k h =
      record {
        fits = h.fits;
        pressed = f.place h.pressed;
        released = f.place h.released;
        order = f.order h.pressed h.released h.order;
        down = is_at h.pressed k _ h.down;
        up = is_at h.released k _ h.up;
      }

  pub allows_more : (i : Instr) (s : Lang) (k : KeyInput) → Allows i s few k → Allows i s many k
  allows_more (SkipDown x) s (Held d) h = some_time _ d h
  allows_more (SkipDown x) s Nothing h = h
  allows_more (SkipDown x) s (Chosen c) h = h
  allows_more (SkipUp x) s (Held d) h = some_time _ d h
  allows_more (SkipUp x) s Nothing h = h
  allows_more (SkipUp x) s (Chosen c) h = h
  allows_more (WaitKey x) s (Chosen c) h = let_go c h
  allows_more (WaitKey x) s Nothing h = h
  allows_more (WaitKey x) s (Held d) h = h
  allows_more i s Nothing h = h
  allows_more i s (Held d) h = h
  allows_more i s (Chosen c) h = h

  abbrev pub between_more : (e : Edition) (s : Lang) (n : ℕ) (z : Lang) → Between e s n few z → Between e s n many z
  between_more e s n z h =
      record {
        runs = h.runs;
        before = h.before;
        after = h.after;
        all = h.all;
        key = h.key;
        allowed = allows_more (instr_at s) s h.key h.allowed;
        waits = h.waits;
        is = h.is;
      }

pub get_append : (l m : List Keys) (u : ℕ) (held : Keys) → slice_get l u ≡ Some held → slice_get (l ++ m) u ≡ Some held
get_append [] m u held h = cc
get_append (k ∷ l) m zero held h = h
get_append (k ∷ l) m (suc u) held h = get_append l m u held h

-- ---- the keys of an interval

pub keys_from_get : (script : List Event) (n a u : ℕ) → u < n → slice_get (keys_from script a n) u ≡ Some (held_at script (a + u))
keys_from_get script zero a u l = absurd (omega arith)
keys_from_get script (suc n) a zero l = ap (λ b. Some (held_at script b)) same
  where
    same : a ≡ a + 0
    same = omega arith
keys_from_get script (suc n) a (suc u) l = keys_from_get script n (a + 1) u (omega arith) ∙ ap (λ b. Some (held_at script b)) same
  where
    same : a + 1 + u ≡ a + suc u
    same = omega arith

-- a set of a list with one more at its end is one of the list, or the last
pub last_or_before : (l : List Keys) (k : Keys) (u : ℕ) (held : Keys) → slice_get (l ++ k ∷ []) u ≡ Some held
    → (slice_get l u ≡ Some held) ⊎ ((u ≡ length l) × (held ≡ k))
last_or_before [] k zero held h = inr (refl, is h)
  where
    is : Some k ≡ Some held → held ≡ k
    is e = cc
last_or_before [] k (suc u) held h = cc
last_or_before (j ∷ l) k zero held h = inl h
last_or_before (j ∷ l) k (suc u) held h = go (last_or_before l k u held h)
  where
    go : (slice_get l u ≡ Some held) ⊎ ((u ≡ length l) × (held ≡ k)) → (slice_get l u ≡ Some held) ⊎ ((suc u ≡ suc (length l)) × (held ≡ k))
    go (inl e) = inl e
    go (inr e) = inr (ap suc e.0, e.1)
