-- The wait for a key: how long a key has to be down, and then all keys up, for FX0A to have ended.
use Rattle.std.proofs.Common.{◌≡◌, ℕ, zero, suc, ◌+◌, ◌-◌, ◌*◌, ◌%◌, ◌<◌, ◌≤◌, inl, inr, refl, sym, ◌∙◌, ap, subst, arith, Bool, true, false, not, List, [], ◌∷◌, length, slice_get, Option, Some, None}
use Rattle.std.specs.Prelude.{◌==◌, nat_le, nat_lt}
use Rattle.std.specs.List.{list_all}
use Rattle.std.proofs.lemmas.Bool.{cases_Bool, cases_lt, le-leb, leb-true, lt-leb}
use Rattle.machine.specs.Keys.{Event, held_at}
use Rattle.machine.specs.Pictures.{windows_ended}
use Rattle.chip8_lang.specs.declared.instr.Instr.{Instr}
use Rattle.chip8_lang.specs.declared.instr.Instr.TheVariants.{WaitKey}
use Rattle.chip8_lang.specs.declared.view.Edition.{Edition}
use Rattle.chip8_lang.specs.declared.view.Edition.TheVariants.{Usual, Tall}
use Rattle.chip8_lang.specs.declared.view.Stop.{Stop}
use Rattle.chip8_lang.specs.State.{Lang, instr_at, memory_size}
use Rattle.chip8_lang.specs.Step.{stop_of}
use Rattle.chip8_lang.specs.Timed.{Next, after_instr, by_stop, first_from, later, let_go, next_point, pressed, shown_behind, timed_run}
use Rattle.rom_board.specs.LeastBounds.{ComesIn, EveryBoot, EveryKeyBound, IsWaited, KeyMissed, KeyTaken, Line, PressedFor, WaitsAt, least_down, least_up, line_by, line_of_instr}
use Rattle.rom_board.proofs.LeastBounds.{bytes_of, loads, once}

-- ---- cycles

-- what comes n main cycles behind others comes behind one interrupt more at most
step_most : (t k n : ℕ) → n ≤ 1822 → later t (k + n) ≤ later t k + n + 1846
step_most t k n l = omega (arith, l)

grows : (t k m : ℕ) → k ≤ m → later t k ≤ later t m
grows t k m l = omega (arith, l)

no_less : (t k : ℕ) → t + k ≤ later t k
no_less t k = omega arith

-- the look at a key in turn j, and look i for it to be up
abbrev look : ℕ → ℕ → ℕ
look t j = later t (114 + 14 * j) + 1

abbrev look_up : ℕ → ℕ → ℕ → ℕ
look_up t j i = later t (116 + 14 * j + 2 * i) + 1

-- a turn that looks at the key in one of these cycles
record Looks (t u key : ℕ) : Type 0 where
  j : ℕ
  turn : j % 16 ≡ key
  from : u ≤ look t j
  to : look t j < u + least_down

looks : (t u key n : ℕ) → key < 16 → t ≤ u → u ≤ look t (key + 16 * n) → Looks t u key
looks t u key zero fits m l =
    record { j = key; turn = omega (arith, fits); from = omega (arith, l); to = omega (arith, once t (114 + 14 * key) (omega (arith, fits)), fits, m) }
looks t u key (suc n) fits m l = elim (cases_lt (look t (key + 16 * n)) u) [
  | inl before ↦ record {
    j = key + 16 * suc n;
    turn = omega (arith, fits);
    from = l;
    to = omega (arith, step_most t (114 + 14 * (key + 16 * n)) 224 (omega arith), before);
  }
  | inr behind ↦ looks t u key n fits m behind
]

-- the first look in cycle w or later, behind one before it
record Over (t j w : ℕ) : Type 0 where
  i : ℕ
  from : w ≤ look_up t j i
  last : later t (114 + 14 * j + 2 * i) + 1 < w

over : (t j w n : ℕ) → w ≤ look_up t j n → look t j < w → Over t j w
over t j w zero l k = record { i = 0; from = l; last = omega (arith, k) }
over t j w (suc n) l k = elim (cases_lt (look_up t j n) w) [
  | inl before ↦ record { i = suc n; from = l; last = omega (arith, before) }
  | inr behind ↦ over t j w n behind k
]

-- ---- the first number for which a test holds

record Found (n : ℕ) (f : ℕ → Bool) (j d : ℕ) : Type 0 where
  r : ℕ
  is : first_from n f j ≡ Some r
  most : r ≤ d

apart : {X : Type 0} → false ≡ true → X
apart k = cc

found : (n : ℕ) (f : ℕ → Bool) (j d : ℕ) → j ≤ d → d < j + n → f d ≡ true → Found n f j d
unfolding first_from
found zero f j d l k h = absurd (omega (arith, l, k))
found (suc n) f j d l k h = elim (cases_Bool (f j)) [
  | inl holds ↦ record { r = j; is = rw holds refl; most = l }
  | inr fails ↦ elim (cases_lt j d) [
    | inl below ↦ let o = found n f (j + 1) d (omega (arith, below)) (omega (arith, k)) h in record { r = o.r; is = rw fails o.is; most = o.most }
    | inr past ↦ apart (sym fails ∙ subst (λ i. f i ≡ true) (omega (arith, l, past)) h)
  ]
]

-- ---- FX0A

module _ (e : Edition) (script : List Event) (limit t : ℕ) (s : Lang) (u w : ℕ) (m : t ≤ u) (p : PressedFor least_down least_up script u w)
    (enough : w + least_up ≤ limit) where
  abbrev Ends : Next → Type 0
  Ends = ComesIn (λ c. c < w + least_up)

  abbrev is_down : ℕ → Bool
  is_down j = held_at script (look t j) (j % 16)

  abbrev is_up : ℕ → ℕ → Bool
  is_up j i = not (held_at script (look_up t j i) (j % 16))

  turn_down : Looks t u p.key
  turn_down = looks t u p.key u p.fits m (omega (arith, no_less t (114 + 14 * (p.key + 16 * u))))

  down : Found limit is_down 0 turn_down.j
  down =
      found limit is_down 0 turn_down.j (omega arith) (omega (arith, turn_down.to, p.behind, enough, no_less t (114 + 14 * turn_down.j)))
      (subst (λ k. held_at script (look t turn_down.j) k ≡ true) (sym turn_down.turn) (p.pressed (look t turn_down.j) turn_down.from turn_down.to))

  let_up : Over t down.r w
  let_up =
      over t down.r w w (omega (arith, no_less t (116 + 14 * down.r + 2 * w)))
      (omega (arith, grows t (114 + 14 * down.r) (114 + 14 * turn_down.j) (omega (arith, down.most)), turn_down.to, p.behind))

  in_time : look_up t down.r let_up.i < w + least_up
  in_time = omega (arith, step_most t (114 + 14 * down.r + 2 * let_up.i) 2 (omega arith), let_up.last)

  up : Found limit (is_up down.r) 0 let_up.i
  up =
      found limit (is_up down.r) 0 let_up.i (omega arith) (omega (arith, in_time, enough, no_less t (116 + 14 * down.r + 2 * let_up.i)))
      (ap not (p.released (look_up t down.r let_up.i) (down.r % 16) let_up.from in_time (omega arith)))

  key_ends : (x : ℕ) → Ends (pressed e script limit x t s (first_from limit is_down 0))
  key_ends x =
      subst (λ o. Ends (pressed e script limit x t s o)) (sym down.is)
      (subst (λ o. Ends (let_go e script limit x t s down.r o)) (sym up.is)
      (omega (
        arith,
        grows t (126 + 14 * down.r + 2 * up.r) (126 + 14 * down.r + 2 * let_up.i) (omega (arith, up.most)),
        step_most t (114 + 14 * down.r + 2 * let_up.i) 12 (omega arith),
        let_up.last,
      )))

  abbrev EndsBy : Option Line → Next → Type 0
  EndsBy (Some line) n = Unit {0}
  EndsBy None n = Ends n

  after_key : (i : Instr) → EndsBy (line_of_instr i) (after_instr e script limit i t s)
  after_key (WaitKey x) = key_ends x
  after_key _ = tt

  by_key : (o : Option Stop) → EndsBy (line_by o (instr_at s)) (by_stop e script limit o t s)
  by_key (Some stop) = tt
  by_key None = after_key (instr_at s)

pub every_key_bound : EveryKeyBound
every_key_bound e script limit t u w s can is m p enough =
    subst (λ o. EndsBy e script limit t s u w m p enough o (next_point e script limit t s)) is (by_key e script limit t s u w m p enough (stop_of e s))

-- ---- key F, down from a on and up from b on

abbrev pressing : ℕ → ℕ → List Event
pressing a b = record { cycle = a; key = 15; down = true } ∷ record { cycle = b; key = 15; down = false } ∷ []

held_down : (a b t : ℕ) → a ≤ t → t < b → held_at (pressing a b) t 15 ≡ true
held_down a b t l k = rw (le-leb a t l, lt-leb b t k) refl

held_up : (a b t k : ℕ) → a ≤ b → b ≤ t → held_at (pressing a b) t k ≡ false
held_up a b t k l m = elim (cases_Bool (15 == k)) [
  | inl is ↦ rw (is, le-leb a t (omega (arith, l, m)), le-leb b t m) refl
  | inr other ↦ rw other refl
]

is_pressed : (down up a b : ℕ) → a + down ≡ b → PressedFor down up (pressing a b) a b
is_pressed down up a b is =
    record {
      key = 15;
      fits = omega arith;
      pressed = λ t l k. held_down a b t l (omega (arith, k, is));
      behind = omega (arith, is);
      released = λ t k l m n. held_up a b t k (omega (arith, is)) l;
    }

-- FX0A behind some loads
abbrev waiting : ℕ → List ℕ
waiting n = loads n (0xfd ∷ 0x0a ∷ [])

by_waiting : (e : Edition) (down up a b n : ℕ) (Is : ℕ → Next → Type 0) → a + down ≡ b
    → list_all (λ x. nat_lt x 256) (waiting n) ≡ true
    → nat_le (length (waiting n)) (memory_size e) ≡ true
    → WaitsAt e (pressing a b) (b + up) a (Is b) (slice_get (timed_run e (pressing a b) (b + up) (waiting n)) n)
    → IsWaited e down up Is
by_waiting e down up a b n Is is are fits waits =
    record {
      game = waiting n;
      small = leb-true (length (waiting n)) (memory_size e) fits;
      bytes = bytes_of (waiting n) are;
      script = pressing a b;
      limit = b + up;
      k = n;
      u = a;
      w = b;
      pressed = is_pressed down up a b is;
      within = omega arith;
      waits = waits;
    }

-- the key is let go ten cycles before the interrupt of a frame
pub key_taken : KeyTaken
unfolding shown_behind windows_ended first_from
key_taken Usual = by_waiting Usual least_down least_up 2580 4752 0 (λ w. ComesIn (λ c. c + 1 ≡ w + least_up)) refl refl refl (refl, omega arith, refl)
key_taken Tall = by_waiting Tall least_down least_up 2580 4752 0 (λ w. ComesIn (λ c. c + 1 ≡ w + least_up)) refl refl refl (refl, omega arith, refl)

-- the key is let go right before it is looked at, behind an interrupt
pub key_missed : KeyMissed
unfolding shown_behind windows_ended first_from
key_missed Usual =
    by_waiting Usual (least_down - 1) least_up 830 3001 9 (λ w next. ComesIn (λ c. Unit {0}) next → ⊥) refl refl refl (refl, omega arith, λ never. never)
key_missed Tall =
    by_waiting Tall (least_down - 1) least_up 830 3001 9 (λ w next. ComesIn (λ c. Unit {0}) next → ⊥) refl refl refl (refl, omega arith, λ never. never)

-- ---- boot

pub every_boot : EveryBoot
every_boot e game script limit = (λ l. rw (le-leb 56 limit l) refl, λ l. rw (lt-leb 56 limit l) refl)
