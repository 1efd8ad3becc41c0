-- What comes behind a dispatch point is what the language's time says: its cycle, and its state.
use Rattle.std.proofs.Common.{◌≡◌, ℕ, zero, suc, ◌+◌, ◌-◌, ◌%◌, refl, sym, ◌∙◌, ap, subst, arith, Bool, true, false, List, ◌∷◌, ◌++◌, drop, ◌<◌, not, ◌≤◌, ◌*◌}
use Rattle.std.specs.Prelude.{Some, None}
use Rattle.machine.specs.Keys.{Event, Keys, held_at}
use Rattle.chip8_lang.specs.declared.instr.Instr.{Instr}
use Rattle.chip8_lang.specs.declared.instr.Instr.TheVariants.{Clear, Draw, WaitKey, Random, GetDelay, SetDelay, SetSound, SkipDown, SkipUp, Fetch}
use Rattle.chip8_lang.specs.declared.view.Edition.{Edition}
use Rattle.chip8_lang.specs.Between.{Between, Allows, WaitsWell}
use Rattle.chip8_lang.specs.State.{Lang, variable, readable_byte, instr_at}
use Rattle.chip8_lang.specs.Step.{KeyInput, stop_of, bytes_from, step, done_by}
use Rattle.chip8_lang.specs.Step.KeyInput.{Nothing, Held, Chosen}
use Rattle.chip8_lang.specs.Ticks.{tick, ticks}
use Rattle.chip8_lang.specs.Timed.{interrupts, later, cycles, ticks_first, first_from, pressed, let_go, ran, waited, after_instr, by_stop, next_point}
use Rattle.chip8_lang.specs.Timed.Next.{Dispatch}
use Rattle.rom_law.specs.Moments.{Moment, Among, TicksBefore, Sees, Chooses, MovesTell, is_waiting, takes_by}
use Rattle.rom_law.specs.Rows.{Since}
use Rattle.rom_law.proofs.Language.{ticks_add, ticks_instr}
use Rattle.rom_run.specs.Running.{Dated}
use Rattle.rom_run.specs.Time.{WaitsBy, wait_time}
use Rattle.rom_run.specs.Time.WaitsBy.{ToClear, ToDraw}
use Rattle.rom_run.proofs.Exact.{due_behind}

spoilt : {X : Type 0} → true ≡ false → X
spoilt k = cc

-- the first number for which a test holds
first_at : (n : ℕ) (f : ℕ → Bool) (j d : ℕ) → d < n → ((i : ℕ) → i < d → f (j + i) ≡ false) → f (j + d) ≡ true → first_from n f j ≡ Some (j + d)
unfolding first_from
first_at zero f j d l none found = absurd (omega (arith, l))
first_at (suc n) f j zero l none found = rw (subst (λ k. f k ≡ true) same found) (ap Some (sym same))
  where
    same : j + 0 ≡ j
    same = omega arith
first_at (suc n) f j (suc d) l none found =
    rw (subst (λ k. f k ≡ false) here (none 0 (omega arith)))
    (subst (λ k. first_from n f (j + 1) ≡ Some k) (next d)
    (first_at n f (j + 1) d (omega (arith, l)) (λ i m. subst (λ k. f k ≡ false) (sym (next i)) (none (suc i) (omega (arith, m))))
    (subst (λ k. f k ≡ true) (sym (next d)) found)))
  where
    here : j + 0 ≡ j
    here = omega arith

    next : (i : ℕ) → j + 1 + i ≡ j + suc i
    next i = omega arith

first_is : (n : ℕ) (f : ℕ → Bool) (d : ℕ) → d < n → ((i : ℕ) → i < d → f i ≡ false) → f d ≡ true → first_from n f 0 ≡ Some d
first_is n f d l none found =
    subst (λ k. first_from n f 0 ≡ Some k) (from_none d)
    (first_at n f 0 d l (λ i m. subst (λ k. f k ≡ false) (sym (from_none i)) (none i m)) (subst (λ k. f k ≡ true) (sym (from_none d)) found))
  where
    from_none : (i : ℕ) → 0 + i ≡ i
    from_none i = omega arith

untold : {X : Type 0} → false ≡ true → X
untold k = cc

-- ---- ticks change places with the other steps

-- neither waits for the display, nor uses the timers or the count of ticks
abbrev is_plain : Instr → Bool
is_plain Clear = false
is_plain (Draw x y n) = false
is_plain (Random x k) = false
is_plain (GetDelay x) = false
is_plain (SetDelay x) = false
is_plain (SetSound x) = false
is_plain _ = true

bytes_tick : (s : Lang) (n a : ℕ) → bytes_from (tick s) a n ≡ bytes_from s a n
bytes_tick s zero a = refl
bytes_tick s (suc n) a = ap (λ l. readable_byte s a ∷ l) (bytes_tick s n (a + 1))

swap : (e : Edition) (i : Instr) → is_plain i ≡ true → (key : KeyInput) (s : Lang) → done_by e i key (tick s) ≡ tick (done_by e i key s)
swap e Clear p key s = untold p
swap e (Draw x y n) p key s = untold p
swap e (Random x k) p key s = untold p
swap e (GetDelay x) p key s = untold p
swap e (SetDelay x) p key s = untold p
swap e (SetSound x) p key s = untold p
swap e (Fetch x) p key s = ap (λ l. tick (record (done_by e (Fetch x) key s) { v = l ++ drop (x + 1) s.v })) (bytes_tick s (x + 1) s.i)
swap e _ p key s = refl

swaps : (e : Edition) (i : Instr) → is_plain i ≡ true → (key : KeyInput) (n : ℕ) (s : Lang) → done_by e i key (ticks n s) ≡ ticks n (done_by e i key s)
swaps e i p key zero s = refl
swaps e i p key (suc n) s = swap e i p key (ticks n s) ∙ ap tick (swaps e i p key n s)

none_first : (i : Instr) → is_plain i ≡ true → (t : ℕ) → ticks_first i t ≡ 0
none_first (Random x k) p t = untold p
none_first (GetDelay x) p t = untold p
none_first (SetDelay x) p t = untold p
none_first (SetSound x) p t = untold p
none_first _ p t = refl

-- from an even cycle on no interrupt comes between an even number of main cycles and the next one
odd_same : (t k : ℕ) → t % 2 ≡ 0 → k % 2 ≡ 0 → interrupts t (k + 1) ≡ interrupts t k
odd_same t k e o = omega (arith, e, o)

-- ---- behind a step

module _ (e : Edition) (script : List Event) (limit : ℕ) (h : Since) (z : Lang) (c : ℕ) where
  abbrev a : ℕ
  a = h.from

  abbrev s : Lang
  s = h.state

  -- no stop comes
  runs_on : stop_of e s ≡ None → after_instr e script limit (instr_at s) a s ≡ Dispatch c z → next_point e script limit a s ≡ Dispatch c z
  runs_on k g = ap (λ o. by_stop e script limit o a s) k ∙ g

  -- so many ticks before the step and behind it
  ran_is : (key : KeyInput) (k n before after : ℕ) → c ≡ later a k → interrupts a k ≡ n → before + after ≡ n → ticks_first (instr_at s) a ≡ before
      → z ≡ ticks after (step e key (ticks before s)) → ran e script limit a s key k ≡ Dispatch c z
  ran_is key k n before after at count all first is =
      (λ i. Dispatch (sym at i) (ticks (left i) (step e key (ticks (first i) s)))) ∙ ap (Dispatch c) (sym is)
    where
      left : interrupts a k - ticks_first (instr_at s) a ≡ after
      left = omega (arith, count, all, first)

  -- ---- an instruction that doesn't wait

  module _ (before after : ℕ) (all : before + after ≡ h.ticks) (at : c ≡ later a h.spent) (count : interrupts a h.spent ≡ h.ticks)
      (past : (m : Moment) → Among m h.moments → Dated script a m) (even : a % 2 ≡ 0) (here : c ≤ limit) where
    -- the ticks before a main move, and the key that it saw
    met : (k : ℕ) → k % 2 ≡ 0 → TicksBefore h.moments k before → interrupts a (k + 1) ≡ before
    met k o m = odd_same a k even o ∙ ap (interrupts a) (sym m.at) ∙ sym (past m.moment m.among).ticks ∙ m.after

    saw : (k key : ℕ) (down : Bool) → Sees h.moments k key down → held_at script (later a k + 1) key ≡ down
    saw k key down m =
        ap (λ n. held_at script (later a n + 1) key) (sym m.at) ∙ sym (ap (λ (f : Keys). f key) (past m.moment m.among).held) ∙ m.is

    -- one that uses the timers or the count of ticks
    timed : (i : Instr) → instr_at s ≡ i → (k : ℕ) → h.spent ≡ k → ticks_first i a ≡ before → z ≡ ticks after (step e Nothing (ticks before s))
        → ran e script limit a s Nothing k ≡ Dispatch c z
    timed i is k took first made =
        ran_is Nothing k h.ticks before after (at ∙ ap (later a) took) (ap (interrupts a) (sym took) ∙ count) all
        (ap (λ j. ticks_first j a) is ∙ first) made

    -- and any other
    plain : (i : Instr) → instr_at s ≡ i → is_plain i ≡ true → (key : KeyInput) (k : ℕ) → h.spent ≡ k
        → z ≡ ticks after (step e key (ticks before s)) → ran e script limit a s key k ≡ Dispatch c z
    plain i is p key k took made =
        ran_is key k h.ticks 0 h.ticks (at ∙ ap (later a) took) (ap (interrupts a) (sym took) ∙ count) (omega arith)
        (ap (λ j. ticks_first j a) is ∙ none_first i p a)
        (made ∙ ap (ticks after) (ap (λ j. done_by e j key (ticks before s)) (ticks_instr before s ∙ is) ∙ swaps e i p key before s
        ∙ ap (λ j. ticks before (done_by e j key s)) (sym is)) ∙ ticks_add after before (step e key s) ∙ ap (λ n. ticks n (step e key s)) all)

    -- FX0A, whose turns and looks come before the limit
    chosen : (x : ℕ) → instr_at s ≡ WaitKey x → (k : ℕ) → Chooses h.moments h.spent k → z ≡ ticks after (step e (Chosen k) (ticks before s))
        → after_instr e script limit (WaitKey x) a s ≡ Dispatch c z
    chosen x is k m made =
        ap (pressed e script limit x a s) (first_is limit (λ j. held_at script (later a (114 + 14 * j) + 1) (j % 16)) m.turn
        (omega (arith, late)) (λ i l. saw (114 + 14 * i) (i % 16) false (m.holds.searched i l))
        (saw (114 + 14 * m.turn) (m.turn % 16) true m.holds.down))
        ∙ ap (let_go e script limit x a s m.turn)
        (first_is limit (λ i. not (held_at script (later a (116 + 14 * m.turn + 2 * i) + 1) (m.turn % 16))) m.looks (omega (arith, late))
        (λ i l. ap not (saw (116 + 14 * m.turn + 2 * i) (m.turn % 16) true (m.holds.held i l)))
        (ap not (saw (116 + 14 * m.turn + 2 * m.looks) (m.turn % 16) false m.up)))
        ∙ subst (λ y. ran e script limit a s (Chosen y) (126 + 14 * m.turn + 2 * m.looks) ≡ Dispatch c z) m.is
        (plain (WaitKey x) is refl (Chosen k) _ m.spends made)
      where
        late : 126 + 14 * m.turn + 2 * m.looks ≤ limit
        late = omega (arith, m.spends, at, here)

    go : (i : Instr) → instr_at s ≡ i → (key : KeyInput) → Allows i s h.keys key → MovesTell i s h.moments h.spent before key
        → ((n : ℕ) → takes_by e i s key ≡ Some n → h.spent ≡ n) → z ≡ ticks after (step e key (ticks before s)) → is_waiting i ≡ false → after_instr e script limit i a s ≡ Dispatch c z
    go Clear is key al told time made w = spoilt w
    go (Draw x y n) is key al told time made w = spoilt w
    go (WaitKey x) is (Chosen k) al told time made w = chosen x is k told made
    go (WaitKey x) is Nothing al told time made w = absurd al
    go (WaitKey x) is (Held d) al told time made w = absurd al
    go (Random x k) is Nothing al told time made w = timed (Random x k) is 114 (time _ refl) (met 90 refl told) made
    go (GetDelay x) is Nothing al told time made w = timed (GetDelay x) is 92 (time _ refl) (met 86 refl told) made
    go (SetDelay x) is Nothing al told time made w = timed (SetDelay x) is 104 (time _ refl) (met 100 refl told) made
    go (SetSound x) is Nothing al told time made w = timed (SetSound x) is 110 (time _ refl) (met 106 refl told) made
    go (SkipDown x) is (Held d) al told time made w =
        subst (λ y. ran e script limit a s (Held y) (cycles e (SkipDown x) (Held y) s) ≡ Dispatch c z) (sym (saw 90 (variable s x % 16) d told))
        (plain (SkipDown x) is refl (Held d) _ (time _ refl) made)
    go (SkipDown x) is Nothing al told time made w = absurd al
    go (SkipDown x) is (Chosen k) al told time made w = absurd al
    go (SkipUp x) is (Held d) al told time made w =
        subst (λ y. ran e script limit a s (Held y) (cycles e (SkipUp x) (Held y) s) ≡ Dispatch c z) (sym (saw 96 (variable s x % 16) d told))
        (plain (SkipUp x) is refl (Held d) _ (time _ refl) made)
    go (SkipUp x) is Nothing al told time made w = absurd al
    go (SkipUp x) is (Chosen k) al told time made w = absurd al
    go i is Nothing al told time made w = plain i is refl Nothing _ (time _ refl) made
    go i is (Held d) al told time made w = absurd al
    go i is (Chosen k) al told time made w = absurd al

  pub next_prompt : (runs : stop_of e s ≡ None) (b : Between e s h.ticks h.keys z)
      → ((n : ℕ) → takes_by e (instr_at s) s b.key ≡ Some n → h.spent ≡ n) → MovesTell (instr_at s) s h.moments h.spent b.before b.key
      → ((m : Moment) → Among m h.moments → Dated script a m) → a % 2 ≡ 0 → c ≡ later a h.spent → interrupts a h.spent ≡ h.ticks
      → is_waiting (instr_at s) ≡ false → c ≤ limit → next_point e script limit a s ≡ Dispatch c z
  next_prompt runs b time told past even at count w here =
      runs_on runs (go b.before b.after b.all at count past even here (instr_at s) refl b.key b.allowed told time b.is w)

  -- ---- one that waits for the display

  no_key : {most : ℕ} → WaitsBy s most → (key : KeyInput) → Allows (instr_at s) s h.keys key → key ≡ Nothing
  no_key (ToClear is) key al = by_clear key (subst (λ i. Allows i s h.keys key) is al)
    where
      by_clear : (key : KeyInput) → Allows Clear s h.keys key → key ≡ Nothing
      by_clear Nothing al = refl
      by_clear (Held d) al = absurd al
      by_clear (Chosen k) al = absurd al
  no_key (ToDraw x y n is) key al = by_draw key (subst (λ i. Allows i s h.keys key) is al)
    where
      by_draw : (key : KeyInput) → Allows (Draw x y n) s h.keys key → key ≡ Nothing
      by_draw Nothing al = refl
      by_draw (Held d) al = absurd al
      by_draw (Chosen k) al = absurd al

  none_behind : {most : ℕ} → WaitsBy s most → (before after : ℕ) → WaitsWell (instr_at s) before after → after ≡ 0
  none_behind (ToClear is) before after w = (subst (λ i. WaitsWell i before after) is w).1
  none_behind (ToDraw x y n is) before after w = (subst (λ i. WaitsWell i before after) is w).1

  waits_then : {most : ℕ} → WaitsBy s most → after_instr e script limit (instr_at s) a s ≡ waited e script limit a s
  waits_then (ToClear is) = ap (λ i. after_instr e script limit i a s) is
  waits_then (ToDraw x y n is) = ap (λ i. after_instr e script limit i a s) is

  pub next_waited : (runs : stop_of e s ≡ None) (b : Between e s h.ticks h.keys z) {most : ℕ} → WaitsBy s most → c ≡ due_behind e (instr_at s) a s
      → h.ticks ≡ interrupts a (wait_time e s - 1) + 1 → next_point e script limit a s ≡ Dispatch c z
  next_waited runs b w at count =
      runs_on runs
      (waits_then w ∙ (λ i. Dispatch (sym at i) (step e Nothing (ticks (first i) s)))
      ∙ ap (Dispatch c) (sym (b.is ∙ (λ i. ticks (last i) (step e (no_key w b.key b.allowed i) (ticks b.before s))))))
    where
      last : b.after ≡ 0
      last = none_behind w b.before b.after b.waits

      first : interrupts a (wait_time e s - 1) + 1 ≡ b.before
      first = omega (arith, b.all, last, count)
