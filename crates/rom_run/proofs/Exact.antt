-- Main cycles as the language's time counts them, by arithmetic: so many of them, and the interrupts that come among them, lead to the cycle that it
-- names.
use Rattle.std.proofs.Common.{◌≡◌, ℕ, ◌+◌, ◌-◌, ◌*◌, ◌/◌, ◌%◌, ◌<◌, ◌≤◌, ◌⊎◌, inl, inr, refl, sym, ◌∙◌, ap, subst, arith, false, true, false}
use Rattle.std.specs.Prelude.{Option, Some, None}
use Rattle.machine.specs.Pictures.{place, interrupt_place, interrupt_at}
use Rattle.chip8_lang.specs.declared.instr.Instr.{Instr}
use Rattle.chip8_lang.specs.declared.view.Edition.{Edition}
use Rattle.chip8_lang.specs.declared.view.Stop.{Stop}
use Rattle.chip8_lang.specs.Between.{ticks_between}
use Rattle.chip8_lang.specs.State.{Lang, instr_at}
use Rattle.chip8_lang.specs.Step.{KeyInput}
use Rattle.chip8_lang.specs.Timed.{between_routines, to_interrupt, interrupts, later, ended, woken, before_wait, behind_wait, routine_cycles}
use Rattle.chip8_lang.proofs.Ticks.{ticks_counted}
use Rattle.rom_law.specs.Moments.{is_waiting, takes_by}
use Rattle.rom_parts.specs.timer.Frame.{IsOutside}
use Rattle.rom_run.specs.Time.{WaitsBy, since_return, since_window}
use Rattle.rom_run.specs.Time.WaitsBy.{ToClear, ToDraw}

-- how long ago the latest cycle of an interrupt was, before a or in it
abbrev since_interrupt : ℕ → ℕ
since_interrupt a = (a + 2576) % 3668

far : (a : ℕ) → IsOutside a → (place a ≡ interrupt_place → ⊥) → 1820 ≤ since_interrupt a
far a (inl l) d = omega (arith, l, d)
far a (inr l) d = omega (arith, l)

behind_it : (a : ℕ) → (place a ≡ interrupt_place → ⊥) → 0 < since_interrupt a
behind_it a d = omega (arith, d)

to_next : (a : ℕ) → (place a ≡ interrupt_place → ⊥) → to_interrupt a ≡ 3668 - since_interrupt a
to_next a d = omega (arith, d)

returned : (c : ℕ) → since_return c ≤ between_routines → (place c ≡ interrupt_place → ⊥) → 1846 ≤ since_interrupt c
returned c l d = omega (arith, l, d)

-- q interrupts come among the k main cycles
counts : (f r g u k q : ℕ) → 1820 ≤ r → r < 3668 → 0 < u → u < 3668 → g ≡ f + q → 3668 * g + u ≡ 3668 * f + r + k + 1846 * q → (q ≡ 0) ⊎ (1846 ≤ u)
    → (1822 + k - (3668 - r)) / 1822 ≡ q
counts f r g u k q l m n o e is (inl z) = omega (arith, l, m, n, o, e, is, z)
counts f r g u k q l m n o e is (inr z) = omega (arith, l, m, n, o, e, is, z)

among : (c q : ℕ) → (q ≡ 0) ⊎ (since_return c ≤ between_routines) → (place c ≡ interrupt_place → ⊥) → (q ≡ 0) ⊎ (1846 ≤ since_interrupt c)
among c q (inl z) d = inl z
among c q (inr l) d = inr (returned c l d)

pub interrupts_are : (a k q c : ℕ) → IsOutside a → (place a ≡ interrupt_place → ⊥) → (place c ≡ interrupt_place → ⊥) → q ≡ ticks_between a c
    → c ≡ a + k + routine_cycles * q → (q ≡ 0) ⊎ (since_return c ≤ between_routines) → interrupts a k ≡ q
interrupts_are a k q c out d n e is w =
    ap (λ t. (between_routines + k - t) / between_routines) (to_next a d)
    ∙ counts ((a + 2576) / 3668) (since_interrupt a) ((c + 2576) / 3668) (since_interrupt c) k q (far a out d) (omega arith) (behind_it c n) (omega arith)
    (omega (arith, e, ticks_counted a c, n, is)) (omega (arith, is)) (among c q w n)

-- where main code has made k main cycles since cycle a and goes on
pub later_is : (a k q c : ℕ) → IsOutside a → (place a ≡ interrupt_place → ⊥) → (place c ≡ interrupt_place → ⊥) → q ≡ ticks_between a c
    → c ≡ a + k + routine_cycles * q → (q ≡ 0) ⊎ (since_return c ≤ between_routines) → c ≡ later a k
later_is a k q c out d n e is w = is ∙ ap (λ m. a + k + routine_cycles * m) (sym (interrupts_are a k q c out d n e is w))

-- ---- moves behind the return of an interrupt's routine

pub return_main : (t : ℕ) → t % 2 ≡ 0 → (place t ≡ interrupt_place → ⊥) → since_return t ≤ between_routines
    → (since_return (t + 2) ≡ since_return t + 2) × (since_return t + 2 ≤ between_routines)
return_main t e d l = (omega (arith, e, d, l), omega (arith, e, d, l))

pub return_idle : (t : ℕ) → (place t ≡ interrupt_place → ⊥) → since_return t ≤ between_routines
    → (since_return (t + 1) ≡ since_return t + 1) × (since_return t + 1 ≤ between_routines)
return_idle t d l = (omega (arith, d, l), omega (arith, d, l))

-- ---- the wait for the display

-- w main cycles are over q interrupts and n cycles before the next interrupt
waits_counts : (r w q n : ℕ) → 1820 ≤ r → r < 3668 → 3668 * (q + 1) ≡ r + w + 1846 * q + n → 0 < w → n ≤ 1848 → (q ≡ 0) ⊎ (n ≤ 1820)
    → (1822 + (w - 1) - (3668 - r)) / 1822 ≡ q
waits_counts r w q n l m e o most (inl z) = omega (arith, l, m, e, o, most, z)
waits_counts r w q n l m e o most (inr k) = omega (arith, l, m, e, o, most, k)

before_wait_over : (q n m : ℕ) → (q ≡ 0) ⊎ (n + 2 ≤ since_return (interrupt_at m)) → (q ≡ 0) ⊎ (n ≤ 1820)
before_wait_over q n m (inl z) = inl z
before_wait_over q n m (inr k) = inr (omega (arith, k))

woken_from : (t n m : ℕ) → n ≤ 1848 → t + n ≡ interrupt_at m → woken t ≡ interrupt_at m + routine_cycles
woken_from t n m l e = omega (arith, l, e)

-- where the routine returns that ends a wait of n cycles
pub woken_is : (a w q n m : ℕ) → IsOutside a → (place a ≡ interrupt_place → ⊥) → q ≡ ticks_between a (interrupt_at m)
    → interrupt_at m ≡ a + w + routine_cycles * q + n → 0 < w → n ≤ since_window (interrupt_at m)
    → (q ≡ 0) ⊎ (n + 2 ≤ since_return (interrupt_at m))
    → (interrupt_at m + routine_cycles ≡ woken (ended a w)) × (interrupts a (w - 1) ≡ q)
woken_is a w q n m out d e is some most moved = (
  sym (ap (λ k. woken (a + (w - 1) + routine_cycles * k + 1)) counted ∙ woken_from (a + (w - 1) + routine_cycles * q + 1) n m few (omega (arith, is, some))),
  counted,
)
  where
    few : n ≤ 1848
    few = omega (arith, most)

    counted : interrupts a (w - 1) ≡ q
    counted =
        ap (λ t. (between_routines + (w - 1) - t) / between_routines) (to_next a d)
        ∙ waits_counts (since_interrupt a) w q n (far a out d) (omega arith)
        (omega (arith, is, e, ticks_counted a (interrupt_at m), some)) some few (before_wait_over q n m moved)

-- behind it no interrupt comes so soon
pub later_soon : (t k : ℕ) → place t ≡ interrupt_place + routine_cycles → k < between_routines → later t k ≡ t + k
later_soon t k r l = omega (arith, none)
  where
    none : interrupts t k ≡ 0
    none = omega (arith, r, l)

-- ---- the cycle behind the wait

abbrev pub due_behind : Edition → Instr → ℕ → Lang → ℕ
due_behind e i t s = later (woken (ended t (before_wait e i s))) (behind_wait e i s)

pub waits_take : (e : Edition) (s : Lang) (key : KeyInput) {most : ℕ} → WaitsBy s most
    → takes_by e (instr_at s) s key ≡ Some (before_wait e (instr_at s) s + behind_wait e (instr_at s) s)
waits_take e s key (ToClear is) = subst (λ i. takes_by e i s key ≡ Some (before_wait e i s + behind_wait e i s)) (sym is) refl
waits_take e s key (ToDraw x y n is) = subst (λ i. takes_by e i s key ≡ Some (before_wait e i s + behind_wait e i s)) (sym is) refl

-- an instruction that waits is one of the two
pub waits_are : (s : Lang) {most : ℕ} → WaitsBy s most → is_waiting (instr_at s) ≡ false → ⊥
waits_are s (ToClear is) k = apart (sym (ap is_waiting is) ∙ k)
  where
    apart : true ≡ false → ⊥
    apart k = cc
waits_are s (ToDraw x y n is) k = apart (sym (ap is_waiting is) ∙ k)
  where
    apart : true ≡ false → ⊥
    apart k = cc

-- a state that stops isn't one that doesn't
pub stops_not : {o : Option Stop} {stop : Stop} → o ≡ None → o ≡ Some stop → ⊥
stops_not k l = cc
