-- The cycles of the main moves since a dispatch point, where main code doesn't wait for the display.
use Rattle.std.proofs.Common.{◌≡◌, ℕ, ◌+◌, ◌-◌, ◌*◌, ◌/◌, ◌<◌, ◌≤◌, ◌⊎◌, inl, inr, refl, arith}
use Rattle.std.proofs.lemmas.Bool.{cases_lt}
use Rattle.machine.specs.Pictures.{interrupt_at, place, interrupt_place}
use Rattle.chip8_lang.specs.Bounds.{key_cycles}
use Rattle.chip8_lang.proofs.Ticks.{ticks_passed}
use Rattle.chip8_lang.specs.Timed.{routine_cycles}
use Rattle.rom_parts.specs.timer.Frame.{IsOutside}

-- main code runs in cycle c, with n main moves since a dispatch point in cycle `from`
pub record Passed (from n c : ℕ) : Type 0 where
  pub outside : IsOutside c
  pub after : from ≤ c
  pub count : c ≡ from + 2 * n + routine_cycles * ticks_passed from c

-- where the routine returns
abbrev return_place : ℕ
return_place = interrupt_place + routine_cycles

-- Cycle t comes before the end of the cycles from w on in which all keys are up, and so does the return where t is a cycle of the routine.
pub record Soon (t w : ℕ) : Type 0 where
  pub here : t < w + key_cycles
  pub return : interrupt_place ≤ place t → place t < return_place → t + return_place < w + key_cycles + place t

-- ---- the cycles in which all keys are up

pub soon_first : (c u w : ℕ) → c ≤ u → u + key_cycles ≤ w → Soon c w
soon_first c u w l m = record { here = omega (arith, l, m); return = λ i r. omega (arith, l, m) }

-- the interrupt, and a move of the routine
pub soon_interrupt : (b w : ℕ) → Soon b w → place b ≡ interrupt_place → Soon (b + 1) w
soon_interrupt b w s i =
    let r : b + return_place < w + key_cycles + place b = s.return (omega (arith, i)) (omega (arith, i)) in
    record { here = omega (arith, r, i); return = λ k l. omega (arith, r, i) }

pub soon_routine : (m b c w : ℕ) → Soon b w → interrupt_at m < b → b < interrupt_at m + routine_cycles → b < c → c ≤ interrupt_at m + routine_cycles → Soon c w
soon_routine m b c w s l k n o =
    let r : b + return_place < w + key_cycles + place b = s.return (omega (arith, l, k)) (omega (arith, l, k)) in
    record { here = omega (arith, r, l, k, o); return = λ i j. omega (arith, r, l, k, n, o, i, j) }

-- so few main moves end before a key was down for long enough
pub few_passed : (from n c u : ℕ) → Passed from n c → 2 * n ≤ 354 → from ≤ u → c < u + key_cycles
few_passed from n c u p l f = omega (arith, p.outside, p.after, p.count, l, f)

-- where no more than six main moves have been made since a cycle before w
module _ (from j t n c w : ℕ) (p : Passed from j t) (q : Passed from n c) (few : n ≤ j + 6) (order : t ≤ c) (l : t < w) where
  pub soon_main : Soon (c + 2) w
  soon_main =
      record {
        here = omega (arith, p.outside, p.after, p.count, q.outside, q.after, q.count, few, order, l);
        return = λ i k. omega (arith, p.outside, p.after, p.count, q.outside, q.after, q.count, few, order, l, i, k);
      }

  pub soon_next : Soon (c + 1) w
  soon_next =
      record {
        here = omega (arith, p.outside, p.after, p.count, q.outside, q.after, q.count, few, order, l);
        return = λ i k. omega (arith, p.outside, p.after, p.count, q.outside, q.after, q.count, few, order, l, i, k);
      }

-- ---- the cycles in which a key is down

-- The first cycle from u on in which main code may run: u itself, or that of the return.
pub data Next (u v : ℕ) : Type 0 where
  Itself : (place u ≤ interrupt_place) ⊎ (return_place ≤ place u) → v ≡ u → Next u v
  AtReturn : u ≤ v → v < u + routine_cycles → place v ≡ return_place → Next u v

pub next_main : (u : ℕ) → (v : ℕ) × Next u v
next_main u = go (cases_lt (place u) return_place) (cases_lt interrupt_place (place u))
  where
    go : (place u < return_place) ⊎ (return_place ≤ place u) → (interrupt_place < place u) ⊎ (place u ≤ interrupt_place) → (v : ℕ) × Next u v
    go (inr l) d = (u, Itself (inr l) refl)
    go (inl l) (inr k) = (u, Itself (inl k) refl)
    go (inl l) (inl k) = (u + (return_place - place u), AtReturn (omega arith) (omega (arith, k)) (omega (arith, l)))

-- how many main moves since the dispatch point come before it, and one more
abbrev pub moves_to : ℕ → ℕ → ℕ
moves_to from v = (v - from - routine_cycles * ticks_passed from v) / 2 + 1

module _ (from u v j c : ℕ) (f : from ≤ u) (p : Passed from j c) where
  -- the main moves behind those are made from u on, and 400 of them while the key is down
  pub from_u : Next u v → moves_to from v ≤ j → u ≤ c
  from_u (Itself o is) l = omega (arith, o, is, l, f, p.outside, p.after, p.count)
  from_u (AtReturn g k is) l = omega (arith, g, k, is, l, f, p.outside, p.after, p.count)

  pub while_down : Next u v → j < moves_to from v + 400 → c + 1 < u + key_cycles
  while_down (Itself o is) l = omega (arith, o, is, l, f, p.outside, p.after, p.count)
  while_down (AtReturn g k is) l = omega (arith, g, k, is, l, f, p.outside, p.after, p.count)

  -- and that many have been made once that time is over
  pub all_made : Next u v → u + key_cycles ≤ c → moves_to from v + 400 ≤ j
  all_made (Itself o is) l = omega (arith, o, is, l, f, p.outside, p.after, p.count)
  all_made (AtReturn g k is) l = omega (arith, g, k, is, l, f, p.outside, p.after, p.count)
