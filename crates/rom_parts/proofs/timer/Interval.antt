-- The interval since the last dispatch point, as the board's moves go on: its ticks and its keys, and the room on the stack.
use Rattle.std.proofs.Common.{get_or, nat_lt, cond, false, ◌≡◌, ℕ, zero, suc, ◌+◌, ◌-◌, ◌%◌, ◌<◌, ◌≤◌, ◌⊎◌, inl, inr, refl, sym, ◌∙◌, ap, arith, List, [], ◌∷◌, ◌++◌, length}
use Rattle.std.specs.Prelude.{Some, slice_get}
use Rattle.std.proofs.lemmas.Bool.{cases_lt, lt-ltb, le-ltb}
use Rattle.std.proofs.lemmas.Option.{slice_get_within, slice_get-get_or}
use Rattle.machine.specs.Bank.{value}
use Rattle.machine.specs.Board.{Machine}
use Rattle.machine.specs.Keys.{Event, Keys, held_at}
use Rattle.machine.specs.Pictures.{interrupt_at, place, interrupt_place}
use Rattle.machine.specs.Ranges.{FitsMachine}
use Rattle.chip8_lang.specs.declared.view.Edition.{Edition}
use Rattle.chip8_lang.specs.Editions.{memory_end, stack_top}
use Rattle.chip8_lang.specs.State.{Lang}
use Rattle.chip8_lang.specs.Between.{ticks_between, keys_from, keys_between}
use Rattle.chip8_lang.proofs.Ticks.{ticks_counted}
use Rattle.chip8_lang.specs.Timed.{routine_cycles}
use Rattle.rom_law.specs.Holding.{Places, places, Holding}
use Rattle.rom_law.specs.Program.{Program, KeepsState}
use Rattle.rom_law.specs.Rows.{Embeds}
use Rattle.rom_law.proofs.Language.{keys_from_get, last_or_before}
use Rattle.rom_law.proofs.Places.{holding, stack_most, stack_below}
use Rattle.rom_rows.specs.Rom.{vip}
use Rattle.rom_rows.proofs.Bytes.{memory_end_is, stack_top_is}
use Rattle.rom_parts.specs.timer.Routine.{IsInterrupted}

-- ---- ticks

pub ticks_main : (a t : ℕ) → t % 2 ≡ 0 → (place t ≡ interrupt_place → ⊥) → ticks_between a (t + 2) ≡ ticks_between a t
ticks_main a t e d = omega (arith, d, ticks_counted a (t + 2), ticks_counted a t)

pub ticks_wait : (a t : ℕ) → (place t ≡ interrupt_place → ⊥) → ticks_between a (t + 1) ≡ ticks_between a t
ticks_wait a t d = omega (arith, d, ticks_counted a (t + 1), ticks_counted a t)

pub ticks_served : (a m : ℕ) → a < interrupt_at m → ticks_between a (interrupt_at m + routine_cycles) ≡ suc (ticks_between a (interrupt_at m))
ticks_served a m l = omega (arith, ticks_counted a (interrupt_at m + routine_cycles), ticks_counted a (interrupt_at m))

-- ---- the room on the stack

module _ {x : Program} {p : Places} {s : Lang} (o : Holding x p s) where
  -- 21 bytes may be pushed besides the two of an interrupt
  pub has_room : memory_end x.edition + 23 ≤ value p.r2
  has_room = omega (arith, stack_most o, o.stack, memory_end_is x.edition, stack_top_is x.edition)

  pub in_stack : value p.r2 ≤ stack_top x.edition
  in_stack = omega (arith, o.stack)

-- where a language state lies in the machine in the cycle of an interrupt, the routine comes to a tick
pub keeps_interrupted : (e : Edition) (m : ℕ) (b : Machine) (s : Lang) → FitsMachine b → KeepsState (vip e) b s → b.cycle ≡ interrupt_at m → IsInterrupted e m b
keeps_interrupted e m b s f k c =
    record {
      cycle = c;
      on = k.on;
      enabled = k.lies.enabled;
      latch = k.lies.latch;
      entry = k.entry;
      fits = f;
      room = omega (arith, has_room o);
      top = omega (arith, in_stack o, stack_below e);
    }
  where
    o : Holding (vip e) (places b) s
    o = holding (vip e) b s f.size k

-- ---- keys

module _ (script : List Event) where
  keys_length : (n a : ℕ) → length (keys_from script a n) ≡ n
  keys_length zero a = refl
  keys_length (suc n) a = ap suc (keys_length n (a + 1))

  -- a longer interval has the same sets, and more
  pub keys_longer : (a n n' u : ℕ) (k : Keys) → n ≤ n' → slice_get (keys_from script a n) u ≡ Some k → slice_get (keys_from script a n') u ≡ Some k
  keys_longer a n n' u k l h = keys_from_get script n' a u (omega (arith, inside)) ∙ sym (keys_from_get script n a u inside) ∙ h
    where
      inside : u < n
      inside = omega (arith, slice_get_within (keys_from script a n) u k h, keys_length n a)

  pub embeds_longer : (a e e' : ℕ) (sets : List Keys) → e ≤ e' → Embeds sets (keys_between script a e) → Embeds sets (keys_between script a e')
  embeds_longer a e e' sets l m =
      record { place = m.place; there = λ u k h. keys_longer a (e - a) (e' - a) (m.place u) k (omega arith) (m.there u k h); order = m.order }

  -- the set of a main move, in the cycle after its fetch, comes behind those before
  module _ (a t : ℕ) (from : a ≤ t) (sets : List Keys) (m : Embeds sets (keys_between script a t)) where
    before_it : (u : ℕ) → u < length sets → m.place u < t - a
    before_it u l =
        omega (
          arith,
          slice_get_within (keys_from script a (t - a)) (m.place u) _ (m.there u (get_or sets u nobody)
              (slice_get-get_or sets u nobody l)),
          keys_length (t - a) a,
        )
      where
        nobody : Keys
        nobody = λ k. false

    place_more : ℕ → ℕ
    place_more u = cond (nat_lt u (length sets)) (m.place u) (t + 1 - a + (u - length sets))

    place_old : (u : ℕ) → u < length sets → place_more u ≡ m.place u
    unfolding place_more
    place_old u l = rw (lt-ltb u (length sets) l) refl

    place_new : (u : ℕ) → length sets ≤ u → place_more u ≡ t + 1 - a + (u - length sets)
    unfolding place_more
    place_new u l = rw (le-ltb u (length sets) l) refl

    there_more : (u : ℕ) (k : Keys) → slice_get (sets ++ held_at script (t + 1) ∷ []) u ≡ Some k
        → slice_get (keys_between script a (t + 2)) (place_more u) ≡ Some k
    there_more u k h = go (last_or_before sets (held_at script (t + 1)) u k h)
      where
        go : (slice_get sets u ≡ Some k) ⊎ ((u ≡ length sets) × (k ≡ held_at script (t + 1)))
            → slice_get (keys_between script a (t + 2)) (place_more u) ≡ Some k
        go (inl f) =
            ap (slice_get (keys_between script a (t + 2))) (place_old u (slice_get_within sets u k f))
            ∙ keys_longer a (t - a) (t + 2 - a) (m.place u) k (omega arith) (m.there u k f)
        go (inr f) =
            ap (slice_get (keys_between script a (t + 2))) (place_new u (omega (arith, f.0)) ∙ last)
            ∙ keys_from_get script (t + 2 - a) a (t + 1 - a) (omega arith) ∙ ap Some (ap (held_at script) at ∙ sym f.1)
          where
            last : t + 1 - a + (u - length sets) ≡ t + 1 - a
            last = omega (arith, f.0)

            at : a + (t + 1 - a) ≡ t + 1
            at = omega arith

    order_more : (u w : ℕ) → u < w → place_more u < place_more w
    order_more u w l = go (cases_lt u (length sets)) (cases_lt w (length sets))
      where
        go : (u < length sets) ⊎ (length sets ≤ u) → (w < length sets) ⊎ (length sets ≤ w) → place_more u < place_more w
        go (inl j) (inl k) = omega (arith, place_old u j, place_old w k, m.order u w l)
        go (inl j) (inr k) = omega (arith, place_old u j, place_new w k, before_it u j)
        go (inr j) (inl k) = absurd (omega arith)
        go (inr j) (inr k) = omega (arith, place_new u j, place_new w k)

    pub embeds_more : Embeds (sets ++ held_at script (t + 1) ∷ []) (keys_between script a (t + 2))
    embeds_more = record { place = place_more; there = there_more; order = order_more }
