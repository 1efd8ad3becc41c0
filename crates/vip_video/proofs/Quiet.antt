-- Quiet cycles: the chip counts, and nothing else changes.
use Rattle.std.proofs.Common.{◌≡◌, ◌≢◌, ◌+◌, ◌-◌, ◌*◌, ◌%◌, ◌<◌, ℕ, zero, suc, Bool, true, false, not, ap, sym, ◌∙◌, refl, subst, arith}
use Rattle.std.specs.Prelude.{Option, Some, None, ◌&&◌, IsSome, IsTrue}
use Rattle.std.proofs.lemmas.Bool.{ne_eqb}
use Rattle.machine.specs.Signals.{line_cycles, window_end_line, dma_at}
use Rattle.machine.specs.Pictures.{frame}
use Rattle.vip_video.specs.Chip.{Chip, Pictures, begins_frame, follows_window, needs_display, passed, scanned, ended}
use Rattle.vip_video.specs.Kept.{HasRoom}
use Rattle.vip_video.specs.Quiet.{HasNothing, IsDark, IsQuiet, AreQuiet}
use Rattle.vip_video.proofs.Room.{room-passed}

pub and-true : (x : Bool) → (x && true) ≡ x
and-true true = refl
and-true false = refl

-- where no line begins, no frame begins and no window ends
pub passes : (t : ℕ) (p : Pictures) → t % line_cycles ≢ 0 → passed t p ≡ p
passes t p h =
    let frame_goes_on : begins_frame t ≡ false = ne_eqb (t % frame) 0 (λ e. h (omega (arith, e))) in
    let window_goes_on : follows_window t ≡ false = ne_eqb (t % frame) (window_end_line * line_cycles) (λ e. h (omega (arith, e))) in
    rw (frame_goes_on, window_goes_on)

same-pictures : (t : ℕ) (p : Pictures) → HasNothing t → scanned t true None p ≡ p
same-pictures t p h = rw (h.frame, h.window) (ap (λ s. record p { shown = s }) (and-true p.shown))

pub quiet-ahead : (t n : ℕ) (on cycle_on shown : Bool) → on ≡ true → cycle_on ≡ true → ((k : ℕ) → k < n → HasNothing (t + k))
    → AreQuiet on cycle_on shown t (t + n)
quiet-ahead t n true true shown is_on is_cycle_on none u from to =
    let here : t + (u - t) ≡ u = omega (arith, from) in
    let nothing : HasNothing u = subst HasNothing here (none (u - t) (omega (arith, from, to))) in
    record { same = refl; int = nothing.int; dma = nothing.dma; pictures = λ p _. same-pictures u p nothing }
quiet-ahead t n true false shown is_on is_cycle_on none u from to = cc
quiet-ahead t n false cycle_on shown is_on is_cycle_on none u from to = cc

-- the same with the display off
dark-pictures : (t : ℕ) (shown : Bool) (p : Pictures) → IsDark shown t → p.shown ≡ shown → scanned t false None p ≡ p
dark-pictures t shown p d is =
    let stays : (p.shown && not (needs_display t)) ≡ p.shown = by_tests p.shown (needs_display t) (ap (λ s. needs_display t && s) is ∙ d.needs) in
    let window : (follows_window (t + 1) && p.shown) ≡ false = ap (λ s. follows_window (t + 1) && s) is ∙ d.window in
    rw (d.frame, stays, window) refl
  where
    by_tests : (shown needs : Bool) → (needs && shown) ≡ false → (shown && not needs) ≡ shown
    by_tests true true h = cc
    by_tests true false h = refl
    by_tests false needs h = refl

pub dark-ahead : (t n : ℕ) (on cycle_on shown : Bool) → on ≡ false → cycle_on ≡ false → ((k : ℕ) → k < n → IsDark shown (t + k))
    → AreQuiet on cycle_on shown t (t + n)
dark-ahead t n false false shown is_off is_cycle_off none u from to =
    let here : t + (u - t) ≡ u = omega (arith, from) in
    let dark : IsDark shown u = subst (IsDark shown) here (none (u - t) (omega (arith, from, to))) in
    record { same = refl; int = refl; dma = refl; pictures = λ p is. dark-pictures u shown p dark is }
dark-ahead t n false true shown is_off is_cycle_off none u from to = cc
dark-ahead t n true cycle_on shown is_off is_cycle_off none u from to = cc

-- ---- what holds of a quiet cycle

abbrev pub chip : ℕ → Bool → Bool → Pictures → Chip
chip t on cycle_on p = record { cycles = t; on = on; cycle_on = cycle_on; pictures = p }

both : (x : Bool) → x ≡ true → x ≡ false → ⊥
both x t f = cc

pub quiet-ended : (t : ℕ) (on cycle_on : Bool) (byte : Option ℕ) (p : Pictures) → IsQuiet on cycle_on p.shown t → (IsSome byte → IsTrue (dma_at t on))
    → chip (t + 1) on cycle_on p ≡ ended byte (chip t on cycle_on p)
quiet-ended t true true None p q wanted = ap (chip (t + 1) true true) (sym (q.pictures p refl))
quiet-ended t false false None p q wanted = ap (chip (t + 1) false false) (sym (q.pictures p refl))
quiet-ended t true true (Some byte) p q wanted = absurd (both (dma_at t true) (wanted refl) q.dma)
quiet-ended t false false (Some byte) p q wanted = absurd (both (dma_at t false) (wanted refl) q.dma)
quiet-ended t true false byte p q wanted = absurd (both false q.same refl)
quiet-ended t false true byte p q wanted = absurd (both true refl q.same)

pub quiet-room : (t : ℕ) (on cycle_on : Bool) (p : Pictures) → IsQuiet on cycle_on p.shown t → HasRoom t p.lines → HasRoom (t + 1) p.lines
quiet-room t on cycle_on p q r = subst (λ (x : Pictures). HasRoom (t + 1) x.lines) (q.pictures p refl) (room-passed t on None p r (λ s. cc))

pub quiet-rooms : (n t : ℕ) (on cycle_on : Bool) (p : Pictures) → ((k : ℕ) → k < n → IsQuiet on cycle_on p.shown (t + k)) → HasRoom t p.lines → HasRoom (t + n) p.lines
quiet-rooms zero t on cycle_on p q r = subst (λ u. HasRoom u p.lines) (omega arith) r
quiet-rooms (suc n) t on cycle_on p q r =
    subst (λ u. HasRoom u p.lines) (omega arith)
    (quiet-room (t + n) on cycle_on p (q n (omega arith)) (quiet-rooms n t on cycle_on p (λ k l. q k (omega (arith, l))) r))
