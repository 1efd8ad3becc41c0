-- What is known of machine cycles to come: that they have a DMA request, or that the chip has nothing to do in them but count.
use Rattle.std.specs.Prelude.{◌≡◌, ◌+◌, ◌≤◌, ◌<◌, ◌&&◌, ℕ, Bool, true, false, None}
use Rattle.machine.specs.Signals.{int_at, dma_at}
use Rattle.vip_video.specs.Chip.{Pictures, begins_frame, follows_window, needs_display, scanned}

-- neither INT nor DMA, also with the display on; and no frame begins and no window ends behind the cycle
pub record HasNothing (t : ℕ) : Type 0 where
  pub int : int_at t true ≡ false
  pub dma : dma_at t true ≡ false
  pub frame : begins_frame (t + 1) ≡ false
  pub window : follows_window (t + 1) ≡ false

-- DMA and not INT, with the display on
pub record RequestsDma (t : ℕ) : Type 0 where
  pub int : int_at t true ≡ false
  pub dma : dma_at t true ≡ true

-- With the display off: no frame begins behind the cycle; and where the frame's picture is shown so far, its window doesn't end there, nor does the
-- cycle need the display.
pub record IsDark (shown : Bool) (t : ℕ) : Type 0 where
  pub frame : begins_frame (t + 1) ≡ false
  pub window : (follows_window (t + 1) && shown) ≡ false
  pub needs : (needs_display t && shown) ≡ false

-- The switch stands as it did when the last cycle ended; cycle t has no request, and changes no picture, where the frame's picture is shown so far or
-- isn't.
pub record IsQuiet (now before shown : Bool) (t : ℕ) : Type 0 where
  pub same : before ≡ now
  pub int : int_at t now ≡ false
  pub dma : dma_at t now ≡ false
  pub pictures : (p : Pictures) → p.shown ≡ shown → scanned t now None p ≡ p

-- all cycles from one up to another
abbrev pub AreQuiet : Bool → Bool → Bool → ℕ → ℕ → Type 0
AreQuiet now before shown from to = (t : ℕ) → from ≤ t → t < to → IsQuiet now before shown t
