-- In which rows main code is where the state has no bound: those of FX0A.
use Rattle.std.proofs.Common.{◌≡◌, ◌+◌, ◌*◌, ◌≤◌, ◌⊎◌, inl, inr, sym, ◌∙◌, ap, arith, List, ℕ}
use Rattle.std.specs.Prelude.{None}
use Rattle.machine.specs.Board.{Machine}
use Rattle.machine.specs.Keys.{Event}
use Rattle.chip8_lang.specs.declared.view.Edition.{Edition}
use Rattle.chip8_lang.specs.Bounds.{bound_of}
use Rattle.rom_law.specs.Rows.{Since, InBlock, Row}
use Rattle.rom_law.specs.Rows.Row.{Inside, Alone}
use Rattle.rom_rows.specs.KeyBlocks.KeyBlock.{KeyNext, KeyCount, KeyFreed}
use Rattle.rom_rows.specs.KeyBlocks.KeyPlace.{KeyTest, KeyHeld}
use Rattle.rom_rows.specs.Rom.{vip}
use Rattle.rom_rows.specs.Table.{Block, Place, At, moves, pieces}
use Rattle.rom_rows.specs.Table.Block.{OfKey}
use Rattle.rom_rows.specs.Table.Place.{AtKey}
use Rattle.rom_rows.proofs.Facts.{IsEndless, IsEndlessAt}
use Rattle.rom_rows.proofs.PlaceFacts.{place_facts}
use Rattle.rom_rows.proofs.Table.{block_facts}
use Rattle.rom_parts.specs.keys.Laws.{Scans}
use Rattle.rom_parts.specs.keys.Laws.Scans.{UpTo, AtTest, Behind as BehindTest}
use Rattle.rom_run.specs.Time.{Spends, Timed}
use Rattle.rom_run.specs.Running.{Interval}
use Rattle.rom_run.specs.Time.Timed.{Before, Waiting, Behind}
use Rattle.rom_run.proofs.Time.{slow_bounded, is_free, idle_slow, waited_row_slow}

-- on the way to its loop; in the loop that waits for a key to go down; where it waits for that key to go up; or behind that
pub data KeyRow (e : Edition) (b : Machine) (h : Since) : Type 0 where
  Approaches : h.spent ≤ 354 → KeyRow e b h
  Seeks : Scans (vip e) b h → KeyRow e b h
  Holds : (turn looks : ℕ) → At (vip e) (AtKey (KeyHeld turn looks)) b h → KeyRow e b h
  Leaves : (turn looks : ℕ) → InBlock (vip e) (pieces (vip e)) (OfKey (KeyFreed turn looks)) b h → KeyRow e b h

module _ (e : Edition) (b : Machine) (h : Since) (free : bound_of e h.state ≡ None) where
  block_row : (l : Block) (r : InBlock (vip e) (pieces (vip e)) l b h) → (r.since.spent + 2 * moves l ≤ 354) ⊎ IsEndless l → KeyRow e b h
  block_row l r (inl s) = Approaches (omega (arith, s, r.grows.spent, r.inside))
  block_row (OfKey (KeyNext turn)) r (inr o) = Seeks (UpTo turn r)
  block_row (OfKey (KeyCount turn)) r (inr o) = Seeks (BehindTest turn r)
  block_row (OfKey (KeyFreed turn looks)) r (inr o) = Leaves turn looks r
  block_row _ r (inr o) = absurd o

  place_row : (l : Place) → At (vip e) l b h → (h.spent + 2 * 1 ≤ 354) ⊎ IsEndlessAt l → KeyRow e b h
  place_row l o (inl s) = Approaches (omega (arith, s))
  place_row (AtKey (KeyTest turn)) o (inr _) = Seeks (AtTest turn o)
  place_row (AtKey (KeyHeld turn looks)) o (inr _) = Holds turn looks o
  place_row _ o (inr n) = absurd n

  pub key_row : Row (vip e) (pieces (vip e)) b h → KeyRow e b h
  key_row (Inside l r) = block_row l r (is_free e ((block_facts l).haste (vip e) r.start r.since r.fits r.head) (ap (bound_of e) (sym r.grows.state) ∙ free))
  key_row (Alone l o) = place_row l o (is_free e ((place_facts l).haste (vip e) b h o) free)

  -- and it doesn't wait for the display
  pub never_waited : (script : List Event) → Interval e script b h → Row (vip e) (pieces (vip e)) b h → Timed e b h → Spends b h 0
  never_waited script t row (Before s r) = s
  never_waited script t row (Waiting n s l i r) = absurd (slow_bounded e (idle_slow e b h i row) free)
  never_waited script t row (Behind n s l r w) = absurd (slow_bounded e (waited_row_slow e b h r) free)
