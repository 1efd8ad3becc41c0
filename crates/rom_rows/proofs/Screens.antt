-- Where it isn't said that main code has waited, the screen that lies in the machine is that of the state at the row: only the blocks
-- behind the waits of 00E0 and DXYN change it.
use Rattle.std.proofs.Common.{◌≡◌, ℕ, ◌+◌, ◌*◌, ◌/◌, ◌<◌, refl, ◌∙◌, ap, arith, Bool, true, false}
use Rattle.std.proofs.lemmas.Bool.{lt-ltb}
use Rattle.machine.specs.Board.{Machine}
use Rattle.chip8_lang.specs.Editions.{rows_of}
use Rattle.chip8_lang.specs.Screen.{one_of, some_below}
use Rattle.chip8_lang.specs.State.{Lang}
use Rattle.chip8_lang.specs.Step.{next}
use Rattle.rom_law.specs.Program.{Program}
use Rattle.rom_law.specs.Holding.{places, lies_in, Holding}
use Rattle.rom_rows.specs.SpriteBlocks.{cleared_to, painted, lit}

-- the screen that lies in the machine is that of the state, pixel by pixel
abbrev pub SameScreen : Program → Machine → Lang → Type 0
SameScreen x b s = (px py : ℕ) → px < 64 → py < rows_of x.edition → (lies_in x.edition (places b)).screen px py ≡ s.screen px py

not_drawn : (v : Bool) → one_of v false ≡ v
not_drawn true = refl
not_drawn false = refl

-- ---- what lies in the machine

module _ (x : Program) (b : Machine) (s : Lang) where
  -- a state with the same pixels
  pub same : {z : Lang} → Holding x (places b) z → ((px py : ℕ) → px < 64 → py < rows_of x.edition → z.screen px py ≡ s.screen px py) → SameScreen x b s
  same o k = λ px py l m. ap (λ (z : Lang). z.screen px py) o.is ∙ k px py l m

  -- the state with pc past the opcode
  pub past : Holding x (places b) (next s) → SameScreen x b s
  past o = same o (λ px py l m. refl)

  -- the state with all bytes of its screen left
  pub uncleared : Holding x (places b) (cleared_to (8 * rows_of x.edition) s) → SameScreen x b s
  uncleared o = same o (λ px py l m. rw (lt-ltb (8 * py + px / 8) (8 * rows_of x.edition) (omega (arith, l, m))) refl)

  -- the state with no row of the sprite drawn
  pub undrawn : Holding x (places b) (painted (lit x.edition 0 s) s) → SameScreen x b s
  unfolding some_below
  undrawn o = same o (λ px py l m. not_drawn (s.screen px py))
