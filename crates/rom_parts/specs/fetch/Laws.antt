-- What is proved of boot and of the dispatch.
use Rattle.std.specs.Prelude.{◌≡◌, ℕ, ◌<◌, ◌≤◌, true, false, List, length}
use Rattle.machine.specs.Board.{Machine, start}
use Rattle.machine.specs.Keys.{Keys}
use Rattle.machine.specs.Run.{after_moves}
use Rattle.chip8_lang.specs.declared.view.Edition.{Edition}
use Rattle.chip8_lang.specs.State.{first, memory_size, is_fetchable}
use Rattle.chip8_lang.specs.Events.{is_dispatch, is_stop}
use Rattle.chip8_image.specs.declared.TheConstants.{DISPATCH}
use Rattle.rom_law.specs.Code.{Input, moved}
use Rattle.rom_law.specs.Program.{code, Dispatches}
use Rattle.rom_law.specs.Rows.{Since, InBlock, after_main}
use Rattle.rom_rows.specs.Rom.{interpreter_of, program_of}
use Rattle.rom_rows.specs.FetchBlocks.{FetchBlock}
use Rattle.rom_rows.specs.Table.{pieces}
use Rattle.rom_rows.specs.Table.Block.{OfFetch}

-- Where a main move takes P from 4 to 3 for an opcode in game memory, exactly DISPATCH main cycles have passed since the dispatch point.
abbrev pub DispatchTime : (Edition → List ℕ) → Type 0
DispatchTime rom =
    (e : Edition) (l : FetchBlock) (u : Input) (b : Machine) (h : Since)
    → InBlock (program_of e (rom e)) (pieces (program_of e (rom e))) (OfFetch l) b h
    → is_fetchable e h.state ≡ true
    → b.regs.p ≡ 4
    → (moved (code (program_of e (rom e))) u b).regs.p ≡ 3
    → (after_main u h).spent ≡ DISPATCH

-- the moves of boot
abbrev pub boot_moves : ℕ
boot_moves = 28

-- From reset, whatever keys are down, boot comes to the first dispatch point at cycle 56: the game's first state lies there, and there
-- is no event before.
pub record Boot (e : Edition) (rom : List ℕ) (held : ℕ → Keys) (game : List ℕ) : Type 0 where
  pub quiet : (m : ℕ) → m < boot_moves
      → (is_dispatch (interpreter_of rom) (after_moves rom held (start game) m) ≡ false)
      × (is_stop (interpreter_of rom) (after_moves rom held (start game) m) ≡ false)
  pub cycle : (after_moves rom held (start game) boot_moves).cycle ≡ 56
  pub stands : Dispatches (program_of e rom) (after_moves rom held (start game) boot_moves) (first e game)

abbrev pub EveryBoot : (Edition → List ℕ) → Type 0
EveryBoot rom = (e : Edition) (held : ℕ → Keys) (game : List ℕ) → length game ≤ memory_size e → Boot e (rom e) held game

pub record FetchLaws (rom : Edition → List ℕ) : Type 0 where
  pub dispatch : DispatchTime rom
  pub boot : EveryBoot rom
