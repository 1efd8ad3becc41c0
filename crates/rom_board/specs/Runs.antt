-- What is known of a board that runs the whole interpreter, and what a move keeps of it.
use Rattle.std.specs.Prelude.{◌≡◌, ◌≤◌, ℕ, true, List}
use Rattle.chip8_image.specs.declared.TheConstants.{DISPATCH}
use Rattle.chip8_image.specs.declared.parts.Part.{Part}
use Rattle.chip8_image.specs.declared.parts.Part.TheVariants.{Fetch, Sprite}
use Rattle.chip8_lang.specs.declared.view.Edition.{Edition}
use Rattle.chip8_lang.specs.State.{is_fetchable}
use Rattle.rom_law.specs.Rows.{Since}
use Rattle.rom_law.specs.Runs.{Moves, carried}
use Rattle.rom_rows.specs.Rom.{image, vip}
use Rattle.rom_run.specs.Display.{Display}
use Rattle.rom_run.specs.Laws.{IsIn}
use Rattle.rom_run.specs.Running.{Running, Booting, FromBoot}
use Rattle.vip_board.specs.Moves.{moved}
use Rattle.vip_board.specs.Seen.{Seen, held_by}

-- The board holds the ROM of an edition and is past the first dispatch point, with the record of what came since the last one.
abbrev pub RunsWith : Edition → Since → Seen → Type 0
RunsWith e h b = (b.rom ≡ image e) × Running e b.script b.machine h

-- it does, and its next address lies in a part of the ROM
abbrev pub RunsIn : Part → Edition → Since → Seen → Type 0
RunsIn p e h b = RunsWith e h b × IsIn p b.machine

-- it holds the ROM of an edition, and a game, and is in boot
abbrev pub BootsWith : Edition → List ℕ → Seen → Type 0
BootsWith e game b = (b.rom ≡ image e) × Booting e b.script game b.machine

-- the record as the board's next move carries it on
abbrev pub carried_on : Seen → Since → Since
carried_on b h = carried b.rom (held_by b) b.machine h

-- The next move of a board that runs in a part comes, with the record carried on, to no event, to a dispatch point, or to a stop.
abbrev pub KeepsRunning : Part → Type 0
KeepsRunning p =
    (e : Edition) (h : Since) (b : Seen)
    → RunsIn p e h b
    → Moves (vip e) b.script (Running e b.script) (carried_on b h) (moved b).machine

-- that of one in boot stays in boot, or comes to the first dispatch point
abbrev pub KeepsBooting : Type 0
KeepsBooting =
    (e : Edition) (game : List ℕ) (b : Seen)
    → BootsWith e game b
    → FromBoot e b.script game (moved b).machine

-- where a move of the fetch takes P from 4 to 3 for an opcode in game memory, exactly DISPATCH main cycles have passed since the dispatch point
-- when it ends
abbrev pub KeepsTime : Type 0
KeepsTime =
    (e : Edition) (h : Since) (b : Seen)
    → RunsIn Fetch e h b
    → is_fetchable e h.state ≡ true
    → b.machine.regs.p ≡ 4
    → (moved b).machine.regs.p ≡ 3
    → (carried_on b h).spent ≡ DISPATCH

-- Where a move in the part of the sprites comes to the wait for the display, or goes along it, the instruction is 00E0 or DXYN, and at most as many
-- main cycles have passed since the dispatch point as it may take to prepare: 102, or 2,154 for a sprite.
abbrev pub KeepsDisplay : Type 0
KeepsDisplay =
    (e : Edition) (h : Since) (b : Seen)
    → RunsIn Sprite e h b
    → (moved b).machine.regs.ie ≡ true
    → (moved b).machine.regs.idle ≡ true
    → Display (carried_on b h) (λ most. (carried_on b h).spent ≤ most)
