-- What a straight block of a routine comes to: its instructions are run by computing.
use Rattle.std.proofs.Common.{◌≡◌, ℕ, List}
use Rattle.machine.specs.Board.{Machine}
use Rattle.chip8_lang.specs.declared.view.Edition.{Edition}
use Rattle.rom_law.proofs.Moves.{AllGood, quicks, reaches_in, reaches_from}
use Rattle.rom_law.specs.Program.{code}
use Rattle.rom_law.specs.Rows.{Since, Grows, Ends, now}
use Rattle.rom_law.proofs.Kept.{RunsBlock}
use Rattle.rom_rows.specs.Rom.{program_of}
use Rattle.rom_rows.specs.Heads.{high_byte, low_byte, Entered}
use Rattle.rom_rows.specs.Table.{Block, moves, calm_top, calm_pieces}
use Rattle.rom_rows.proofs.Entry.{ready, entered, is_entered}
use Rattle.rom_rows.proofs.Sounds.{some}

-- The block l begins in a routine, at a. Ticks may pass its instructions, which lead to c; what follows there is given.
pub routine : {e : Edition} {rom : List ℕ} {b : Machine} {h : Since} {a : ℕ} (l : Block) → Entered (program_of e rom) a b (now h) → (c : Machine)
    → AllGood (code (program_of e rom)) (calm_top e) (moves l) (entered e a (high_byte (now h)) (low_byte (now h)) b)
    → quicks (code (program_of e rom)) (moves l) (entered e a (high_byte (now h)) (low_byte (now h)) b) ≡ c
    → ((h' : Since) → Grows h (moves l) 0 h' → Ends (program_of e rom) (calm_pieces (program_of e rom)) c h')
    → RunsBlock (program_of e rom) (calm_pieces (program_of e rom)) l b h
routine {e = e} {rom = rom} {b = b} l o c good is ends =
    record {
      runs = ready o.holds;
      awake = o.holds.awake;
      some = some l;
      end = c;
      reaches =
          reaches_from (code (program_of e rom)) (calm_top e) (moves l) b _ c (is_entered o)
          (reaches_in (code (program_of e rom)) (calm_top e) (moves l) _ c good is);
      ends = ends;
    }
