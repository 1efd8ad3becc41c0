-- The calls of the range check, and the way to the stops behind it.
use Rattle.std.proofs.Common.{◌≡◌, ℕ, ◌+◌, ◌*◌, ◌%◌, refl, arith}
use Rattle.std.specs.Prelude.{Some}
use Rattle.machine.specs.Bank.{word, word_of}
use Rattle.machine.specs.Board.{Machine}
use Rattle.chip8_lang.specs.declared.view.Edition.{Edition}
use Rattle.chip8_lang.specs.declared.view.Stop.{Stop}
use Rattle.chip8_lang.specs.State.{Lang}
use Rattle.chip8_lang.specs.Step.{stop_of, stop_number}
use Rattle.chip8_image.specs.declared.image.labels.TheConstants.{AT_FETCH, AT_LEAVE83}
use Rattle.rom_law.proofs.Moves.{Reaches}
use Rattle.rom_law.specs.Program.{code}
use Rattle.rom_law.specs.Rows.{Since, now}
use Rattle.rom_law.proofs.Kept.{RunsBlock}
use Rattle.rom_rows.specs.Heads.{to_stop, high_byte, page_of}
use Rattle.rom_rows.specs.FetchBlocks.FetchBlock.{Leave}
use Rattle.rom_rows.specs.Checks.{Caller, return_of, Answer, answer_number, Checked}
use Rattle.rom_rows.specs.Table.{Block, moves, calm_pieces, calm_top}
use Rattle.rom_rows.proofs.Follows.{to_fetch}
use Rattle.rom_rows.proofs.Ways.{reached}
use Rattle.rom_parts.specs.memory.Code.{memory_code}
use Rattle.rom_parts.proofs.Rom.{quick}

-- the machine back at the caller
abbrev pub resumed : Edition → Caller → ℕ → ℕ → Machine → Machine
resumed e c high d b =
    record b {
      regs = record b.regs {
        d = d;
        p = 3;
        r = record b.regs.r { r3 = word_of (return_of c); r4 = word_of AT_FETCH; r6 = word (page_of e) (240 + high % 16) };
      };
    }

-- the machine at this page's way to the stops
abbrev pub refusing : Edition → Caller → ℕ → Stop → Machine → Machine
refusing e c high stop b =
    record b {
      regs = record b.regs {
        d = stop_number stop;
        p = 3;
        r = record b.regs.r { r3 = word_of AT_LEAVE83; r4 = word_of AT_FETCH; r6 = word (page_of e) (240 + high % 16) };
      };
    }

module _ {e : Edition} {b : Machine} {c : Caller} {answer : Answer} where
  pub is_resumed : {s : Lang} → Checked (quick memory_code e) c answer b s → b ≡ resumed e c (high_byte s) (answer_number answer) b
  is_resumed o = λ j. record b { regs = record b.regs { d = o.d j; p = o.p j; r = record b.regs.r { r3 = o.r3 j; r4 = o.called.r4 j; r6 = o.called.r6 j } } }

  -- the bytes may not be used
  pub refused : {h : Since} (l : Block) (stop : Stop) → Checked (quick memory_code e) c answer b (now h) → stop_of e (now h) ≡ Some stop
      → Reaches (code (quick memory_code e)) (calm_top e) (moves l) (resumed e c (high_byte (now h)) (answer_number answer) b)
      (refusing e c (high_byte (now h)) stop b) → h.spent + 2 * moves l + 22 ≡ to_stop (quick memory_code e) (now h)
      → RunsBlock (quick memory_code e) (calm_pieces (quick memory_code e)) l b h
  refused l stop o fits reaches spent =
      reached l o.called.holds _ (is_resumed o) _ reaches
      (λ h' g. to_fetch (quick memory_code e) g _ refl (Leave 2)
      (record { holds = o.called.holds; p = refl; r3 = refl; stop = stop; fits = fits; number = refl }, omega arith)
      (omega (arith, spent, g.spent)))
