-- The ROM that a part's bytes are laid into, as one list for both editions, so that code is run by computing.
use Rattle.std.proofs.Common.{◌≡◌, ℕ, List}
use Rattle.chip8_lang.specs.declared.view.Edition.{Edition}
use Rattle.rom_law.specs.Program.{Program}
use Rattle.rom_rows.specs.Rom.{Stretch, program_of}
use Rattle.rom_rows.proofs.Bytes.{with_part, with_part_is}
use Rattle.rom_parts.specs.Parts.{rom_of}

module _ (code : Edition → List Stretch) where
  abbrev pub both : Edition → List ℕ
  both e = with_part code e

  -- the interpreter with these bytes
  abbrev pub quick : Edition → Program
  quick e = program_of e (both e)

  pub both_is : (e : Edition) → both e ≡ rom_of code e
  both_is e = with_part_is code e
