-- The interpreter of each edition as a program under proof, and a ROM with the bytes of a part laid into it.
use Rattle.std.specs.Prelude.{ℕ, ◌+◌, ◌-◌, List, [], ◌∷◌, ◌++◌, length, take, drop}
use Rattle.chip8_image.specs.declared.TheConstants.{FETCH, HALT, ENTRY}
use Rattle.chip8_image.specs.declared.image.TheConstants.{IMAGE, TALL}
use Rattle.chip8_lang.specs.declared.view.Edition.{Edition}
use Rattle.chip8_lang.specs.declared.view.Edition.TheVariants.{Usual, Tall}
use Rattle.chip8_lang.specs.Places.{Interpreter}
use Rattle.rom_law.specs.Program.{Program, whole}

abbrev pub image : Edition → List ℕ
image Usual = IMAGE
image Tall = TALL

-- its labels are the same in both editions
abbrev pub interpreter_of : List ℕ → Interpreter
interpreter_of rom = record { rom = rom; fetch = FETCH; halt = HALT; entry = ENTRY }

abbrev pub program_of : Edition → List ℕ → Program
program_of e rom = whole e (interpreter_of rom)

-- the whole interpreter of an edition
abbrev pub vip : Edition → Program
vip e = program_of e (image e)

-- ---- the bytes of a part

-- a stretch of code: the address of its first byte, and its bytes
pub record Stretch : Type 0 where
  pub first : ℕ
  pub bytes : List ℕ

abbrev pub stretch : ℕ → List ℕ → Stretch
stretch a l = record { first = a; bytes = l }

-- a ROM with these bytes from index i on
abbrev pub with_bytes : ℕ → List ℕ → List ℕ → List ℕ
with_bytes i l rom = take i rom ++ l ++ drop (i + length l) rom

-- a ROM with these stretches in it
abbrev pub laid : List Stretch → List ℕ → List ℕ
laid [] rom = rom
laid (s ∷ stretches) rom = with_bytes (s.first - 0x8000) s.bytes (laid stretches rom)
