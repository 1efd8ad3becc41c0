-- The interpreters of the two editions: their ROMs and the addresses of their labels.
use Rattle.chip8_image.specs.declared.TheConstants.{FETCH, HALT, ENTRY, TALL_FETCH, TALL_HALT, TALL_ENTRY}
use Rattle.chip8_image.specs.declared.image.TheConstants.{IMAGE, TALL}
use Rattle.chip8_lang.specs.declared.view.Edition.{Edition}
use Rattle.chip8_lang.specs.declared.view.Edition.TheVariants.{Usual, Tall}
use Rattle.chip8_lang.specs.Places.{Interpreter}

abbrev pub interpreter_of : Edition → Interpreter
interpreter_of Usual = record { rom = IMAGE; fetch = FETCH; halt = HALT; entry = ENTRY }
interpreter_of Tall = record { rom = TALL; fetch = TALL_FETCH; halt = TALL_HALT; entry = TALL_ENTRY }
