-- The texts of the interpreter's two editions are assembled by computing.
use Rattle.std.proofs.Common.{◌≡◌, refl, true}
use Rattle.chip8_image.specs.declared.image.TheConstants.{IMAGE, TALL}
use Rattle.chip8_source.specs.Texts.{usual_text, tall_text}
use Rattle.chip8_source.specs.Compared.{SourceGivesRom}
use Rattle.chip8_source.proofs.Gives.{gives_text, text_gives_rom}

usual : gives_text usual_text IMAGE ≡ true
unfolding gives_text usual_text
usual = refl

tall : gives_text tall_text TALL ≡ true
unfolding gives_text tall_text
tall = refl

pub source_gives_rom : SourceGivesRom
source_gives_rom = (text_gives_rom usual_text IMAGE usual, text_gives_rom tall_text TALL tall)
