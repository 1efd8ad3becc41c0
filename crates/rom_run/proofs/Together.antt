-- The image is put together from the bytes of the parts: both sides are computed.
use Rattle.std.proofs.Common.{◌≡◌, refl}
use Rattle.chip8_image.specs.declared.parts.Part.{Part}
use Rattle.chip8_image.specs.declared.parts.Part.TheVariants.{Fetch, Arith, Memory, Sprite, Timer, Keys, Other}
use Rattle.chip8_lang.specs.declared.view.Edition.{Edition}
use Rattle.chip8_lang.specs.declared.view.Edition.TheVariants.{Usual, Tall}
use Rattle.chip8_image.specs.Parts.{addresses_of}
use Rattle.rom_run.specs.Image.{code_of, addresses_in, areas_with, ImageOfParts}

mapped : (e : Edition) (p : Part) → addresses_in (code_of e p) ≡ addresses_of (areas_with p)
mapped e Fetch = refl
mapped e Arith = refl
mapped e Memory = refl
mapped e Sprite = refl
mapped e Timer = refl
mapped e Keys = refl
mapped e Other = refl

pub image_of_parts : ImageOfParts
image_of_parts Usual = record { whole = refl; mapped = mapped Usual }
image_of_parts Tall = record { whole = refl; mapped = mapped Tall }
