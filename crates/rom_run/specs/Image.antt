-- The image of each edition is put together from the bytes of the six parts and the font, and these lie where the map says.
use Rattle.std.specs.Prelude.{◌≡◌, ℕ, if◌then◌else◌, nat_eq, List, [], ◌∷◌, ◌++◌, length, replicate}
use Rattle.std.specs.List.{filter}
use Rattle.chip8_image.specs.declared.map.Area.{Area}
use Rattle.chip8_image.specs.declared.map.TheConstants.{AREAS}
use Rattle.chip8_image.specs.declared.parts.Part.{Part}
use Rattle.chip8_image.specs.declared.parts.Part.TheVariants.{Fetch, Arith, Memory, Sprite, Timer, Keys, Other}
use Rattle.chip8_image.specs.declared.image.labels.TheConstants.{AT_TABLE, AT_FONT}
use Rattle.chip8_image.specs.Parts.{is_part, addresses_from, addresses_of}
use Rattle.chip8_lang.specs.declared.view.Edition.{Edition}
use Rattle.chip8_lang.specs.State.{font}
use Rattle.rom_rows.specs.Rom.{Stretch, stretch, laid, image}
use Rattle.rom_parts.specs.Parts.{PartLaws}
use Rattle.rom_parts.specs.fetch.Code.{fetch_code}
use Rattle.rom_parts.specs.arith.Code.{arith_code}
use Rattle.rom_parts.specs.memory.Code.{memory_code}
use Rattle.rom_parts.specs.sprite.Code.{sprite_code}
use Rattle.rom_parts.specs.timer.Code.{timer_code}
use Rattle.rom_parts.specs.keys.Code.{keys_code}

-- what is proved of each part, of the image
abbrev pub EveryPart : Type 0
EveryPart = (p : Part) → PartLaws p image

-- the bytes of a part; of what is no code, the dispatch table is among those of the fetch, and the font is left
abbrev pub code_of : Edition → Part → List Stretch
code_of e Fetch = fetch_code e
code_of e Arith = arith_code e
code_of e Memory = memory_code e
code_of e Sprite = sprite_code e
code_of e Timer = timer_code e
code_of e Keys = keys_code e
code_of e Other = stretch AT_FONT font ∷ []

-- the addresses of stretches
abbrev pub addresses_in : List Stretch → List ℕ
addresses_in [] = []
addresses_in (s ∷ stretches) = addresses_from s.first (length s.bytes) ++ addresses_in stretches

-- the part with whose bytes an area's stand
abbrev pub stands_with : Area → Part
stands_with a = if nat_eq a.first AT_TABLE then Fetch else a.part

abbrev pub areas_with : Part → List Area
areas_with p = filter (λ a. is_part p (stands_with a)) AREAS

pub record Together (e : Edition) : Type 0 where
  -- laid over zeros, all of these bytes are the image
  pub whole :
      laid
      (code_of e Fetch ++ code_of e Arith ++ code_of e Memory ++ code_of e Sprite ++ code_of e Timer ++ code_of e Keys ++ code_of e Other)
      (replicate 2048 0)
      ≡ image e
  -- and those of a part have the addresses that the map gives it
  pub mapped : (p : Part) → addresses_in (code_of e p) ≡ addresses_of (areas_with p)

abbrev pub ImageOfParts : Type 0
ImageOfParts = (e : Edition) → Together e
