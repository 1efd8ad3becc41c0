-- The texts of the two editions: the head of each, and the texts that both share, joined.
use Rattle.std.specs.Prelude.{ℕ, List, [], ◌∷◌}
use Rattle.std.specs.List.{concat}
use Rattle.chip8_source.specs.declared.head.TheConstants.{USUAL, TALL}
use Rattle.chip8_source.specs.declared.names.TheConstants.{TEXT as NAMES}
use Rattle.chip8_source.specs.declared.fetch.TheConstants.{TEXT as FETCH}
use Rattle.chip8_source.specs.declared.arith.TheConstants.{TEXT as ARITH}
use Rattle.chip8_source.specs.declared.memory.TheConstants.{TEXT as MEMORY}
use Rattle.chip8_source.specs.declared.sprite.TheConstants.{TEXT as SPRITE}
use Rattle.chip8_source.specs.declared.timer.TheConstants.{TEXT as TIMER}
use Rattle.chip8_source.specs.declared.keys.TheConstants.{TEXT as KEYS}
use Rattle.chip8_source.specs.declared.font.TheConstants.{TEXT as FONT}

-- the texts that both editions share, in order: the names, the six parts of the ROM, and the font
abbrev pub shared_parts : List (List ℕ)
shared_parts = NAMES.now ∷ FETCH.now ∷ ARITH.now ∷ MEMORY.now ∷ SPRITE.now ∷ TIMER.now ∷ KEYS.now ∷ FONT.now ∷ []

-- The texts are shut: a proof speaks of them by name, and not by their fifty thousand bytes.
unfoldable pub usual_text : List ℕ
usual_text = concat (USUAL.now ∷ shared_parts)

unfoldable pub tall_text : List ℕ
tall_text = concat (TALL.now ∷ shared_parts)
