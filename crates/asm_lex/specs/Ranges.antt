-- The addresses of an instruction set's programs: those of the CDP1802 are 0000 to FFFF, those of CHIP-8 are 0200 to 0FFF.
use Rattle.std.specs.Prelude.{ℕ}
use Rattle.asm_lex.specs.declared.shape.Isa.{Isa}
use Rattle.asm_lex.specs.declared.shape.Isa.TheVariants.{Cdp1802, Chip8}

-- the lowest one, at which a source begins
abbrev pub origin_of : Isa → ℕ
origin_of Cdp1802 = 0
origin_of Chip8 = 0x200

-- the highest one
abbrev pub last_of : Isa → ℕ
last_of Cdp1802 = 65535
last_of Chip8 = 0xfff
