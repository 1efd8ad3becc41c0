-- The state of the language.
use Rattle.std.specs.Prelude.{ℕ, ◌+◌, ◌-◌, ◌&&◌, if◌then◌else◌, Bool, false, nat_lt, nat_le, List, [], ◌∷◌, ◌++◌, length, replicate, slice_index}
use Rattle.chip8_lang.specs.declared.instr.Instr.{Instr}
use Rattle.chip8_lang.specs.declared.view.Edition.{Edition}
use Rattle.chip8_lang.specs.Decode.{instr_of_bytes}
use Rattle.chip8_lang.specs.Editions.{memory_start, memory_end, font_start, font_end}
use Rattle.chip8_lang.specs.Screen.{Pixels, empty}

-- V0 to VF, the index I, pc, the stack of at most 12 addresses with the oldest first, the bytes of game memory from 0200 on, the delay
-- timer, the sound timer, whether the tone is on, the count n of ticks modulo 65536, the random byte, and the set of lit pixels.
pub record Lang : Type 0 where
  pub v : List ℕ
  pub i : ℕ
  pub pc : ℕ
  pub stack : List ℕ
  pub memory : List ℕ
  pub dt : ℕ
  pub st : ℕ
  pub tone : Bool
  pub n : ℕ
  pub b : ℕ
  pub screen : Pixels

-- the bytes of game memory, and the most of a game
abbrev pub memory_size : Edition → ℕ
memory_size e = memory_end e - memory_start

-- a game's first state: pc is 0200, the game lies from there on, and all else is 0, empty or off
abbrev pub first : Edition → List ℕ → Lang
first e game =
    record {
      v = replicate 16 0;
      i = 0;
      pc = memory_start;
      stack = [];
      memory = game ++ replicate (memory_size e - length game) 0;
      dt = 0;
      st = 0;
      tone = false;
      n = 0;
      b = 0;
      screen = empty;
    }

-- ---- addresses

-- n bytes from address a on lie wholly in game memory, or wholly in the font; addresses don't wrap
abbrev pub is_in_memory : Edition → ℕ → ℕ → Bool
is_in_memory e a n = nat_le memory_start a && nat_le (a + n) (memory_end e)

abbrev pub is_in_font : ℕ → ℕ → Bool
is_in_font a n = nat_le font_start a && nat_le (a + n) font_end

-- the digits 0 to F, five rows each
abbrev pub font : List ℕ
font =
    0xf0 ∷ 0x90 ∷ 0x90 ∷ 0x90 ∷ 0xf0 ∷ 0x20 ∷ 0x60 ∷ 0x20 ∷ 0x20 ∷ 0x70 ∷ 0xf0 ∷ 0x10 ∷ 0xf0 ∷ 0x80 ∷ 0xf0 ∷ 0xf0 ∷ 0x10 ∷ 0xf0 ∷ 0x10 ∷ 0xf0 ∷
    0x90 ∷ 0x90 ∷ 0xf0 ∷ 0x10 ∷ 0x10 ∷ 0xf0 ∷ 0x80 ∷ 0xf0 ∷ 0x10 ∷ 0xf0 ∷ 0xf0 ∷ 0x80 ∷ 0xf0 ∷ 0x90 ∷ 0xf0 ∷ 0xf0 ∷ 0x10 ∷ 0x20 ∷ 0x40 ∷ 0x40 ∷
    0xf0 ∷ 0x90 ∷ 0xf0 ∷ 0x90 ∷ 0xf0 ∷ 0xf0 ∷ 0x90 ∷ 0xf0 ∷ 0x10 ∷ 0xf0 ∷ 0xf0 ∷ 0x90 ∷ 0xf0 ∷ 0x90 ∷ 0x90 ∷ 0xe0 ∷ 0x90 ∷ 0xe0 ∷ 0x90 ∷ 0xe0 ∷
    0xf0 ∷ 0x80 ∷ 0x80 ∷ 0x80 ∷ 0xf0 ∷ 0xe0 ∷ 0x90 ∷ 0x90 ∷ 0x90 ∷ 0xe0 ∷ 0xf0 ∷ 0x80 ∷ 0xf0 ∷ 0x80 ∷ 0xf0 ∷ 0xf0 ∷ 0x80 ∷ 0xf0 ∷ 0x80 ∷ 0x80 ∷
    []

-- the byte of game memory at an address, and the byte there where it may be one of the font
abbrev pub memory_byte : Lang → ℕ → ℕ
memory_byte s a = slice_index s.memory (a - memory_start)

abbrev pub readable_byte : Lang → ℕ → ℕ
readable_byte s a = if nat_lt a font_start then memory_byte s a else slice_index font (a - font_start)

-- ---- the instruction at pc

-- VX
abbrev pub variable : Lang → ℕ → ℕ
variable s x = slice_index s.v x

-- both bytes of the opcode lie in game memory
abbrev pub is_fetchable : Edition → Lang → Bool
is_fetchable e s = is_in_memory e s.pc 2

abbrev pub instr_at : Lang → Instr
instr_at s = instr_of_bytes (memory_byte s s.pc) (memory_byte s (s.pc + 1))
