-- Where the two editions of the language keep their parts in the machine's RAM, and how large their screens are. All of these are this
-- project's profile; the usual edition's places are those of RCA's manual where it gives them.
use Rattle.std.specs.Prelude.{ℕ}
use Rattle.chip8_lang.specs.declared.view.Edition.{Edition}
use Rattle.chip8_lang.specs.declared.view.Edition.TheVariants.{Usual, Tall}

-- Game memory goes from 0200 up to here. The stack of the language, which is that of the 1802, grows down towards this address.
abbrev pub memory_end : Edition → ℕ
memory_end Usual = 0x0ea0
memory_end Tall = 0x0da0

abbrev pub memory_start : ℕ
memory_start = 0x0200

-- the low byte of the oldest address on the stack
abbrev pub stack_top : Edition → ℕ
stack_top Usual = 0x0ecf
stack_top Tall = 0x0dcf

-- 32 bytes of work for sprites
abbrev pub sprite_work : Edition → ℕ
sprite_work Usual = 0x0ed0
sprite_work Tall = 0x0dd0

-- V0 to VF
abbrev pub variables : Edition → ℕ
variables Usual = 0x0ef0
variables Tall = 0x0df0

-- the screen, up to the end of RAM
abbrev pub screen_start : Edition → ℕ
screen_start Usual = 0x0f00
screen_start Tall = 0x0e00

-- the rows of the screen, each of 64 pixels
abbrev pub rows_of : Edition → ℕ
rows_of Usual = 32
rows_of Tall = 64

-- the raster lines of a row
abbrev pub lines_of : Edition → ℕ
lines_of Usual = 4
lines_of Tall = 2

-- the same cells in both: the number of the stop, and the random byte
abbrev pub stop_cell : ℕ
stop_cell = 0x01f0

abbrev pub random_cell : ℕ
random_cell = 0x01f1

-- the font of the sixteen digits in ROM: 80 bytes, five a digit
abbrev pub font_start : ℕ
font_start = 0x8700

abbrev pub font_end : ℕ
font_end = 0x8750
