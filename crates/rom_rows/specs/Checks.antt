-- The range check, a subroutine: who calls it, what it answers, and what is known in it and behind it.
use Rattle.std.specs.Prelude.{◌≡◌, ℕ, ◌+◌, ◌/◌, ◌%◌, ◌<◌, true, false, slice_index}
use Rattle.machine.specs.Bank.{word, word_of}
use Rattle.machine.specs.Board.{Machine}
use Rattle.chip8_lang.specs.declared.view.Edition.{Edition}
use Rattle.chip8_lang.specs.Editions.{sprite_work}
use Rattle.chip8_lang.specs.State.{Lang, is_in_memory, is_in_font, is_fetchable}
use Rattle.chip8_lang.specs.Step.{next}
use Rattle.chip8_lang.specs.Timed.{outside_cycles}
use Rattle.chip8_image.specs.declared.image.labels.TheConstants.{AT_FETCH, AT_DECIMAL_FOUND, AT_STORE_FOUND, AT_RESTORE_FOUND, AT_DRAW_FOUND}
use Rattle.rom_law.specs.Program.{Program}
use Rattle.rom_law.specs.Holding.{places, Holding}
use Rattle.rom_rows.specs.Heads.{high_byte, low_byte, page_of}

-- ---- callers

-- FX33, FX55, FX65 and DXYN
pub data Caller : Type 0 where
  ForDecimal : Caller
  ForStore : Caller
  ForRestore : Caller
  ForDraw : Caller

-- s is at the caller's instruction
abbrev pub Calls : Caller → Lang → Type 0
Calls ForDecimal s = (high_byte s / 16 ≡ 15) × (low_byte s ≡ 0x33)
Calls ForStore s = (high_byte s / 16 ≡ 15) × (low_byte s ≡ 0x55)
Calls ForRestore s = (high_byte s / 16 ≡ 15) × (low_byte s ≡ 0x65)
Calls ForDraw s = (high_byte s / 16 ≡ 13) × (0 < low_byte s % 16)

-- how many bytes from I on it asks for
abbrev pub count_of : Caller → Lang → ℕ
count_of ForDecimal s = 3
count_of ForStore s = high_byte s % 16 + 1
count_of ForRestore s = high_byte s % 16 + 1
count_of ForDraw s = low_byte s % 16

-- where the check goes back to
abbrev pub return_of : Caller → ℕ
return_of ForDecimal = AT_DECIMAL_FOUND
return_of ForStore = AT_STORE_FOUND
return_of ForRestore = AT_RESTORE_FOUND
return_of ForDraw = AT_DRAW_FOUND

-- the main cycles from the dispatch to the call
abbrev pub call_time : Caller → ℕ
call_time ForDecimal = 136
call_time ForStore = 146
call_time ForRestore = 152
call_time ForDraw = 98

-- ---- answers

pub data Answer : Type 0 where
  InGame : Answer
  InFont : Answer
  Nowhere : Answer

-- the main cycles from the call to it
abbrev pub answer_time : Answer → ℕ → ℕ
answer_time InGame i = 32
answer_time InFont i = 46
answer_time Nowhere i = 20 + outside_cycles i

-- its number
abbrev pub answer_number : Answer → ℕ
answer_number InGame = 0
answer_number InFont = 1
answer_number Nowhere = 2

-- it is that for n bytes from address a on
abbrev pub IsAnswer : Edition → Answer → ℕ → ℕ → Type 0
IsAnswer e InGame a n = is_in_memory e a n ≡ true
IsAnswer e InFont a n = (is_in_memory e a n ≡ false) × (is_in_font a n ≡ true)
IsAnswer e Nowhere a n = (is_in_memory e a n ≡ false) × (is_in_font a n ≡ false)

-- ---- heads

-- In a routine that has called the range check: s is in its places but for pc, which has gone past the opcode. R4 is at the fetch, R6
-- points to VX, and R7 to VY.
pub record Called (x : Program) (c : Caller) (b : Machine) (s : Lang) : Type 0 where
  pub holds : Holding x (places b) (next s)
  pub inside : is_fetchable x.edition s ≡ true
  pub calls : Calls c s
  pub r4 : b.regs.r.r4 ≡ word_of AT_FETCH
  pub r6 : b.regs.r.r6 ≡ word (page_of x.edition) (0xf0 + high_byte s % 16)
  pub r7 : b.regs.r.r7 ≡ word (page_of x.edition) (0xf0 + low_byte s / 16)

-- in the range check, at a, with program counter RD: R3 is where it goes back to, and RE.0 the count of bytes
pub record Checking (x : Program) (c : Caller) (a : ℕ) (b : Machine) (s : Lang) : Type 0 where
  pub called : Called x c b s
  pub p : b.regs.p ≡ 13
  pub rd : b.regs.r.rd ≡ word_of a
  pub r3 : b.regs.r.r3 ≡ word_of (return_of c)
  pub count : b.regs.r.re.lo ≡ count_of c s

-- the same, where the first byte of the sprite work has the low byte of I, and R(X) points to it
pub record Comparing (x : Program) (c : Caller) (a : ℕ) (b : Machine) (s : Lang) : Type 0 where
  pub checking : Checking x c a b s
  pub pointer : b.regs.x ≡ 12
  pub rc : b.regs.r.rc ≡ word (page_of x.edition) 0xd0
  pub low : slice_index b.ram (sprite_work x.edition) ≡ b.regs.r.ra.lo

-- back at the caller, with the answer in D
pub record Checked (x : Program) (c : Caller) (answer : Answer) (b : Machine) (s : Lang) : Type 0 where
  pub called : Called x c b s
  pub p : b.regs.p ≡ 3
  pub r3 : b.regs.r.r3 ≡ word_of (return_of c)
  pub d : b.regs.d ≡ answer_number answer
  pub count : b.regs.r.re.lo ≡ count_of c s
  pub is : IsAnswer x.edition answer s.i (count_of c s)
