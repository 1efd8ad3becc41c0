-- The blocks of what sets I, of FX33, FX55 and FX65, and of the range check.
use Rattle.std.specs.Prelude.{◌≡◌, ℕ, ◌+◌, ◌-◌, ◌*◌, ◌/◌, ◌%◌, ◌≤◌, true, false, List, [], ◌∷◌, ◌++◌, take, drop}
use Rattle.machine.specs.Bank.{word, word_of}
use Rattle.machine.specs.Board.{Machine}
use Rattle.chip8_lang.specs.Editions.{memory_start}
use Rattle.chip8_lang.specs.State.{Lang, variable, is_in_memory, is_fetchable}
use Rattle.chip8_lang.specs.Step.{is_readable, next, stored, bytes_from}
use Rattle.chip8_lang.specs.Timed.{check_cycles}
use Rattle.chip8_image.specs.declared.image.labels.TheConstants.{AT_FETCH, AT_INDEX, AT_ADD_INDEX, AT_DIGIT, AT_DECIMAL, AT_DECIMAL_FOUND, AT_HUNDREDS, AT_HUNDREDS_END, AT_TENS, AT_TENS_END, AT_STORE, AT_STORE_FOUND, AT_STORE_BYTE, AT_STORE_END, AT_RESTORE, AT_RESTORE_FOUND, AT_RESTORE_BYTE, AT_RESTORE_END, AT_WRITE_OUTSIDE, AT_READ_OUTSIDE, AT_CHECK, AT_CHECK_GAME, AT_CHECK_FONT, AT_CHECK_LOW, AT_IN_GAME, AT_IN_FONT, AT_NOWHERE}
use Rattle.rom_law.specs.Program.{Program}
use Rattle.rom_law.specs.Holding.{places, Holding}
use Rattle.rom_rows.specs.Blocks.{BlockData, block, block_over}
use Rattle.rom_rows.specs.Heads.{from, high_byte, low_byte, page_of, Enters}
use Rattle.rom_rows.specs.Heads.Time.{Exactly}
use Rattle.rom_rows.specs.Checks.{Caller, Calls, count_of, call_time, Answer, answer_time, IsAnswer, Called, Checking, Comparing, Checked}
use Rattle.rom_rows.specs.Checks.Caller.{ForDecimal, ForStore, ForRestore}
use Rattle.rom_rows.specs.Checks.Answer.{InGame, InFont, Nowhere}

pub data MemoryBlock : Type 0 where
  -- AMMM, FX1E and FX29
  Index : MemoryBlock
  AddIndex : MemoryBlock
  Digit : MemoryBlock
  -- the range check for a caller: I against the start of game memory, against its end, and against the page and the end of the font
  Check : (c : Caller) → MemoryBlock
  CheckGame : (c : Caller) → MemoryBlock
  CheckFont : (c : Caller) → MemoryBlock
  CheckLow : (c : Caller) → MemoryBlock
  -- its answers
  Answering : (c : Caller) (answer : Answer) → MemoryBlock
  -- FX33 up to the range check
  Decimal : MemoryBlock
  -- behind it: on to the digits, or to the stop
  DecimalFound : (answer : Answer) → MemoryBlock
  -- 100 was taken away k times, and once too often
  Hundreds : (k : ℕ) → MemoryBlock
  HundredsEnd : MemoryBlock
  -- 10 was taken away k times, and once too often
  Tens : (k : ℕ) → MemoryBlock
  TensEnd : MemoryBlock
  -- FX55 up to the range check, and behind it: on to the bytes, or to the stop
  Store : MemoryBlock
  StoreFound : (answer : Answer) → MemoryBlock
  -- k bytes are stored, and all are
  StoreByte : (k : ℕ) → MemoryBlock
  StoreEnd : MemoryBlock
  -- FX65 up to the range check, and behind it: on to the bytes, or to the stop
  Restore : MemoryBlock
  RestoreFound : (answer : Answer) → MemoryBlock
  -- k bytes are fetched, and all are
  RestoreByte : (k : ℕ) → MemoryBlock
  RestoreEnd : MemoryBlock

-- ---- heads

-- VX, and the number of FX55's and FX65's last variable
abbrev pub variable_x : Lang → ℕ
variable_x s = variable s (high_byte s % 16)

abbrev pub last_of : Lang → ℕ
last_of s = high_byte s % 16

-- In FX33, at a: the three bytes lie in game memory, RC is I, and RD.0, RE.0 and D are these.
pub record Dividing (x : Program) (a hundreds tens rest : ℕ) (b : Machine) (s : Lang) : Type 0 where
  pub called : Called x ForDecimal b s
  pub fits : is_in_memory x.edition s.i 3 ≡ true
  pub p : b.regs.p ≡ 3
  pub r3 : b.regs.r.r3 ≡ word_of a
  pub rc : b.regs.r.rc ≡ b.regs.r.ra
  pub rd : b.regs.r.rd.lo ≡ hundreds
  pub re : b.regs.r.re.lo ≡ tens
  pub d : b.regs.d ≡ rest

-- In FX55 or FX65, at a, past the range check: z is in its places.
pub record Copying (x : Program) (c : Caller) (a : ℕ) (z : Lang) (b : Machine) (s : Lang) : Type 0 where
  pub holds : Holding x (places b) z
  pub inside : is_fetchable x.edition s ≡ true
  pub calls : Calls c s
  pub p : b.regs.p ≡ 3
  pub r3 : b.regs.r.r3 ≡ word_of a
  pub r4 : b.regs.r.r4 ≡ word_of AT_FETCH

-- V0 to V(k-1) are stored, or fetched, and I is past them
abbrev pub stored_to : ℕ → Lang → Lang
stored_to k s = record (next s) { memory = stored s.memory (s.i - memory_start) (take k s.v); i = s.i + k }

abbrev pub fetched_to : ℕ → Lang → Lang
fetched_to k s = record (next s) { v = bytes_from s s.i k ++ drop k s.v; i = s.i + k }

-- V0 to V(k-1) are done and VX isn't: RD points to Vk, and RE.0 counts those left
pub record Turn (x : Program) (k : ℕ) (b : Machine) (s : Lang) : Type 0 where
  pub left : k ≤ last_of s
  pub rd : b.regs.r.rd ≡ word (page_of x.edition) (0xf0 + k)
  pub re : b.regs.r.re.lo ≡ last_of s + 1 - k

-- where the check answers
abbrev pub answer_label : Answer → ℕ
answer_label InGame = AT_IN_GAME
answer_label InFont = AT_IN_FONT
answer_label Nowhere = AT_NOWHERE

-- what a caller has behind its first instruction after the check, by the answer
abbrev pub decimal_found : Answer → List ℕ
decimal_found InGame = from AT_DECIMAL_FOUND (2 ∷ 3 ∷ 4 ∷ 5 ∷ 6 ∷ 8 ∷ 9 ∷ 10 ∷ [])
decimal_found answer = from AT_WRITE_OUTSIDE (0 ∷ 2 ∷ [])

abbrev pub store_found : Answer → List ℕ
store_found InGame = from AT_STORE_FOUND (2 ∷ 4 ∷ 5 ∷ 7 ∷ [])
store_found answer = from AT_WRITE_OUTSIDE (0 ∷ 2 ∷ [])

abbrev pub restore_found : Answer → List ℕ
restore_found Nowhere = (AT_RESTORE_FOUND + 2) ∷ from AT_READ_OUTSIDE (0 ∷ 2 ∷ [])
restore_found answer = from AT_RESTORE_FOUND (2 ∷ 4 ∷ 6 ∷ 7 ∷ 9 ∷ [])

abbrev pub memory_data : MemoryBlock → BlockData
memory_data Index = block (λ x b s sets. Enters x AT_INDEX 10 b s) (λ x s. Exactly 80) AT_INDEX (1 ∷ 3 ∷ 4 ∷ 5 ∷ 6 ∷ [])
memory_data AddIndex =
    block (λ x b s sets. Enters x AT_ADD_INDEX 15 b s × (low_byte s ≡ 0x1e)) (λ x s. Exactly 110) AT_ADD_INDEX (1 ∷ 2 ∷ 3 ∷ 4 ∷ 5 ∷ 7 ∷ 8 ∷ [])
memory_data Digit =
    block (λ x b s sets. Enters x AT_DIGIT 15 b s × (low_byte s ≡ 0x29)) (λ x s. Exactly 116)
    AT_DIGIT (2 ∷ 3 ∷ 5 ∷ 6 ∷ 7 ∷ 8 ∷ 10 ∷ 11 ∷ 12 ∷ 13 ∷ 14 ∷ 15 ∷ 17 ∷ 18 ∷ [])
memory_data (Check c) = block (λ x b s sets. Checking x c AT_CHECK b s) (λ x s. Exactly (call_time c)) AT_CHECK (2 ∷ 3 ∷ 5 ∷ 6 ∷ 7 ∷ 8 ∷ 9 ∷ 10 ∷ 12 ∷ [])
memory_data (CheckGame c) =
    block (λ x b s sets. Comparing x c AT_CHECK_GAME b s × (memory_start ≤ s.i)) (λ x s. Exactly (call_time c + 20)) AT_CHECK_GAME (1 ∷ 3 ∷ 4 ∷ 5 ∷ 7 ∷ [])
memory_data (CheckFont c) =
    block (λ x b s sets. Comparing x c AT_CHECK_FONT b s × (is_in_memory x.edition s.i (count_of c s) ≡ false) × (memory_start ≤ s.i))
    (λ x s. Exactly (call_time c + 32)) AT_CHECK_FONT (1 ∷ 3 ∷ [])
memory_data (CheckLow c) =
    block (λ x b s sets. Comparing x c AT_CHECK_LOW b s × (is_in_memory x.edition s.i (count_of c s) ≡ false) × (s.i / 256 ≡ 0x87))
    (λ x s. Exactly (call_time c + 38)) AT_CHECK_LOW (1 ∷ 3 ∷ 4 ∷ [])
memory_data (Answering c answer) =
    block (λ x b s sets. Checking x c (answer_label answer) b s × IsAnswer x.edition answer s.i (count_of c s))
    (λ x s. Exactly (call_time c + answer_time answer s.i)) (answer_label answer) (2 ∷ [])
memory_data Decimal = block (λ x b s sets. Enters x AT_DECIMAL 15 b s × (low_byte s ≡ 0x33)) (λ x s. Exactly 122) AT_DECIMAL (2 ∷ 3 ∷ 5 ∷ 6 ∷ 8 ∷ 9 ∷ [])
memory_data (DecimalFound answer) =
    block_over (λ x b s sets. Checked x ForDecimal answer b s) (λ x s. Exactly (140 + answer_time answer s.i)) AT_DECIMAL_FOUND (decimal_found answer)
memory_data (Hundreds k) =
    block (λ x b s sets. Dividing x AT_HUNDREDS k 0 (variable_x s - k * 100) b s × (k * 100 ≤ variable_x s)) (λ x s. Exactly (190 + 6 * k))
    AT_HUNDREDS (1 ∷ 3 ∷ [])
memory_data HundredsEnd =
    block (λ x b s sets. Dividing x AT_HUNDREDS_END (variable_x s / 100 + 1) 0 (variable_x s % 100 + 156) b s) (λ x s. Exactly (196 + 6 * (variable_x s / 100)))
    AT_HUNDREDS_END (1 ∷ [])
memory_data (Tens k) =
    block (λ x b s sets. Dividing x AT_TENS (variable_x s / 100) k (variable_x s % 100 - k * 10) b s × (k * 10 ≤ variable_x s % 100))
    (λ x s. Exactly (200 + 6 * (variable_x s / 100) + 6 * k)) AT_TENS (1 ∷ 3 ∷ [])
memory_data TensEnd =
    block (λ x b s sets. Dividing x AT_TENS_END (variable_x s / 100) (variable_x s / 10 % 10 + 1) (variable_x s % 10 + 246) b s)
    (λ x s. Exactly (206 + 6 * (variable_x s / 100 + variable_x s / 10 % 10))) AT_TENS_END (1 ∷ 3 ∷ 4 ∷ 5 ∷ 6 ∷ 7 ∷ 8 ∷ 9 ∷ 10 ∷ 11 ∷ 12 ∷ [])
memory_data Store = block (λ x b s sets. Enters x AT_STORE 15 b s × (low_byte s ≡ 0x55)) (λ x s. Exactly 128) AT_STORE (1 ∷ 3 ∷ 5 ∷ 6 ∷ 8 ∷ 9 ∷ 11 ∷ 12 ∷ [])
memory_data (StoreFound answer) =
    block_over (λ x b s sets. Checked x ForStore answer b s) (λ x s. Exactly (150 + answer_time answer s.i)) AT_STORE_FOUND (store_found answer)
memory_data (StoreByte k) =
    block (λ x b s sets. Copying x ForStore AT_STORE_BYTE (stored_to k s) b s × Turn x k b s × (is_in_memory x.edition s.i (last_of s + 1) ≡ true))
    (λ x s. Exactly (192 + 12 * k)) AT_STORE_BYTE (1 ∷ 2 ∷ 3 ∷ 4 ∷ 5 ∷ [])
memory_data StoreEnd =
    block (λ x b s sets. Copying x ForStore AT_STORE_END (stored_to (last_of s + 1) s) b s × (is_in_memory x.edition s.i (last_of s + 1) ≡ true))
    (λ x s. Exactly (204 + 12 * last_of s)) AT_STORE_END []
memory_data Restore =
    block (λ x b s sets. Enters x AT_RESTORE 15 b s × (low_byte s ≡ 0x65)) (λ x s. Exactly 134) AT_RESTORE (1 ∷ 3 ∷ 5 ∷ 6 ∷ 8 ∷ 9 ∷ 11 ∷ 12 ∷ [])
memory_data (RestoreFound answer) =
    block_over (λ x b s sets. Checked x ForRestore answer b s) (λ x s. Exactly (156 + answer_time answer s.i)) AT_RESTORE_FOUND (restore_found answer)
memory_data (RestoreByte k) =
    block (λ x b s sets. Copying x ForRestore AT_RESTORE_BYTE (fetched_to k s) b s × Turn x k b s × (is_readable x.edition s.i (last_of s + 1) ≡ true))
    (λ x s. Exactly (200 + check_cycles x.edition s (last_of s + 1) + 12 * k)) AT_RESTORE_BYTE (1 ∷ 2 ∷ 3 ∷ 4 ∷ 5 ∷ [])
memory_data RestoreEnd =
    block (λ x b s sets. Copying x ForRestore AT_RESTORE_END (fetched_to (last_of s + 1) s) b s × (is_readable x.edition s.i (last_of s + 1) ≡ true))
    (λ x s. Exactly (212 + check_cycles x.edition s (last_of s + 1) + 12 * last_of s)) AT_RESTORE_END []
