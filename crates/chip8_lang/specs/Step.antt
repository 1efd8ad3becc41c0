-- One step of the language, and the stops (RCA's manual, "CHIP-8 instructions"). The flag VF is written last. Shifts, the flag of the
-- logical instructions, the random byte and the stops are this project's profile.
use Rattle.std.specs.Prelude.{ℕ, zero, suc, ◌+◌, ◌-◌, ◌*◌, ◌/◌, ◌%◌, ◌==◌, ◌||◌, if◌then◌else◌, Bool, false, not, List, [], ◌∷◌, ◌++◌, length, take, drop, slice_index, slice_set, Option, Some, None, bit_and, bit_or, bit_xor}
use Rattle.machine.specs.Bit.{bit}
use Rattle.chip8_lang.specs.declared.instr.Instr.{Instr}
use Rattle.chip8_lang.specs.declared.instr.Instr.TheVariants.{Clear, Return, Machine, Jump, Call, SkipEq, SkipNe, SkipSame, Load, Add, Copy, Or, And, Xor, Sum, Sub, Right, SubN, Left, SkipDiffer, Index, JumpPlus, Random, Draw, SkipDown, SkipUp, GetDelay, WaitKey, SetDelay, SetSound, AddIndex, Font, Decimal, Store, Fetch, Unknown}
use Rattle.chip8_lang.specs.declared.view.Edition.{Edition}
use Rattle.chip8_lang.specs.declared.view.Stop.{Stop}
use Rattle.chip8_lang.specs.declared.view.Stop.TheVariants.{MachineCall, Unknown as UnknownOpcode, FetchOutside, ReadOutside, WriteOutside, StackFull, StackEmpty}
use Rattle.chip8_lang.specs.Editions.{memory_start, font_start, rows_of}
use Rattle.chip8_lang.specs.Screen.{Pixels, empty, difference, dots, meets}
use Rattle.chip8_lang.specs.State.{Lang, variable, readable_byte, is_in_memory, is_in_font, is_fetchable, instr_at}

-- ---- stops

abbrev pub unless : Bool → Stop → Option Stop
unless fine stop = if fine then None else Some stop

-- n bytes from a on may be read: they lie in game memory or in the font
abbrev pub is_readable : Edition → ℕ → ℕ → Bool
is_readable e a n = is_in_memory e a n || is_in_font a n

-- the stop of an instruction, or none
abbrev pub stop_of_instr : Edition → Instr → Lang → Option Stop
stop_of_instr e (Machine a) s = Some MachineCall  -- 0MMM other than 00E0 and 00EE
stop_of_instr e (Unknown opcode) s = Some UnknownOpcode  -- every other opcode
stop_of_instr e (Call a) s = unless (not (length s.stack == 12)) StackFull  -- 2MMM
stop_of_instr e Return s = unless (not (length s.stack == 0)) StackEmpty  -- 00EE
stop_of_instr e (Fetch x) s = unless (is_readable e s.i (x + 1)) ReadOutside  -- FX65
stop_of_instr e (Draw x y n) s = unless (n == 0 || is_readable e s.i n) ReadOutside  -- DXYN
stop_of_instr e (Decimal x) s = unless (is_in_memory e s.i 3) WriteOutside  -- FX33
stop_of_instr e (Store x) s = unless (is_in_memory e s.i (x + 1)) WriteOutside  -- FX55
stop_of_instr e _ s = None

-- the stop that fits a state, or none
abbrev pub stop_of : Edition → Lang → Option Stop
stop_of e s = if is_fetchable e s then stop_of_instr e (instr_at s) s else Some FetchOutside

-- the number of a stop
abbrev pub stop_number : Stop → ℕ
stop_number MachineCall = 1
stop_number UnknownOpcode = 2
stop_number FetchOutside = 3
stop_number ReadOutside = 4
stop_number WriteOutside = 5
stop_number StackFull = 6
stop_number StackEmpty = 7

-- ---- parts of a step

-- pc is at the next instruction, or at the one after it
abbrev pub next : Lang → Lang
next s = record s { pc = s.pc + 2 }

abbrev pub skip_if : Bool → Lang → Lang
skip_if b s = record s { pc = s.pc + (if b then 4 else 2) }

-- VX = value
abbrev pub set : ℕ → ℕ → Lang → Lang
set x value s = record (next s) { v = slice_set s.v x value }

-- VX = value, and then VF = bit
abbrev pub set_with_flag : ℕ → ℕ → ℕ → Lang → Lang
set_with_flag x value bit s = record (next s) { v = slice_set (slice_set s.v x value) 15 bit }

-- the two digits of a sum in base 256: VX is the low one, and then VF the carry. A difference is taken with 256 added, so the carry is 1
-- where there was no borrow.
abbrev pub set_sum : ℕ → ℕ → Lang → Lang
set_sum x sum s = set_with_flag x (sum % 256) (sum / 256) s

-- bytes laid into game memory from a place of it on
abbrev pub stored : List ℕ → ℕ → List ℕ → List ℕ
stored memory place [] = memory
stored memory place (byte ∷ bytes) = stored (slice_set memory place byte) (place + 1) bytes

-- n bytes from address a on
abbrev pub bytes_from : Lang → ℕ → ℕ → List ℕ
bytes_from s a zero = []
bytes_from s a (suc n) = readable_byte s a ∷ bytes_from s (a + 1) n

-- hundreds, tens and ones
abbrev pub digits : ℕ → List ℕ
digits n = n / 100 ∷ n / 10 % 10 ∷ n % 10 ∷ []

-- the next random byte
abbrev pub random : Lang → ℕ
random s = (5 * s.b + s.n % 256 + 113) % 256

-- byte r of the sprite that I points to
abbrev pub sprite_row : Lang → ℕ → ℕ
sprite_row s r = readable_byte s (s.i + r)

-- the dots of an n-row sprite at (x0, y0)
abbrev pub drawn : Edition → ℕ → ℕ → ℕ → Lang → Pixels
drawn e x0 y0 n s = dots (rows_of e) (sprite_row s) x0 y0 n

-- ---- the step

-- What an instruction takes from the keypad: EX9E and EXA1 take whether their key is held down, FX0A takes a key, and the others take
-- nothing.
pub data KeyInput : Type 0 where
  Nothing : KeyInput
  Held : (down : Bool) → KeyInput
  Chosen : (key : ℕ) → KeyInput

abbrev pub is_held : KeyInput → Bool
is_held (Held down) = down
is_held _ = false

abbrev pub chosen_key : KeyInput → ℕ
chosen_key (Chosen key) = key
chosen_key _ = 0

-- What an instruction makes of a state, where it doesn't stop. Behind each line stands the opcode, its digits as in `Decode`.
abbrev pub done_by : Edition → Instr → KeyInput → Lang → Lang
done_by e Clear key s = record (next s) { screen = empty }  -- 00E0
done_by e Return key s = record s { pc = slice_index s.stack (length s.stack - 1); stack = take (length s.stack - 1) s.stack }  -- 00EE
done_by e (Machine a) key s = s  -- other 0MMM
done_by e (Jump a) key s = record s { pc = a }  -- 1MMM
done_by e (Call a) key s = record s { stack = s.stack ++ (s.pc + 2) ∷ []; pc = a }  -- 2MMM
done_by e (SkipEq x k) key s = skip_if (variable s x == k) s  -- 3XKK
done_by e (SkipNe x k) key s = skip_if (not (variable s x == k)) s  -- 4XKK
done_by e (SkipSame x y) key s = skip_if (variable s x == variable s y) s  -- 5XY0
done_by e (Load x k) key s = set x k s  -- 6XKK
done_by e (Add x k) key s = set x ((variable s x + k) % 256) s  -- 7XKK
done_by e (Copy x y) key s = set x (variable s y) s  -- 8XY0
done_by e (Or x y) key s = set_with_flag x (bit_or (variable s x) (variable s y)) 0 s  -- 8XY1
done_by e (And x y) key s = set_with_flag x (bit_and (variable s x) (variable s y)) 0 s  -- 8XY2
done_by e (Xor x y) key s = set_with_flag x (bit_xor (variable s x) (variable s y)) 0 s  -- 8XY3
done_by e (Sum x y) key s = set_sum x (variable s x + variable s y) s  -- 8XY4
done_by e (Sub x y) key s = set_sum x (variable s x + 256 - variable s y) s  -- 8XY5
done_by e (Right x y) key s = set_with_flag x (variable s y / 2) (variable s y % 2) s  -- 8XY6
done_by e (SubN x y) key s = set_sum x (variable s y + 256 - variable s x) s  -- 8XY7
done_by e (Left x y) key s = set_sum x (variable s y * 2) s  -- 8XYE
done_by e (SkipDiffer x y) key s = skip_if (not (variable s x == variable s y)) s  -- 9XY0
done_by e (Index a) key s = record (next s) { i = a }  -- AMMM
done_by e (JumpPlus a) key s = record s { pc = a + variable s 0 }  -- BMMM
done_by e (Random x k) key s = record (set x (bit_and (random s) k) s) { b = random s }  -- CXKK
done_by e (Draw x y n) key s =  -- DXYN
    let sprite = drawn e (variable s x % 64) (variable s y % rows_of e) n s in
    record (next s) { screen = difference s.screen sprite; v = slice_set s.v 15 (bit (meets (rows_of e) s.screen sprite)) }
done_by e (SkipDown x) key s = skip_if (is_held key) s  -- EX9E
done_by e (SkipUp x) key s = skip_if (not (is_held key)) s  -- EXA1
done_by e (GetDelay x) key s = set x s.dt s  -- FX07
done_by e (WaitKey x) key s = set x (chosen_key key) s  -- FX0A
done_by e (SetDelay x) key s = record (next s) { dt = variable s x }  -- FX15
done_by e (SetSound x) key s = record (next s) { st = variable s x }  -- FX18
done_by e (AddIndex x) key s = record (next s) { i = (s.i + variable s x) % 65536 }  -- FX1E
done_by e (Font x) key s = record (next s) { i = font_start + 5 * (variable s x % 16) }  -- FX29
done_by e (Decimal x) key s = record (next s) { memory = stored s.memory (s.i - memory_start) (digits (variable s x)) }  -- FX33
done_by e (Store x) key s = record (next s) { memory = stored s.memory (s.i - memory_start) (take (x + 1) s.v); i = s.i + x + 1 }  -- FX55
done_by e (Fetch x) key s = record (next s) { v = bytes_from s s.i (x + 1) ++ drop (x + 1) s.v; i = s.i + x + 1 }  -- FX65
done_by e (Unknown opcode) key s = s  -- every other opcode

-- the step of a state that no stop fits
abbrev pub step : Edition → KeyInput → Lang → Lang
step e key s = done_by e (instr_at s) key s
