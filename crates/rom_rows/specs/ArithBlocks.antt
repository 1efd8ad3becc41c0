-- The blocks of 0MMM, of jumps and calls, of loads, of skips and of 8XYN.
use Rattle.std.specs.Prelude.{◌≡◌, ℕ, ◌+◌, ◌*◌, ◌%◌, ◌<◌, Bool, true, false, List, [], ◌∷◌, ◌++◌, length, slice_index, take, Some}
use Rattle.machine.specs.Board.{Machine}
use Rattle.chip8_lang.specs.declared.instr.Instr.{Instr}
use Rattle.chip8_lang.specs.declared.instr.Instr.TheVariants.{SkipEq as IsSkipEq, SkipNe as IsSkipNe, SkipSame as IsSkipSame, SkipDiffer as IsSkipDiffer, Or, And, Xor, Sum, Sub, Right, SubN, Left}
use Rattle.chip8_lang.specs.declared.view.Stop.TheVariants.{MachineCall, Unknown, StackFull, StackEmpty}
use Rattle.chip8_lang.specs.State.{Lang, instr_at}
use Rattle.chip8_lang.specs.Step.{skip_if, set_with_flag, step}
use Rattle.chip8_lang.specs.Step.KeyInput.{Nothing}
use Rattle.chip8_image.specs.declared.image.labels.TheConstants.{AT_SYSTEM, AT_SYSTEM_LOW, AT_SYSTEM_BACK, AT_MACHINE, AT_RETURN, AT_RETURN_TAKE, AT_EMPTY, AT_JUMP, AT_CALL, AT_CALL_PUT, AT_FULL, AT_JUMP_PLUS, AT_LOAD, AT_ADD, AT_SKIP_EQ, AT_SKIP_EQ_NO, AT_SKIP_NE, AT_SKIP_NE_NO, AT_SKIP_SAME, AT_SKIP_SAME_TEST, AT_SKIP_SAME_NO, AT_SKIP_DIFFER, AT_DIFFER_TEST, AT_DIFFER_NO, AT_SKIP, AT_UNKNOWN81, AT_ARITH, AT_SLOT0, AT_COPY, AT_VX_OR, AT_VX_AND, AT_VX_XOR, AT_SUM, AT_LESS, AT_RIGHT, AT_FROM, AT_LEFT, AT_NO_FLAG, AT_FLAG, AT_UNKNOWN82}
use Rattle.rom_law.specs.Program.{Program}
use Rattle.rom_rows.specs.Blocks.{BlockData, block, block_over}
use Rattle.rom_rows.specs.Heads.{to_stop, to_dispatch, from, high_byte, low_byte, Entered, Enters}
use Rattle.rom_rows.specs.Heads.Time.{Exactly, Left}

pub data ArithBlock : Type 0 where
  -- 0MMM: the tests of its high byte, for 00E0 and for 00EE, and the stop
  System : ArithBlock
  SystemLow : ArithBlock
  SystemBack : ArithBlock
  MachineCode : ArithBlock
  -- 00EE: the test of the stack, the return, and the stop where it is empty
  Return : ArithBlock
  ReturnTake : ArithBlock
  Empty : ArithBlock
  -- 1MMM
  JumpTo : ArithBlock
  -- 2MMM: the test of the stack, the call, and the stop where it is full
  Call : ArithBlock
  CallPut : ArithBlock
  Full : ArithBlock
  -- BMMM
  JumpPlus : ArithBlock
  -- 6XKK and 7XKK
  Load : ArithBlock
  Add : ArithBlock
  -- 3XKK and 4XKK
  SkipEq : ArithBlock
  SkipNe : ArithBlock
  -- 5XYN and 9XYN: of each the test of N, and what it does where N is 0
  SkipSame : ArithBlock
  SameTest : ArithBlock
  SkipDiffer : ArithBlock
  DifferTest : ArithBlock
  -- behind skip i where it was not taken
  NoSkip : (i : ℕ) → ArithBlock
  -- behind any skip that was taken
  Skip : ArithBlock
  -- 5XYN and 9XYN where N is not 0
  Unknown81 : ArithBlock
  -- 8XYN: the branch by N
  Arith : ArithBlock
  -- operation n, from its place in the table of branches up to its end or to the flag
  Operation : (n : ℕ) → ArithBlock
  -- the end of the operations with a flag
  Flag : ArithBlock
  -- 8XYN, and EXKK, where it is no instruction
  Unknown82 : ArithBlock

-- where 3XKK, 4XKK, 5XY0 and 9XY0 go on if they don't skip
abbrev pub no_skip_labels : List ℕ
no_skip_labels = AT_SKIP_EQ_NO ∷ AT_SKIP_NE_NO ∷ AT_SKIP_SAME_NO ∷ AT_DIFFER_NO ∷ []

-- how many instructions each of 8XY0 to 8XYF has behind its branch, up to its end or to the flag
abbrev pub operation_lengths : List ℕ
operation_lengths = 3 ∷ 4 ∷ 4 ∷ 4 ∷ 3 ∷ 3 ∷ 3 ∷ 3 ∷ 0 ∷ 0 ∷ 0 ∷ 0 ∷ 0 ∷ 0 ∷ 3 ∷ 0 ∷ []

-- the instructions that share an end: skips, and operations with a flag. None of them stops, waits or takes a key.
abbrev pub has_shared_end : Instr → Bool
has_shared_end (IsSkipEq x k) = true
has_shared_end (IsSkipNe x k) = true
has_shared_end (IsSkipSame x y) = true
has_shared_end (IsSkipDiffer x y) = true
has_shared_end (Or x y) = true
has_shared_end (And x y) = true
has_shared_end (Xor x y) = true
has_shared_end (Sum x y) = true
has_shared_end (Sub x y) = true
has_shared_end (Right x y) = true
has_shared_end (SubN x y) = true
has_shared_end (Left x y) = true
has_shared_end _ = false

-- at an end that instructions share, at a: the step makes z
pub record Ending (x : Program) (a : ℕ) (z : Lang) (b : Machine) (s : Lang) : Type 0 where
  pub entered : Entered x a b s
  pub shared : has_shared_end (instr_at s) ≡ true
  pub makes : step x.edition Nothing s ≡ z

-- where the code of each of 8XY0 to 8XYF begins
abbrev pub operation_labels : List ℕ
operation_labels =
    AT_COPY ∷ AT_VX_OR ∷ AT_VX_AND ∷ AT_VX_XOR ∷ AT_SUM ∷ AT_LESS ∷ AT_RIGHT ∷ AT_FROM ∷
    AT_UNKNOWN82 ∷ AT_UNKNOWN82 ∷ AT_UNKNOWN82 ∷ AT_UNKNOWN82 ∷ AT_UNKNOWN82 ∷ AT_UNKNOWN82 ∷ AT_LEFT ∷ AT_UNKNOWN82 ∷
    []

abbrev pub arith_data : ArithBlock → BlockData
arith_data System = block (λ x b s sets. Enters x AT_SYSTEM 0 b s) (λ x s. Exactly 80) AT_SYSTEM (1 ∷ [])
arith_data SystemLow = block (λ x b s sets. Entered x AT_SYSTEM_LOW b s × (high_byte s ≡ 0)) (λ x s. Exactly 84) AT_SYSTEM_LOW (1 ∷ 3 ∷ [])
arith_data SystemBack =
    block (λ x b s sets. Entered x AT_SYSTEM_BACK b s × (high_byte s ≡ 0) × (low_byte s ≡ 0xe0 → ⊥)) (λ x s. Exactly 90) AT_SYSTEM_BACK (1 ∷ 3 ∷ [])
arith_data MachineCode = block (λ x b s sets. Entered x AT_MACHINE b s × (x.stop_of s ≡ Some MachineCall)) (λ x s. Left 26 (to_stop x s)) AT_MACHINE (2 ∷ [])
arith_data Return = block (λ x b s sets. Entered x AT_RETURN b s × (high_byte s ≡ 0) × (low_byte s ≡ 0xee)) (λ x s. Exactly 96) AT_RETURN (1 ∷ 3 ∷ [])
arith_data ReturnTake =
    block (λ x b s sets. Entered x AT_RETURN_TAKE b s × (high_byte s ≡ 0) × (low_byte s ≡ 0xee) × (0 < length s.stack)) (λ x s. Exactly 102)
    AT_RETURN_TAKE (1 ∷ 2 ∷ 3 ∷ 4 ∷ 5 ∷ 6 ∷ 7 ∷ 8 ∷ 9 ∷ 10 ∷ 11 ∷ [])
arith_data Empty = block (λ x b s sets. Entered x AT_EMPTY b s × (x.stop_of s ≡ Some StackEmpty)) (λ x s. Left 26 (to_stop x s)) AT_EMPTY (2 ∷ [])
arith_data JumpTo = block (λ x b s sets. Enters x AT_JUMP 1 b s) (λ x s. Exactly 80) AT_JUMP (1 ∷ 3 ∷ 4 ∷ 5 ∷ 6 ∷ [])
arith_data Call = block (λ x b s sets. Enters x AT_CALL 2 b s) (λ x s. Exactly 80) AT_CALL (1 ∷ 3 ∷ [])
arith_data CallPut =
    block (λ x b s sets. Enters x AT_CALL_PUT 2 b s × (length s.stack < 12)) (λ x s. Exactly 86) AT_CALL_PUT (1 ∷ 2 ∷ 3 ∷ 4 ∷ 5 ∷ 6 ∷ 8 ∷ 9 ∷ 10 ∷ 11 ∷ [])
arith_data Full = block (λ x b s sets. Entered x AT_FULL b s × (x.stop_of s ≡ Some StackFull)) (λ x s. Left 26 (to_stop x s)) AT_FULL (2 ∷ [])
arith_data JumpPlus =
    block (λ x b s sets. Enters x AT_JUMP_PLUS 11 b s) (λ x s. Exactly 80) AT_JUMP_PLUS (2 ∷ 3 ∷ 5 ∷ 6 ∷ 7 ∷ 8 ∷ 9 ∷ 10 ∷ 11 ∷ 13 ∷ 15 ∷ 16 ∷ [])
arith_data Load = block (λ x b s sets. Enters x AT_LOAD 6 b s) (λ x s. Exactly 80) AT_LOAD (1 ∷ 2 ∷ [])
arith_data Add = block (λ x b s sets. Enters x AT_ADD 7 b s) (λ x s. Exactly 80) AT_ADD (1 ∷ 2 ∷ 3 ∷ 4 ∷ [])
arith_data SkipEq = block (λ x b s sets. Enters x AT_SKIP_EQ 3 b s) (λ x s. Exactly 80) AT_SKIP_EQ (1 ∷ 2 ∷ 3 ∷ [])
arith_data SkipNe = block (λ x b s sets. Enters x AT_SKIP_NE 4 b s) (λ x s. Exactly 80) AT_SKIP_NE (1 ∷ 2 ∷ 3 ∷ [])
arith_data SkipSame = block (λ x b s sets. Enters x AT_SKIP_SAME 5 b s) (λ x s. Exactly 80) AT_SKIP_SAME (1 ∷ 3 ∷ [])
arith_data SameTest = block (λ x b s sets. Enters x AT_SKIP_SAME_TEST 5 b s × (low_byte s % 16 ≡ 0)) (λ x s. Exactly 86) AT_SKIP_SAME_TEST (1 ∷ 2 ∷ 3 ∷ [])
arith_data SkipDiffer = block (λ x b s sets. Enters x AT_SKIP_DIFFER 9 b s) (λ x s. Exactly 80) AT_SKIP_DIFFER (1 ∷ 3 ∷ [])
arith_data DifferTest = block (λ x b s sets. Enters x AT_DIFFER_TEST 9 b s × (low_byte s % 16 ≡ 0)) (λ x s. Exactly 86) AT_DIFFER_TEST (1 ∷ 2 ∷ 3 ∷ [])
arith_data (NoSkip i) =
    block (λ x b s sets. Ending x (slice_index no_skip_labels i) (skip_if false s) b s × (i < 4)) (λ x s. Left 2 (to_dispatch x s))
    (slice_index no_skip_labels i) []
arith_data Skip = block (λ x b s sets. Ending x AT_SKIP (skip_if true s) b s) (λ x s. Left 6 (to_dispatch x s)) AT_SKIP (1 ∷ 2 ∷ [])
arith_data Unknown81 = block (λ x b s sets. Entered x AT_UNKNOWN81 b s × (x.stop_of s ≡ Some Unknown)) (λ x s. Left 26 (to_stop x s)) AT_UNKNOWN81 (2 ∷ [])
arith_data Arith = block (λ x b s sets. Enters x AT_ARITH 8 b s) (λ x s. Exactly 80) AT_ARITH (1 ∷ 2 ∷ 4 ∷ 5 ∷ 7 ∷ [])
arith_data (Operation n) =
    block_over (λ x b s sets. Enters x (AT_SLOT0 + 2 * n) 8 b s × (low_byte s % 16 ≡ n) × (b.regs.x ≡ 6)) (λ x s. Exactly 92)
    (AT_SLOT0 + 2 * n) (take (slice_index operation_lengths n) (from (slice_index operation_labels n) (0 ∷ 1 ∷ 2 ∷ []) ++ AT_NO_FLAG ∷ []))
arith_data Flag =
    block (λ x b s sets. Ending x AT_FLAG (set_with_flag (high_byte s % 16) b.regs.d b.regs.df s) b s) (λ x s. Left 18 (to_dispatch x s))
    AT_FLAG (1 ∷ 3 ∷ 4 ∷ 6 ∷ 7 ∷ 9 ∷ 10 ∷ 11 ∷ [])
arith_data Unknown82 = block (λ x b s sets. Entered x AT_UNKNOWN82 b s × (x.stop_of s ≡ Some Unknown)) (λ x s. Left 26 (to_stop x s)) AT_UNKNOWN82 (2 ∷ [])
