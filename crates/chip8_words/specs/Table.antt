-- The table of the words: of each form of an instruction its mnemonic, its opcode and its operands, and its parts (Cowgod's CHIP-8 Technical Reference, "Standard
-- Chip-8 Instructions"). `Decode` of the crate `chip8_lang` says which instruction an opcode is.
use Rattle.std.specs.Prelude.{ℕ, List, [], ◌∷◌, codes, Option, Some, None}
use Rattle.chip8_lang.specs.declared.instr.Instr.{Instr}
use Rattle.chip8_lang.specs.declared.instr.Instr.TheVariants as instr
use Rattle.chip8_words.specs.declared.code.Op.{Op}
use Rattle.chip8_words.specs.declared.table.Form.{Form}
use Rattle.chip8_words.specs.declared.table.Form.TheVariants.{Clear, Return, Machine, Jump, Call, SkipEq, SkipNe, SkipSame, Load, Add, Copy, Or, And, Xor, Sum, Sub, Right, SubN, Left, SkipDiffer, Index, JumpPlus, Random, Draw, SkipDown, SkipUp, GetDelay, WaitKey, SetDelay, SetSound, AddIndex, Font, Decimal, Store, Fetch}
use Rattle.chip8_words.specs.declared.table.TheConstants.{FORMS}
use Rattle.chip8_words.specs.declared.table.Operand.{Operand}
use Rattle.chip8_words.specs.declared.table.Operand.TheVariants as op
use Rattle.chip8_words.specs.declared.table.Operand.TheVariants.{X, Y, V0, Byte, Address, Nibble, AtIndex, DelayTimer, SoundTimer, Key}

-- the mnemonic, the opcode whose fields are all 0, and the operands in the order in which they are written
pub record Words : Type 0 where
  pub mnemonic : List ℕ
  pub opcode : ℕ
  pub operands : List Operand

abbrev row : List ℕ → ℕ → List Operand → Words
row mnemonic opcode operands = record { mnemonic = mnemonic; opcode = opcode; operands = operands }

abbrev pub row_of : Form → Words
row_of Clear = row (codes "CLS") 0x00e0 []
row_of Return = row (codes "RET") 0x00ee []
row_of Machine = row (codes "SYS") 0x0000 (Address ∷ [])
row_of Jump = row (codes "JP") 0x1000 (Address ∷ [])
row_of Call = row (codes "CALL") 0x2000 (Address ∷ [])
row_of SkipEq = row (codes "SE") 0x3000 (X ∷ Byte ∷ [])
row_of SkipNe = row (codes "SNE") 0x4000 (X ∷ Byte ∷ [])
row_of SkipSame = row (codes "SE") 0x5000 (X ∷ Y ∷ [])
row_of Load = row (codes "LD") 0x6000 (X ∷ Byte ∷ [])
row_of Add = row (codes "ADD") 0x7000 (X ∷ Byte ∷ [])
row_of Copy = row (codes "LD") 0x8000 (X ∷ Y ∷ [])
row_of Or = row (codes "OR") 0x8001 (X ∷ Y ∷ [])
row_of And = row (codes "AND") 0x8002 (X ∷ Y ∷ [])
row_of Xor = row (codes "XOR") 0x8003 (X ∷ Y ∷ [])
row_of Sum = row (codes "ADD") 0x8004 (X ∷ Y ∷ [])
row_of Sub = row (codes "SUB") 0x8005 (X ∷ Y ∷ [])
row_of Right = row (codes "SHR") 0x8006 (X ∷ Y ∷ [])
row_of SubN = row (codes "SUBN") 0x8007 (X ∷ Y ∷ [])
row_of Left = row (codes "SHL") 0x800e (X ∷ Y ∷ [])
row_of SkipDiffer = row (codes "SNE") 0x9000 (X ∷ Y ∷ [])
row_of Index = row (codes "LD") 0xa000 (op.Index ∷ Address ∷ [])
row_of JumpPlus = row (codes "JP") 0xb000 (V0 ∷ Address ∷ [])
row_of Random = row (codes "RND") 0xc000 (X ∷ Byte ∷ [])
row_of Draw = row (codes "DRW") 0xd000 (X ∷ Y ∷ Nibble ∷ [])
row_of SkipDown = row (codes "SKP") 0xe09e (X ∷ [])
row_of SkipUp = row (codes "SKNP") 0xe0a1 (X ∷ [])
row_of GetDelay = row (codes "LD") 0xf007 (X ∷ DelayTimer ∷ [])
row_of WaitKey = row (codes "LD") 0xf00a (X ∷ Key ∷ [])
row_of SetDelay = row (codes "LD") 0xf015 (DelayTimer ∷ X ∷ [])
row_of SetSound = row (codes "LD") 0xf018 (SoundTimer ∷ X ∷ [])
row_of AddIndex = row (codes "ADD") 0xf01e (op.Index ∷ X ∷ [])
row_of Font = row (codes "LD") 0xf029 (op.Font ∷ X ∷ [])
row_of Decimal = row (codes "LD") 0xf033 (op.Decimal ∷ X ∷ [])
row_of Store = row (codes "LD") 0xf055 (AtIndex ∷ X ∷ [])
row_of Fetch = row (codes "LD") 0xf065 (X ∷ AtIndex ∷ [])

abbrev pub mnemonic_of : Form → List ℕ
mnemonic_of form = (row_of form).mnemonic

abbrev pub opcode_of : Form → ℕ
opcode_of form = (row_of form).opcode

abbrev pub operands_of : Form → List Operand
operands_of form = (row_of form).operands

-- all forms, in the order of the table
abbrev pub forms : List Form
forms = FORMS

abbrev parts : Form → ℕ → ℕ → ℕ → Option Op
parts form x y number = Some (record { form = form; x = x; y = y; number = number })

abbrev pub parts_of : Instr → Option Op
parts_of instr.Clear = parts Clear 0 0 0
parts_of instr.Return = parts Return 0 0 0
parts_of (instr.Machine number) = parts Machine 0 0 number
parts_of (instr.Jump number) = parts Jump 0 0 number
parts_of (instr.Call number) = parts Call 0 0 number
parts_of (instr.SkipEq x number) = parts SkipEq x 0 number
parts_of (instr.SkipNe x number) = parts SkipNe x 0 number
parts_of (instr.SkipSame x y) = parts SkipSame x y 0
parts_of (instr.Load x number) = parts Load x 0 number
parts_of (instr.Add x number) = parts Add x 0 number
parts_of (instr.Copy x y) = parts Copy x y 0
parts_of (instr.Or x y) = parts Or x y 0
parts_of (instr.And x y) = parts And x y 0
parts_of (instr.Xor x y) = parts Xor x y 0
parts_of (instr.Sum x y) = parts Sum x y 0
parts_of (instr.Sub x y) = parts Sub x y 0
parts_of (instr.Right x y) = parts Right x y 0
parts_of (instr.SubN x y) = parts SubN x y 0
parts_of (instr.Left x y) = parts Left x y 0
parts_of (instr.SkipDiffer x y) = parts SkipDiffer x y 0
parts_of (instr.Index number) = parts Index 0 0 number
parts_of (instr.JumpPlus number) = parts JumpPlus 0 0 number
parts_of (instr.Random x number) = parts Random x 0 number
parts_of (instr.Draw x y number) = parts Draw x y number
parts_of (instr.SkipDown x) = parts SkipDown x 0 0
parts_of (instr.SkipUp x) = parts SkipUp x 0 0
parts_of (instr.GetDelay x) = parts GetDelay x 0 0
parts_of (instr.WaitKey x) = parts WaitKey x 0 0
parts_of (instr.SetDelay x) = parts SetDelay x 0 0
parts_of (instr.SetSound x) = parts SetSound x 0 0
parts_of (instr.AddIndex x) = parts AddIndex x 0 0
parts_of (instr.Font x) = parts Font x 0 0
parts_of (instr.Decimal x) = parts Decimal x 0 0
parts_of (instr.Store x) = parts Store x 0 0
parts_of (instr.Fetch x) = parts Fetch x 0 0
parts_of (instr.Unknown opcode) = None
