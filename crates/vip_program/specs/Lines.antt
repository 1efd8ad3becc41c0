-- The lines of a trace: what each tells of the machine before its moves. Digits are upper case, and the cycle is decimal.
use Rattle.std.specs.Prelude.{ℕ, Bool, ◌+◌, ◌*◌, ◌%◌, List, [], ◌∷◌, ◌++◌, length, map, flat_map, take, slice_index, codes, decimal, Option, Some, None}
use Rattle.std.specs.Option.{option_map_or}
use Rattle.asm_lex.specs.Words.{size_at}
use Rattle.asm_core.specs.Origins.{Origins, labels_over, source_end}
use Rattle.machine.specs.Board.{Machine, Case, case_of, byte_of, dma_byte, flags_of}
use Rattle.machine.specs.Board.Case.{Dma, Interrupt, Idle, Instruction}
use Rattle.machine.specs.Instruction.{Regs, Effect, Port, at, instruction}
use Rattle.machine.specs.Instruction.Port.{Send, Receive}
use Rattle.machine.specs.Keys.{Keys}
use Rattle.machine.specs.Memory.{mapped_address}
use Rattle.machine.specs.Opcodes.{kind_of, opcode_number}
use Rattle.machine.specs.Signals.{efx_at}
use Rattle.vip_byte.specs.HexText.{bytes_text, hex2, hex4}
use Rattle.vip_byte.specs.Text.{bit_text, newline}
use Rattle.vip_isa.specs.Texts.{instruction_text}
use Rattle.vip_program.specs.Columns.{digit, left, right}
use Rattle.vip_program.specs.Names.{names_in}
use Rattle.vip_program.specs.declared.names.Names.{Names}
use Rattle.vip_program.specs.declared.names.Names.TheVariants.{Register, Flag, Output, Input}

-- the machine cycle in which the first move of a line starts
abbrev pub cycle_column : Machine → List ℕ
cycle_column b = right 10 (decimal b.cycle)

-- ---- an instruction: an opcode and the two bytes behind it; addresses go on at 0000 behind FFFF

abbrev pub three_at : (ℕ → ℕ) → ℕ → List ℕ
three_at byte address = byte address ∷ byte ((address + 1) % 65536) ∷ byte ((address + 2) % 65536) ∷ []

abbrev pub opcode_in : List ℕ → ℕ
opcode_in three = slice_index three 0

-- what is named, by the opcode
unfoldable pub names_at : ℕ → Names
names_at opcode = names_in (kind_of opcode) (opcode_number opcode)

-- the bytes of the instruction
abbrev pub code_in : List ℕ → List ℕ
code_in three = take (size_at (opcode_in three)) three

-- the address, the bytes of the instruction in a column of six, and the instruction in one of eleven
abbrev pub code_text : List ℕ → List ℕ
code_text three = left 6 (flat_map hex2 (code_in three))

unfoldable pub place_text : ℕ → List ℕ → List ℕ
place_text address three =
    codes " " ++ hex4 address ++ codes " " ++ code_text three ++ codes " " ++ left 11 (instruction_text address three)

-- ---- what the processor has

-- P, X, D and DF
abbrev pub selected_text : Regs → List ℕ
selected_text r = codes " P " ++ digit r.p ++ codes " X " ++ digit r.x ++ codes " D " ++ hex2 r.d ++ codes " DF " ++ digit r.df

-- the T that an interrupt makes: the X and P that it breaks into
abbrev pub interrupt_text : Regs → List ℕ
interrupt_text r = codes " INT T " ++ hex2 (r.x * 16 + r.p)

-- R(0) before a DMA cycle
abbrev pub dma_text : ℕ → List ℕ
dma_text address = codes " DMA R0 " ++ hex4 address

-- a flag as the next instruction sees it, in the cycle after its fetch
abbrev pub flag_in : (ℕ → Keys) → Machine → ℕ → Bool
flag_in held b flag = flags_of (efx_at (b.cycle + 1) b.on) (held (b.cycle + 1) b.key) flag

-- R(n), and the byte there
unfoldable pub register_text : List ℕ → Machine → ℕ → List ℕ
register_text rom b n = codes " " ++ hex4 (at b.regs n) ++ codes " " ++ hex2 (byte_of rom b (at b.regs n))

-- the byte that an instruction sends to a port, or takes from one, which is in D then
abbrev pub bus_text : Option Port → Regs → List ℕ
bus_text (Some (Send port byte)) s = codes "  BUS " ++ hex2 byte
bus_text (Some (Receive port)) s = codes "  BUS " ++ hex2 s.d
bus_text None s = []

module _ (rom : List ℕ) (held : ℕ → Keys) where
  -- what the instruction at R(P) makes, as in a move of the board, where every INP takes 00
  abbrev pub effect_in : Machine → Effect
  effect_in b = instruction b.regs (byte_of rom b) (flag_in held b) 0

  -- what an instruction names: a register with its byte, a flag, or a port, of which the byte on the bus is told
  abbrev pub named_text : Names → Machine → List ℕ
  named_text (Register n) b = codes "  R" ++ digit n ++ register_text rom b n
  named_text (Flag flag) b = codes "  EF" ++ digit flag ++ codes " " ++ bit_text (flag_in held b flag)
  named_text (Output port) b = bus_text (effect_in b).port (effect_in b).regs
  named_text (Input port) b = bus_text (effect_in b).port (effect_in b).regs
  named_text _ b = []

  -- P, X, D, DF and Q, R(X) with its byte, and what the instruction names
  unfoldable pub state_text : Names → Machine → List ℕ
  state_text names b =
      selected_text b.regs ++ codes " Q " ++ bit_text b.regs.q
      ++ codes "  RX" ++ register_text rom b b.regs.x
      ++ named_text names b

  -- the bytes at R(P)
  abbrev pub fetched : Machine → List ℕ
  fetched b = three_at (byte_of rom b) (at b.regs b.regs.p)

  -- where the instruction stands, and what the processor has before it
  unfoldable pub fetch_text : Machine → List ℕ
  fetch_text b = place_text (at b.regs b.regs.p) (fetched b) ++ state_text (names_at (opcode_in (fetched b))) b

  -- What a line says of some moves, given by the machines before them, of which the first has this case: an instruction; an interrupt; how
  -- many cycles the processor idles; or R(0) before the first DMA cycle, and the bytes of all.
  abbrev pub moves_text : Case → Machine → List Machine → List ℕ
  moves_text Instruction b moves = fetch_text b
  moves_text Interrupt b moves = interrupt_text b.regs
  moves_text Idle b moves = codes " IDLE " ++ decimal (length moves)
  moves_text Dma b moves = dma_text (at b.regs 0) ++ bytes_text (map (dma_byte rom) moves)

  -- the line of moves of which this is the first, and then these, without its end
  unfoldable pub line_from : Machine → List Machine → List ℕ
  line_from b moves = cycle_column b ++ moves_text (case_of b) b moves

  abbrev pub line_of : List Machine → List ℕ
  line_of [] = []
  line_of (b ∷ bs) = line_from b (b ∷ bs)

-- ---- what a source says of an instruction

-- the address from which the opcode of a move is read that is an instruction
abbrev pub place_in : Case → Machine → Option ℕ
place_in Instruction b = Some (mapped_address b.latch (at b.regs b.regs.p))
place_in _ b = None

-- the lines that show the labels before the line of a move
abbrev pub labels_before : Origins → Machine → List (List ℕ)
labels_before origins b = option_map_or (labels_over origins) (place_in (case_of b) b) []

-- behind the line the source's line that gave the instruction, where it is told, and the newline
abbrev pub source_in : Origins → List ℕ → Case → Machine → List ℕ
source_in origins rom Instruction b = source_end origins b.latch (at b.regs b.regs.p) (code_in (three_at (byte_of rom b) (at b.regs b.regs.p)))
source_in origins rom _ b = []

abbrev pub end_behind : Origins → List ℕ → Machine → List ℕ
end_behind origins rom b = source_in origins rom (case_of b) b ++ newline
