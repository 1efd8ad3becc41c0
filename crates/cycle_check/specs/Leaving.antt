-- What an accepted certificate says of the machine: how long it takes to leave the listed addresses, and by which moves.
use Rattle.std.specs.Prelude.{◌≡◌, ℕ, ◌+◌, ◌<◌, ◌≤◌, ◌==◌, ◌&&◌, Bool, true, false, is_some, List, [], ◌∷◌, Option, None, Some, Ok, All}
use Rattle.std.specs.List.{Any}
use Rattle.machine.specs.Opcodes.{cycles_of}
use Rattle.machine.specs.Instruction.{at, instruction}
use Rattle.machine.specs.Board.{Machine, acted, byte_of, opcode_of}
use Rattle.machine.specs.Ranges.{FitsMachine, FitsRom}
use Rattle.vip_byte.specs.Reading.{read}
use Rattle.cycle_check.specs.declared.Within.{Within}
use Rattle.cycle_check.specs.declared.grammar.Bound.{Bound}
use Rattle.cycle_check.specs.declared.grammar.Line.{Line}
use Rattle.cycle_check.specs.Certificate.{certificate_format, certificate_of}
use Rattle.cycle_check.specs.declared.exits.Exit.{Exit}
use Rattle.cycle_check.specs.Closed.{checked, line_at}
use Rattle.cycle_check.specs.Exits.{exits}

-- what an instruction meets from outside: the flags EF1 to EF4, and the byte that the bus takes from a port at an INP
pub record Outside : Type 0 where
  pub flag : ℕ → Bool
  pub taken : ℕ

module _ (rom : List ℕ) where
  -- the move of one instruction, by the machine's instruction semantics; no DMA and no interrupt come
  abbrev pub instructed : Outside → Machine → Machine
  instructed o b =
      record (acted (instruction b.regs (byte_of rom b) o.flag o.taken) b) { cycle = b.cycle + cycles_of (opcode_of rom b) }

  -- the state after such moves, first to last
  abbrev pub after : List Outside → Machine → Machine
  after [] b = b
  after (o ∷ others) b = after others (instructed o b)

  module _ (bound : Bound) (lines : List Line) where
    -- P is the certificate's program counter, and R(P) is at a listed address
    abbrev pub is_inside : Machine → Bool
    is_inside b = b.regs.p == bound.p && is_some (line_at lines (at b.regs bound.p))

    -- each of the moves starts inside
    abbrev pub StaysInside : List Outside → Machine → Type 0
    StaysInside [] b = Unit {0}
    StaysInside (o ∷ others) b = (is_inside b ≡ true) × StaysInside others (instructed o b)

    -- From every state at the entry with the latch clear, moves that each start inside take no more cycles than the limit, whatever the
    -- flags and the bytes from ports are. So by the time when the limit is passed a run has left, or it ended.
    abbrev pub Leaves : Type 0
    Leaves = (b : Machine) → FitsMachine b → b.latch ≡ false → b.regs.p ≡ bound.p → at b.regs bound.p ≡ bound.entry
        → (moves : List Outside) → All (λ o. o.taken < 256) moves → StaysInside moves b → (after moves b).cycle ≤ b.cycle + bound.limit

    -- A state behind a move is where an exit leads: at its next address; or with another program counter, and whether the one of the certificate stands at a
    -- listed address then is what the exit tells.
    abbrev pub IsBehind : Machine → Bool → Option ℕ → Type 0
    IsBehind b may_return None = (b.regs.p ≡ bound.p → ⊥) × (may_return ≡ is_some (line_at lines (at b.regs bound.p)))
    IsBehind b may_return (Some to) = (b.regs.p ≡ bound.p) × (at b.regs bound.p ≡ to)

    -- a move from one state to another is that of an exit
    pub record IsMoveOf (before behind : Machine) (exit : Exit) : Type 0 where
      pub from : at before.regs bound.p ≡ exit.address
      pub to : IsBehind behind exit.may_return exit.to

    -- From every such state, where one more move starts inside and doesn't end there, it is that of one of the exits.
    abbrev pub LeavesByExits : Type 0
    LeavesByExits = (b : Machine) → FitsMachine b → b.latch ≡ false → b.regs.p ≡ bound.p → at b.regs bound.p ≡ bound.entry
        → (moves : List Outside) (last : Outside) → All (λ o. o.taken < 256) moves → last.taken < 256
        → StaysInside moves b → is_inside (after moves b) ≡ true → is_inside (instructed last (after moves b)) ≡ false
        → Any (IsMoveOf (after moves b) (instructed last (after moves b))) (exits rom bound lines)

-- the text is a certificate with this entry and this limit, and the ROM's code leaves as it says, by its exits
pub record IsWithin (rom text : List ℕ) (within : Within) : Type 0 where
  pub bound : Bound
  pub statements : List (List (List ℕ))
  pub says : read certificate_format text ≡ Ok statements
  pub bounded : (certificate_of statements).bound ≡ Some bound
  pub entry : within.entry ≡ bound.entry
  pub limit : within.limit ≡ bound.limit
  pub leaves : Leaves rom bound (certificate_of statements).lines
  pub by_exits : LeavesByExits rom bound (certificate_of statements).lines

-- a certificate that is accepted for the bytes of a ROM is one
abbrev pub AcceptedIsWithin : Type 0
AcceptedIsWithin = (rom text : List ℕ) (within : Within) → FitsRom rom → checked rom text ≡ Ok within → IsWithin rom text within
