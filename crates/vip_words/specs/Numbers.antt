-- Numbers that the words may ask for.
use Rattle.std.specs.Prelude.{ℕ}
use Rattle.asm_lex.specs.declared.shape.Isa.{Isa}

-- the most moves of joined boards
abbrev pub most_moves : ℕ
most_moves = 10_000_000

-- an address of an instruction set's programs
pub record Place : Type 0 where
  pub isa : Isa
  pub address : ℕ
