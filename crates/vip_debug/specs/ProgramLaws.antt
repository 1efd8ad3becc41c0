-- The law of a target, for a board that runs any program. The proof stands here, and not in proofs/, since the `impl` of a trait takes its laws
-- from specs/ alone.
use Rattle.std.proofs.Common.{◌≡◌, ◌∙◌, ℕ, ◌+◌}
use Rattle.vip_debug.specs.declared.program.Program.{Program}

-- the borrow of the board stays
abbrev pub ProgramLeads : ℕ → Program → Program → Type 0
ProgramLeads moves old new = new.board.ghost_name ≡ old.board.ghost_name

pub program-leads-on : (j k : ℕ) (a b c : Program) → ProgramLeads j a b → ProgramLeads k b c → ProgramLeads (j + k) a c
program-leads-on j k a b c first second = second ∙ first
